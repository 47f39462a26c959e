use Rattle.std.proofs.lemmas.Result.{on_ok_weaker, IfErr-weaker}
use Rattle.bincode_decoder.proofs.BytesAtOnce.{bytes-decode, bytes-stop, both-of_err}
use Rattle.bincode_decoder.proofs.Rooms.{held-still, whatever_given}
use Rattle.bincode_decoder.proofs.bytes.decode_bytes.Goals as goal

pub returns : goal.returns
returns g c =
    let fills = c.read_from.ensures.fills in
    record {
      ok = λ known. rw c.read_from.ensures.charge (on_ok_weaker c.read_from.result (λ e. bytes-decode _ _ _ _ c.requires.1 c.requires.0 c.read_from.new.bytes _ e c.read_from.auto.bytes)
          (fills.next known));
      err = λ known. IfErr-weaker c.read_from.result _ _ (λ e h. bytes-stop _ _ _ _ c.requires.1 c.requires.0 _ _ _ _ _ _ _ c.read_from.ensures.charge h.0 h.1)
          (both-of_err c.read_from.result _ _ (fills.why known) (fills.left known));
      failures_monotone = fills.failures_monotone;
      tells = fills.tells;
      charge_kept = rw c.read_from.ensures.charge (held-still _ _ _);
      within = λ a. whatever_given c.read_from.result (rw c.read_from.ensures.charge a);
      same_loans = fills.same_loans;
    }
