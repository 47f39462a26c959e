use Rattle.std.specs.Prelude.{◌∷◌}
use Rattle.std.proofs.Common.{ap}
use Rattle.bincode_decoder.proofs.decoder.borrow.RefMutBorrowDecoder.take_bytes.Goals as goal

pub returns : goal.returns
returns g c =
    let t = c.take_bytes.ensures.takes in
    record {
      takes = record { next = t.next; whole = t.whole; why = t.why; left = t.left; failures_monotone = t.failures_monotone; tells = t.tells; same_loans = ap (λ z. c.args.self.now.ghost_name ∷ z) t.same_loans };
      same_charge = c.take_bytes.ensures.same_charge;
    }
