use Rattle.std.specs.Prelude.{◌≡◌, length}
use Rattle.std.proofs.Common.{◌∙◌, sym, ap}
use Rattle.std.proofs.lemmas.List.{with_items_is}
use Rattle.std.proofs.lemmas.Result.{err_from_is_err_and}
use Rattle.bincode_lemmas.specs.DecodingLaws.{charge_then-passed}
use Rattle.bincode_decoder.proofs.ReadAnswers.{claim-passed, charge-refused, charge_then-reads, made-of, read-as}
use Rattle.bincode_decoder.proofs.PartAnswers.{reads-besides}
use Rattle.bincode_decoder.proofs.LengthPrefixedBytes.{filled-reads}
use Rattle.bincode_decoder.proofs.texts.decode_claimed.Goals as goal

pub returns-in_err-claim_bytes_read-clause-read : goal.returns-in_err-claim_bytes_read-clause-read
returns-in_err-claim_bytes_read-clause-read g c =
    let p = err_from_is_err_and c.from_residual.result c.from_residual.ensures.1 in
    let h = c.in_err-claim_bytes_read.ensures.claimed.err in
    let kept = c.claim_bytes_read.ensures.kept in
    rw (p.1, p.2) (claim-passed kept _ h.1 (charge_then-passed _ _ _ _ _ _ _ _ _ _ _ _ _ h.1 h.0 kept.same_remaining))

pub returns-in_err-bytes-clause-read : goal.returns-in_err-bytes-clause-read
returns-in_err-bytes-clause-read g c =
    let p = err_from_is_err_and c.from_residual-in_err-bytes.result c.from_residual-in_err-bytes.ensures.1 in
    let h = c.in_err-bytes.ensures.memory in
    rw (p.1, p.2, h.1) (charge-refused c.claim_bytes_read.ensures.kept c.args.count c.in_ok-claim_bytes_read.ensures.claimed.ok h.0)

pub returns-in_err-read_from-clause-read : goal.returns-in_err-read_from-clause-read
returns-in_err-read_from-clause-read g c =
    let p = err_from_is_err_and c.from_residual-in_err-read_from.result c.from_residual-in_err-read_from.ensures.1 in
    let l : length c.deref_mut.result.now ≡ c.args.count = c.deref_mut.ensures.len ∙ c.in_ok-bytes.ensures.length in
    let word = filled-reads c.args.count l (c.read_from.auto.bytes ∙ l) c.in_err-read_from.ensures.fills in
    let read = charge_then-reads c.claim_bytes_read.ensures.kept _ c.in_ok-claim_bytes_read.ensures.claimed.ok word c.read_from.ensures.charge in
    rw (p.1, p.2) (reads-besides _ (λ none. absurd none) (read-as (λ known. tt) read.err (λ _. tt) read))

pub returns-clause-read : goal.returns-clause-read
returns-clause-read g c =
    let l : length c.deref_mut.result.now ≡ c.args.count = c.deref_mut.ensures.len ∙ c.in_ok-bytes.ensures.length in
    let word = filled-reads c.args.count l (c.read_from.auto.bytes ∙ l) c.in_ok-read_from.ensures.fills in
    let read = charge_then-reads c.claim_bytes_read.ensures.kept _ c.in_ok-claim_bytes_read.ensures.claimed.ok word c.read_from.ensures.charge in
    let same = with_items_is c.in_ok-bytes.bytes c.read_from.new.bytes (c.read_from.auto.bytes ∙ c.deref_mut.ensures.len) in
    read-as (λ known. made-of (λ m h. h ∙ sym same) (read.ok known)) (λ known. tt) read.within read

pub returns-clause-room : goal.returns-clause-room
returns-clause-room g c =
    let l : length c.deref_mut.result.now ≡ c.args.count = c.deref_mut.ensures.len ∙ c.in_ok-bytes.ensures.length in
    let same = with_items_is c.in_ok-bytes.bytes c.read_from.new.bytes (c.read_from.auto.bytes ∙ c.deref_mut.ensures.len) in
    c.in_ok-bytes.ensures.room ∙ sym (ap length same ∙ c.read_from.auto.bytes ∙ l)
