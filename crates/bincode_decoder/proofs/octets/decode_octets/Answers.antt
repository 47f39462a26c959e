use Rattle.std.specs.Prelude.{◌≡◌, ℕ, Ok, List}
use Rattle.std.proofs.Common.{◌∙◌, refl}
use Rattle.std.proofs.lemmas.List.{length-replicate}
use Rattle.std.proofs.lemmas.Result.{err_from_is_err_and}
use Rattle.bincode_spec.specs.Format.{pure, fixed_bytes, charge_then}
use Rattle.bincode_spec.specs.Meaning.{Bytes}
use Rattle.bincode_lemmas.specs.DecodingLaws.{charge_then-passed}
use Rattle.bincode_decoder.proofs.ReadAnswers.{claim-passed, charge_then-reads}
use Rattle.bincode_decoder.proofs.PartAnswers.{first-stops, test-passed}
use Rattle.bincode_decoder.proofs.OctetAnswers.{filled-octets}
use Rattle.bincode_decoder.proofs.octets.decode_octets.Goals as goal

pub returns-in_err-claim_bytes_read : goal.returns-in_err-claim_bytes_read
returns-in_err-claim_bytes_read g c =
    let p = err_from_is_err_and c.from_residual.result c.from_residual.ensures.1 in
    let h = c.in_err-claim_bytes_read.ensures.claimed.err in
    let kept = c.claim_bytes_read.ensures.kept in
    rw (p.1, p.2) (first-stops {T = List ℕ} (charge_then g.row.N (fixed_bytes g.row.N)) (λ a. pure (Bytes a)) {decodes_to = λ a v. a ≡ v} (λ none. none)
    (claim-passed kept _ h.1 (charge_then-passed _ _ _ _ _ _ _ _ _ _ _ _ _ h.1 h.0 kept.same_remaining)))

pub returns-in_err-read_from : goal.returns-in_err-read_from
returns-in_err-read_from g c =
    let p = err_from_is_err_and c.from_residual-in_err-read_from.result c.from_residual-in_err-read_from.ensures.1 in
    let l = length-replicate g.row.N 0 in
    let word = filled-octets g.row.N l (c.read_from.auto.bytes ∙ l) c.in_err-read_from.ensures.fills in
    rw (p.1, p.2) (first-stops (charge_then g.row.N (fixed_bytes g.row.N)) (λ a. pure (Bytes a)) (λ none. none)
    (charge_then-reads c.claim_bytes_read.ensures.kept _ c.in_ok-claim_bytes_read.ensures.claimed.ok word c.read_from.ensures.charge))

pub returns : goal.returns
returns g c =
    let l = length-replicate g.row.N 0 in
    let word = filled-octets g.row.N l (c.read_from.auto.bytes ∙ l) c.in_ok-read_from.ensures.fills in
    test-passed (λ a. Ok (Bytes a))
    (charge_then-reads c.claim_bytes_read.ensures.kept _ c.in_ok-claim_bytes_read.ensures.claimed.ok word c.read_from.ensures.charge) (Bytes c.read_from.new.bytes) _ refl refl
