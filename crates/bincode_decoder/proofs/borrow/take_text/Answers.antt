use Rattle.std.proofs.Common.{refl, ap, sym}
use Rattle.std.proofs.lemmas.Result.{err_from_is_err_and}
use Rattle.bincode_spec.specs.Fault.{Utf8}
use Rattle.bincode_spec.specs.Meaning.{Bytes}
use Rattle.bincode_spec.specs.Words.{length_prefixed, text_of}
use Rattle.bincode_lemmas.specs.TextLaws.{length_prefixed-lawful, text_of-passes}
use Rattle.bincode_decoder.proofs.PartAnswers.{first-stops, test-passed, test-failed}
use Rattle.bincode_decoder.proofs.LengthPrefixedBytes.{text-fails}
use Rattle.bincode_decoder.proofs.borrow.take_text.Goals as goal

pub returns-in_err-bytes : goal.returns-in_err-bytes
returns-in_err-bytes g c =
    let p = err_from_is_err_and c.from_residual.result c.from_residual.ensures.1 in
    rw (p.1, p.2) (first-stops (length_prefixed g.D.C.Config.setting) _ (λ h. h) c.in_err-bytes.ensures)

pub returns-in-Ok : goal.returns-in-Ok
returns-in-Ok g c =
    let is = c.in-Ok.ensures.cases in
    test-passed text_of c.in_ok-bytes.ensures (Bytes c.in_ok-bytes.bytes.now) c.in-Ok.text (text_of-passes c.in_ok-bytes.bytes.now is.1) (ap Bytes (sym is.0))

pub returns-in-Err : goal.returns-in-Err
returns-in-Err g c =
    test-failed text_of c.in_ok-bytes.ensures (length_prefixed-lawful g.D.C.Config.setting) Utf8 _ (text-fails c.in_ok-bytes.bytes.now c.in-Err.ensures.cases.0) (c.in-Err.fault, refl)
