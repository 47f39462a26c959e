use Rattle.std.proofs.Common.{refl}
use Rattle.std.proofs.lemmas.Result.{err_from_is_err_and}
use Rattle.bincode_spec.specs.Fault.{Utf8}
use Rattle.bincode_spec.specs.Meaning.{Bytes}
use Rattle.bincode_spec.specs.Words.{length_prefixed, text_of}
use Rattle.bincode_lemmas.specs.TextLaws.{length_prefixed-lawful, text_of-passes}
use Rattle.bincode_decoder.proofs.PartAnswers.{first-stops, test-passed, test-failed}
use Rattle.bincode_decoder.proofs.LengthPrefixedBytes.{text-fails}
use Rattle.bincode_shape_codec.proofs.measure.measure_text.Goals as goal

pub returns-in_err-bytes : goal.returns-in_err-bytes
returns-in_err-bytes g c =
    let p = err_from_is_err_and c.from_residual.result c.from_residual.ensures.1 in
    rw (p.1, p.2) (first-stops (length_prefixed g.D.C.Config.setting) _ (λ h. h) c.in_err-bytes.ensures)

pub returns-in-Ok : goal.returns-in-Ok
returns-in-Ok g c =
    let bytes = c.in_ok-bytes.bytes in
    let is = rw c.as_bytes.ensures at c.in-Ok.ensures.cases.1 in
    test-passed text_of c.in_ok-bytes.ensures (Bytes (g.B.BorrowedBytes.bytes bytes)) 1 (text_of-passes (g.B.BorrowedBytes.bytes bytes) is) refl

pub returns : goal.returns
returns g c =
    let bytes = c.in_ok-bytes.bytes in
    let is = rw c.as_bytes.ensures at c.in-Err.ensures.cases.0 in
    test-failed text_of c.in_ok-bytes.ensures (length_prefixed-lawful g.D.C.Config.setting) Utf8 _ (text-fails (g.B.BorrowedBytes.bytes bytes) is) (c.in-Err.fault, refl)
