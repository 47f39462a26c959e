use Rattle.std.proofs.Common.{refl, ap}
use Rattle.std.proofs.lemmas.Bool.{false≢true}
use Rattle.std.proofs.lemmas.Result.{err_from_is_err_and}
use Rattle.bincode_spec.specs.Fault.{Utf8}
use Rattle.bincode_spec.specs.Meaning.{Bytes}
use Rattle.bincode_spec.specs.Words.{length_prefixed, text_of}
use Rattle.bincode_lemmas.specs.TextLaws.{length_prefixed-lawful}
use Rattle.bincode_decoder.proofs.PartAnswers.{first-stops, test-passed, test-failed}
use Rattle.bincode_decoder.proofs.LengthPrefixedBytes.{text-bytes, text-room, text-passes, text-fails}
use Rattle.bincode_decoder.proofs.texts.decode_text.Goals as goal

pub returns-in_err-bytes-clause-read : goal.returns-in_err-bytes-clause-read
returns-in_err-bytes-clause-read g c =
    let p = err_from_is_err_and c.from_residual.result c.from_residual.ensures.1 in
    rw (p.1, p.2) (first-stops (length_prefixed g.D.C.Config.setting) _ (λ h. h) c.in_err-bytes.ensures.read)

pub returns-in-Ok-clause-read : goal.returns-in-Ok-clause-read
returns-in-Ok-clause-read g c =
    test-passed text_of c.in_ok-bytes.ensures.read (Bytes c.in_ok-bytes.bytes.items) c.in-Ok.text (text-passes c.in-Ok.text c.in_ok-bytes.bytes c.in-Ok.ensures.ok)
    (ap Bytes (text-bytes c.in-Ok.text c.in_ok-bytes.bytes c.in-Ok.ensures.ok), text-room c.in-Ok.text c.in_ok-bytes.bytes c.in-Ok.ensures.ok c.in_ok-bytes.ensures.room)

pub returns-in-Err-clause-read : goal.returns-in-Err-clause-read
returns-in-Err-clause-read g c =
    test-failed text_of c.in_ok-bytes.ensures.read (length_prefixed-lawful g.D.C.Config.setting) Utf8 _
    (text-fails c.in_ok-bytes.bytes.items (λ h. false≢true (c.in-Err.ensures.succeeds h))) (c.utf8_error.result, refl)
