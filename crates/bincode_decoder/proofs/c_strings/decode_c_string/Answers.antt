use Rattle.std.specs.Vec.{vec_capacity}
use Rattle.std.specs.Prelude.{◌≡◌, length}
use Rattle.std.proofs.Common.{sym, ap, subst}
use Rattle.std.proofs.lemmas.Result.{err_from_is_err_and}
use Rattle.bincode_base.specs.declared.error.DecodeError.TheVariants.{CStringNulError}
use Rattle.bincode_spec.specs.Fault.{NulAt}
use Rattle.bincode_spec.specs.Meaning.{Bytes}
use Rattle.bincode_spec.specs.Words.{length_prefixed, without_nul_of}
use Rattle.bincode_lemmas.specs.TextLaws.{length_prefixed-lawful, nul_test, nul_test-passes}
use Rattle.bincode_types.specs.CStrings.{nul_place}
use Rattle.bincode_decoder.proofs.PartAnswers.{first-stops, test-passed, test-failed}
use Rattle.bincode_decoder.proofs.c_strings.decode_c_string.Goals as goal

pub returns-in_err-bytes-clause-read : goal.returns-in_err-bytes-clause-read
returns-in_err-bytes-clause-read g c =
    let p = err_from_is_err_and c.from_residual.result c.from_residual.ensures.1 in
    rw (p.1, p.2) (first-stops (length_prefixed g.D.C.Config.setting) _ (λ h. h) c.in_err-bytes.ensures.read)

pub returns-in-Ok-clause-read : goal.returns-in-Ok-clause-read
returns-in-Ok-clause-read g c =
    let bytes = c.in_ok-bytes.bytes in
    let same = sym c.in-Ok.ensures.0 in
    test-passed nul_test c.in_ok-bytes.ensures.read (Bytes bytes.items) c.in-Ok.text (nul_test-passes bytes.items c.in-Ok.ensures.1)
    (ap (λ v. Bytes v.items) same, subst (λ v. vec_capacity v ≡ length v.items) same c.in_ok-bytes.ensures.room)

pub returns-in-Err-clause-read : goal.returns-in-Err-clause-read
returns-in-Err-clause-read g c =
    test-failed nul_test c.in_ok-bytes.ensures.read (length_prefixed-lawful g.D.C.Config.setting) (NulAt (nul_place c.in-Err.fault)) _
    (ap (without_nul_of c.in_ok-bytes.bytes.items) c.in-Err.ensures.0) (ap CStringNulError c.nul_position.ensures)
