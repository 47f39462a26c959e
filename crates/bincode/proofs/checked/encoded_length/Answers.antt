use Rattle.std.proofs.Common.{◌≡◌, refl}
use Rattle.std.proofs.lemmas.Result.{err_from_is_err_and}
use Rattle.bincode.proofs.Counts.{counted-length, counted-short}
use Rattle.bincode.proofs.checked.encoded_length.Goals as goal

pub returns-clause-length : goal.returns-clause-length
returns-clause-length g c =
    counted-length _ (c.tell_plain.ensures.one_length _ _ c.tell_valid.ensures) c.default-counter.result _ c.default-counter.ensures c.in_ok-encode_into_writer.ensures.word _ refl

pub returns-in_err-encode_into_writer-clause-short : goal.returns-in_err-encode_into_writer-clause-short
returns-in_err-encode_into_writer-clause-short g c =
    let p = err_from_is_err_and c.from_residual.result c.from_residual.ensures.1 in
    rw (p.1, p.2) (counted-short _ _ _ (c.tell_plain.ensures.one_length _ _ c.tell_valid.ensures) c.tell_plain.ensures.names_none
    (c.tell_plain.ensures.always_writable _ _ c.tell_valid.ensures) c.default-counter.result _ c.default-counter.ensures _ c.in_err-encode_into_writer.ensures.left)
