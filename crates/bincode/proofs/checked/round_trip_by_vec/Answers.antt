use Rattle.std.proofs.Common.{◌≡◌, true}
use Rattle.std.proofs.lemmas.Result.{err_from_is_err_and}
use Rattle.bincode_lemmas.specs.LimitLaws.{read-back_vec}
use Rattle.bincode.proofs.Short.{lacks-memory}
use Rattle.bincode.proofs.checked.round_trip_by_vec.Goals as goal

pub returns-clause-back : goal.returns-clause-back
returns-clause-back g c = λ fits.
    read-back_vec _ (g.T.Wire.words.lawful _) _ _ _ (λ w. g.T.PartialEq.eq c.args.value.now w ≡ true)
    (λ w m. c.tell_exact.ensures.comes_back c.args.value.now w m c.tell_valid.ensures)
    c.in_ok-bytes.bytes.items c.in_ok-bytes.ensures.word fits _ _
    (rw c.deref.ensures.value at c.decode_from_slice-read.ensures.word) (rw c.deref.ensures.value at c.decode_from_slice-read.ensures.found)

pub returns-in_err-bytes-clause-refused : goal.returns-in_err-bytes-clause-refused
returns-in_err-bytes-clause-refused g c =
    let p = err_from_is_err_and c.from_residual.result c.from_residual.ensures.1 in
    rw (p.1, p.2) (lacks-memory _ _ _ (c.tell_plain.ensures.one_length _ _ c.tell_valid.ensures) c.tell_plain.ensures.names_none
    (c.tell_plain.ensures.always_writable _ _ c.tell_valid.ensures) _ c.in_err-bytes.ensures.empty c.in_err-bytes.ensures.fault)
