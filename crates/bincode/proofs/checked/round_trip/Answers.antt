use Rattle.std.proofs.Common.{◌≡◌, true}
use Rattle.std.proofs.lemmas.Result.{err_from_is_err_and}
use Rattle.bincode_lemmas.specs.LimitLaws.{read-back_slice}
use Rattle.bincode.proofs.Short.{too-short}
use Rattle.bincode.proofs.checked.round_trip.Goals as goal

pub returns-clause-back : goal.returns-clause-back
returns-clause-back g c = λ fits.
    read-back_slice _ (g.T.Wire.words.lawful _) _ _ _ (λ w. g.T.PartialEq.eq c.args.value.now w ≡ true)
    (λ w m. c.tell_exact.ensures.comes_back c.args.value.now w m c.tell_valid.ensures)
    _ _ _ c.in_ok-written.ensures.word fits _ _ c.decode_from_slice-read.ensures.word c.decode_from_slice-read.ensures.found

pub returns-in_err-written-clause-short : goal.returns-in_err-written-clause-short
returns-in_err-written-clause-short g c =
    let p = err_from_is_err_and c.from_residual.result c.from_residual.ensures.1 in
    rw (p.1, p.2) (too-short _ _ _ _ (c.tell_plain.ensures.one_length _ _ c.tell_valid.ensures) c.tell_plain.ensures.names_none
    (c.tell_plain.ensures.always_writable _ _ c.tell_valid.ensures) _ c.in_err-written.ensures.room c.in_err-written.ensures.fault)
