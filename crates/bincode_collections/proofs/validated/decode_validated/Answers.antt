use Rattle.std.proofs.lemmas.Result.{err_from_is_err_and}
use Rattle.bincode_decoder.proofs.PartAnswers.{first-stops}
use Rattle.bincode_collections.proofs.ValidatedAnswers.{read-passed, read-failing}
use Rattle.bincode_collections.proofs.validated.decode_validated.Goals as goal

pub returns-in_err-of : goal.returns-in_err-of
returns-in_err-of g c =
    let p = err_from_is_err_and c.from_residual.result c.from_residual.ensures.1 in
    rw (p.1, p.2) (first-stops _ _ (λ h. h) c.in_err-of.ensures)

pub returns-in_err-passed : goal.returns-in_err-passed
returns-in_err-passed g c =
    let p = err_from_is_err_and c.from_residual-in_err-passed.result c.from_residual-in_err-passed.ensures.1 in
    let test = c.in_err-passed.ensures in
    rw (p.1, p.2) (read-failing g.T.Validate.passes g.T.Validate.fault c.in_ok-of.ensures (g.V.Value.Wire.words.lawful _) test.passes test.tells)

pub returns : goal.returns
returns g c =
    let test = c.in_ok-passed.ensures in
    read-passed g.T.Validate.passes g.T.Validate.fault c.in_ok-of.ensures (λ m h. let t = test.passes m h in (t, rw test.holds (h, t)))
