use Rattle.std.proofs.lemmas.Result.{err_from_is_err_and}
use Rattle.bincode_lemmas.specs.DecodingLaws.{tuple-decodes, tuple-stops_first, tuple-stops_next}
use Rattle.bincode_decoder.proofs.ReadAnswers.{read-as, read-after}
use Rattle.bincode_collections.proofs.rows.decode_row.Goals as goal

pub returns-in_err-first : goal.returns-in_err-first
returns-in_err-first g c =
    let p = err_from_is_err_and c.from_residual.result c.from_residual.ensures.1 in
    let a = c.in_err-first.ensures in
    rw (p.1, p.2) (read-as (λ known. tt) (λ known. tuple-stops_first _ _ _ _ _ _ _ _ _ _ _ _ _ (a.err known)) (λ _. tt) a)

pub returns-in_err-others : goal.returns-in_err-others
returns-in_err-others g c =
    let p = err_from_is_err_and c.from_residual-in_err-others.result c.from_residual-in_err-others.ensures.1 in
    let a = c.in_ok-first.ensures in
    let b = c.in_err-others.ensures in
    rw (p.1, p.2)
    (read-after (λ known. tt) (λ known. tuple-stops_next _ _ _ _ _ _ _ _ _ (g.A.Value.Wire.words.lawful _) _ _ _ _ _ _ _ _ (a.ok known) a.failures_monotone (b.err (a.tells known))) (λ _. tt) a b)

pub returns : goal.returns
returns g c =
    let a = c.in_ok-first.ensures in
    let b = c.in_ok-others.ensures in
    read-after (λ known. tuple-decodes _ _ _ _ _ _ _ _ _ _ _ (a.ok known) (b.ok (a.tells known))) (λ known. tt) (λ within. b.within (a.within within)) a b
