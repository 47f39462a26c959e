use Rattle.std.proofs.lemmas.Result.{err_from_is_err_and}
use Rattle.bincode_lemmas.specs.ChoiceDecodingLaws.{choice-decodes, choice-stops_tag, choice-stops_part}
use Rattle.bincode_decoder.proofs.ReadAnswers.{read-as, read-after, exactly}
use Rattle.bincode_collections.proofs.variants.decode_one_of.Goals as goal

pub returns-in_err-found : goal.returns-in_err-found
returns-in_err-found g c =
    let p = err_from_is_err_and c.from_residual.result c.from_residual.ensures.1 in
    let tag = c.in_err-found.ensures in
    rw (p.1, p.2) (read-as (λ known. tt) (λ known. choice-stops_tag _ _ _ _ _ _ _ _ _ _ _ _ _ (tag.err known)) (λ _. tt) tag)

pub returns-in_err-of : goal.returns-in_err-of
returns-in_err-of g c =
    let p = err_from_is_err_and c.from_residual-in_err-of.result c.from_residual-in_err-of.ensures.1 in
    let tag = c.in_ok-found.ensures in
    let part = c.in_err-of.ensures.reads in
    rw (p.1, p.2)
    (read-after (λ known. tt) (λ known. choice-stops_part _ _ _ _ _ _ _ _ _ (exactly (tag.ok known)) (g.Of.Tag.Tag.numerals.lawful _) _ _ _ _ _ _ _ _ tag.failures_monotone
    (part.err (tag.tells known))) (λ _. tt) tag part)

pub returns : goal.returns
returns g c =
    let tag = c.in_ok-found.ensures in
    let part = c.in_ok-of.ensures.reads in
    read-after (λ known. rw c.in_ok-of.ensures.tag (choice-decodes _ _ _ _ _ _ _ _ _ (exactly (tag.ok known)) _ _ _ (part.ok (tag.tells known)))) (λ known. tt) (λ within. part.within (tag.within within)) tag part
