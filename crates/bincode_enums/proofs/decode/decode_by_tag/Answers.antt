use Rattle.std.proofs.Common.{sym, ◌∙◌, subst}
use Rattle.std.proofs.lemmas.Result.{err_from_is_err_and, IfOk-weaker, IfErr-weaker}
use Rattle.bincode_lemmas.specs.ChoiceDecodingLaws.{choice-decodes, choice-stops_tag, choice-stops_part}
use Rattle.bincode_decoder.proofs.ReadAnswers.{read-as, read-after, exactly}
use Rattle.bincode_enums.specs.EnumWords.{tag-numerals}
use Rattle.bincode_enums.proofs.decode.decode_by_tag.Goals as goal

pub returns-in_err-tag : goal.returns-in_err-tag
returns-in_err-tag g c =
    let p = err_from_is_err_and c.from_residual.result c.from_residual.ensures.1 in
    let tag = c.in_err-tag.ensures in
    rw (p.1, p.2) (read-as (λ known. tt) (λ known. rw g.met.T.Enum.laws.read (choice-stops_tag _ _ _ _ _ _ _ _ _ _ _ _ _ (tag.err known))) (λ _. tt) tag)

pub returns : goal.returns
returns g c =
    let tag = c.in_ok-tag.ensures in
    let part = c.decode_variant.ensures in
    read-after
    (λ known. IfOk-weaker c.decode_variant.result _ _ (λ v h. rw g.met.T.Enum.laws.read (choice-decodes _ _ _ _ _ _ _ _ _ (exactly (tag.ok known)) _ _ _ h)) (part.ok (tag.tells known)))
    (λ known. IfErr-weaker c.decode_variant.result _ _ (λ e h. rw g.met.T.Enum.laws.read (choice-stops_part _ _ _ _ _ _ _ _ _ (exactly (tag.ok known)) (tag-numerals.lawful _) _ _ _ _ _ _ _ _ tag.failures_monotone h)) (part.err (tag.tells known)))
    (λ within. part.within (tag.within within)) tag part
