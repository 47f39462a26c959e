use Rattle.std.proofs.Common.{sym, subst}
use Rattle.std.proofs.lemmas.Result.{err_from_is_err_and}
use Rattle.bincode_decoder.proofs.ReadAnswers.{read-as, made-of}
use Rattle.bincode_collections.proofs.by_parts.decode_whole.Goals as goal

pub returns-in_err-parts : goal.returns-in_err-parts
returns-in_err-parts g c =
    let p = err_from_is_err_and c.from_residual.result c.from_residual.ensures.1 in
    let read = c.in_err-parts.ensures in
    rw (p.1, p.2) (read-as (λ known. tt) read.err (λ _. tt) read)

pub returns : goal.returns
returns g c =
    let made = c.make.ensures in
    let read = c.in_ok-parts.ensures in
    read-as
    (λ known. made-of (λ m h. (g.W.Whole.ByParts.promise c.make.result).joins (g.W.Parts.Wire.words.decodes_to m (g.W.Whole.ByParts.parts c.make.result)) made.promise (subst (λ parts. g.W.Parts.Wire.words.decodes_to m parts) (sym made.parts) h)) (read.ok known))
    (λ known. tt)
    read.within
    read
