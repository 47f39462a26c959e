use Rattle.std.proofs.Common.{inl, inr}
use Rattle.std.proofs.lemmas.Result.{err_from_is_err_and}
use Rattle.bincode_lemmas.specs.ChoiceDecodingLaws.{here-decodes, here-stops, there-stops}
use Rattle.bincode_decoder.proofs.ReadAnswers.{read-as}
use Rattle.bincode_collections.proofs.variants.decode_or.Goals as goal

pub returns-in_err-this-clause-reads : goal.returns-in_err-this-clause-reads
returns-in_err-this-clause-reads g c =
    let p = err_from_is_err_and c.from_residual.result c.from_residual.ensures.1 in
    let read = c.in_err-this.ensures in
    rw (p.1, p.2) (read-as (λ known. tt) (λ known. here-stops _ _ _ _ _ _ _ _ _ _ _ (λ h. inr (inl h)) _ _ _ _ c.if-found.true (read.err known)) (λ _. tt) read)

pub returns-then-found-clause-reads : goal.returns-then-found-clause-reads
returns-then-found-clause-reads g c =
    let read = c.in_ok-this.ensures in
    read-as (λ known. here-decodes _ _ _ _ _ _ _ c.if-found.true _ _ _ (read.ok known)) (λ known. tt) read.within read

pub returns-in_err-other-clause-reads : goal.returns-in_err-other-clause-reads
returns-in_err-other-clause-reads g c =
    let p = err_from_is_err_and c.from_residual-in_err-other.result c.from_residual-in_err-other.ensures.1 in
    let read = c.in_err-other.ensures.reads in
    rw (p.1, p.2) (read-as (λ known. tt) (λ known. there-stops _ _ _ _ _ _ _ _ _ _ _ (elim [ inl h ↦ inl h | inr h ↦ inr (inr h) ]) _ _ _ _ c.if-found.false (read.err known)) (λ _. tt) read)
