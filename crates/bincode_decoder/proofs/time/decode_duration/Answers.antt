use Rattle.std.proofs.Common.{refl}
use Rattle.std.proofs.lemmas.Result.{err_from_is_err_and}
use Rattle.bincode_decoder.proofs.DurationAnswers.{none-above, some-below, span-decodes, span-overflows, span-stops_first, span-stops_next}
use Rattle.bincode_decoder.proofs.ReadAnswers.{read-as, read-after, exactly}
use Rattle.bincode_decoder.proofs.time.decode_duration.Goals as goal

pub returns-in_err-secs : goal.returns-in_err-secs
returns-in_err-secs g c =
    let p = err_from_is_err_and c.from_residual.result c.from_residual.ensures.1 in
    let a = c.in_err-secs.ensures.reads in
    rw (p.1, p.2) (read-as (λ known. tt) (λ known. span-stops_first _ _ _ _ _ _ _ _ _ _ _ (a.err known)) (λ _. tt) a)

pub returns-in_err-nanos : goal.returns-in_err-nanos
returns-in_err-nanos g c =
    let p = err_from_is_err_and c.from_residual-in_err-nanos.result c.from_residual-in_err-nanos.ensures.1 in
    let a = c.in_ok-secs.ensures.reads in
    let b = c.in_err-nanos.ensures.reads in
    rw (p.1, p.2) (read-after (λ known. tt) (λ known. span-stops_next _ _ _ _ _ _ _ _ _ _ _ _ _ _ _ (exactly (a.ok known)) a.failures_monotone (b.err (a.tells known))) (λ _. tt) a b)

pub returns-then-is_none : goal.returns-then-is_none
returns-then-is_none g c =
    let a = c.in_ok-secs.ensures.reads in
    let b = c.in_ok-nanos.ensures.reads in
    let h = none-above _ _ (rw c.from.ensures at c.checked_add.ensures) c.if-is_none.ensures in
    read-after (λ known. tt) (λ known. span-overflows _ _ _ _ _ _ _ _ _ _ (exactly (a.ok known)) (exactly (b.ok (a.tells known))) _ _ _ _ _ refl h) (λ _. tt) a b

pub returns : goal.returns
returns g c =
    let a = c.in_ok-secs.ensures.reads in
    let b = c.in_ok-nanos.ensures.reads in
    let h = some-below _ _ (rw c.from.ensures at c.checked_add.ensures) c.if-is_none.ensures in
    read-after (λ known. span-decodes _ _ _ _ _ _ _ _ _ _ (exactly (a.ok known)) (exactly (b.ok (a.tells known))) _ _ h c.new.ensures.secs c.new.ensures.nanos) (λ known. tt) (λ within. b.within (a.within within)) a b
