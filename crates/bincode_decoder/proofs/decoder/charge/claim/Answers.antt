use Rattle.std.specs.Prelude.{Some, ◌+◌, ◌^◌, refl}
use Rattle.std.proofs.Common.{sym, ◌∙◌, ap, arith}
use Rattle.std.proofs.lemmas.Bool.{lt-ltb, le-ltb}
use Rattle.bincode_lemmas.specs.AnswerLaws.{claim-stands, claim-falls}
use Rattle.bincode_decoder.proofs.decoder.charge.claim.Goals as goal

pub returns-in_default : goal.returns-in_default
returns-in_default c = rw c.in_default.is (record { ok = refl; err = tt })

pub returns-in_default-checked_add : goal.returns-in_default-checked_add
returns-in_default-checked_add c =
    let q = c.in_default-checked_add.ensures in rw c.in-Some.is (record {
      ok = tt;
      err = (refl, (claim-falls _ _ _ (omega arith), rw (le-ltb (c.args.bytes_read.now + c.args.n) (2 ^ 64) (omega (arith, c.in_default-checked_add.ensures))) refl));
    })

pub returns-then-sum-limit : goal.returns-then-sum-limit
returns-then-sum-limit c =
    let e = c.in-Some-checked_add.ensures.1 in
    rw c.in-Some.is (record { ok = tt; err = (refl, (claim-falls _ _ _ (rw e at c.if-sum-limit.true), rw (lt-ltb _ _ c.in-Some-checked_add.ensures.0) e)) })

pub returns : goal.returns
returns c =
    let e = c.in-Some-checked_add.ensures.1 in
    rw c.in-Some.is (record { ok = claim-stands (Some _) _ _ (rw e at c.if-sum-limit.false) ∙ ap Some (sym e); err = tt })
