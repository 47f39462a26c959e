use Rattle.std.specs.Prelude.{◌≡◌, ℕ, ◌+◌, ◌-◌, ◌*◌, ◌^◌, ◌<◌, ℤ, pos, negsuc, true}
use Rattle.std.specs.Int.{w128}
use Rattle.std.proofs.Common.{◌∙◌, sym, ap, subst, arith, T, ltb→lt}
use Rattle.std.proofs.lemmas.Int.{to_z-of_z}
use lib.Signed.{lt_z}
use mir.Val.{of_z, SFits}
use Rattle.bincode_spec.specs.Number.{zigzag, unzigzag}
use Rattle.bincode_lemmas.specs.SignedLaws.{zigzag-fits, zigzag-unzigzag}
use Rattle.bincode_io.proofs.zigzag.zigzag.Goals as goal

negative : (val : ℤ) (bits : ℕ) → SFits w128 val → lt_z val (pos 0) ≡ true → bits ≡ of_z w128 val →
    (2 ^ 128 - 1 - bits) * 2 + 1 ≡ zigzag val
negative (pos n) bits fits h e = let none : n < 0 = ltb→lt n 0 (subst T (sym h) tt) in absurd (omega arith)
negative (negsuc n) bits fits h e = omega (arith, e, fits)

pub returns-then-val-lt0-clause-number : goal.returns-then-val-lt0-clause-number
returns-then-val-lt0-clause-number c =
    let same = to_z-of_z w128 c.args.val c.ranges.val in
    negative c.args.val _ c.ranges.val (rw same at c.if-val-lt0.true) (rw same at c.cast_unsigned-bits.ensures)

pub returns-then-val-lt0-clause-back : goal.returns-then-val-lt0-clause-back
returns-then-val-lt0-clause-back c = ap unzigzag (returns-then-val-lt0-clause-number c) ∙ zigzag-unzigzag c.args.val

pub returns-then-val-lt0-clause-width : goal.returns-then-val-lt0-clause-width
returns-then-val-lt0-clause-width c width = zigzag-fits width c.args.val
