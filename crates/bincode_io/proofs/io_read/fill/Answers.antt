use Rattle.std.proofs.Common.{◌≡◌, ℕ, ◌+◌, ◌-◌, ◌≤◌, List, ◌++◌, rules, arith, length, take, slice_range, sym, ap, ◌∙◌, refl, subst, le_refl, drop_at, length-take-le}
use Rattle.std.proofs.lemmas.Slice.{take-put_mid_below}
use Rattle.std.specs.Io.KnownBytes.{Consumes}
use Rattle.std.proofs.KnownBytes.{Consumes-trans}
use borrow.Rule.Slice.PartMut.{put_mid, post_of}
use lib.Seq.{take-add, take-append-le}
use Rattle.bincode_io.proofs.io_read.fill.Goals as goal

-- the first part, and then what follows it
take_split : (a b : ℕ) (old new : List ℕ) → a ≤ b → take a new ≡ take a old → take a old ++ slice_range new a b ≡ take b new
take_split a b old new h front =
    let same : a + (b - a) ≡ b = omega arith in
    ap (λ l. l ++ slice_range new a b) (sym front) ∙ sym (take-add a (b - a) new) ∙ ap (λ n. take n new) same

slice_range-put_mid : (a k n : ℕ) (xs ys : List ℕ) → a ≤ length xs → n ≤ length ys → slice_range (put_mid a k xs ys) a (a + n) ≡ take n ys
slice_range-put_mid a k n xs ys within fits =
    let same : (a + n) - a ≡ n = omega arith in
    let after = post_of a k xs in
    ap (take ((a + n) - a)) (drop_at (take a xs) (ys ++ after) a (length-take-le a xs within)) ∙ ap (λ m. take m (ys ++ after)) same ∙ take-append-le n ys after fits

pub loop-at-preserved : goal.loop-at-preserved
loop-at-preserved g c =
    let from = c.loop-at.at in
    let room = length c.loop-at.bytes - from in
    let within = c.loop-at.invariant.1 in
    let part = slice_range-put_mid from room c.in-Ok.n c.loop-at.bytes c.read_some.new.bytes within c.in-Ok.ensures.bound.0 in
    let joined = take_split from (from + c.in-Ok.n) c.loop-at.bytes (put_mid from room c.loop-at.bytes c.read_some.new.bytes) (omega arith) (take-put_mid_below _ _ _ _ _ (le_refl _) within) in
    (search rules, search rules, subst (Consumes _ _) (ap (λ l. take from c.loop-at.bytes ++ l) (sym part) ∙ joined) (Consumes-trans _ _ _ _ _ c.loop-at.invariant.2 c.in-Ok.ensures.ok))

pub returns-in-Err-clause-err : goal.returns-in-Err-clause-err
returns-in-Err-clause-err g c = (_, _, refl)
