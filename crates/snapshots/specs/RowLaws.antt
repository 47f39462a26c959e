-- Frames of commands that are numbered in a row, or below a number.
use Rattle.std.specs.Prelude.{◌≡◌, ◌+◌, ◌≤◌, ◌++◌, ◌&&◌, ◌==◌, ℕ, List, [], ◌∷◌, length, Bool, true, false, refl}
use Rattle.std.proofs.Common.{ap, arith}
use Rattle.std.proofs.lemmas.Bool.Decides.{Decides-eqb}
use Rattle.framed_store.specs.PieceLaws.{with_kept}
use Rattle.framed_store.specs.Pieces.{Piece, FrameOf, Damage}
use Rattle.snapshots.specs.Resuming.{HoldBelow, HoldFrom, held_by}

module _ {A : Type 0} where
  -- numbers below one are below a greater one
  pub below-more : (m n : ℕ) (pieces : List (Piece (ℕ × A))) → m ≤ n → HoldBelow m pieces → HoldBelow n pieces
  below-more m n [] le h = tt
  below-more m n (FrameOf command word ∷ pieces) le h = let less = h.0 in (omega (arith, le, less), below-more m n pieces le h.1)
  below-more m n (Damage bytes ∷ pieces) le h = absurd h

  -- numbers in a row are below the one after them
  pub row-below : (m n : ℕ) (pieces : List (Piece (ℕ × A))) → m + length (held_by pieces) ≤ n → HoldFrom m pieces → HoldBelow n pieces
  row-below m n [] le h = tt
  row-below m n (FrameOf command word ∷ pieces) le h = let number = h.0 in (omega (arith, le, number), row-below (m + 1) n pieces (omega (arith, le)) h.1)
  row-below m n (Damage bytes ∷ pieces) le h = absurd h

  pub below-join : (n : ℕ) (first second : List (Piece (ℕ × A))) → HoldBelow n first → HoldBelow n second → HoldBelow n (first ++ second)
  below-join n [] second h more = more
  below-join n (FrameOf command word ∷ first) second h more = (h.0, below-join n first second h.1 more)
  below-join n (Damage bytes ∷ first) second h more = absurd h

  -- the next number follows a row
  pub row-more : (m n : ℕ) (pieces : List (Piece (ℕ × A))) (command : A) (word : List ℕ) → HoldFrom m pieces → n ≡ m + length (held_by pieces) → HoldFrom m (with_kept pieces (n, command) word)
  row-more m n [] command word h next = (omega (arith, next), tt)
  row-more m n (FrameOf held w ∷ pieces) command word h next = (h.0, row-more (m + 1) n pieces command word h.1 (omega (arith, next)))
  row-more m n (Damage bytes ∷ pieces) command word h next = absurd h

  pub held-more : (n : ℕ) (pieces : List (Piece (ℕ × A))) (command : A) (word : List ℕ) → held_by (with_kept pieces (n, command) word) ≡ held_by pieces ++ command ∷ []
  held-more n [] command word = refl
  held-more n (FrameOf held w ∷ pieces) command word = ap (λ z. held.1 ∷ z) (held-more n pieces command word)
  held-more n (Damage bytes ∷ pieces) command word = held-more n pieces command word

both-true : (b c : Bool) → (b && c) ≡ true → (b ≡ true) × (c ≡ true)
both-true true c h = (refl, h)
both-true false c h = cc

-- pairs of a number and a command that are equal have one number, and equal commands
pub equal-parts : {A : Type 0} (eq : A → A → Bool) (a b : ℕ × A) → ((a.0 == b.0) && eq a.1 b.1) ≡ true → (a.0 ≡ b.0) × (eq a.1 b.1 ≡ true)
equal-parts eq a b h = let parts = both-true (a.0 == b.0) (eq a.1 b.1) h in ((Decides-eqb a.0 b.0).0 parts.0, parts.1)
