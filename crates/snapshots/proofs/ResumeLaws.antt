-- What the commands of a log come to that were appended after a snapshot was taken, or before.
use Rattle.std.specs.Prelude.{◌≡◌, ◌+◌, ◌++◌, ℕ, List, [], ◌∷◌, length, Bool, true, refl}
use Rattle.std.proofs.Common.{ap, sym, subst, arith, inl, inr, length-append}
use Rattle.framed_store.specs.Pieces.{Piece, FrameOf, Damage}
use Rattle.replay.specs.Recovered.{EqualTo, Recovers}
use Rattle.replay.specs.Replays.{Run}
use Rattle.replay.specs.RunLaws.{runs-join}
use Rattle.replay.specs.declared.replay.Replayed.{Replayed}
use Rattle.snapshots.specs.Numbers.{AppliesNext}
use Rattle.snapshots.specs.Resuming.{HoldBelow, HoldFrom, EqualThose, StandAfter, Resumes}

-- the first item of a list that is not empty
same-head : {A : Type 0} (a b : A) (xs ys : List A) → a ∷ xs ≡ b ∷ ys → a ≡ b
same-head a b xs ys e = cc

same-tail : {A : Type 0} (a b : A) (xs ys : List A) → a ∷ xs ≡ b ∷ ys → xs ≡ ys
same-tail a b xs ys e = cc

-- frames of commands in a row begin with such frames
row-front : {A : Type 0} (number : ℕ) (kept lost : List (Piece (ℕ × A))) → HoldFrom number (kept ++ lost) → HoldFrom number kept
row-front number [] lost h = tt
row-front number (FrameOf command word ∷ kept) lost h = (h.0, row-front (number + 1) kept lost h.1)
row-front number (Damage bytes ∷ kept) lost h = absurd h

module _ {S A : Type 0} (eq : A → A → Bool) (both_eq : ℕ × A → ℕ × A → Bool) (parts : (a b : ℕ × A) → both_eq a b ≡ true → (a.0 ≡ b.0) × (eq a.1 b.1 ≡ true)) (applies : S → A → S → Type 0) where
  -- commands in a row from the state's number on
  record Applied (standing : List (Piece (ℕ × A))) (old new : ℕ × S) : Type 0 where
    commands : List A
    equal : EqualThose eq standing commands
    run : Run applies old.1 commands new.1
    count : new.0 ≡ old.0 + length commands

  applied-row : (kept : List (Piece (ℕ × A))) (commands : List (ℕ × A)) (old new : ℕ × S) → HoldFrom old.0 kept → EqualTo both_eq kept commands → Run (AppliesNext applies) old commands new → Applied kept old new
  applied-row [] [] old new h e r = let same : new.0 ≡ old.0 = ap (λ z. z.0) r in record { commands = []; equal = tt; run = ap (λ z. z.1) r; count = omega (arith, same) }
  applied-row (FrameOf held word ∷ kept) (command ∷ commands) old new h e (mid, inl below, r) =
      let number = (parts held command e.0).0 in
      let is_next = h.0 in
      let less = below.0 in
      absurd (omega (arith, number, is_next, less))
  applied-row (FrameOf held word ∷ kept) (command ∷ commands) old new h e (mid, inr applied, r) =
      let next = applied.1 in
      let then = applied-row kept commands mid new (subst (λ z. HoldFrom z kept) (omega (arith, next)) h.1) e.1 r in
      let count = then.count in record {
        commands = command.1 ∷ then.commands;
        equal = ((parts held command e.0).1, then.equal);
        run = (mid.1, applied.2, then.run);
        count = omega (arith, next, count);
      }
  applied-row (Damage bytes ∷ kept) commands old new h e r = absurd h
  applied-row [] (command ∷ commands) old new h e r = absurd e
  applied-row (FrameOf held word ∷ kept) [] old new h e r = absurd e

  -- after commands that are passed over
  record Stands (passed kept : List (Piece (ℕ × A))) (old new : ℕ × S) : Type 0 where
    standing : List (Piece (ℕ × A))
    stand_after : StandAfter passed standing kept
    applied : Applied standing old new

  -- one more frame that is passed over
  one-more : (p : Piece (ℕ × A)) (passed kept : List (Piece (ℕ × A))) (old new : ℕ × S) → Stands passed kept old new → Stands (p ∷ passed) (p ∷ kept) old new
  one-more p passed kept old new s = record {
    standing = s.standing;
    stand_after = elim s.stand_after [
      | inl all ↦ inl (ap (λ z. p ∷ z) all)
      | inr cut ↦ inr (cut.0, cut.1, ap (λ z. p ∷ z) cut.2)
    ];
    applied = s.applied;
  }

  stands : (passed others kept lost : List (Piece (ℕ × A))) (commands : List (ℕ × A)) (old new : ℕ × S) → passed ++ others ≡ kept ++ lost → HoldBelow old.0 passed → HoldFrom old.0 others →
      EqualTo both_eq kept commands → Run (AppliesNext applies) old commands new → Stands passed kept old new
  stands [] others kept lost commands old new are below row e r = record {
    standing = kept;
    stand_after = inl refl;
    applied = applied-row kept commands old new (row-front old.0 kept lost (subst (HoldFrom old.0) are row)) e r;
  }
  stands (p ∷ passed) others [] lost commands old new are below row e r = record {
    standing = [];
    stand_after = inr (refl, p ∷ passed, refl);
    applied = applied-row [] commands old new tt e r;
  }
  stands (FrameOf held word ∷ passed) others (q ∷ kept) lost [] old new are below row e r =
      absurd (subst (λ z. EqualTo both_eq (z ∷ kept) []) (sym (same-head (FrameOf held word) q (passed ++ others) (kept ++ lost) are)) e)
  stands (FrameOf held word ∷ passed) others (q ∷ kept) lost (command ∷ commands) old new are below row e (mid, step, r) =
      let same = same-head (FrameOf held word) q (passed ++ others) (kept ++ lost) are in
      let tail = same-tail (FrameOf held word) q (passed ++ others) (kept ++ lost) are in
      let equal = subst (λ z. EqualTo both_eq (z ∷ kept) (command ∷ commands)) (sym same) e in
      let number = (parts held command equal.0).0 in
      let less = below.0 in
      let stays : mid ≡ old = elim step [ inl passed ↦ passed.1 | inr applied ↦ (let is_next = applied.0 in absurd (omega (arith, number, is_next, less))) ] in
      subst (λ z. Stands (FrameOf held word ∷ passed) (z ∷ kept) old new) same
      (one-more (FrameOf held word) passed kept old new (stands passed others kept lost commands old new tail below.1 row equal.1 (subst (λ z. Run (AppliesNext applies) z commands new) stays r)))
  stands (Damage bytes ∷ passed) others (q ∷ kept) lost commands old new are below row e r = absurd below

  -- from what is recovered of the log, and the commands that led to the snapshot
  pub resumed : (first : S) (earlier : List A) (old new : ℕ × S) → Run applies first earlier old.1 → old.0 ≡ length earlier → (passed others : List (Piece (ℕ × A))) (n : ℕ) (replayed : Replayed) →
      HoldBelow old.0 passed → HoldFrom old.0 others → Recovers both_eq (AppliesNext applies) (passed ++ others) n old new replayed → Resumes eq applies first earlier passed others n new
  resumed first earlier old new led is_number passed others n replayed below row recovers =
      let s = stands passed others recovers.kept recovers.lost recovers.commands old new recovers.pieces_are below row recovers.equal recovers.run in
      let applied = s.applied in
      let next = applied.count in
      let both = length-append earlier applied.commands in record {
        kept = recovers.kept;
        lost = recovers.lost;
        pieces_are = recovers.pieces_are;
        lacks_room = recovers.lacks_room;
        standing = s.standing;
        stand_after = s.stand_after;
        commands = applied.commands;
        equal = applied.equal;
        run = runs-join applies earlier applied.commands first old.1 new.1 led applied.run;
        count = omega (arith, next, both, is_number);
      }
