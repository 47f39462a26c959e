-- One more command of a run.
use Rattle.std.specs.Prelude.{◌≡◌, ◌+◌, ◌++◌, ℕ, List, [], ◌∷◌, take, Option, refl}
use Rattle.std.proofs.Common.{◌∙◌, sym, subst, ⊎_elim, append_assoc, append-nil}
use Rattle.bincode_base.specs.Setting.{Setting}
use Rattle.bincode_types.specs.TypeWords.{Words}
use Rattle.framed_store.specs.Pieces.{Piece, FrameOf, Damage}
use Rattle.framed_store.specs.PieceLaws.{with_kept}
use Rattle.crash_device.specs.Files.{Files}
use Rattle.durable_log.specs.Runs.{AreOf, IsLogAfter, StandsForPart}
use Rattle.durable_log.specs.Standing.{IsLogOf, StandsFor, IsAfter, IsBeforeOrAfter}
use Rattle.durable_log.proofs.Fronts.{stands-whole}

are-push : {A : Type 0} (added : List (Piece A)) (commands : List A) (value : A) (word : List ℕ) → AreOf added commands → AreOf (with_kept added value word) (commands ++ value ∷ [])
are-push [] [] value word are = (refl, tt)
are-push [] (c ∷ commands) value word are = absurd are
are-push (p ∷ added) [] value word are = absurd are
are-push (FrameOf v w ∷ added) (c ∷ commands) value word are = (are.0, are-push added commands value word are.1)
are-push (Damage bytes ∷ added) (c ∷ commands) value word are = absurd are

module _ {A : Type 0} (W : Words A) (s : Setting) (limit : Option ℕ) (most : ℕ) (pieces : List (Piece A)) where
  -- none yet
  pub none-after : (log : List ℕ) → IsLogOf W s limit most pieces log → IsLogAfter W s limit most pieces [] log
  none-after log is = ([], tt, subst (λ z. IsLogOf W s limit most z log) (sym (append-nil pieces)) is)

  pub none-part : (commands : List A) (files : Files) → IsLogOf W s limit most pieces files.log → StandsForPart W s limit most pieces commands files files
  none-part commands files is = (0, [], tt, subst (λ z. StandsFor W s limit most z files.log) (sym (append-nil pieces)) (stands-whole W s limit most pieces files.log is), refl)

  module _ (commands : List A) (i : ℕ) (value : A) (more : take (i + 1) commands ≡ take i commands ++ value ∷ []) (added : List (Piece A)) (are : AreOf added (take i commands)) where
    grown : (word : List ℕ) → AreOf (with_kept added value word) (take (i + 1) commands)
    grown word = subst (AreOf (with_kept added value word)) (sym more) (are-push added (take i commands) value word are)

    together : (word : List ℕ) → with_kept (pieces ++ added) value word ≡ pieces ++ with_kept added value word
    together word = append_assoc pieces added (FrameOf value word ∷ [])

    -- one more
    pub one-after : (log : List ℕ) → IsAfter W s limit most (pieces ++ added) value log → IsLogAfter W s limit most pieces (take (i + 1) commands) log
    one-after log is = (with_kept added value is.0, grown is.0, subst (λ z. IsLogOf W s limit most z log) (together is.0) is.1)

    -- and what a crash leaves meanwhile
    pub one-part : (old mid new : Files) → mid.snapshot ≡ old.snapshot → IsBeforeOrAfter W s limit most (pieces ++ added) value mid new → StandsForPart W s limit most pieces commands old new
    one-part old mid new same is = ⊎_elim
        (λ before. (i, added, are, before, is.0 ∙ same))
        (λ after. (i + 1, with_kept added value after.0, grown after.0, subst (λ z. StandsFor W s limit most z new.log) (together after.0) after.1, is.0 ∙ same))
        is.1
