-- Appending to frames that were appended makes one more of them.
use Rattle.std.specs.Prelude.{◌≡◌, ◌++◌, ℕ, List, [], ◌∷◌, Option, Some}
use Rattle.std.proofs.Common.{◌∙◌, ap, sym, append_assoc, append-nil}
use Rattle.bincode_base.specs.Setting.{Setting}
use Rattle.bincode_types.specs.TypeWords.{Words}
use Rattle.frames.specs.Frames.{frame}
use Rattle.framed_store.specs.Appended.{Added, FrontAdded}
use Rattle.framed_store.specs.Pieces.{Piece, FrameOf, bytes_of, bytes_of_all, IsPiece, ArePieces}

-- one more piece
abbrev pub with_kept : {A : Type 0} → List (Piece A) → A → List ℕ → List (Piece A)
with_kept pieces value word = pieces ++ FrameOf value word ∷ []

module _ {A : Type 0} (W : Words A) (s : Setting) (limit : Option ℕ) (most : ℕ) where
  -- its bytes follow theirs
  pub bytes-more : (pieces : List (Piece A)) (p : Piece A) → bytes_of_all (pieces ++ p ∷ []) ≡ bytes_of_all pieces ++ bytes_of p
  bytes-more [] p = append-nil (bytes_of p)
  bytes-more (q ∷ pieces) p = ap (λ z. bytes_of q ++ z) (bytes-more pieces p) ∙ sym (append_assoc (bytes_of q) (bytes_of_all pieces) (bytes_of p))

  pub are-more : (pieces : List (Piece A)) (p : Piece A) → ArePieces W s limit most pieces → IsPiece W s limit most p → ArePieces W s limit most (pieces ++ p ∷ [])
  are-more [] p are is = (is, tt)
  are-more (q ∷ pieces) p are is = (are.0, are-more pieces p are.1 is)

  -- After a value was appended the store is that of the pieces that it was, and of the value's.
  pub appended-pieces : (v : A) (n : ℕ) (old new : List ℕ) (pieces : List (Piece A)) → ArePieces W s limit most pieces → old ≡ bytes_of_all pieces →
      Added W s limit most v n (Some old) (Some new) → (word : List ℕ) × ArePieces W s limit most (with_kept pieces v word) × (new ≡ bytes_of_all (with_kept pieces v word))
  appended-pieces v n old new pieces are held added = (
    added.word,
    are-more pieces (FrameOf v added.word) are added.is_fitting,
    added.appended ∙ (ap (λ z. z ++ frame added.word) held ∙ sym (bytes-more pieces (FrameOf v added.word))),
  )

  -- After a write that failed it is a front of that one, at least as long as the store was.
  pub cut-pieces : (v : A) (old new : List ℕ) (pieces : List (Piece A)) → ArePieces W s limit most pieces → old ≡ bytes_of_all pieces → FrontAdded W s limit most v (Some old) (Some new) →
      (word lost : List ℕ) × ArePieces W s limit most (with_kept pieces v word) × (bytes_of_all (with_kept pieces v word) ≡ new ++ lost)
  cut-pieces v old new pieces are held added = (
    added.word,
    added.back,
    are-more pieces (FrameOf v added.word) are added.is_fitting,
    bytes-more pieces (FrameOf v added.word) ∙ (ap (λ z. bytes_of_all pieces ++ z) added.frame_is ∙ (sym (append_assoc (bytes_of_all pieces) added.front added.back) ∙
        ap (λ z. z ++ added.back) (ap (λ z. z ++ added.front) (sym held) ∙ sym added.appended))),
  )
