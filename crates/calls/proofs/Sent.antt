-- One more value that was sent.
use Rattle.std.specs.Prelude.{◌++◌, ℕ, List, [], ◌∷◌, Option, refl}
use Rattle.std.specs.Io.KnownBytes.{Appends}
use Rattle.std.proofs.Common.{sym, subst}
use Rattle.std.proofs.KnownBytes.{Appends-nil, Appends-trans}
use Rattle.bincode_base.specs.Setting.{Setting}
use Rattle.bincode_types.specs.TypeWords.{Words}
use Rattle.frames.specs.Frames.{frame}
use Rattle.framed_store.specs.PieceLaws.{bytes-more, are-more}
use Rattle.framed_store.specs.Pieces.{Piece, FrameOf, Damage, bytes_of_all}
use Rattle.calls.specs.Calling.{AreFramesOf, SendsAll}
use Rattle.calls.specs.Sending.{Sends}

module _ {T : Type 0} (V : Words T) (s : Setting) (limit : Option ℕ) (most : ℕ) where
  pub sent-none : (before : Option (List ℕ)) → SendsAll V s limit most [] before before
  sent-none before = ([], tt, tt, Appends-nil before)

  frames-more : (values : List T) (pieces : List (Piece T)) → AreFramesOf values pieces → (value : T) (word : List ℕ) → AreFramesOf (values ++ value ∷ []) (pieces ++ FrameOf value word ∷ [])
  frames-more [] [] of value word = (refl, tt)
  frames-more [] (p ∷ pieces) of value word = absurd of
  frames-more (v ∷ values) [] of value word = absurd of
  frames-more (v ∷ values) (FrameOf framed w ∷ pieces) of value word = (of.0, frames-more values pieces of.1 value word)
  frames-more (v ∷ values) (Damage bytes ∷ pieces) of value word = absurd of

  pub sent-more : (values : List T) (value : T) (before now after : Option (List ℕ)) → SendsAll V s limit most values before now → Sends V s limit most value now after →
      SendsAll V s limit most (values ++ value ∷ []) before after
  sent-more values value before now after all one = (
    all.0 ++ FrameOf value one.0 ∷ [],
    are-more V s limit most all.0 (FrameOf value one.0) all.1 one.1,
    frames-more values all.0 all.2 value one.0,
    subst (Appends before after) (sym (bytes-more V s limit most all.0 (FrameOf value one.0))) (Appends-trans before now after (bytes_of_all all.0) (frame one.0) all.3 one.2),
  )
