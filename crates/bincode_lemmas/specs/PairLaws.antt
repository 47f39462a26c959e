-- The laws of pairs, from those of their parts.
use Rattle.std.proofs.Common.{sym, ◌∙◌}
use Rattle.std.specs.Prelude.{Bool, true, ◌&&◌, [], ◌∷◌, refl}
use Rattle.std.proofs.lemmas.Bool.{and_parts}
use Rattle.bincode_base.specs.Setting.{Setting}
use Rattle.bincode_spec.specs.Format.{Format}
use Rattle.bincode_spec.specs.Layers.Laws.{IsLawful, IsBalanced}
use Rattle.bincode_spec.specs.Meaning.{Meaning, IsNothing, IsThen}
use Rattle.bincode_spec.specs.Words.{nothing, first_and}
use Rattle.bincode_spec.specs.Allowed.{AllowedWord, SomeWord, OneLength, IsShortest}
use Rattle.bincode_lemmas.specs.RowLaws.{row-same}
use Rattle.bincode_lemmas.specs.SpelledLaws.{nothing-none_shorter}
use Rattle.bincode_lemmas.specs.AllowedLaws.{fewer-none_shorter}
use Rattle.bincode_lemmas.specs.TupleLaws.{units-laws, then-lawful, then-balanced, then-has_word, then-one_length, SameIn, then-same, then-shortest}

-- the two parts, and no more
abbrev pub pair_of : Format Meaning → Format Meaning → Format Meaning
pair_of F G = first_and F (first_and G nothing)

abbrev pub IsPair : (Meaning → Type 0) → (Meaning → Type 0) → Meaning → Type 0
IsPair P Q = IsThen P (IsThen Q IsNothing)

-- the laws of formats
module _ {F G : Format Meaning} (s : Setting) where
  pub pair-lawful : IsLawful F → IsLawful G → IsLawful (pair_of F G)
  pair-lawful f g = then-lawful f (then-lawful g (units-laws.lawful s))

  pub pair-balanced : IsBalanced F → IsBalanced G → IsBalanced (pair_of F G)
  pair-balanced f g = then-balanced f (then-balanced g (units-laws.balanced s))

  module _ {P Q : Meaning → Type 0} where
    -- a word, and words of one length
    pub pair-has_word : SomeWord (AllowedWord P F) → SomeWord (AllowedWord Q G) → SomeWord (AllowedWord (IsPair P Q) (pair_of F G))
    pair-has_word f g = then-has_word f (then-has_word g (units-laws.spelled s tt tt).has_word)

    pub pair-one_length : OneLength (AllowedWord P F) → OneLength (AllowedWord Q G) → OneLength (AllowedWord (IsPair P Q) (pair_of F G))
    pair-one_length f g = then-one_length f (then-one_length g (units-laws.spelled s tt tt).one_length)

    module _ {P' Q' : Meaning → Type 0} where
      -- no shorter word
      pub pair-shortest : IsShortest P P' F → IsShortest Q Q' G → IsShortest (IsPair P Q) (IsPair P' Q') (pair_of F G)
      pair-shortest f g = then-shortest f (then-shortest g (fewer-none_shorter (λ m h. h.0) (λ m h. h) nothing-none_shorter))

-- pairs are equal if their parts are
pub pair-same : {P Q P' Q' : Meaning → Type 0} {x y : Bool} → SameIn P P' x → SameIn Q Q' y → SameIn (IsPair P Q) (IsPair P' Q') (x && y)
pair-same {x = x} {y = y} f g m p q = sym (row-same x (y ∷ [])) ∙ then-same f (then-same {x = y} {y = true} g (λ n h k. refl)) m p q

-- and their first parts are equal, whatever the second
pub pair-first_same : {P Q P' Q' : Meaning → Type 0} {x : Bool} → SameIn P P' x → SameIn (IsPair P Q) (IsPair P' Q') x
pair-first_same {x = x} f m p q = (and_parts x true (then-same {x = x} {y = true} f (λ n h k. refl) m p q)).0
