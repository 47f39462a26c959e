-- Measure first, then decode.
use Rattle.std.specs.Prelude.{◌≡◌, ◌⊎◌, ◌^◌, ◌<◌, ◌≤◌, ◌++◌, ℕ, List, Option}
use Rattle.std.proofs.Common.{◌∙◌, ap, sym, subst, arith, inl, inr, refl}
use Rattle.bincode_base.specs.Setting.{Setting}
use Rattle.bincode_base.specs.declared.error.DecodeError.{DecodeError}
use Rattle.bincode_base.specs.declared.error.DecodeError.TheVariants.{LimitExceeded}
use Rattle.bincode_spec.specs.Charge.{Step}
use Rattle.bincode_spec.specs.Decoding.{MayReportMemory}
use Rattle.bincode_spec.specs.Fault.{Fault, Tells}
use Rattle.bincode_spec.specs.Format.{Format, Reading, Took}
use Rattle.bincode_spec.specs.Layers.Laws.{IsLawful}
use Rattle.bincode_spec.specs.Meaning.{Meaning}
use Rattle.bincode_spec.specs.Slice.{IsDecoded, EndsSlice}
use Rattle.bincode_shape.specs.Counts.{values_in, count_of, as_u128, IsCounted}
use Rattle.bincode_shape.specs.CountLaws.{image-counted}
use Rattle.bincode_shape.specs.ShapeLaws.{format_of-lawful}
use Rattle.bincode_shape.specs.Shapes.{format_of, IsImage}
use Rattle.bincode_shape.specs.declared.shape.Shape.{Shape}
use Rattle.bincode_shape.specs.declared.shape.Value.{Value}
use Rattle.bincode_shape_codec.specs.Within.{IsTooMany, IsDecode}
use Rattle.bincode_shape_codec.specs.declared.within.DecodeWithinError.TheVariants as errors

took-same : (a b : Meaning) (r q : List ℕ) (s t : List Step) → ◌≡◌ {A = Reading Meaning} (Took a r s) (Took b q t) → a ≡ b
took-same a b r q s t e = cc

-- all words that begin an input have one meaning
same-meaning : (F : Format Meaning) → IsLawful F → (input word remaining : List ℕ) (m : Meaning) (steps : List Step) → input ≡ word ++ remaining → F.Word word m steps →
    (limit : Option ℕ) (DecodesTo : Meaning → Type 0) (n : ℕ) (d : IsDecoded F limit input DecodesTo n) → d.meaning ≡ m
same-meaning F f input word remaining m steps i w limit DecodesTo n d =
    took-same d.meaning m d.remaining remaining d.steps steps
    (sym (f.word_read d.word d.remaining d.meaning d.steps d.is_word) ∙ ap (λ z. F.read z) (sym d.input_is ∙ i) ∙ f.word_read word remaining m steps w)

few : (values k most : ℕ) → values ≡ as_u128 k → values ≤ most → most < 2 ^ 64 → k ≤ most
few values k most e h small = omega (arith, e, h, small)

more : (values k most : ℕ) → values ≡ as_u128 k → most < values → most < k
more values k most e h = omega (arith, e, h)

module _ (shape : Shape) (s : Setting) (limit : Option ℕ) (input : List ℕ) (values n most : ℕ) (d : IsDecoded (format_of shape s) limit input (λ m. IsCounted shape m values) n) where
  its-count : (word remaining : List ℕ) (m : Meaning) (steps : List Step) → input ≡ word ++ remaining → (format_of shape s).Word word m steps → values ≡ as_u128 (count_of shape m)
  its-count word remaining m steps i w =
      d.is_decoded ∙ ap (λ z. as_u128 (count_of shape z)) (same-meaning (format_of shape s) (format_of-lawful shape s) input word remaining m steps i w limit (λ k. IsCounted shape k values) n d)

  -- it has more values than are allowed
  pub many-found : most < values → (word remaining : List ℕ) (m : Meaning) (steps : List Step) → input ≡ word ++ remaining → (format_of shape s).Word word m steps → count_of shape m ≤ most → ⊥
  many-found over word remaining m steps i w h = let k = more values (count_of shape m) most (its-count word remaining m steps i w) over in omega (arith, k, h)

  pub many-refused : (word remaining : List ℕ) (m : Meaning) (steps : List Step) → input ≡ word ++ remaining → (format_of shape s).Word word m steps →
      IsTooMany (as_u128 (count_of shape m)) most (errors.TooManyValues values most)
  many-refused word remaining m steps i w = ap (λ z. errors.TooManyValues z most) (its-count word remaining m steps i w)

  module _ (le : values ≤ most) (small : most < 2 ^ 64) where
    -- it has no more
    pub few-refused : (word remaining : List ℕ) (m : Meaning) (steps : List Step) → input ≡ word ++ remaining → (format_of shape s).Word word m steps → most < count_of shape m → ⊥
    few-refused word remaining m steps i w h = let k = few values (count_of shape m) most (its-count word remaining m steps i w) le small in omega (arith, k, h)

    pub few-word : (v : Value) (k : ℕ) → IsDecoded (format_of shape s) limit input (λ m. IsImage shape m v) k →
        IsDecoded (format_of shape s) limit input (λ m. IsImage shape m v × (values_in v ≤ most)) k
    few-word v k e = record {
      word = e.word;
      remaining = e.remaining;
      meaning = e.meaning;
      steps = e.steps;
      input_is = e.input_is;
      is_word = e.is_word;
      within = e.within;
      count = e.count;
      is_decoded = (
        e.is_decoded,
        subst (λ z. z ≤ most) (image-counted shape e.meaning v e.is_decoded)
            (few values (count_of shape e.meaning) most (its-count e.word e.remaining e.meaning e.steps e.input_is e.is_word) le small),
      );
    }

-- a fault that was measured
pub told-fault : (why : Fault) (e : DecodeError) → Tells EndsSlice why e ⊎ MayReportMemory ⊥ e → IsDecode (Tells EndsSlice why) (errors.Decode e)
told-fault why e (inl h) = (e, refl, h)
told-fault why e (inr h) = absurd h.0

pub told-limit : (e : DecodeError) → (e ≡ LimitExceeded) ⊎ MayReportMemory ⊥ e → IsDecode (λ z. z ≡ LimitExceeded) (errors.Decode e)
told-limit e (inl h) = (e, refl, h)
told-limit e (inr h) = absurd h.0
