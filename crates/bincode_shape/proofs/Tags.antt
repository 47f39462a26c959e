-- What follows the tag of a shape: the selected part, or the fault of an unknown tag.
use Rattle.std.specs.Prelude.{◌≡◌, ℕ, zero, suc, ◌+◌, ◌<◌, ◌≤◌, true, List, [], ◌∷◌, length, get_or, refl}
use Rattle.std.proofs.Common.{◌∙◌, ap, arith}
use Rattle.std.proofs.lemmas.Bool.{eq-eqb, ne_eqb}
use Rattle.bincode_base.specs.Setting.{Setting}
use Rattle.bincode_spec.specs.Fault.{Allowed, Between, UnexpectedVariant}
use Rattle.bincode_spec.specs.Format.{Format, fail, map_format}
use Rattle.bincode_spec.specs.Meaning.{Meaning, Choice}
use Rattle.bincode_spec.specs.Words.{variant_tags, in_order, last_of, allowed_tags, part}
use Rattle.bincode_lemmas.specs.ChoiceLaws.{part-here, part-there}
use Rattle.bincode_shape.specs.Shapes.{numbered_variants}

-- the tags go up from the first
in_order-numbered : (n : ℕ) (Fs : List (Setting → Format Meaning)) → in_order n (variant_tags (numbered_variants n Fs)) ≡ true
in_order-numbered n [] = refl
in_order-numbered n (F ∷ Fs) = rw (eq-eqb n n refl, in_order-numbered (n + 1) Fs) refl

last_of-numbered : (before n : ℕ) (F : Setting → Format Meaning) (Fs : List (Setting → Format Meaning)) → last_of before (variant_tags (numbered_variants n (F ∷ Fs))) ≡ n + length Fs
last_of-numbered before n F [] = omega arith
last_of-numbered before n F (G ∷ Fs) = let h = last_of-numbered n (n + 1) G Fs in omega (arith, h)

-- so a fault reports the last one
pub allowed-numbered : (F : Setting → Format Meaning) (Fs : List (Setting → Format Meaning)) → allowed_tags (variant_tags (numbered_variants 0 (F ∷ Fs))) ≡ Between 0 (length Fs)
allowed-numbered F Fs = let k : 0 + length Fs ≡ length Fs = omega arith in rw (in_order-numbered 0 (F ∷ Fs), last_of-numbered 0 0 F Fs, k) refl

module _ (s : Setting) (allowed : Allowed) where
  -- a tag selects the part of its number,
  pub numbered-here : (n i : ℕ) (Fs : List (Setting → Format Meaning)) (F : Setting → Format Meaning) → i < length Fs → get_or Fs i F ≡ F →
      part s (numbered_variants n Fs) allowed (n + i) ≡ map_format (Choice (n + i)) (F s)
  numbered-here n i [] F h e = absurd (omega arith)
  numbered-here n zero (G ∷ Fs) F h e =
      let k : n + 0 ≡ n = omega arith in
      rw k (part-here s allowed n G (numbered_variants (n + 1) Fs) ∙ ap (λ H. map_format (Choice n) (H s)) e)
  numbered-here n (suc i) (G ∷ Fs) F h e =
      let k : n + suc i ≡ n + 1 + i = omega arith in
      rw k (part-there s allowed (n + 1 + i) n G (numbered_variants (n + 1) Fs) (ne_eqb (n + 1 + i) n (λ q. omega (arith, q))) ∙ numbered-here (n + 1) i Fs F (omega (arith, h)) e)

  -- and one past them none
  pub numbered-none : (n found : ℕ) (Fs : List (Setting → Format Meaning)) → n + length Fs ≤ found → part s (numbered_variants n Fs) allowed found ≡ fail (UnexpectedVariant allowed found)
  numbered-none n found [] h = refl
  numbered-none n found (G ∷ Fs) h =
      part-there s allowed found n G (numbered_variants (n + 1) Fs) (ne_eqb found n (λ q. omega (arith, q, h))) ∙ numbered-none (n + 1) found Fs (omega (arith, h))
