-- Decoding a choice, from decoding its tag and its part.
use Rattle.std.specs.Prelude.{◌≡◌, ℕ, ◌≤◌, ◌==◌, List, Option, refl}
use Rattle.std.proofs.Common.{◌∙◌}
use Rattle.std.proofs.lemmas.Bool.{eq-eqb, ne_eqb}
use Rattle.bincode_spec.specs.Device.{DeviceErrors}
use Rattle.bincode_base.specs.declared.error.DecodeError.{DecodeError}
use Rattle.bincode_base.specs.Setting.{Setting}
use Rattle.bincode_spec.specs.Format.{Format, map_format}
use Rattle.bincode_spec.specs.Layers.Laws.{IsLawful}
use Rattle.bincode_spec.specs.Meaning.{Meaning, Choice}
use Rattle.bincode_spec.specs.Words.{Variant, if_picked, after_tag, tag_then_part}
use Rattle.bincode_spec.specs.Choices.{IsChoice}
use Rattle.bincode_spec.specs.Answer.{Gave, answer}
use Rattle.bincode_spec.specs.Decoding.{Decodes, DecodeFailure}
use Rattle.bincode_lemmas.specs.DecodingLaws.{answer-next, stops-first, stops-next, stops-besides, map-gave, map-stops}

module _ (limit : Option ℕ) (tags : Setting → Format ℕ) (variants : List Variant) (s : Setting) (input : List ℕ) (c : ℕ) where
  -- if decoding the tag fails, so does the whole
  pub choice-stops_tag :
      (end_error : ℕ → DecodeError → Type 0) (device : DeviceErrors) (K : Type 0) (before after : ℕ) (remaining : List ℕ) {now : ℕ} (e : DecodeError) →
      DecodeFailure end_error device ⊥ (answer limit (tags s) input c) before after input remaining now e →
      DecodeFailure end_error device K (answer limit (tag_then_part tags variants s) input c) before after input remaining now e
  unfolding tag_then_part
  choice-stops_tag end_error device K before after remaining e = stops-first end_error device ⊥ K (λ h. absurd h) limit (tags s) (after_tag variants s) input c before after remaining e

  module _ (found : ℕ) (middle : List ℕ) (d : ℕ) (gave : answer limit (tags s) input c ≡ Gave found middle d) where
    -- what follows the tag is the whole
    pub choice-decodes : (P : Meaning → Type 0) (remaining : List ℕ) (after : ℕ) →
        Decodes P (answer limit (after_tag variants s found) middle d) remaining after →
        Decodes P (answer limit (tag_then_part tags variants s) input c) remaining after
    unfolding tag_then_part
    choice-decodes P remaining after p = record { meaning = p.meaning; answer_is = answer-next limit (tags s) (after_tag variants s) input c found middle d gave ∙ p.answer_is; is_decoded = p.is_decoded }

    -- and if decoding that fails, so does the whole
    pub choice-stops_part : IsLawful (tags s) →
        (end_error : ℕ → DecodeError → Type 0) (device : DeviceErrors) (H : Type 0) (before between after : ℕ) (remaining : List ℕ) {now : ℕ} (e : DecodeError) →
        before ≤ between → DecodeFailure end_error device H (answer limit (after_tag variants s found) middle d) between after middle remaining now e →
        DecodeFailure end_error device H (answer limit (tag_then_part tags variants s) input c) before after input remaining now e
    unfolding tag_then_part
    choice-stops_part t end_error device H before between after remaining e =
        stops-next end_error device H H (λ h. h) limit (tags s) (after_tag variants s) t input c before between after found middle remaining d e gave

module _ (limit : Option ℕ) (found tag : ℕ) (F others : Format Meaning) (input : List ℕ) (c : ℕ) where
  -- the tag selects the first part
  pub here-decodes : found ≡ tag → (P : Meaning → Type 0) (remaining : List ℕ) (d : ℕ) → Decodes P (answer limit F input c) remaining d →
      Decodes (IsChoice found P) (answer limit (if_picked (found == tag) (map_format (Choice found) F) others) input c) remaining d
  here-decodes same P remaining d p = record {
    meaning = Choice found p.meaning;
    answer_is = rw (eq-eqb found tag same) (map-gave (Choice found) limit F input c p.meaning remaining d p.answer_is);
    is_decoded = record { part = p.meaning; meaning_is = refl; is_part = p.is_decoded };
  }

  module _ (end_error : ℕ → DecodeError → Type 0) (device : DeviceErrors) (H K : Type 0) (grow : H → K) (before after : ℕ) (remaining : List ℕ) {now : ℕ} (e : DecodeError) where
    pub here-stops : found ≡ tag → DecodeFailure end_error device H (answer limit F input c) before after input remaining now e →
        DecodeFailure end_error device K (answer limit (if_picked (found == tag) (map_format (Choice found) F) others) input c) before after input remaining now e
    here-stops same p = rw (eq-eqb found tag same) (stops-besides end_error device H K grow _ before after input remaining e (map-stops (Choice found) end_error device H limit F input c before after remaining e p))

    -- the tag selects one of the others
    pub there-stops : (found ≡ tag → ⊥) → DecodeFailure end_error device H (answer limit others input c) before after input remaining now e →
        DecodeFailure end_error device K (answer limit (if_picked (found == tag) (map_format (Choice found) F) others) input c) before after input remaining now e
    there-stops differ p = rw (ne_eqb found tag differ) (stops-besides end_error device H K grow _ before after input remaining e p)
