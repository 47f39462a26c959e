-- What is left of a stream whose bytes are known, by what a window shows.
use Rattle.std.specs.Prelude.{◌≡◌, ◌≢◌, ◌++◌, ◌<◌, ◌↔◌, ℕ, List, [], length, Option, Some, None, Err, IfSome, true, false}
use Rattle.std.proofs.Common.{sym, ◌∙◌, ap, subst, arith, append-nil, length-append}
use Rattle.std.specs.Io.KnownBytes.{Keeps, IsAtEnd, prepend_known}
use Rattle.bincode_base.specs.declared.error.DecodeError.{DecodeError}
use Rattle.bincode_spec.specs.Layers.Agree.{IsCut}
use Rattle.bincode_spec.specs.Layers.Laws.{IsLawful, IsBalanced}
use Rattle.bincode_spec.specs.Format.{Format}
use Rattle.bincode_spec.specs.Meaning.{Meaning}
use Rattle.bincode_spec.specs.Slice.{FindsWords, TellsFaults, KeepsLimit}
use Rattle.shape_text.specs.Refusals.{IsRefusedFor, AreRefused}
use Rattle.shape_text.proofs.Longer.{refused-here, refused-longer}

some-left : (shown left : List ℕ) → 0 < length shown → shown ++ left ≢ []
some-left shown left some none =
    let whole : length (shown ++ left) ≡ 0 = ap length none in
    let both = length-append shown left in
    omega (arith, some, whole, both)

-- where a byte is shown, one is left
pub shown-left : (before now : Option (List ℕ)) (shown : List ℕ) → Keeps before (prepend_known shown now) → 0 < length shown → IfSome before (λ left. true ≡ false ↔ left ≡ [])
shown-left None now shown kept some = tt
shown-left (Some xs) None shown kept some = absurd kept
shown-left (Some xs) (Some left) shown kept some = (λ no. absurd (cc), λ none. absurd (some-left shown left some (kept ∙ none)))

module _ (F : Format Meaning) (f : IsLawful F) (b : IsBalanced F) (limit : Option ℕ) (shown : List ℕ) (e : DecodeError) (some : 0 < length shown)
    (found : FindsWords {A = Unit {0}} F limit ⊥ shown (Err e)) (told : TellsFaults {A = Unit {0}} F limit ⊥ shown (Err e)) (kept : KeepsLimit {A = Unit {0}} F limit ⊥ shown (Err e)) where
  -- an error that is no end holds of all that is left
  pub shown-refused : (left : Option (List ℕ)) → ¬ (IsCut e) → AreRefused F limit (prepend_known shown left) e
  shown-refused None n = tt
  shown-refused (Some left) n = (some-left shown left some, refused-longer F f b limit shown e found told kept left n)

  -- and so does an end, where nothing is left after what is shown
  pub end-refused : (before now : Option (List ℕ)) (shown' : List ℕ) → Keeps (prepend_known shown before) (prepend_known shown' now) → shown' ≡ shown → IsAtEnd now →
      AreRefused F limit (prepend_known shown before) e
  end-refused None now shown' keeps same end = tt
  end-refused (Some left) None shown' keeps same end = absurd keeps
  end-refused (Some left) (Some more) shown' keeps same end =
      let all : shown ++ left ≡ shown = sym keeps ∙ ap (λ z. shown' ++ z) end ∙ append-nil shown' ∙ same in
      (some-left shown left some, subst (λ z. IsRefusedFor F limit z e) (sym all) (refused-here F f b limit shown e found told kept))
