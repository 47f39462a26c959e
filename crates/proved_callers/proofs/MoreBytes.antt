-- Decoding from some bytes, and from the first of them.
use Rattle.std.specs.Prelude.{◌≡◌, ◌⊎◌, ◌++◌, ◌<◌, ◌≤◌, ℕ, List, length, take, drop, Option, Result, Ok, Err, IfOk}
use Rattle.std.proofs.Common.{◌∙◌, sym, ap, subst, arith}
use Rattle.std.proofs.lemmas.List.{take-append-drop, take-append-le, length-drop}
use Rattle.bincode_base.specs.declared.error.DecodeError.{DecodeError}
use Rattle.bincode_spec.specs.Layers.Agree.{SameAnswer, WasCut, WasRefused}
use Rattle.bincode_spec.specs.Format.{Format}
use Rattle.bincode_spec.specs.Layers.Laws.{IsLawful, IsBalanced}
use Rattle.bincode_spec.specs.Meaning.{Meaning}
use Rattle.bincode_spec.specs.Slice.{IsAnswer}
use Rattle.bincode_lemmas.specs.CutLaws.{longer-answers, front-ends}

module _ {T : Type 0} (F : Format Meaning) (f : IsLawful F) (b : IsBalanced F) (limit : Option ℕ) (MayAllocate : Type 0) (DecodesTo : Meaning → T → Type 0) (bytes : List ℕ) (count : ℕ) where
  -- a result for the first that is no end is the result for all
  pub same-longer : (a c : Result (T × ℕ) DecodeError) → IsAnswer F limit MayAllocate DecodesTo (take count bytes) a → IsAnswer F limit MayAllocate DecodesTo bytes c →
      ¬ (WasCut a) → WasRefused MayAllocate a ⊎ (WasRefused MayAllocate c ⊎ SameAnswer DecodesTo a c)
  same-longer a c p q n =
      longer-answers F f b limit MayAllocate DecodesTo (take count bytes) (drop count bytes) a c p
      (subst (λ z. IsAnswer F limit MayAllocate DecodesTo z c) (sym (take-append-drop count bytes)) q) n

  -- if the word goes on after the first, their error is an end
  pub front-cut : count ≤ length bytes → (a c : Result (T × ℕ) DecodeError) → IsAnswer F limit MayAllocate DecodesTo (take count bytes) a → IsAnswer F limit MayAllocate DecodesTo bytes c →
      IfOk c (λ x. count < x.1 → WasCut a ⊎ WasRefused MayAllocate a)
  front-cut h a (Err e) p q = tt
  front-cut h a (Ok x) p q = λ less.
      let d = q.word in
      let size = d.count in
      let within : count ≤ length d.word = omega (arith, less, size) in
      let first : take count bytes ≡ take count d.word = ap (take count) d.input_is ∙ take-append-le count d.word d.remaining within in
      let split : d.word ≡ take count bytes ++ drop count d.word = sym (take-append-drop count d.word) ∙ ap (λ z. z ++ drop count d.word) (sym first) in
      let left = length-drop count d.word in
      front-ends F f b limit MayAllocate DecodesTo (take count bytes) (drop count d.word) d.meaning d.steps (subst (λ z. F.Word z d.meaning d.steps) split d.is_word) d.within
      (λ none. let none : length (drop count d.word) ≡ 0 = ap length none in omega (arith, less, size, left, none)) a p
