-- Two readings of one input agree, since no word begins another.
use Rattle.std.specs.Prelude.{◌≡◌, ◌+◌, ℕ, List, length, Option, Result, Ok, Err, IfOk, MatchResult}
use Rattle.std.proofs.Common.{◌∙◌, ap, sym, subst, arith, length-append}
use Rattle.bincode_base.specs.declared.error.DecodeError.{DecodeError}
use Rattle.bincode_spec.specs.Layers.Agree.{SameReading}
use Rattle.bincode_spec.specs.Decoding.{MayReportMemory}
use Rattle.bincode_spec.specs.Format.{Format, Took}
use Rattle.bincode_spec.specs.Layers.Laws.{IsLawful}
use Rattle.bincode_spec.specs.Meaning.{Meaning}
use Rattle.bincode_spec.specs.Slice.{IsDecoded, FindsWords}

module _ {T : Type 0} (F : Format Meaning) (f : IsLawful F) (limit : Option ℕ) (MayAllocate : Type 0) (input : List ℕ) (DecodesTo : Meaning → T → Type 0) where
  same-reading : (x y : T × ℕ) → IsDecoded F limit input (λ m. DecodesTo m x.0) x.1 → IsDecoded F limit input (λ m. DecodesTo m y.0) y.1 → SameReading DecodesTo x y
  same-reading x y d e =
      let p : F.read input ≡ Took d.meaning d.remaining d.steps = ap F.read d.input_is ∙ f.word_read d.word d.remaining d.meaning d.steps d.is_word in
      let q : F.read input ≡ Took e.meaning e.remaining e.steps = ap F.read e.input_is ∙ f.word_read e.word e.remaining e.meaning e.steps e.is_word in
      let m : d.meaning ≡ e.meaning = cc in
      let r : d.remaining ≡ e.remaining = cc in
      let l : length d.word + length d.remaining ≡ length e.word + length e.remaining = sym (length-append d.word d.remaining) ∙ ap length (sym d.input_is) ∙ ap length e.input_is ∙ length-append e.word e.remaining in
      let s : length d.remaining ≡ length e.remaining = ap length r in
      let a = d.count in
      let b = e.count in
      record { same_length = omega (arith, l, s, a, b); meaning = e.meaning; first = subst (λ z. DecodesTo z x.0) m d.is_decoded; second = e.is_decoded }

  -- what one decodes the other does, or the error is `Memory` and decoding may allocate
  both-read : (x : T × ℕ) (r : Result (T × ℕ) DecodeError) → IsDecoded F limit input (λ m. DecodesTo m x.0) x.1 → IfOk r (λ y. IsDecoded F limit input (λ m. DecodesTo m y.0) y.1) →
      FindsWords F limit MayAllocate input r → MatchResult r (SameReading DecodesTo x) (MayReportMemory MayAllocate)
  both-read x (Ok y) d e finds = same-reading x y d e
  both-read x (Err why) d e finds = finds d.word d.remaining d.meaning d.steps d.input_is d.is_word d.within

  pub each-read : (a r : Result (T × ℕ) DecodeError) → IfOk a (λ x. IsDecoded F limit input (λ m. DecodesTo m x.0) x.1) → IfOk r (λ y. IsDecoded F limit input (λ m. DecodesTo m y.0) y.1) →
      FindsWords F limit MayAllocate input r → IfOk a (λ x. MatchResult r (SameReading DecodesTo x) (MayReportMemory MayAllocate))
  each-read (Ok x) r d e finds = both-read x r d e finds
  each-read (Err why) r d e finds = tt
