-- Decoding one input with two formats that have the same readings.
use Rattle.std.specs.Prelude.{◌≡◌, ◌⊎◌, ◌+◌, ℕ, List, length, Option, Result, Ok, Err, MatchResult, OnOk, refl}
use Rattle.std.proofs.Common.{◌∙◌, ap, sym, subst, inl, inr, arith, length-append}
use Rattle.bincode_base.specs.Setting.{Setting}
use Rattle.bincode_base.specs.declared.error.DecodeError.{DecodeError}
use Rattle.bincode_base.specs.declared.error.DecodeError.TheVariants.{LimitExceeded}
use Rattle.bincode_base.specs.declared.error.EncodeError.{EncodeError}
use Rattle.bincode_spec.specs.Layers.Alike.{TellAlike, both_passed, both_tell}
use Rattle.bincode_spec.specs.Allowed.{AllowedWord}
use Rattle.bincode_spec.specs.Answer.{Answer, Gave, Refused, PassedLimit, StepsOf, of_word, of_fault, answer}
use Rattle.bincode_spec.specs.Charge.{Step}
use Rattle.bincode_spec.specs.Decoding.{MayReportMemory}
use Rattle.bincode_spec.specs.Encoding.{Adds, Writes}
use Rattle.bincode_spec.specs.Fault.{Fault, Tells}
use Rattle.bincode_spec.specs.Format.{Format, Took}
use Rattle.bincode_spec.specs.Layers.Laws.{IsLawful, IsBalanced}
use Rattle.bincode_spec.specs.Meaning.{Meaning}
use Rattle.bincode_spec.specs.Slice.{IsDecoded, EndsSlice, FindsWords, IsAnswer}
use Rattle.bincode_lemmas.specs.AnswerLaws.{gave-word, refused-fault, passed-limit}
use Rattle.bincode_shape.specs.declared.shape.Shape.{Shape}
use Rattle.bincode_shape.specs.declared.shape.Value.{Value}
use Rattle.bincode_shape.specs.Rows.{AllowsImage}
use Rattle.bincode_shape.specs.Same.{SameWords}
use Rattle.bincode_shape.specs.ShapeLaws.{format_of-lawful}
use Rattle.bincode_shape.specs.Shapes.{format_of, TakesMemory, IsImage, meaning}
use Rattle.bincode_types.specs.TypeWords.{Words}
use Rattle.proved_callers.specs.Shaped.{ReadsAlike, AllowsEachValue, AllowsEachImage}

module _ (F G : Format Meaning) (f : IsLawful F) (g : IsLawful G) (same : G.read ≡ F.read) (limit : Option ℕ) (input : List ℕ) where
  same_read : G.read input ≡ F.read input
  same_read = ap (λ read. read input) same

  -- each word of the one is one of the other
  word_found : (DecodesTo : Meaning → Type 0) (n : ℕ) → IsDecoded F limit input DecodesTo n → (A : Type 0) (MayAllocate : Type 0) (result : Result A DecodeError) →
      FindsWords G limit MayAllocate input result → MatchResult result (λ _. Unit {0}) (MayReportMemory MayAllocate)
  word_found DecodesTo n d A MayAllocate result found =
      let p : F.read input ≡ Took d.meaning d.remaining d.steps = ap F.read d.input_is ∙ f.word_read d.word d.remaining d.meaning d.steps d.is_word in
      let w = g.read_word input d.remaining d.meaning d.steps (same_read ∙ p) in
      found w.word d.remaining d.meaning d.steps w.input_is w.is_word d.within

  -- and each step of a word, or before a fault
  steps_carried : (steps : List Step) → StepsOf F input steps → StepsOf G input steps
  steps_carried steps (of_word word rest m u e) =
      let w = g.read_word input rest m steps (same_read ∙ ap F.read e ∙ f.word_read word rest m steps u) in
      of_word w.word rest m w.is_word w.input_is
  steps_carried steps (of_fault why h) = of_fault why (g.read_fault input why steps (same_read ∙ f.fault_read input why steps h))

  module _ (DecodesTo : Meaning → Type 0) (DecodesTo' : Meaning → Type 0) (n n' : ℕ) (d : IsDecoded F limit input DecodesTo n) (e : IsDecoded G limit input DecodesTo' n') where
    same_meaning : d.meaning ≡ e.meaning
    same_meaning =
        let p : F.read input ≡ Took d.meaning d.remaining d.steps = ap F.read d.input_is ∙ f.word_read d.word d.remaining d.meaning d.steps d.is_word in
        let q : G.read input ≡ Took e.meaning e.remaining e.steps = ap G.read e.input_is ∙ g.word_read e.word e.remaining e.meaning e.steps e.is_word in
        let s = same_read in
        cc

    same_count : n' ≡ n
    same_count =
        let p : F.read input ≡ Took d.meaning d.remaining d.steps = ap F.read d.input_is ∙ f.word_read d.word d.remaining d.meaning d.steps d.is_word in
        let q : G.read input ≡ Took e.meaning e.remaining e.steps = ap G.read e.input_is ∙ g.word_read e.word e.remaining e.meaning e.steps e.is_word in
        let s = same_read in
        let r : d.remaining ≡ e.remaining = cc in
        let k : length d.remaining ≡ length e.remaining = ap length r in
        let l : length d.word + length d.remaining ≡ length e.word + length e.remaining = sym (length-append d.word d.remaining) ∙ ap length (sym d.input_is) ∙ ap length e.input_is ∙ length-append e.word e.remaining in
        let a = d.count in
        let b = e.count in
        omega (arith, l, k, a, b)

  -- two errors
  module _ (MayAllocate MayAllocate' : Type 0) (d e : DecodeError) where
    abbrev Said : Type 0
    Said = MayReportMemory MayAllocate d ⊎ (MayReportMemory MayAllocate' e ⊎ TellAlike EndsSlice EndsSlice d e)

    both_fault : (why : Fault) → Tells EndsSlice why d ⊎ MayReportMemory MayAllocate d → Tells EndsSlice why e ⊎ MayReportMemory MayAllocate' e → Said
    both_fault why (inr h) q = inl h
    both_fault why (inl h) (inr k) = inr (inl k)
    both_fault why (inl h) (inl k) = inr (inr (both_tell why h k))

    both_limit : (d ≡ LimitExceeded) ⊎ MayReportMemory MayAllocate d → (e ≡ LimitExceeded) ⊎ MayReportMemory MayAllocate' e → Said
    both_limit (inr h) q = inl h
    both_limit (inl h) (inr k) = inr (inl k)
    both_limit (inl h) (inl k) = inr (inr (both_passed h k))

    by_answer : (b : IsBalanced F) {T T' : Type 0} (DecodesTo : Meaning → T → Type 0) (DecodesTo' : Meaning → T' → Type 0) →
        IsAnswer F limit MayAllocate DecodesTo input (Err d) → IsAnswer G limit MayAllocate' DecodesTo' input (Err e) → (a : Answer Meaning) → answer limit F input 0 ≡ a → Said
    by_answer b DecodesTo DecodesTo' p q (Gave m rest after) h =
        let w = gave-word F f b limit input rest m after h in
        inl (p.found w.word rest m w.steps w.input_is w.is_word w.within)
    by_answer b DecodesTo DecodesTo' p q (Refused why after) h =
        let k = refused-fault F f b limit input why after h in
        both_fault why (p.fault why k.0 k.1 k.2) (q.fault why k.0 (g.read_fault input why k.0 (same_read ∙ f.fault_read input why k.0 k.1)) k.2)
    by_answer b DecodesTo DecodesTo' p q PassedLimit h =
        let k = passed-limit F f b limit input h in
        both_limit (p.limit k.0 k.1 k.2) (q.limit k.0 (steps_carried k.0 k.1) k.2)

-- a type, and a shape that describes it
module _ {T : Type 0} (W : Words T) (shape : Shape) (s : Setting) (h : SameWords (format_of shape s) (W.format s)) where
  pub reads-alike : (limit : Option ℕ) (input : List ℕ) (r : Result (T × ℕ) DecodeError) (v : Result (Value × ℕ) DecodeError) →
      IsAnswer (W.format s) limit W.may_allocate W.decodes_to input r → IsAnswer (format_of shape s) limit (TakesMemory shape) (IsImage shape) input v →
      ReadsAlike W.decodes_to W.may_allocate shape r v
  reads-alike limit input (Ok x) (Ok y) p q =
      let F = W.format s in
      let G = format_of shape s in
      let f = W.lawful s in
      let g = format_of-lawful shape s in
      let d = p.word in
      let e = q.word in
      let m = same_meaning F G f g h.read limit input _ _ _ _ d e in
      record {
        same_length = same_count F G f g h.read limit input _ _ _ _ d e;
        is_image = (e.is_decoded.0, refl);
        same_meaning = subst (λ z. W.decodes_to z x.0) (m ∙ e.is_decoded.1) d.is_decoded;
      }
  reads-alike limit input (Ok x) (Err e) p q =
      word_found (W.format s) (format_of shape s) (W.lawful s) (format_of-lawful shape s) h.read limit input _ _ p.word (Value × ℕ) _ (Err e) q.found
  reads-alike limit input (Err d) (Ok y) p q =
      word_found (format_of shape s) (W.format s) (format_of-lawful shape s) (W.lawful s) (sym h.read) limit input _ _ q.word (T × ℕ) _ (Err d) p.found
  reads-alike limit input (Err d) (Err e) p q =
      by_answer (W.format s) (format_of shape s) (W.lawful s) (format_of-lawful shape s) h.read limit input W.may_allocate (TakesMemory shape) d e (W.balanced s) W.decodes_to (IsImage shape) p q
      (answer limit (W.format s) input 0) refl

  -- what one format writes the other writes
  pub image-allowed : (image : Value) (word : List ℕ) → AllowsImage s shape image word → AllowsEachValue s W image word
  image-allowed image word a = λ v means. record {
    meaning = meaning image;
    is_meant = means;
    is_written = subst (λ m. (W.format s).Written word m) a.is_meant (h.written.0 word a.meaning a.is_written);
  }

  pub value-allowed : (v : T) (word : List ℕ) → AllowedWord (W.means v) (W.format s) word → AllowsEachImage s W shape v word
  value-allowed v word a = λ image means. record {
    meaning = a.meaning;
    is_meant = means a.meaning a.is_meant;
    is_written = h.written.1 word a.meaning a.is_written;
  }

-- another word that is allowed
pub writes-also : {W : Type 0} (adds : Adds W) (A B : List ℕ → Type 0) (before after : W) → ((word : List ℕ) → A word → B word) →
    (result : Result (Unit {0}) EncodeError) → OnOk result (Writes adds A before after) → OnOk result (Writes adds B before after)
writes-also adds A B before after also (Ok v) w = record { word = w.word; is_allowed = also w.word w.is_allowed; added = w.added }
writes-also adds A B before after also (Err e) w = tt
