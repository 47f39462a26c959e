-- The answers to each longer input, and to each prefix of one, from a slice.
use Rattle.std.specs.Prelude.{◌≡◌, ◌⊎◌, ◌++◌, ◌<◌, ◌+◌, ℕ, List, [], ◌∷◌, length, Option, Some, None, Result, Ok, Err, IsErrAnd, refl}
use Rattle.std.specs.List.{All}
use Rattle.std.proofs.Common.{sym, ◌∙◌, ap, subst, inl, inr, arith, append_assoc, append-nil, length-append}
use Rattle.bincode_base.specs.declared.error.DecodeError.{DecodeError}
use Rattle.bincode_base.specs.declared.error.DecodeError.TheVariants.{LimitExceeded, Memory}
use Rattle.bincode_spec.specs.Layers.Agree.{SameReading, SameAnswer, both_passed, both_tell, IsCut, WasCut, WasRefused}
use Rattle.bincode_spec.specs.Answer.{Answer, Gave, Refused, PassedLimit, StepsOf, of_word, of_fault, answer}
use Rattle.bincode_spec.specs.Charge.{Step, StaysWithin, Passes}
use Rattle.bincode_spec.specs.Decoding.{MayReportMemory}
use Rattle.bincode_spec.specs.Fault.{Fault, Tells, IsEnd, End, InvalidInteger, Zero, UnexpectedVariant, Utf8, InvalidChar, InvalidBool, Between, OneOf, short, long}
use Rattle.bincode_spec.specs.Fault.{InvalidDuration, NulAt, Other, LengthMismatch, EmptyEnum, OutsideUsize}
use Rattle.bincode_spec.specs.Format.{Format, Reading, Took, Failed}
use Rattle.bincode_spec.specs.Layers.Laws.{IsLawful, IsBalanced, IsAnswered, steps_of}
use Rattle.bincode_spec.specs.Meaning.{Meaning}
use Rattle.bincode_spec.specs.Slice.{IsDecoded, EndsSlice, IsAnswer}
use Rattle.bincode_lemmas.specs.AnswerLaws.{gave-word, refused-fault, passed-limit}
use Rattle.bincode_lemmas.specs.FormatLaws.{one-word, end-or-other}

-- faults

-- the error of an end says how many bytes are missing
pub end-told : (fault : Fault) (e : DecodeError) → IsEnd fault → Tells EndsSlice fault e → IsCut e
end-told (End (Some missing)) e h t = (missing, t)
end-told (End None) e h t = t
end-told (InvalidInteger _ _) e h t = absurd h
end-told (Zero _) e h t = absurd h
end-told (UnexpectedVariant _ _) e h t = absurd h
end-told Utf8 e h t = absurd h
end-told (InvalidChar _) e h t = absurd h
end-told (InvalidBool _) e h t = absurd h
end-told (InvalidDuration _ _) e h t = absurd h
end-told (NulAt _) e h t = absurd h
end-told (Other _) e h t = absurd h
end-told (LengthMismatch _ _) e h t = absurd h
end-told EmptyEnum e h t = absurd h
end-told (OutsideUsize _) e h t = absurd h

-- another error does not
other_told : (fault : Fault) (e : DecodeError) → ¬ (IsEnd fault) → Tells EndsSlice fault e → ¬ (IsCut e)
other_told (End _) e h t c = h tt
other_told (InvalidInteger _ _) e h t c = let p = c.1 in cc
other_told (Zero _) e h t c = let p = c.1 in cc
other_told (UnexpectedVariant (Between min max) _) e h t c = let p = c.1 in let q = t.1 in cc
other_told (UnexpectedVariant (OneOf tags) _) e h t c = let p = c.1 in let q = t.1.1 in cc
other_told Utf8 e h t c = let p = c.1 in let q = t.1 in cc
other_told (InvalidChar _) e h t c = let p = c.1 in cc
other_told (InvalidBool _) e h t c = let p = c.1 in cc
other_told (InvalidDuration _ _) e h t c = let p = c.1 in cc
other_told (NulAt _) e h t c = let p = c.1 in cc
other_told (Other _) e h (short text i same) c = let p = c.1 in cc
other_told (Other _) e h (long text i same) c = let p = c.1 in cc
other_told (LengthMismatch _ _) e h t c = let p = c.1 in cc
other_told EmptyEnum e h t c = let p = c.1 in let q = t.1 in cc
other_told (OutsideUsize _) e h t c = let p = c.1 in cc

-- steps

-- a prefix of steps that stay within a limit does so too
pub front-within : (limit : Option ℕ) (front back : List Step) → StaysWithin limit 0 (front ++ back) → StaysWithin limit 0 front
front-within None front back h = tt
front-within (Some n) front back h = λ a b e. h a (b ++ back) (ap (λ z. z ++ back) e ∙ append_assoc a b back)

-- steps with a prefix that passes a limit pass it too
more_passes : (limit : Option ℕ) (front back : List Step) → Passes limit 0 front → Passes limit 0 (front ++ back)
more_passes None front back h = absurd h
more_passes (Some n) front back h = (h.0, h.1 ++ back, ap (λ z. z ++ back) h.2 ∙ append_assoc h.0 h.1 back, h.3)

-- an error that says that the input ended says nothing else
not_memory : (e : DecodeError) → IsCut e → e ≡ Memory → ⊥
not_memory e c h = let p = c.1 in cc

not_limit : (e : DecodeError) → IsCut e → e ≡ LimitExceeded → ⊥
not_limit e c h = let p = c.1 in cc

nothing_left : (bytes : List ℕ) → length bytes ≡ 0 → bytes ≡ []
nothing_left [] h = refl
nothing_left (x ∷ bytes) h = absurd (cc)

answered_end : (r : Reading Meaning) (why : Fault) (steps : List Step) → IsEnd why → r ≡ Failed why steps → IsAnswered r → ⊥
answered_end (Took m remaining steps') why steps h e a = cc
answered_end (Failed fault steps') why steps h e a = let p : fault ≡ why = cc in a (subst IsEnd (sym p) h)

module _ (F : Format Meaning) (f : IsLawful F) (b : IsBalanced F) (limit : Option ℕ) where
  steps_read : (input : List ℕ) (r : Reading Meaning) → F.read input ≡ r → StepsOf F input (steps_of r)
  steps_read input (Took m remaining steps) e = let q = f.read_word input remaining m steps e in of_word q.word remaining m q.is_word q.input_is
  steps_read input (Failed why steps) e = of_fault why (f.read_fault input why steps e)

  -- steps that pass the limit are followed by such in each longer input
  longer_passes : (input more : List ℕ) (steps : List Step) → StepsOf F input steps → Passes limit 0 steps → (later : List Step) × StepsOf F (input ++ more) later × Passes limit 0 later
  longer_passes input more steps (of_word word remaining m u e) p =
      (steps, of_word word (remaining ++ more) m u (ap (λ z. z ++ more) e ∙ append_assoc word remaining more), p)
  longer_passes input more steps (of_fault why h) p = elim (end-or-other why) [
    | inl k ↦
        let g = f.begun input more why steps k (f.fault_read input why steps h) in
        (steps_of (F.read (input ++ more)), steps_read (input ++ more) (F.read (input ++ more)) refl, subst (Passes limit 0) (sym g.1) (more_passes limit steps g.0 p))
    | inr k ↦
        (steps, of_fault why (f.read_fault (input ++ more) why steps (f.stays input more why steps k (f.fault_read input why steps h))), p)
  ]

  module _ {T : Type 0} (MayAllocate : Type 0) (DecodesTo : Meaning → T → Type 0) where
    same_reading : (x y : T × ℕ) (word remaining remaining' : List ℕ) (m : Meaning) (steps : List Step) → F.Word word m steps →
        IsDecoded F limit (word ++ remaining) (λ z. DecodesTo z x.0) x.1 → IsDecoded F limit (word ++ remaining') (λ z. DecodesTo z y.0) y.1 → SameReading DecodesTo x y
    same_reading x y word remaining remaining' m steps u d e =
        let p = one-word f word d.word remaining d.remaining m d.meaning steps d.steps u d.is_word d.input_is in
        let q = one-word f word e.word remaining' e.remaining m e.meaning steps e.steps u e.is_word e.input_is in
        record {
          same_length = d.count ∙ ap length (sym p.0 ∙ q.0) ∙ sym e.count;
          meaning = m;
          first = subst (λ z. DecodesTo z x.0) (sym p.1) d.is_decoded;
          second = subst (λ z. DecodesTo z y.0) (sym q.1) e.is_decoded;
        }

    -- if a word within the limit begins both inputs, both are read alike
    both_read : (a c : Result (T × ℕ) DecodeError) (word remaining remaining' : List ℕ) (m : Meaning) (steps : List Step) → F.Word word m steps → StaysWithin limit 0 steps →
        IsAnswer F limit MayAllocate DecodesTo (word ++ remaining) a → IsAnswer F limit MayAllocate DecodesTo (word ++ remaining') c → WasRefused MayAllocate a ⊎ (WasRefused MayAllocate c ⊎ SameAnswer DecodesTo a c)
    both_read (Ok x) (Ok y) word remaining remaining' m steps u w p q = inr (inr (same_reading x y word remaining remaining' m steps u p.word q.word))
    both_read (Ok x) (Err e) word remaining remaining' m steps u w p q = inr (inl (q.found word remaining' m steps refl u w))
    both_read (Err d) c word remaining remaining' m steps u w p q = inl (p.found word remaining m steps refl u w)

    -- both inputs pass the limit
    both_pass : (a c : Result (T × ℕ) DecodeError) → IsErrAnd a (λ e. (e ≡ LimitExceeded) ⊎ MayReportMemory MayAllocate e) → IsErrAnd c (λ e. (e ≡ LimitExceeded) ⊎ MayReportMemory MayAllocate e) →
        WasRefused MayAllocate a ⊎ (WasRefused MayAllocate c ⊎ SameAnswer DecodesTo a c)
    both_pass (Ok x) c h k = absurd h
    both_pass (Err d) (Ok y) h k = absurd k
    both_pass (Err d) (Err e) (inr r) k = inl r
    both_pass (Err d) (Err e) (inl p) (inr r) = inr (inl r)
    both_pass (Err d) (Err e) (inl p) (inl q) = inr (inr (both_passed p q))

    -- both inputs have this fault
    both_fail : (a c : Result (T × ℕ) DecodeError) (why : Fault) → ¬ (IsEnd why) → IsErrAnd a (λ e. Tells EndsSlice why e ⊎ MayReportMemory MayAllocate e) →
        IsErrAnd c (λ e. Tells EndsSlice why e ⊎ MayReportMemory MayAllocate e) → WasRefused MayAllocate a ⊎ (WasRefused MayAllocate c ⊎ SameAnswer DecodesTo a c)
    both_fail (Ok x) c why n h k = absurd h
    both_fail (Err d) (Ok y) why n h k = absurd k
    both_fail (Err d) (Err e) why n (inr r) k = inl r
    both_fail (Err d) (Err e) why n (inl p) (inr r) = inr (inl r)
    both_fail (Err d) (Err e) why n (inl p) (inl q) = inr (inr (both_tell why n p q))

    -- a cut input gives the error that says so, or `Memory` if decoding may allocate
    cut_told : (a : Result (T × ℕ) DecodeError) (why : Fault) → IsEnd why → IsErrAnd a (λ e. Tells EndsSlice why e ⊎ MayReportMemory MayAllocate e) → WasCut a ⊎ WasRefused MayAllocate a
    cut_told (Ok x) why h t = absurd t
    cut_told (Err e) why h (inl t) = inl (end-told why e h t)
    cut_told (Err e) why h (inr r) = inr r

    longer_by : (input more : List ℕ) (a c : Result (T × ℕ) DecodeError) → IsAnswer F limit MayAllocate DecodesTo input a → IsAnswer F limit MayAllocate DecodesTo (input ++ more) c →
        ¬ (WasCut a) → (z : Answer Meaning) → answer limit F input 0 ≡ z → WasRefused MayAllocate a ⊎ (WasRefused MayAllocate c ⊎ SameAnswer DecodesTo a c)
    longer_by input more a c p q n (Gave m remaining after) e =
        let w = gave-word F f b limit input remaining m after e in
        both_read a c w.word remaining (remaining ++ more) m w.steps w.is_word w.within
        (subst (λ z. IsAnswer F limit MayAllocate DecodesTo z a) w.input_is p)
        (subst (λ z. IsAnswer F limit MayAllocate DecodesTo z c) (ap (λ z. z ++ more) w.input_is ∙ append_assoc w.word remaining more) q)
    longer_by input more a c p q n (Refused why after) e =
        let h = refused-fault F f b limit input why after e in
        elim (end-or-other why) [
          | inl k ↦ elim (cut_told a why k (p.fault why h.0 h.1 h.2)) [ inl t ↦ absurd (n t) | inr r ↦ inl r ]
          | inr k ↦
              let later = f.read_fault (input ++ more) why h.0 (f.stays input more why h.0 k (f.fault_read input why h.0 h.1)) in
              both_fail a c why k (p.fault why h.0 h.1 h.2) (q.fault why h.0 later h.2)
        ]
    longer_by input more a c p q n PassedLimit e =
        let h = passed-limit F f b limit input e in
        let k = longer_passes input more h.0 h.1 h.2 in
        both_pass a c (p.limit h.0 h.1 h.2) (q.limit k.0 k.1 k.2)

    -- An answer other than an end is the answer of each longer input, or one of both is `Memory` and decoding may
    -- allocate.
    pub longer-answers : (input more : List ℕ) (a c : Result (T × ℕ) DecodeError) → IsAnswer F limit MayAllocate DecodesTo input a → IsAnswer F limit MayAllocate DecodesTo (input ++ more) c →
        ¬ (WasCut a) → WasRefused MayAllocate a ⊎ (WasRefused MayAllocate c ⊎ SameAnswer DecodesTo a c)
    longer-answers input more a c p q n = longer_by input more a c p q n (answer limit F input 0) refl

    front_by : (front back : List ℕ) (m : Meaning) (steps : List Step) → F.Word (front ++ back) m steps → StaysWithin limit 0 steps → ¬ (back ≡ []) →
        (a : Result (T × ℕ) DecodeError) → IsAnswer F limit MayAllocate DecodesTo front a → (r : Reading Meaning) → F.read front ≡ r → WasCut a ⊎ WasRefused MayAllocate a
    front_by front back m steps u w n a p (Took m' remaining steps') e =
        let q = f.read_word front remaining m' steps' e in
        let whole : (front ++ back) ++ [] ≡ q.word ++ (remaining ++ back) = append-nil (front ++ back) ∙ ap (λ z. z ++ back) q.input_is ∙ append_assoc q.word remaining back in
        let one = one-word f (front ++ back) q.word [] (remaining ++ back) m m' steps steps' u q.is_word whole in
        let l : length (front ++ back) ≡ length q.word = ap length one.0 in
        let i : length front ≡ length q.word + length remaining = ap length q.input_is ∙ length-append q.word remaining in
        let j = length-append front back in
        absurd (n (nothing_left back (omega (arith, l, i, j))))
    front_by front back m steps u w n a p (Failed why steps') e = elim (end-or-other why) [
      | inl k ↦
          let g = f.begun front back why steps' k e in
          let t : steps_of (F.read (front ++ back)) ≡ steps = ap (λ z. steps_of (F.read z)) (sym (append-nil (front ++ back))) ∙ ap steps_of (f.word_read (front ++ back) [] m steps u) in
          cut_told a why k (p.fault why steps' (f.read_fault front why steps' e) (front-within limit steps' g.0 (subst (StaysWithin limit 0) (sym t ∙ g.1) w)))
      | inr k ↦
          let s = f.stays front back why steps' k e in
          let t : F.read (front ++ back) ≡ Took m [] steps = ap F.read (sym (append-nil (front ++ back))) ∙ f.word_read (front ++ back) [] m steps u in
          let differ : Took m [] steps ≡ Failed why steps' = sym t ∙ s in
          absurd (cc)
    ]

    -- Each proper prefix of a word within the limit gives the error of an end, or `Memory` if decoding may allocate.
    pub front-ends : (front back : List ℕ) (m : Meaning) (steps : List Step) → F.Word (front ++ back) m steps → StaysWithin limit 0 steps → ¬ (back ≡ []) →
        (a : Result (T × ℕ) DecodeError) → IsAnswer F limit MayAllocate DecodesTo front a → WasCut a ⊎ WasRefused MayAllocate a
    front-ends front back m steps u w n a p = front_by front back m steps u w n a p (F.read front) refl

    -- an end comes only of an input that ends too early
    is_end : (input : List ℕ) (a : Result (T × ℕ) DecodeError) → IsAnswer F limit MayAllocate DecodesTo input a → WasCut a → (z : Answer Meaning) → answer limit F input 0 ≡ z →
        (why : Fault) × (steps : List Step) × IsEnd why × (F.read input ≡ Failed why steps)
    is_end input (Ok x) p c z e = absurd c
    is_end input (Err d) p c (Gave m remaining after) e =
        let w = gave-word F f b limit input remaining m after e in
        let r = p.found w.word remaining m w.steps w.input_is w.is_word w.within in
        absurd (not_memory d c r.1)
    is_end input (Err d) p c (Refused why after) e =
        let h = refused-fault F f b limit input why after e in
        elim (end-or-other why) [
          | inl k ↦ (why, h.0, k, f.fault_read input why h.0 h.1)
          | inr k ↦ elim (p.fault why h.0 h.1 h.2) [ inl t ↦ absurd (other_told why d k t c) | inr r ↦ absurd (not_memory d c r.1) ]
        ]
    is_end input (Err d) p c PassedLimit e =
        let h = passed-limit F f b limit input e in
        elim (p.limit h.0 h.1 h.2) [ inl t ↦ absurd (not_limit d c t) | inr r ↦ absurd (not_memory d c r.1) ]

    -- An input with the error of an end is a prefix of one without.
    pub end-mended : (input : List ℕ) (a : Result (T × ℕ) DecodeError) → IsAnswer F limit MayAllocate DecodesTo input a → WasCut a →
        (more : List ℕ) × All (λ x. x < 256) more × ((c : Result (T × ℕ) DecodeError) → IsAnswer F limit MayAllocate DecodesTo (input ++ more) c → ¬ (WasCut c))
    end-mended input a p c =
        let h = is_end input a p c (answer limit F input 0) refl in
        let k = f.mended input h.0 h.1 h.2 h.3 in
        (k.more, k.are_bytes, λ d q i. let g = is_end (input ++ k.more) d q i (answer limit F (input ++ k.more) 0) refl in answered_end (F.read (input ++ k.more)) g.0 g.1 g.2 g.3 k.answered)
