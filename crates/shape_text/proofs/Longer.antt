-- Why no word begins an input, and each longer one.
use Rattle.std.specs.Prelude.{◌≡◌, ◌++◌, ℕ, List, Option, Some, None, Err, refl}
use Rattle.std.proofs.Common.{sym, ◌∙◌, ap, subst, inl, inr, arith, append_assoc}
use Rattle.bincode_base.specs.declared.error.DecodeError.{DecodeError}
use Rattle.bincode_base.specs.declared.error.DecodeError.TheVariants.{LimitExceeded}
use Rattle.bincode_spec.specs.Layers.Agree.{IsCut}
use Rattle.bincode_spec.specs.Layers.Laws.{IsLawful, IsBalanced, steps_of}
use Rattle.bincode_lemmas.specs.AnswerLaws.{counted_after, gave-word, refused-fault, passed-limit, word-gave, fault-refused, passes-passed}
use Rattle.bincode_lemmas.specs.CutLaws.{end-told}
use Rattle.bincode_lemmas.specs.FormatLaws.{end-or-other}
use Rattle.bincode_spec.specs.Answer.{Answer, Gave, Refused, PassedLimit, Allows, StepsOf, of_word, of_fault, answer}
use Rattle.bincode_spec.specs.Charge.{Step, StaysWithin, Passes}
use Rattle.bincode_spec.specs.Fault.{Fault, Tells}
use Rattle.bincode_spec.specs.Format.{Format, Reading, Took, Failed}
use Rattle.bincode_spec.specs.Meaning.{Meaning}
use Rattle.bincode_spec.specs.Slice.{EndsSlice, FindsWords, TellsFaults, KeepsLimit}
use Rattle.shape_text.specs.Refusals.{IsRefusedFor}

-- each limit allows nothing
from_nothing : (limit : Option ℕ) → Allows limit 0
from_nothing None = tt
from_nothing (Some limit) = omega arith

-- steps with a prefix that passes a limit pass it too
more_passes : (limit : Option ℕ) (front back : List Step) → Passes limit 0 front → Passes limit 0 (front ++ back)
more_passes None front back h = absurd h
more_passes (Some n) front back h = (h.0, h.1 ++ back, ap (λ z. z ++ back) h.2 ∙ append_assoc h.0 h.1 back, h.3)

module _ (F : Format Meaning) (f : IsLawful F) (b : IsBalanced F) (limit : Option ℕ) where
  steps_read : (input : List ℕ) (r : Reading Meaning) → F.read input ≡ r → StepsOf F input (steps_of r)
  steps_read input (Took m remaining steps) e = let q = f.read_word input remaining m steps e in of_word q.word remaining m q.is_word q.input_is
  steps_read input (Failed why steps) e = of_fault why (f.read_fault input why steps e)

  -- steps that pass the limit are followed by such in each longer input
  longer_passes : (input more : List ℕ) (steps : List Step) → StepsOf F input steps → Passes limit 0 steps → (later : List Step) × StepsOf F (input ++ more) later × Passes limit 0 later
  longer_passes input more steps (of_word word remaining m u e) p =
      (steps, of_word word (remaining ++ more) m u (ap (λ z. z ++ more) e ∙ append_assoc word remaining more), p)
  longer_passes input more steps (of_fault why h) p = elim (end-or-other why) [
    | inl k ↦
        let g = f.begun input more why steps k (f.fault_read input why steps h) in
        (steps_of (F.read (input ++ more)), steps_read (input ++ more) (F.read (input ++ more)) refl, subst (Passes limit 0) (sym g.1) (more_passes limit steps g.0 p))
    | inr k ↦
        (steps, of_fault why (f.read_fault (input ++ more) why steps (f.stays input more why steps k (f.fault_read input why steps h))), p)
  ]

  -- a fault within the limit is why no word begins the input
  refused-by : (input : List ℕ) (why : Fault) (steps : List Step) (e : DecodeError) → F.Faults input why steps → StaysWithin limit 0 steps → Tells EndsSlice why e →
      IsRefusedFor F limit input e
  refused-by input why steps e u w t =
      let g : answer limit F input 0 ≡ Refused why (counted_after limit 0 steps) = fault-refused F f b limit input why steps 0 u w in record {
        no_word = λ word behind m s i v h. let k : answer limit F input 0 ≡ Gave m behind (counted_after limit 0 s) = rw i (word-gave F f b limit word behind m s 0 v h) in absurd (cc);
        tells = λ other s v h.
            let k : answer limit F input 0 ≡ Refused other (counted_after limit 0 s) = fault-refused F f b limit input other s 0 v h in
            let q : why ≡ other = cc in subst (λ z. Tells EndsSlice z e) q t;
        keeps = λ s v p. let k : answer limit F input 0 ≡ PassedLimit = passes-passed F f b limit input s 0 (from_nothing limit) v p in absurd (cc);
      }

  -- and so are steps that pass it
  passed-by : (input : List ℕ) (steps : List Step) (e : DecodeError) → StepsOf F input steps → Passes limit 0 steps → e ≡ LimitExceeded → IsRefusedFor F limit input e
  passed-by input steps e u p t =
      let g : answer limit F input 0 ≡ PassedLimit = passes-passed F f b limit input steps 0 (from_nothing limit) u p in record {
        no_word = λ word behind m s i v h. let k : answer limit F input 0 ≡ Gave m behind (counted_after limit 0 s) = rw i (word-gave F f b limit word behind m s 0 v h) in absurd (cc);
        tells = λ other s v h. let k : answer limit F input 0 ≡ Refused other (counted_after limit 0 s) = fault-refused F f b limit input other s 0 v h in absurd (cc);
        keeps = λ s v q. t;
      }

  module _ (input : List ℕ) (e : DecodeError) (found : FindsWords {A = Unit {0}} F limit ⊥ input (Err e)) (told : TellsFaults {A = Unit {0}} F limit ⊥ input (Err e))
      (kept : KeepsLimit {A = Unit {0}} F limit ⊥ input (Err e)) where
    -- where nothing allocates, the error tells why no word begins the input
    pub refused-here : IsRefusedFor F limit input e
    refused-here = record {
      no_word = λ word behind m steps i w h. (found word behind m steps i w h).0;
      tells = λ fault steps h w. elim (told fault steps h w) [ inl t ↦ t | inr r ↦ absurd r.0 ];
      keeps = λ steps h p. elim (kept steps h p) [ inl t ↦ t | inr r ↦ absurd r.0 ];
    }

    longer-by : (more : List ℕ) → ¬ (IsCut e) → (z : Answer Meaning) → answer limit F input 0 ≡ z → IsRefusedFor F limit (input ++ more) e
    longer-by more n (Gave m remaining after) i =
        let w = gave-word F f b limit input remaining m after i in
        absurd (found w.word remaining m w.steps w.input_is w.is_word w.within).0
    longer-by more n (Refused why after) i =
        let h = refused-fault F f b limit input why after i in
        elim (told why h.0 h.1 h.2) [
          | inl t ↦ elim (end-or-other why) [
            | inl k ↦ absurd (n (end-told why e k t))
            | inr k ↦ refused-by (input ++ more) why h.0 e (f.read_fault (input ++ more) why h.0 (f.stays input more why h.0 k (f.fault_read input why h.0 h.1))) h.2 t
          ]
          | inr r ↦ absurd r.0
        ]
    longer-by more n PassedLimit i =
        let h = passed-limit F f b limit input i in
        let k = longer_passes input more h.0 h.1 h.2 in
        elim (kept h.0 h.1 h.2) [ inl t ↦ passed-by (input ++ more) k.0 e k.1 k.2 t | inr r ↦ absurd r.0 ]

    -- unless it is an end, it tells why no word begins each longer input
    pub refused-longer : (more : List ℕ) → ¬ (IsCut e) → IsRefusedFor F limit (input ++ more) e
    refused-longer more n = longer-by more n (answer limit F input 0) refl
