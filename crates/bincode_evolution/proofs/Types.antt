-- From shapes to the types that they describe, and to what a decoder without a limit answers.
use Rattle.std.specs.Prelude.{◌≡◌, ℕ, List, [], ◌∷◌, Some, None, refl}
use Rattle.std.proofs.Common.{◌∙◌, ap, sym}
use Rattle.bincode_spec.specs.Answer.{Gave, answer, weigh_reading, gave_at, refused_at, charge_after_steps}
use Rattle.bincode_spec.specs.Charge.{Step, Charge, Reserve, Release}
use Rattle.bincode_spec.specs.Format.{Format, Reading, Took, Failed}
use Rattle.bincode_spec.specs.Meaning.{Meaning}
use Rattle.bincode_shape.specs.Same.{SameWords}
use Rattle.bincode_evolution.specs.Reading.{ReadsTo, ReadsAll}

-- what reads the words of a shape reads those of the type that it describes
pub described_reads : {F F' G G' : Format Meaning} → SameWords F F' → SameWords G G' → ReadsAll G F → ReadsAll G' F'
described_reads f g h = record {
  reads = λ input remaining m t.
      let u = h.reads input remaining m (t.0, ap (λ r. r input) f.read ∙ t.1) in (u.0, sym (ap (λ r. r input) g.read) ∙ u.1);
}

-- without a limit nothing is counted
uncounted : (charge : ℕ) (steps : List Step) → charge_after_steps None charge steps ≡ Some charge
uncounted charge [] = refl
uncounted charge (Charge n ∷ steps) = uncounted charge steps
uncounted charge (Reserve n share ∷ steps) = uncounted charge steps
uncounted charge (Release n ∷ steps) = uncounted charge steps

given : {A : Type 0} (charge : ℕ) (r : Reading A) (m : A) (remaining : List ℕ) (after : ℕ) → weigh_reading None charge r ≡ Gave m remaining after → ReadsTo r m remaining
given charge (Took n rest steps) m remaining after e =
    let k : Gave n rest charge ≡ Gave m remaining after = ap (gave_at n rest) (sym (uncounted charge steps)) ∙ e in (steps, cc)
given charge (Failed why steps) m remaining after e =
    let k = ap (refused_at why) (sym (uncounted charge steps)) ∙ e in absurd (cc)

-- What a decoder without a limit reads of the old format, it reads of the new one.
pub answers_alike : {F G : Format Meaning} → ReadsAll G F → (input remaining : List ℕ) (m : Meaning) (charge after : ℕ) → answer None F input charge ≡ Gave m remaining after →
    answer None G input charge ≡ Gave m remaining charge
unfolding answer
answers_alike {F} {G} h input remaining m charge after e =
    let t = h.reads input remaining m (given charge (F.read input) m remaining after e) in
    ap (weigh_reading None charge) t.1 ∙ ap (gave_at m remaining) (uncounted charge t.0)
