-- One more command of a log.
use Rattle.std.specs.Prelude.{◌≡◌, ◌+◌, ◌++◌, ℕ, List, [], ◌∷◌, length, drop, Option, refl}
use Rattle.std.proofs.Common.{ap, sym, subst, arith, length-append}
use Rattle.std.proofs.lemmas.List.{length-drop}
use Rattle.bincode_spec.specs.Format.{Format}
use Rattle.bincode_spec.specs.Meaning.{Meaning}
use Rattle.framed_store.specs.declared.records.Content.TheVariants as contents
use Rattle.framed_store.specs.Told.{IsRecord}
use Rattle.replay.specs.Replays.{Run, RunsFor, FramesOf, LeadsTo}
use Rattle.replay.specs.Stepping.{TakesStep}
use Rattle.replay.specs.declared.replay.Step.TheVariants as steps

module _ {S A : Type 0} (applies : S → A → S → Type 0) where
  run-more : (commands : List A) (command : A) (old mid new : S) → Run applies old commands mid → applies mid command new → Run applies old (commands ++ command ∷ []) new
  run-more [] command old mid new r h = (new, subst (λ s. applies s command new) r h, refl)
  run-more (c ∷ commands) command old mid new r h = (r.0, r.1, run-more commands command r.0 mid new r.2 h)

  -- it is applied after those before it
  pub runs-more : (n : ℕ) (command : A) (old mid new : S) → RunsFor applies n old mid → applies mid command new → RunsFor applies (n + 1) old new
  runs-more n command old mid new r h =
      let one = length-append r.0 (command ∷ []) in
      let count = r.1 in (r.0 ++ command ∷ [], omega (arith, one, count), run-more r.0 command old mid new r.2 h)

  module _ (F : Format Meaning) (limit : Option ℕ) (decodes_to : Meaning → A → Type 0) (most : ℕ) where
    frames-more : (log : List ℕ) (commands : List A) (rest : List ℕ) → FramesOf F limit decodes_to most log commands rest → (size : ℕ) (command : A) →
        IsRecord F limit decodes_to most rest size (contents.Value command) → FramesOf F limit decodes_to most log (commands ++ command ∷ []) (drop size rest)
    frames-more log [] rest f size command h = (size, subst (λ z. IsRecord F limit decodes_to most z size (contents.Value command)) f h, ap (drop size) f)
    frames-more log (c ∷ commands) rest f size command h = (f.0, f.1, frames-more (drop f.0 log) commands rest f.2 size command h)

    -- nothing was read yet
    pub leads-none : (log : List ℕ) (old : S) → LeadsTo applies F limit decodes_to most log old 0 0 old log
    leads-none log old = record { commands = []; frames = refl; run = refl; count = refl; up_to = omega arith }

    -- its frame follows theirs
    pub leads-more : (log : List ℕ) (old mid new : S) (n at next : ℕ) (rest left : List ℕ) → LeadsTo applies F limit decodes_to most log old n at mid rest →
        TakesStep applies F limit decodes_to most at rest mid new left (steps.Applied next) → LeadsTo applies F limit decodes_to most log old (n + 1) next new left
    leads-more log old mid new n at next rest left so_far step =
        let size = step.0 in
        let command = step.1 in
        let there = step.2.0.0.1 in
        let is_size = step.2.0.1 in
        let is_next = step.4 in
        let one = length-append so_far.commands (command ∷ []) in
        let count = so_far.count in
        let up_to = so_far.up_to in
        let behind = length-drop size rest in
        let is_left : length left ≡ length (drop size rest) = ap length step.5 in record {
          commands = so_far.commands ++ command ∷ [];
          frames = subst (FramesOf F limit decodes_to most log (so_far.commands ++ command ∷ [])) (sym step.5) (frames-more log so_far.commands rest so_far.frames size command step.2);
          run = run-more so_far.commands command old mid new so_far.run step.3;
          count = omega (arith, one, count);
          up_to = omega (arith, there, is_size, is_next, up_to, behind, is_left);
        }
