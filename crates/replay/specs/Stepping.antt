-- One step of a replay.
use Rattle.std.specs.Prelude.{◌≡◌, ◌+◌, ◌≤◌, ◌^◌, ℕ, List, drop, Option}
use Rattle.bincode_spec.specs.Format.{Format}
use Rattle.bincode_spec.specs.Meaning.{Meaning}
use Rattle.frames.specs.Frames.{Reads}
use Rattle.frames.specs.declared.Frame.TheVariants as frames
use Rattle.framed_store.specs.declared.records.Content.TheVariants as contents
use Rattle.framed_store.specs.Told.{IsRecord}
use Rattle.replay.specs.declared.replay.Failure.{Failure}
use Rattle.replay.specs.declared.replay.Failure.TheVariants as failures
use Rattle.replay.specs.declared.replay.Step.{Step}
use Rattle.replay.specs.declared.replay.Step.TheVariants as steps

-- a command leads to the new state, and its frame has at least the bytes of a length and a check; else the state stays
abbrev pub StepsBy : {S A : Type 0} → (S → A → S → Type 0) → ℕ → S → S → Step → Type 0
StepsBy applies at old new steps.End = new ≡ old
StepsBy applies at old new steps.Torn = new ≡ old
StepsBy {S} {A} applies at old new (steps.Applied next) = (command : A) × applies old command new × (at + 8 ≤ next)

-- the command is that of the frame that the log begins with, and what follows the frame is left
abbrev pub TakesStep : {S A : Type 0} → (S → A → S → Type 0) → Format Meaning → Option ℕ → (Meaning → A → Type 0) → ℕ → ℕ → List ℕ → S → S → List ℕ → Step → Type 0
TakesStep applies F limit decodes_to most at log old new left steps.End = Reads most log frames.End
TakesStep applies F limit decodes_to most at log old new left steps.Torn = Reads most log frames.Torn
TakesStep {S} {A} applies F limit decodes_to most at log old new left (steps.Applied next) =
    (size : ℕ) × (command : A) × IsRecord F limit decodes_to most log size (contents.Value command) × applies old command new × (next ≡ at + size) × (left ≡ drop size log)

-- a command of a frame of this size at this offset is refused in a state; or the frame ends at 2^64 bytes or after
abbrev pub StopsFor : {S A E : Type 0} → (S → A → E → Type 0) → S → A → ℕ → ℕ → Failure E → Type 0
StopsFor refuses state command offset size (failures.Refused why) = refuses state command why
StopsFor refuses state command offset size (failures.Read _) = 2 ^ 64 ≤ offset + size
StopsFor refuses state command offset size failures.Damaged = ⊥
StopsFor refuses state command offset size (failures.Undecodable _) = ⊥
StopsFor refuses state command offset size (failures.Longer _) = ⊥
StopsFor refuses state command offset size (failures.TooLong _) = ⊥
StopsFor refuses state command offset size (failures.Memory _) = ⊥
