-- What a log of commands makes of a machine.
use Rattle.std.specs.Prelude.{◌≡◌, ◌+◌, ℕ, List, [], ◌∷◌, length, drop, Option, Bool, true, false}
use Rattle.bincode_spec.specs.Format.{Format}
use Rattle.bincode_spec.specs.Meaning.{Meaning}
use Rattle.frames.specs.Frames.{Reads}
use Rattle.frames.specs.declared.Frame.TheVariants as frames
use Rattle.framed_store.specs.declared.records.Content.TheVariants as contents
use Rattle.framed_store.specs.Told.{IsRecord}
use Rattle.replay.specs.declared.replay.Failure.{Failure}
use Rattle.replay.specs.declared.replay.Failure.TheVariants as failures
use Rattle.replay.specs.declared.replay.ReplayError.{ReplayError}
use Rattle.replay.specs.declared.replay.Replayed.{Replayed}

-- commands lead from one state to another, each applied once and in order
abbrev pub Run : {S A : Type 0} → (S → A → S → Type 0) → S → List A → S → Type 0
Run applies old [] new = new ≡ old
Run {S} applies old (command ∷ commands) new = (mid : S) × applies old command mid × Run applies mid commands new

-- so many commands do
abbrev pub RunsFor : {S A : Type 0} → (S → A → S → Type 0) → ℕ → S → S → Type 0
RunsFor {S} {A} applies n old new = (commands : List A) × (n ≡ length commands) × Run applies old commands new

-- the log begins with the frames of these commands, in order; after them is the rest
abbrev pub FramesOf : {A : Type 0} → Format Meaning → Option ℕ → (Meaning → A → Type 0) → ℕ → List ℕ → List A → List ℕ → Type 0
FramesOf F limit decodes_to most log [] rest = rest ≡ log
FramesOf F limit decodes_to most log (command ∷ commands) rest =
    (size : ℕ) × IsRecord F limit decodes_to most log size (contents.Value command) × FramesOf F limit decodes_to most (drop size log) commands rest

-- the commands of the log's first frames, n of them in `at` bytes, lead from one state to another; after them is the rest
pub record LeadsTo {S A : Type 0} (applies : S → A → S → Type 0) (F : Format Meaning) (limit : Option ℕ) (decodes_to : Meaning → A → Type 0) (most : ℕ) (log : List ℕ) (old : S) (n at : ℕ) (new : S) (rest : List ℕ) :
    Type 0 where
  pub commands : List A
  pub frames : FramesOf F limit decodes_to most log commands rest
  pub run : Run applies old commands new
  pub count : n ≡ length commands
  pub up_to : length log ≡ at + length rest

-- nothing is left of the log, or a part of a frame
abbrev pub EndsLog : ℕ → List ℕ → Bool → Type 0
EndsLog most rest false = Reads most rest frames.End
EndsLog most rest true = Reads most rest frames.Torn

-- all whole frames of the log hold commands, which lead from one state to another
pub record IsReplay {S A : Type 0} (applies : S → A → S → Type 0) (F : Format Meaning) (limit : Option ℕ) (decodes_to : Meaning → A → Type 0) (most : ℕ) (log : List ℕ) (old new : S) (replayed : Replayed) : Type 0 where
  pub rest : List ℕ
  pub before : LeadsTo applies F limit decodes_to most log old replayed.commands replayed.length new rest
  pub ends : EndsLog most rest replayed.is_torn

-- what goes wrong where this is left of the log, in this state
abbrev pub StopsBefore : {S A E : Type 0} → (S → A → E → Type 0) → Format Meaning → Option ℕ → (Meaning → A → Type 0) → ℕ → List ℕ → S → Failure E → Type 0
StopsBefore {S} {A} refuses F limit decodes_to most rest state (failures.Refused why) =
    (size : ℕ) × (command : A) × IsRecord F limit decodes_to most rest size (contents.Value command) × refuses state command why
StopsBefore refuses F limit decodes_to most rest state failures.Damaged = (size : ℕ) × IsRecord F limit decodes_to most rest size contents.Damaged
StopsBefore refuses F limit decodes_to most rest state (failures.Undecodable why) = (size : ℕ) × IsRecord F limit decodes_to most rest size (contents.Undecodable why)
StopsBefore refuses F limit decodes_to most rest state (failures.Longer taken) = (size : ℕ) × IsRecord F limit decodes_to most rest size (contents.Longer taken)
StopsBefore refuses F limit decodes_to most rest state (failures.TooLong n) = Reads most rest (frames.TooLong n)
StopsBefore refuses F limit decodes_to most rest state (failures.Read _) = Unit {0}
StopsBefore refuses F limit decodes_to most rest state (failures.Memory _) = Unit {0}

-- the commands before the place lead from one state to another, and there this goes wrong
pub record IsStop {S A E : Type 0} (applies : S → A → S → Type 0) (refuses : S → A → E → Type 0) (F : Format Meaning) (limit : Option ℕ) (decodes_to : Meaning → A → Type 0) (most : ℕ) (log : List ℕ) (old new : S)
    (error : ReplayError E) : Type 0 where
  pub rest : List ℕ
  pub before : LeadsTo applies F limit decodes_to most log old error.commands error.offset new rest
  pub why : StopsBefore refuses F limit decodes_to most rest new error.why
