-- What is appended to a log on a device.
use Rattle.std.specs.Prelude.{◌≡◌, ◌⊎◌, ℕ, List, Option}
use Rattle.bincode_base.specs.Setting.{Setting}
use Rattle.bincode_types.specs.TypeWords.{Words}
use Rattle.frames.specs.Frames.{frame}
use Rattle.framed_store.specs.Appended.{IsFitting, IsOutside}
use Rattle.crash_device.specs.Files.{Files, IsAppended, AppendsPart}
use Rattle.crash_device.specs.Moments.{Holds}
use Rattle.crash_device.specs.declared.device.DeviceError.TheVariants.{Memory, Failed}
use Rattle.durable_log.specs.declared.appending.CommandError.{CommandError}
use Rattle.durable_log.specs.declared.appending.CommandError.TheVariants.{Frame, Device}

-- the log has the frame of such a word at its end
abbrev pub AddsFrame : {A : Type 0} → Words A → Setting → Option ℕ → ℕ → A → Files → Files → Type 0
AddsFrame W s limit most value old new = (word : List ℕ) × IsFitting W s limit most value word × IsAppended (frame word) old new

-- the files are as they were, or the log has a prefix of such a frame at its end
abbrev pub AddsPart : {A : Type 0} → Words A → Setting → Option ℕ → ℕ → A → Files → Files → Type 0
AddsPart W s limit most value old new = (new ≡ old) ⊎ ((word : List ℕ) × IsFitting W s limit most value word × AppendsPart (frame word) old new)

-- the error is one of memory or device: any such error
abbrev pub IsForced : CommandError → Type 0
IsForced (Frame e) = IsOutside e
IsForced (Device e) = Unit {0}

-- Without a frame the device was not called. After the device's `Memory` nothing was appended: its files are what they
-- were, and each crash leaves them so.
abbrev pub IsUntouched : {D : Type 0} → (D → Files) → (D → Files → Type 0) → D → D → CommandError → Type 0
IsUntouched seen may_leave old new (Frame e) = new ≡ old
IsUntouched seen may_leave old new (Device Memory) = Holds seen may_leave new (seen old)
IsUntouched seen may_leave old new (Device Failed) = Unit {0}
