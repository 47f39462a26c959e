-- The files of a device, and what its calls do to them.
use Rattle.std.specs.Prelude.{◌<◌, ◌≡◌, ◌⊎◌, ℕ, ◌≤◌, List, ◌++◌, take, Result, IsErrOf}
use Rattle.crash_device.specs.declared.device.DeviceError.{DeviceError}
use Rattle.crash_device.specs.declared.device.DeviceError.TheVariants.{Failed}

-- their bytes
pub record Files : Type 0 where
  pub snapshot : List ℕ
  pub log : List ℕ

-- the log has these bytes at its end
abbrev pub IsAppended : List ℕ → Files → Files → Type 0
IsAppended bytes old new = new ≡ record old { log = old.log ++ bytes }

-- the log has at most this length
abbrev pub IsCut : ℕ → Files → Files → Type 0
IsCut n old new = new ≡ record old { log = take n old.log }

-- the snapshot is this one
abbrev pub IsReplaced : List ℕ → Files → Files → Type 0
IsReplaced bytes old new = new ≡ record old { snapshot = bytes }

-- of an append that a crash cuts short a prefix stands
abbrev pub AppendsPart : List ℕ → Files → Files → Type 0
AppendsPart bytes old new = (n : ℕ) × IsAppended (take n bytes) old new

-- of what a cut is to take away a front stands
abbrev pub CutsPart : ℕ → Files → Files → Type 0
CutsPart n old new = (kept : ℕ) × (n ≤ kept) × IsCut kept old new

-- the snapshot is the old one or the new one
abbrev pub ReplacesOrNot : List ℕ → Files → Files → Type 0
ReplacesOrNot bytes old new = (new ≡ old) ⊎ IsReplaced bytes old new

-- each new outcome of a crash is an old outcome after a step
abbrev pub Follows : (Files → Files → Type 0) → (Files → Type 0) → (Files → Type 0) → Type 0
Follows step old new = (c : Files) → new c → (d : Files) × old d × step d c

-- `Failed` is told only where the device has failed since
pub record HasCause {T : Type 0} (before now : ℕ) (result : Result T DeviceError) : Type 0 where
  pub later : before ≤ now
  pub failed : IsErrOf result Failed → before < now

-- the snapshot stays until it is replaced, and only then is the log cut
abbrev pub CompactsPart : List ℕ → Files → Files → Type 0
CompactsPart bytes old new = (new ≡ old) ⊎ ((n : ℕ) × (new ≡ record { snapshot = bytes; log = take n old.log }))
