-- The moments of a device, at each of which a crash may leave something.
use Rattle.std.specs.Prelude.{◌≡◌, ◌⊎◌, ℕ, ◌≤◌}
use Rattle.crash_device.specs.Files.{Files}

-- a crash leaves these files and no others
abbrev pub Only : Files → (Files → Type 0) → Type 0
Only files outcomes = (c : Files) → outcomes c → c ≡ files

-- time goes on: a crash since t might have left what it might have left before, or what it may leave now
pub record Elapses (before now : ℕ) (past since : ℕ → Files → Type 0) (may_leave : Files → Type 0) : Type 0 where
  pub later : before ≤ now
  pub nothing_else : (t : ℕ) (c : Files) → t ≤ before → since t c → past t c ⊎ may_leave c
  pub keeps : (t : ℕ) (c : Files) → t ≤ before → past t c → since t c

-- a crash at any moment since the old state leaves files that have P
pub record LeavesOnly {D : Type 0} (moment : D → ℕ) (left_since : D → ℕ → Files → Type 0) (old new : D) (P : Files → Type 0) : Type 0 where
  pub later : moment old ≤ moment new
  pub each : (c : Files) → left_since new (moment old) c → P c
  -- for a run that began earlier
  pub before : (t : ℕ) (c : Files) → t ≤ moment old → left_since new t c → left_since old t c ⊎ P c

-- a read returns these files, and each crash leaves them
pub record Holds {D : Type 0} (seen : D → Files) (may_leave : D → Files → Type 0) (device : D) (files : Files) : Type 0 where
  pub seen_are : seen device ≡ files
  pub durable : Only files (may_leave device)
