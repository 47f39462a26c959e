-- Machines in the bytes of snapshots.
use Rattle.std.specs.Prelude.{ℕ, List, Option}
use Rattle.bincode_base.specs.Setting.{Setting}
use Rattle.bincode_spec.specs.Format.{Format}
use Rattle.bincode_spec.specs.Meaning.{Meaning}
use Rattle.bincode_types.specs.TypeWords.{Words}
use Rattle.snapshots.specs.Snapshots.{FitsLimits, IsSnapshot, IsLoaded, IsLoadFault, IsNoMemory}
use Rattle.snapshots.specs.declared.saving.RestoreError.{RestoreError}
use Rattle.snapshots.specs.declared.saving.RestoreError.TheVariants as failures

-- a snapshot, after this many commands, of something that stands for the machine's state
pub record IsSavedAs {A M : Type 0} (stands_for : A → M → Type 0) (W : Words A) (s : Setting) (limit : Option ℕ) (commands : ℕ) (machine : M) (bytes : List ℕ) : Type 0 where
  pub saved : A
  pub stands : stands_for saved machine
  pub is_snapshot : IsSnapshot W s limit commands saved bytes

-- of all that stands for the machine, each word stays within the limit
abbrev pub FitsSnapshot : {A M : Type 0} → (A → M → Type 0) → Words A → Setting → Option ℕ → M → Type 0
FitsSnapshot {A} stands_for W s limit machine = (saved : A) → stands_for saved machine → FitsLimits W s limit saved

-- the bytes are read as such a one
pub record IsRestored {A M : Type 0} (stands_for : A → M → Type 0) (F : Format Meaning) (limit : Option ℕ) (decodes_to : Meaning → A → Type 0) (bytes : List ℕ) (commands : ℕ) (machine : M) : Type 0 where
  pub saved : A
  pub stands : stands_for saved machine
  pub is_loaded : IsLoaded F limit decodes_to bytes commands saved

-- why bytes are no snapshot of a machine
abbrev pub IsRestoreFault : {A M : Type 0} → (A → M → Type 0) → Format Meaning → Option ℕ → (Meaning → A → Type 0) → List ℕ → RestoreError → Type 0
IsRestoreFault stands_for F limit decodes_to bytes (failures.Load why) = IsLoadFault F limit bytes why
IsRestoreFault {A} {M} stands_for F limit decodes_to bytes failures.NoState =
    (commands : ℕ) × (saved : A) × IsLoaded F limit decodes_to bytes commands saved × ((machine : M) → stands_for saved machine → ⊥)
IsRestoreFault stands_for F limit decodes_to bytes (failures.Memory _) = Unit {0}

-- the error says that an allocation was refused: any such error
abbrev pub IsRestoreMemory : RestoreError → Type 0
IsRestoreMemory (failures.Load why) = IsNoMemory why
IsRestoreMemory failures.NoState = ⊥
IsRestoreMemory (failures.Memory _) = Unit {0}
