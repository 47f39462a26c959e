-- The contents that a device in memory has had.
use Rattle.std.specs.Prelude.{◌≡◌, ◌⊎◌, ℕ, List, [], ◌∷◌, length, drop}
use mathlib.Core.Logic.{inl, inr}
use Rattle.crash_device.specs.declared.memory.Contents.{Contents}
use Rattle.crash_device.specs.Files.{Files}

-- their bytes
abbrev pub files_of : Contents → Files
files_of contents = record { snapshot = contents.snapshot.items; log = contents.log.items }

-- one of them is this
abbrev pub HadBeen : List Contents → Files → Type 0
HadBeen [] files = ⊥
HadBeen (v ∷ past) files = (files ≡ files_of v) ⊎ HadBeen past files

-- what a crash since a moment might have left: what stands now, or what stood since
abbrev pub LeftSince : List Contents → Files → ℕ → Files → Type 0
LeftSince past files t c = (c ≡ files) ⊎ HadBeen (drop t past) c

none-left : (past : List Contents) (c : Files) → HadBeen (drop (length past) past) c → ⊥
none-left [] c had = had
none-left (v ∷ past) c had = none-left past c had

-- since the last of them there is what stands now
pub only-files : (past : List Contents) (files c : Files) → LeftSince past files (length past) c → c ≡ files
only-files past files c (inl now) = now
only-files past files c (inr had) = absurd (none-left past c had)
