-- A value that was sent.
use Rattle.std.specs.Prelude.{ℕ, List, Option}
use Rattle.std.specs.Io.KnownBytes.{Appends}
use Rattle.bincode_base.specs.Setting.{Setting}
use Rattle.bincode_types.specs.TypeWords.{Words}
use Rattle.frames.specs.Frames.{frame}
use Rattle.framed_store.specs.Appended.{IsFitting}

-- the frame of a value was written
abbrev pub Sends : {T : Type 0} → Words T → Setting → Option ℕ → ℕ → T → Option (List ℕ) → Option (List ℕ) → Type 0
Sends V s limit most value before after = (word : List ℕ) × IsFitting V s limit most value word × Appends before after (frame word)
