-- Where a whole frame stands in bytes.
use Rattle.std.specs.Prelude.{ℕ, List, drop}
use Rattle.framed_store.specs.Steps.{IsWhole}
use Rattle.framed_store.specs.Surveys.{frame_size}

-- the bytes begin with a frame whose check fits
abbrev pub BeginsWithWhole : ℕ → List ℕ → Type 0
BeginsWithWhole most bytes = IsWhole most bytes (frame_size bytes)

-- one stands at this offset
abbrev pub StandsAt : ℕ → List ℕ → ℕ → Type 0
StandsAt most bytes n = BeginsWithWhole most (drop n bytes)
