-- A frame that is taken from a stream, and what is left of the stream.
use Rattle.std.specs.Prelude.{◌≡◌, ◌+◌, ◌<◌, ◌≤◌, ◌++◌, ℕ, List, [], length, drop}
use Rattle.frames.specs.Frames.{named_length}
use Rattle.framed_store.specs.declared.records.Next.{Next}
use Rattle.framed_store.specs.declared.records.Next.TheVariants as next

-- just the bytes of a frame: all that were left, if they end within it, and the length alone if it is above `most`
pub record IsFront (most : ℕ) (front left : List ℕ) : Type 0 where
  pub ends_early : length front < 4 → left ≡ []
  pub too_long : 4 ≤ length front → most < named_length front → length front ≡ 4
  pub within : 4 ≤ length front → named_length front ≤ most → length front ≤ 8 + named_length front
  pub ends_within : 4 ≤ length front → named_length front ≤ most → length front < 8 + named_length front → left ≡ []

-- they were taken from a stream
pub record TakesFront (most : ℕ) (front old new : List ℕ) : Type 0 where
  pub parts : old ≡ front ++ new
  pub is_front : IsFront most front new

-- what follows what was told of the bytes
abbrev pub LeavesAfter : {A : Type 0} → List ℕ → Next A → List ℕ → Type 0
LeavesAfter bytes next.End left = left ≡ bytes
LeavesAfter bytes next.Torn left = left ≡ []
LeavesAfter bytes (next.TooLong _) left = left ≡ drop 4 bytes
LeavesAfter bytes (next.Record size _) left = left ≡ drop size bytes
