-- What a write does to a count of bytes modulo 2^64.
use Rattle.std.specs.Prelude.{◌≡◌, ◌+◌, ◌%◌, ◌^◌, ℕ, List, []}
use Rattle.bincode_io.specs.declared.room_counter.RoomCounter.{RoomCounter}

-- the empty piece changes nothing
abbrev pub CounterAdds : RoomCounter → List ℕ → RoomCounter → Type 0
CounterAdds a piece b = piece ≡ [] → b ≡ a

-- n bytes were counted
abbrev pub Counts : ℕ → RoomCounter → RoomCounter → Type 0
Counts n a b = b.bytes_written ≡ (a.bytes_written + n) % 2 ^ 64
