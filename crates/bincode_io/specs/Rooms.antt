-- What a room writer holds, and what its writes do.
use Rattle.std.specs.Prelude.{◌≡◌, ◌+◌, ◌<◌, ◌++◌, ℕ, Bool, true, List, [], length}
use Rattle.bincode_base.specs.declared.error.EncodeError.{EncodeError}
use Rattle.bincode_base.specs.declared.error.EncodeError.TheVariants.{UnexpectedEnd}
use Rattle.bincode_io.specs.Vectors.{held_by, capacity_of}
use Rattle.bincode_io.specs.declared.room_writer.RoomWriter.{RoomWriter}

-- the bytes that were written
abbrev pub written_to : RoomWriter → List ℕ
written_to w = held_by w.held

-- its capacity in bytes
abbrev pub room_of : RoomWriter → ℕ
room_of w = capacity_of w.held

-- whether it refused a piece
abbrev pub refused_by : RoomWriter → Bool
refused_by w = w.any_refused

-- a piece is appended
abbrev pub RoomAdds : RoomWriter → List ℕ → RoomWriter → Type 0
RoomAdds a piece b = (written_to b ≡ written_to a ++ piece) × (refused_by b ≡ refused_by a) × (piece ≡ [] → b ≡ a)

-- a piece does not fit after what was written, and nothing changes but the flag
abbrev pub RoomRefuses : RoomWriter → List ℕ → EncodeError → RoomWriter → Type 0
RoomRefuses a piece e b =
    (e ≡ UnexpectedEnd) × (room_of a < length (written_to a) + length piece) × (written_to b ≡ written_to a) × (0 < length piece) × (refused_by b ≡ true)
