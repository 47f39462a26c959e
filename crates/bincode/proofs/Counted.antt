-- Why a value is not counted for the room of a vector.
use Rattle.std.specs.Prelude.{◌≡◌, ℕ, List, []}
use Rattle.bincode_base.specs.declared.error.EncodeError.{EncodeError}
use Rattle.bincode_io.specs.declared.room_counter.RoomCounter.{RoomCounter}
use Rattle.bincode_spec.specs.Encoding.{EncodeFailure, by_writer, by_name}

-- what a room counter adds; it refuses nothing
abbrev pub Counted : RoomCounter → List ℕ → RoomCounter → Type 0
Counted a piece b = piece ≡ [] → b ≡ a

abbrev pub Uncounted : RoomCounter → List ℕ → EncodeError → RoomCounter → Type 0
Uncounted a piece e b = ⊥

-- it fails only with an error of the type
pub halted-named : (A : List ℕ → Type 0) (N : EncodeError → Type 0) (e : EncodeError) (before after : RoomCounter) →
    EncodeFailure Counted Uncounted A N before after e → N e
halted-named A N e before after (by_writer front piece middle h r b) = absurd r
halted-named A N e before after (by_name front h n b) = n
