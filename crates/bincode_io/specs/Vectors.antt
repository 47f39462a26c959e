-- What a vector writer holds, and what its writes do.
use Rattle.std.specs.Prelude.{◌≡◌, ◌+◌, ◌*◌, ◌<◌, ◌≤◌, ◌⊎◌, ◌++◌, ℕ, List, [], length, vec_capacity}
use Rattle.bincode_base.specs.declared.error.EncodeError.{EncodeError}
use Rattle.bincode_base.specs.declared.error.EncodeError.TheVariants.{Memory}
use Rattle.bincode_io.specs.declared.vec_writer.VecWriter.{VecWriter}

-- the bytes that were written
abbrev pub held_by : VecWriter → List ℕ
held_by w = w.bytes.items

-- its capacity in bytes
abbrev pub capacity_of : VecWriter → ℕ
capacity_of w = vec_capacity w.bytes

-- a piece is appended
abbrev pub VecAdds : VecWriter → List ℕ → VecWriter → Type 0
VecAdds a piece b = (held_by b ≡ held_by a ++ piece) × (capacity_of a ≤ capacity_of b) × (piece ≡ [] → b ≡ a)

-- a piece does not fit the capacity, and the error is `Memory`; nothing changes
abbrev pub VecRefuses : VecWriter → List ℕ → EncodeError → VecWriter → Type 0
VecRefuses a piece e b =
    (e ≡ Memory) × (capacity_of a < length (held_by a) + length piece) × (held_by b ≡ held_by a) × (capacity_of b ≡ capacity_of a) × (0 < length piece)

-- if what is held now did not fit before, the capacity has at least doubled
abbrev pub Doubles : VecWriter → VecWriter → Type 0
Doubles a b = capacity_of a < length (held_by b) → 2 * capacity_of a ≤ capacity_of b

-- `all` bytes fit after what was held before, and the capacity has at least doubled; or it is unchanged
abbrev pub MakesRoom : ℕ → VecWriter → VecWriter → Type 0
MakesRoom all a b =
    (capacity_of b ≡ capacity_of a) ⊎ ((length (held_by a) + all ≤ capacity_of b) × (2 * capacity_of a ≤ capacity_of b))
