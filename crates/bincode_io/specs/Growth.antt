-- How the capacity of a vector grows.
use Rattle.std.specs.Prelude.{◌≡◌, ◌+◌, ◌*◌, ◌≤◌, ◌⊎◌, ℕ, length, vec_capacity}
use Rattle.std.specs.declared.vec.Vec.{Vec}

-- the capacity is unchanged, or it fits `additional` more elements and is at least twice as large
abbrev pub GrowsFor : {T A : Type 0} → ℕ → Vec T A → Vec T A → Type 0
GrowsFor additional before after =
    (vec_capacity after ≡ vec_capacity before) ⊎ ((length before.items + additional ≤ vec_capacity after) × (2 * vec_capacity before ≤ vec_capacity after))
