-- What a writer of a fixed capacity holds.
use Rattle.std.specs.Prelude.{ℕ, List}
use Rattle.proved_callers.specs.declared.fixed.Fixed.{Fixed}

-- the bytes that were written
abbrev pub held_by : {N : ℕ} → Fixed N → List ℕ
held_by w = w.bytes.items
