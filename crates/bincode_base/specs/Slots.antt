-- Slots, and what is collected from an iterator into them.
use Rattle.std.specs.Prelude.{◌≡◌, ℕ, ◌*◌, ◌^◌, ◌<◌, List, length, map, Option, Some, None, Result, Ok, Err}
use Rattle.std.specs.Iterator.{Yields, YieldsThen}
use Rattle.std.specs.Mem.{type_size}
use Rattle.std.specs.contracts.option.Option as option
use denote.RattleType.{RattleType}

-- n slots, each an `Option<T>`, take fewer than 2^63 bytes
abbrev pub SlotsFit : RattleType → ℕ → Type 0
SlotsFit T n = n * type_size (option.the_row T) < 2 ^ 63

module _ {S T E : Type 0} (gives : S → Option (Result T E) → S → Type 0) where
  -- The calls gave `Ok` of each of n items, or of fewer and then an `Err` or `None`. No further call was made.
  abbrev pub Collects : S → ℕ → Option (Result (List T) E) → S → Type 0
  Collects before n (Some (Ok items)) after = (length items ≡ n) × Yields gives before (map Ok items) after
  Collects before n (Some (Err e)) after = (items : List T) × (length items < n) × YieldsThen gives before (map Ok items) (Some (Err e)) after
  Collects before n None after = (items : List T) × (length items < n) × YieldsThen gives before (map Ok items) None after

  -- what `Collects` says, with the items left in slots
  abbrev pub FillsSlots : S → List (Option T) → Option (Result (Unit {0}) E) → S → Type 0
  FillsSlots before slots (Some (Ok done)) after = (items : List T) × (slots ≡ map Some items) × Yields gives before (map Ok items) after
  FillsSlots before slots (Some (Err e)) after = (items : List T) × (length items < length slots) × YieldsThen gives before (map Ok items) (Some (Err e)) after
  FillsSlots before slots None after = (items : List T) × (length items < length slots) × YieldsThen gives before (map Ok items) None after
