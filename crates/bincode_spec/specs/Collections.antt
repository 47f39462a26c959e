-- Length-prefixed lists, and what collections are made of: the items of a word, in order.
use Rattle.std.specs.Prelude.{◌≡◌, ◌<◌, ◌^◌, List, [], ◌∷◌, length}
use Rattle.std.specs.List.{All}
use Rattle.std.specs.List.Sorted.{IsPermutation}
use Rattle.std.specs.BTreeMap.{insert_entry}
use Rattle.std.specs.BTreeSet.{insert_key}
use Rattle.std.specs.declared.cmp.Ordering.{Ordering}
use Rattle.bincode_spec.specs.Meaning.{Meaning}
use Rattle.bincode_spec.specs.Run.{IsListOf}

-- each item is valid, and their number fits 64 bits
abbrev pub AreValid : {A : Type 0} → (A → Type 0) → List A → Type 0
AreValid Valid vs = (length vs < 2 ^ 64) × All Valid vs

-- these items, inserted in order, make a collection of those
abbrev pub Makes : Type 0 → Type 1
Makes A = List A → List A → Type 0

-- the meaning is a list of items that make the collection
abbrev pub IsMadeOf : {A : Type 0} → Makes A → (A → Meaning → Type 0) → List A → Meaning → Type 0
IsMadeOf {A} Making Is vs m = (items : List A) × Making items vs × IsListOf Is items m

-- a bag has its items in any order
abbrev pub MakesBag : {A : Type 0} → Makes A
MakesBag items vs = IsPermutation items vs

-- keys that are inserted in order: of equal ones the first stays
abbrev pub put_keys : {K : Type 0} → (K → K → Ordering) → List K → List K → List K
put_keys cmp keys [] = keys
put_keys cmp keys (k ∷ items) = put_keys cmp (insert_key cmp keys k) items

abbrev pub MakesSet : {K : Type 0} → (K → K → Ordering) → Makes K
MakesSet cmp items keys = keys ≡ put_keys cmp [] items

-- entries that are inserted in order: of equal keys the first stays, with the last value
abbrev pub put_entries : {K V : Type 0} → (K → K → Ordering) → List (K × V) → List (K × V) → List (K × V)
put_entries cmp entries [] = entries
put_entries cmp entries (e ∷ items) = put_entries cmp (insert_entry cmp entries e.0 e.1) items

abbrev pub MakesMap : {K V : Type 0} → (K → K → Ordering) → Makes (K × V)
MakesMap cmp items entries = entries ≡ put_entries cmp [] items
