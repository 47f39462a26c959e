-- Hashed sets and maps: what inserting items in order makes. The order of the table is not known.
use Rattle.std.specs.Prelude.{◌≡◌, Bool, List, [], ◌∷◌, MatchOption}
use Rattle.std.specs.Bool.{MatchBool}
use Rattle.std.specs.List.{list_any}
use Rattle.std.specs.List.Sorted.{IsPermutation}
use Rattle.std.specs.Map.{lookup, set_value}
use Rattle.bincode_spec.specs.Collections.{Makes}

-- each item is inserted, in order
abbrev pub PutsAll : {A : Type 0} → (List A → A → List A → Type 0) → List A → List A → List A → Type 0
PutsAll Puts before [] after = after ≡ before
PutsAll {A} Puts before (item ∷ items) after = (between : List A) × Puts before item between × PutsAll Puts between items after

-- inserting a key: it is somewhere afterwards, unless an equal one was there
abbrev pub PutsKey : {K : Type 0} → (K → K → Bool) → List K → K → List K → Type 0
PutsKey eq before k after = MatchBool (list_any (eq k) before) (after ≡ before) (IsPermutation (k ∷ before) after)

-- keys inserted in order, into an empty set
abbrev pub MakesHashedSet : {K : Type 0} → (K → K → Bool) → Makes K
MakesHashedSet eq items keys = PutsAll (PutsKey eq) [] items keys

-- inserting an entry: a key that is there stays and takes the value
abbrev pub PutsEntry : {K V : Type 0} → (K → K → Bool) → List (K × V) → K × V → List (K × V) → Type 0
PutsEntry eq before e after = MatchOption (lookup (eq e.0) before) (IsPermutation (e ∷ before) after) (λ _. after ≡ set_value (eq e.0) before e.1)

-- entries inserted in order, into an empty map
abbrev pub MakesHashedMap : {K V : Type 0} → (K → K → Bool) → Makes (K × V)
MakesHashedMap eq items entries = PutsAll (PutsEntry eq) [] items entries
