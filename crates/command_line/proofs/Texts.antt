-- The texts of an id among values, one value more.
use Rattle.std.proofs.Common.{◌≡◌, ◌<◌, ◌+◌, ◌++◌, ◌∷◌, [], ℕ, List, Bor, None, Some, true, false, length, map, take}
use Rattle.std.proofs.Common.{if◌then◌else◌, arith, slice_index_or}
use Rattle.std.proofs.lemmas.Grind.{common_steps}
use Rattle.std.proofs.lemmas.List.Elements.{filter_map-append}
use Rattle.std.specs.List.{filter_map}
use Rattle.std.specs.Str.{bytes_eq}
use Rattle.command_line.specs.declared.found.Value.{Value}

-- a value of the id
pub one_more : (id : List ℕ) (xs : List Value) (i : ℕ) (d : Value) (ts : List (Bor (List ℕ))) → i < length xs
    → bytes_eq (slice_index_or xs i d).id.now id ≡ true
    → map (λ t. t.now) ts ≡ filter_map (λ v. if bytes_eq v.id.now id then Some v.text.now else None) (take i xs)
    → map (λ t. t.now) (ts ++ (slice_index_or xs i d).text ∷ [])
    ≡ filter_map (λ v. if bytes_eq v.id.now id then Some v.text.now else None) (take (i + 1) xs)
one_more id xs i d ts lt same kept = grind (arith, common_steps, filter_map-append)

-- a value of another one
pub none_more : (id : List ℕ) (xs : List Value) (i : ℕ) (d : Value) (ts : List (Bor (List ℕ))) → i < length xs
    → bytes_eq (slice_index_or xs i d).id.now id ≡ false
    → map (λ t. t.now) ts ≡ filter_map (λ v. if bytes_eq v.id.now id then Some v.text.now else None) (take i xs)
    → map (λ t. t.now) ts
    ≡ filter_map (λ v. if bytes_eq v.id.now id then Some v.text.now else None) (take (i + 1) xs)
none_more id xs i d ts lt other kept = grind (arith, common_steps, filter_map-append)
