-- Inserting items into a hashed set or map, one by one.
use Rattle.std.specs.Prelude.{◌≡◌, Bool, true, false, not, List, [], ◌∷◌, ◌++◌, Option, MatchOption, refl}
use Rattle.std.specs.Bool.{MatchBool}
use Rattle.std.specs.List.{list_any}
use Rattle.std.specs.List.Sorted.{IsPermutation}
use Rattle.std.specs.Map.{lookup, set_value}
use Rattle.std.proofs.Common.{subst}
use Rattle.bincode_spec.specs.Hashed.{PutsAll, PutsKey, PutsEntry}

-- one more item is inserted after those before it
pub puts-push : {A : Type 0} (Puts : List A → A → List A → Type 0) (before between : List A) (items : List A) (item : A) (after : List A) →
    PutsAll Puts before items between → Puts between item after → PutsAll Puts before (items ++ item ∷ []) after
puts-push Puts before between [] item after h p = (after, subst (λ l. Puts l item after) h p, refl)
puts-push Puts before between (i ∷ items) item after h p = (h.0, h.1, puts-push Puts h.0 between items item after h.2 p)

put-new : (P Q : Type 0) (there added : Bool) → added ≡ not there → MatchBool added P Q → MatchBool there Q P
put-new P Q true true e h = absurd (cc)
put-new P Q true false e h = h
put-new P Q false true e h = h
put-new P Q false false e h = absurd (cc)

-- what `insert` does with a key
pub puts-key : {K : Type 0} (eq : K → K → Bool) (before after : List K) (k : K) (added : Bool) → added ≡ not (list_any (eq k) before) →
    MatchBool added (IsPermutation (k ∷ before) after) (after ≡ before) → PutsKey eq before k after
puts-key eq before after k added e h = put-new _ _ (list_any (eq k) before) added e h

-- and with an entry
pub puts-entry : {K V : Type 0} (eq : K → K → Bool) (before after : List (K × V)) (k : K) (v : V) (old : Option V) → old ≡ lookup (eq k) before →
    MatchOption old (IsPermutation ((k, v) ∷ before) after) (λ _. after ≡ set_value (eq k) before v) → PutsEntry eq before (k, v) after
puts-entry eq before after k v old e h = subst (λ o. MatchOption o (IsPermutation ((k, v) ∷ before) after) (λ _. after ≡ set_value (eq k) before v)) e h
