-- A row is equal exactly if the tuple is.
use Rattle.std.specs.Prelude.{◌≡◌, refl, Bool, true, false, ◌&&◌, List, [], ◌∷◌}
use Rattle.std.proofs.Common.{◌∙◌}

-- tests joined from the last on, as those of a row's parts, and from the first on, as those of a tuple
abbrev pub from_last : List Bool → Bool
from_last [] = true
from_last (b ∷ bs) = b && from_last bs

abbrev pub from_first : Bool → List Bool → Bool
from_first a [] = a
from_first a (b ∷ bs) = from_first (a && b) bs

regrouped : (a b c : Bool) → a && (b && c) ≡ (a && b) && c
regrouped true b c = refl
regrouped false b c = refl

-- the row passes exactly if the tuple does
pub row-same : (a : Bool) (bs : List Bool) → a && from_last bs ≡ from_first a bs
row-same true [] = refl
row-same false [] = refl
row-same a (b ∷ bs) = regrouped a b (from_last bs) ∙ row-same (a && b) bs
