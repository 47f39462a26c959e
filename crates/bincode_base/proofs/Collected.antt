-- Items that an iterator gives in turn.
use Rattle.std.proofs.Common.{◌≡◌, List, [], ◌∷◌, ◌++◌, map, Option, Some, Result, Ok, refl}
use Rattle.std.specs.Iterator.{Yields}

-- one more call
pub yields-more : {S T E : Type 0} (gives : S → Option (Result T E) → S → Type 0) (s t u : S) (xs : List T) (x : T) (r : Result T E) → r ≡ Ok x →
    Yields gives s (map Ok xs) t → gives t (Some r) u → Yields gives s (map Ok (xs ++ x ∷ [])) u
yields-more gives s t u [] x r e y k = (u, rw (y, ← e) k, refl)
yields-more gives s t u (z ∷ zs) x r e (j, h, ys) k = (j, h, yields-more gives j t u zs x r e ys k)
