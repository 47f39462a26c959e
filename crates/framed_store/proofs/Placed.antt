-- Parts that are put one after the other.
use Rattle.std.specs.Prelude.{◌≡◌, ℕ, ◌+◌, List, ◌++◌, length, take}
use Rattle.std.proofs.Common.{◌∙◌, ap}
use Rattle.std.proofs.Math.Seq.{take-append-add, take-append_seam}

-- three parts, and what stands after them
pub three-parts : (a m b r f : List ℕ) (n : ℕ) → a ++ (m ++ b) ≡ f → n ≡ length a + (length m + length b) → take n (a ++ (m ++ (b ++ r))) ≡ f
three-parts a m b r f n same count =
    ap (λ k. take k (a ++ (m ++ (b ++ r)))) count ∙ take-append-add a (m ++ (b ++ r)) (length m + length b)
    ∙ ap (λ l. a ++ l) (take-append-add m (b ++ r) (length b) ∙ ap (λ l. m ++ l) (take-append_seam b r)) ∙ same
