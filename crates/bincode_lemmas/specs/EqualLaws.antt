-- What a conjunction of tests shows.
use Rattle.std.specs.Prelude.{◌≡◌, Bool, true, ◌&&◌}
use Rattle.std.proofs.lemmas.Bool.{and_parts}

-- if a conjunction passed, its first test passed, and what the others show holds
pub both-show : {Shown : Type 0} (a b : Bool) → (b ≡ true → Shown) → a && b ≡ true → (a ≡ true) × Shown
both-show a b shows h = let passed = and_parts a b h in (passed.0, shows passed.1)
