-- Properties of a pair.

-- one holds of the first part, the other of the second
abbrev pub both_keep : {A B : Type 0} → (A → Type 0) → (B → Type 0) → A × B → Type 0
both_keep P Q e = P e.0 × (Q e.1 × Unit {0})
