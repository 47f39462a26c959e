-- Heterogeneous lists: what tuples are written as.
use Rattle.bincode_types.specs.declared.rows.Cons.{Cons}
use Rattle.bincode_types.specs.declared.rows.Cons4.{Cons4}

-- a part and the tail
abbrev pub row : {A Others : Type 0} → A → Others → Cons A Others
row a others = record { 0 = a; 1 = others }

-- four parts and the tail
abbrev pub four : {A B C D Others : Type 0} → A → B → C → D → Others → Cons4 A B C D Others
four a b c d others = record { 0 = a; 1 = b; 2 = c; 3 = d; 4 = others }
