-- Trees whose nodes are in a list: the root first, then level by level.
use Rattle.std.specs.Prelude.{ℕ, pos, zero, suc, ◌+◌, Bool, true, false, ◌&&◌, ◌==◌, nat_lt, nat_le, List, [], ◌∷◌, length, map, Option, Some, None}
use Rattle.std.specs.List.{slice_get, flat_map}
use Rattle.bincode.specs.Meaning.{Meaning, Number, Nothing, Then}
use Rattle.own_types.specs.declared.tree.Node.{Node}

-- these are the numbers from `next` on
abbrev pub counts_up : ℕ → List ℕ → Bool
counts_up next [] = true
counts_up next (n ∷ others) = (n == next) && counts_up (next + 1) others

-- of `len` nodes, the one at `index` was named before it comes, and names those from `next` on
abbrev pub names_next : ℕ → ℕ → ℕ → List ℕ → Bool
names_next len index next children = nat_lt index next && (nat_le (next + length children) len && counts_up next children)

-- so do all from `index` on, and at the end each was named
abbrev pub is_in_turn : ℕ → ℕ → ℕ → List (List ℕ) → Bool
is_in_turn len index next [] = next == len
is_in_turn len index next (children ∷ others) = names_next len index next children && is_in_turn len (index + 1) (next + length children) others

-- the lists of children name the nodes after the first in order, each one before it comes
abbrev pub is_tree : List (List ℕ) → Bool
is_tree lists = is_in_turn (length lists) 0 1 lists

abbrev pub children_of : Node → List ℕ
children_of node = node.children.items

-- what a walk finds at a node: its value, then what it finds at each child
abbrev pub found_at : (ℕ → List ℕ) → Option Node → List ℕ
found_at Found None = []
found_at Found (Some node) = node.value ∷ flat_map Found node.children.items

-- the values of the node at this index and of all below it, down to this depth
unfoldable pub below : ℕ → List Node → ℕ → List ℕ
below zero nodes index = []
below (suc depth) nodes index = found_at (λ child. below depth nodes child) (slice_get nodes index)

-- all values from the root on: no node is deeper than there are nodes
abbrev pub depth_first : List Node → List ℕ
depth_first nodes = below (length nodes) nodes 0

-- what was decoded of a tree: a list of nodes, each a value and a list of numbers

abbrev pub head_of : Meaning → Meaning
head_of (Then head others) = head
head_of _ = Nothing

abbrev pub others_of : Meaning → Meaning
others_of (Then head others) = others
others_of _ = Nothing

abbrev pub number_of : Meaning → ℕ
number_of (Number (pos n)) = n
number_of _ = 0

abbrev pub numbers_in : Meaning → List ℕ
numbers_in (Then head others) = number_of head ∷ numbers_in others
numbers_in _ = []

-- the lists of children
abbrev pub lists_in : Meaning → List (List ℕ)
lists_in (Then node others) = numbers_in (head_of (others_of node)) ∷ lists_in others
lists_in _ = []

abbrev pub means_tree : Meaning → Bool
means_tree m = is_tree (lists_in m)
