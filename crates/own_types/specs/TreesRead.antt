-- The lists of children in what was decoded of a tree.
use Rattle.std.specs.Prelude.{◌≡◌, ℕ, pos, List, [], ◌∷◌, map}
use Rattle.std.proofs.Common.{◌∙◌, ap}
use Rattle.bincode.specs.Meaning.{Meaning, IsNumber, IsThen}
use Rattle.bincode.specs.Run.{IsListOf}
use Rattle.own_types.specs.Trees.{children_of, head_of, others_of, number_of, numbers_in, lists_in, is_tree, means_tree}
use Rattle.own_types.specs.declared.tree.Node.{Node}

numbers-read : (Is : ℕ → Meaning → Type 0) → ((n : ℕ) (m : Meaning) → Is n m → number_of m ≡ n) → (ns : List ℕ) (m : Meaning) → IsListOf Is ns m → numbers_in m ≡ ns
numbers-read Is each [] m h = ap numbers_in h
numbers-read Is each (n ∷ ns) m h =
    ap numbers_in h.meaning_is ∙ ap (λ k. k ∷ numbers_in h.others) (each n h.first h.is_first) ∙ ap (λ others. n ∷ others) (numbers-read Is each ns h.others h.are_others)

lists-read : (Is : Node → Meaning → Type 0) → ((node : Node) (m : Meaning) → Is node m → numbers_in (head_of (others_of m)) ≡ children_of node) → (nodes : List Node) (m : Meaning) → IsListOf Is nodes m
    → lists_in m ≡ map children_of nodes
lists-read Is each [] m h = ap lists_in h
lists-read Is each (node ∷ nodes) m h =
    ap lists_in h.meaning_is ∙ ap (λ cs. cs ∷ lists_in h.others) (each node h.first h.is_first) ∙ ap (λ others. children_of node ∷ others) (lists-read Is each nodes h.others h.are_others)

-- the children of a node, from the meaning of its list
node-read : (First Last Kids : Meaning → Type 0) (children : List ℕ) → ((m : Meaning) → Kids m → IsListOf (λ n. IsNumber (pos n)) children m) → (m : Meaning)
    → IsThen First (IsThen Kids Last) m → numbers_in (head_of (others_of m)) ≡ children
node-read First Last Kids children kids m h =
    ap (λ x. numbers_in (head_of (others_of x))) h.meaning_is ∙ ap (λ x. numbers_in (head_of x)) h.are_others.meaning_is
    ∙ numbers-read (λ n. IsNumber (pos n)) (λ n x e. ap number_of e) children h.are_others.first (kids h.are_others.first h.are_others.is_first)

-- nodes, from the meaning of each: a value, and its children
pub tree-read : (First Last : Node → Meaning → Type 0) (Kids : Node → Meaning → Type 0) → ((node : Node) (m : Meaning) → Kids node m → IsListOf (λ n. IsNumber (pos n)) node.children.items m)
    → (nodes : List Node) (m : Meaning) → IsListOf (λ node. IsThen (First node) (IsThen (Kids node) (Last node))) nodes m → means_tree m ≡ is_tree (map children_of nodes)
tree-read First Last Kids kids nodes m h =
    ap is_tree (lists-read (λ node. IsThen (First node) (IsThen (Kids node) (Last node))) (λ node x e. node-read (First node) (Last node) (Kids node) node.children.items (kids node) x e) nodes m h)
