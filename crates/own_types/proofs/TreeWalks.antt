-- Walks over trees whose nodes are in a list.
use Rattle.std.specs.Prelude.{◌≡◌, ◌<◌, ◌≤◌, ◌-◌, ◌⊎◌, ℕ, zero, suc, ◌+◌, Bool, true, false, ◌&&◌, ◌==◌, nat_lt, nat_le, List, [], ◌∷◌, ◌++◌, length, map, reverse, drop, Option, Some, None, refl}
use Rattle.std.specs.List.{slice_get, flat_map, All}
use Rattle.std.proofs.Common.{◌∙◌, sym, ap, subst, arith, get_or, add-one, add_assoc, add-suc, drop-cons, inl, inr}
use Rattle.std.proofs.Math.ListN.{get_or-map}
use Rattle.std.proofs.lemmas.Bool.Decides.{nat_tests}
use Rattle.std.proofs.lemmas.Grind.{common_steps, flat_map-append}
use Rattle.std.proofs.lemmas.List.{reverse-append, reverse-reverse, append_assoc, length-map}
use Rattle.std.proofs.lemmas.List.Elements.{All-cons, All-nil, All-head, All-tail, All-weaker, All-append, All-pop}
use Rattle.std.proofs.lemmas.Option.{slice_get_past, slice_get_cases, slice_get-get_or}
use Rattle.own_types.specs.Trees.{counts_up, names_next, is_in_turn, is_tree, children_of, found_at, below}
use Rattle.own_types.specs.declared.tree.Node.{Node}

pub turn-step : (len i next : ℕ) (nodes : List Node) (node : Node) → i < length nodes → node ≡ get_or nodes i node → is_in_turn len i next (drop i (map children_of nodes))
    ≡ (names_next len i next (children_of node) && is_in_turn len (i + 1) (next + length (children_of node)) (drop (i + 1) (map children_of nodes)))
turn-step len i next nodes node h e =
    let lists : List (List ℕ) = map children_of nodes in
    let within : i < length lists = omega (arith, length-map nodes children_of) in
    let here : get_or lists i (children_of node) ≡ children_of node = get_or-map children_of nodes i node ∙ ap children_of (sym e) in
    let rest : drop i lists ≡ children_of node ∷ drop (i + 1) lists = drop-cons lists i (children_of node) within ∙ ap (λ n. get_or lists i (children_of node) ∷ drop n lists) (sym (add-one i)) ∙ ap (λ cs. cs ∷ drop (i + 1) lists) here in
    ap (is_in_turn len i next) rest

pub turn-ends : (len i next : ℕ) (nodes : List Node) (node : Node) → i < length nodes → node ≡ get_or nodes i node → names_next len i next (children_of node) ≡ false →
    is_in_turn len i next (drop i (map children_of nodes)) ≡ false
turn-ends len i next nodes node h e fails = turn-step len i next nodes node h e ∙ ap (λ b. b && is_in_turn len (i + 1) (next + length (children_of node)) (drop (i + 1) (map children_of nodes))) fails

pub turn-goes_on : (len i next : ℕ) (nodes : List Node) (node : Node) → i < length nodes → node ≡ get_or nodes i node → names_next len i next (children_of node) ≡ true →
    is_in_turn len i next (drop i (map children_of nodes)) ≡ is_in_turn len (i + 1) (next + length (children_of node)) (drop (i + 1) (map children_of nodes))
turn-goes_on len i next nodes node h e holds = turn-step len i next nodes node h e ∙ ap (λ b. b && is_in_turn len (i + 1) (next + length (children_of node)) (drop (i + 1) (map children_of nodes))) holds

-- what the test of a node tells
pub names-tells : (len i next : ℕ) (cs : List ℕ) → names_next len i next cs ≡ true → (i < next) × (next + length cs ≤ len) × (counts_up next cs ≡ true)
names-tells len i next cs e = (grind (arith, nat_tests), grind (arith, nat_tests), grind (arith, nat_tests))

-- a child comes after its node, within the list
abbrev pub IsAfter : ℕ → ℕ → ℕ → Type 0
IsAfter len i c = (i < c) × (c < len)

counts-tells : (next c : ℕ) (cs : List ℕ) → counts_up next (c ∷ cs) ≡ true → (c ≡ next) × (counts_up (next + 1) cs ≡ true)
counts-tells next c cs e = (grind (arith, nat_tests), grind (arith, nat_tests))

counted-after : (len i next : ℕ) (cs : List ℕ) → i < next → next + length cs ≤ len → counts_up next cs ≡ true → All (IsAfter len i) cs
counted-after len i next [] h k e = All-nil (IsAfter len i)
counted-after len i next (c ∷ cs) h k e =
    let t = counts-tells next c cs e in
    let more : next + 1 + length cs ≤ len = omega arith in
    All-cons (IsAfter len i) c cs (omega (arith, t.0), omega (arith, t.0)) (counted-after len i (next + 1) cs (omega arith) more t.1)

and-tells : (a b : Bool) → (a && b) ≡ true → (a ≡ true) × (b ≡ true)
and-tells true b e = (refl, e)
and-tells false b e = absurd (cc)

turn-after : (len i next k : ℕ) (nodes : List Node) (node : Node) → is_in_turn len i next (map children_of nodes) ≡ true → slice_get nodes k ≡ Some node → All (IsAfter len (i + k)) node.children.items
turn-after len i next k [] node e h = absurd (cc)
turn-after len i next zero (first ∷ nodes) node e h =
    let t = and-tells (names_next len i next (children_of first)) _ e in
    let n = names-tells len i next (children_of first) t.0 in
    let same : first ≡ node = cc in
    subst (λ (x : Node). All (IsAfter len (i + 0)) x.children.items) same (counted-after len (i + 0) next (children_of first) (omega (arith, n.0)) n.1 n.2)
turn-after len i next (suc k) (first ∷ nodes) node e h =
    let t = and-tells (names_next len i next (children_of first)) _ e in
    let at : i + 1 + k ≡ i + suc k = omega arith in
    subst (λ n. All (IsAfter len n) node.children.items) at (turn-after len (i + 1) (next + length (children_of first)) k nodes node t.1 h)

-- a tree has a root, and the children of each node come after it
pub tree-after : (nodes : List Node) → is_tree (map children_of nodes) ≡ true → (k : ℕ) (node : Node) → slice_get nodes k ≡ Some node → All (IsAfter (length nodes) k) node.children.items
tree-after nodes e k node h =
    let b = turn-after (length (map children_of nodes)) 0 1 k nodes node e h in
    let len : length (map children_of nodes) ≡ length nodes = length-map nodes children_of in
    let at : 0 + k ≡ k = omega arith in
    subst (λ n. All (IsAfter n k) node.children.items) len (subst (λ n. All (IsAfter (length (map children_of nodes)) n) node.children.items) at b)

pub tree-rooted : (nodes : List Node) → is_tree (map children_of nodes) ≡ true → 0 < length nodes
tree-rooted [] e = absurd (cc)
tree-rooted (node ∷ nodes) e = omega arith

flat_map-same : (f g : ℕ → List ℕ) (xs : List ℕ) → All (λ x. f x ≡ g x) xs → flat_map f xs ≡ flat_map g xs
flat_map-same f g [] all = refl
flat_map-same f g (x ∷ xs) all =
    let head = All-head (λ x. f x ≡ g x) x xs all in
    let rest = flat_map-same f g xs (All-tail (λ x. f x ≡ g x) x xs all) in
    ap (λ a. a ++ flat_map f xs) head ∙ ap (λ b. g x ++ b) rest

-- the walks of a list whose nodes have their children after them
module _ (nodes : List Node) (behind : (k : ℕ) (node : Node) → slice_get nodes k ≡ Some node → All (IsAfter (length nodes) k) node.children.items) where
  -- a sufficient depth gives what a larger one does
  enough : (a b i : ℕ) → length nodes ≤ a + i → length nodes ≤ b + i → below a nodes i ≡ below b nodes i
  unfolding below
  enough zero zero i h k = refl
  enough zero (suc b) i h k = sym (ap (found_at (λ c. below b nodes c)) (slice_get_past nodes i (omega arith)))
  enough (suc a) zero i h k = ap (found_at (λ c. below a nodes c)) (slice_get_past nodes i (omega arith))
  enough (suc a) (suc b) i h k =
      elim (slice_get_cases nodes i).1 [
        | inl found ↦
            let more : (cs : List ℕ) → All (IsAfter (length nodes) i) cs → All (λ c. below a nodes c ≡ below b nodes c) cs = λ cs all.
            All-weaker (IsAfter (length nodes) i) (λ c. below a nodes c ≡ below b nodes c) (λ c l. enough a b c (omega (arith, l.0)) (omega (arith, l.0))) cs all in
            let same = flat_map-same (λ c. below a nodes c) (λ c. below b nodes c) found.0.children.items (more found.0.children.items (behind i found.0 found.2)) in
            ap (found_at (λ c. below a nodes c)) found.2 ∙ ap (λ others. found.0.value ∷ others) same ∙ sym (ap (found_at (λ c. below b nodes c)) found.2)
        | inr past ↦ ap (found_at (λ c. below a nodes c)) past.1 ∙ sym (ap (found_at (λ c. below b nodes c)) past.1)
      ]

  -- one step of a walk at a node
  pub walk-at : (i : ℕ) (node : Node) → slice_get nodes i ≡ Some node → below (length nodes) nodes i ≡ node.value ∷ flat_map (λ c. below (length nodes) nodes c) node.children.items
  unfolding below
  walk-at i node e = enough (length nodes) (suc (length nodes)) i (omega arith) (omega arith) ∙ ap (found_at (λ c. below (length nodes) nodes c)) e

module _ (F : ℕ → List ℕ) (values waiting cs : List ℕ) (v i : ℕ) (at : F i ≡ v ∷ flat_map F cs) where
  here : flat_map F (reverse (waiting ++ i ∷ [])) ≡ v ∷ (flat_map F cs ++ flat_map F (reverse waiting))
  here = ap (flat_map F) (reverse-append waiting (i ∷ [])) ∙ ap (λ a. a ++ flat_map F (reverse waiting)) at

  next : flat_map F (reverse (waiting ++ reverse cs)) ≡ flat_map F cs ++ flat_map F (reverse waiting)
  next = ap (flat_map F) (reverse-append waiting (reverse cs) ∙ ap (λ a. a ++ reverse waiting) (reverse-reverse cs)) ∙ flat_map-append F cs (reverse waiting)

  pub walk-step : (values ++ v ∷ []) ++ flat_map F (reverse (waiting ++ reverse cs)) ≡ values ++ flat_map F (reverse (waiting ++ i ∷ []))
  walk-step = ap (λ a. (values ++ v ∷ []) ++ a) next ∙ append_assoc values (v ∷ []) _ ∙ ap (λ a. values ++ a) (sym here)

  pub walk-shorter : length (flat_map F (reverse (waiting ++ reverse cs))) < length (flat_map F (reverse (waiting ++ i ∷ [])))
  walk-shorter = let a = ap length here in let b = ap length next in omega (arith, a, b)

All-reverse : (P : ℕ → Type 0) (xs : List ℕ) → All P xs → All P (reverse xs)
All-reverse P [] all = all
All-reverse P (x ∷ xs) all = subst (All P) (sym (reverse-append (x ∷ []) xs)) (All-append P (reverse xs) (x ∷ []) (All-reverse P xs (All-tail P x xs all)) (All-cons P x [] (All-head P x xs all) (All-nil P)))

-- one round of a walk: the last of the waiting nodes is taken, and its children wait in its place
module _ (nodes : List Node) (tree : is_tree (map children_of nodes) ≡ true) where
  pub one-round : (all values waiting fewer more children values' : List ℕ) (i : ℕ) (node : Node) → waiting ≡ fewer ++ i ∷ [] → All (λ k. k < length nodes) waiting → node ≡ get_or nodes i node
      → children ≡ node.children.items → more ≡ fewer ++ reverse children → values' ≡ values ++ node.value ∷ []
      → values ++ flat_map (λ k. below (length nodes) nodes k) (reverse waiting) ≡ all
      → All (λ k. k < length nodes) more × (values' ++ flat_map (λ k. below (length nodes) nodes k) (reverse more) ≡ all)
      × (length (flat_map (λ k. below (length nodes) nodes k) (reverse more)) < length (flat_map (λ k. below (length nodes) nodes k) (reverse waiting)))
  one-round all values waiting fewer more children values' i node w within is cs m v left =
      let F : ℕ → List ℕ = λ k. below (length nodes) nodes k in
      let Within : ℕ → Type 0 = λ k. k < length nodes in
      let apart = All-pop Within waiting fewer (Some i) w within in
      let here : i < length nodes = apart.1 in
      let at : slice_get nodes i ≡ Some node = slice_get-get_or nodes i node here ∙ ap Some (sym is) in
      let behind = tree-after nodes tree in
      let kids : All Within node.children.items = All-weaker (IsAfter (length nodes) i) Within (λ c l. l.1) node.children.items (behind i node at) in
      let walk = walk-at nodes behind i node at in
      let pushed : more ≡ fewer ++ reverse node.children.items = m ∙ ap (λ a. fewer ++ reverse a) cs in (
        subst (All Within) (sym pushed) (All-append Within fewer (reverse node.children.items) apart.0 (All-reverse Within node.children.items kids)),
        ap (λ a. values' ++ flat_map F (reverse a)) pushed ∙ ap (λ a. a ++ flat_map F (reverse (fewer ++ reverse node.children.items))) v
            ∙ walk-step F values fewer node.children.items node.value i walk ∙ ap (λ a. values ++ flat_map F (reverse a)) (sym w) ∙ left,
        subst (λ a. length (flat_map F (reverse a)) < length (flat_map F (reverse waiting))) (sym pushed)
            (subst (λ a. length (flat_map F (reverse (fewer ++ reverse node.children.items))) < length (flat_map F (reverse a))) (sym w)
            (walk-shorter F values fewer node.children.items node.value i walk)),
      )
