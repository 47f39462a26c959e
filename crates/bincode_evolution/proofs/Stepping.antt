-- The rules by the lists of the parts: one more part, and shapes without like parts.
use Rattle.std.specs.Prelude.{◌≡◌, ℕ, suc, ◌+◌, ◌<◌, ◌≤◌, Bool, true, false, not, ◌&&◌, ◌||◌, List, [], ◌∷◌, length, get_or, drop, Box, refl}
use Rattle.std.specs.List.{list_all}
use Rattle.std.specs.declared.alloc.Global.{Global}
use Rattle.std.specs.declared.vec.Vec.{Vec}
use Rattle.std.proofs.Common.{sym, ◌∙◌, ap, inl, inr, arith}
use Rattle.std.proofs.lemmas.Bool.{cases_lt, ne_eqb, eq-eqb, and_right}
use Rattle.std.proofs.lemmas.List.{drop_more, drop_all}
use Rattle.bincode_base.specs.declared.config.IntEncoding.{IntEncoding}
use Rattle.bincode_shape.specs.declared.shape.Shape as shapes
use Rattle.bincode_shape.specs.declared.shape.Shape.{Shape, items_hidden-the_row-Shape-0}
use Rattle.bincode_evolution.specs.Rules.{has_words, is_read, Part, has_parts, each_read, reads_each, variants_read}
use Rattle.bincode_evolution.specs.Lists.{any_has_words, part_of, parts_in_list, is_array_read, is_variant_read}

or_assoc : (a b c : Bool) → (a || (b || c)) ≡ ((a || b) || c)
or_assoc true b c = refl
or_assoc false b c = refl

and_assoc : (a b c : Bool) → (a && (b && c)) ≡ ((a && b) && c)
and_assoc true b c = refl
and_assoc false b c = refl

first_read : (p : Part) (parts : List Part) (news : List Shape) (i : ℕ) (d : Shape) →
    variants_read (p ∷ parts) (drop i news) ≡ (is_variant_read p (drop i news) && variants_read parts (drop (i + 1) news))
first_read p parts news i d =
    elim (cases_lt i (length news)) [
      | inl low ↦ rw (drop_more news i d low) refl
      | inr high ↦ let k : length news ≤ i + 1 = omega (arith, high) in rw (drop_all i news high, drop_all (i + 1) news k) refl
    ]

-- the next variant, with the one of its place
pub variants-more : (encoding : IntEncoding) (parts news : List Shape) (i : ℕ) (p : Shape) (has read part_has part_read now_has now_read : Bool) → i < length parts → p ≡ get_or parts i p →
    part_has ≡ has_words p → part_read ≡ is_variant_read (part_of encoding p) (drop i news) → now_has ≡ (has || part_has) → now_read ≡ (read && part_read) →
    any_has_words parts ≡ (has || any_has_words (drop i parts)) →
    variants_read (parts_in_list encoding parts) news ≡ (read && variants_read (parts_in_list encoding (drop i parts)) (drop i news)) →
    (any_has_words parts ≡ (now_has || any_has_words (drop (i + 1) parts)))
    × (variants_read (parts_in_list encoding parts) news ≡ (now_read && variants_read (parts_in_list encoding (drop (i + 1) parts)) (drop (i + 1) news)))
variants-more encoding parts news i p has read part_has part_read now_has now_read h at_i e f g k has_is read_is =
    let here : drop i parts ≡ p ∷ drop (i + 1) parts = drop_more parts i p h ∙ ap (λ z. z ∷ drop (i + 1) parts) (sym at_i) in
    let others = drop (i + 1) parts in (
      has_is ∙ ap (λ z. has || any_has_words z) here ∙ or_assoc has (has_words p) (any_has_words others) ∙ ap (λ z. z || any_has_words others) (sym (g ∙ ap (λ z. has || z) e)),
      read_is ∙ ap (λ z. read && variants_read (parts_in_list encoding z) (drop i news)) here
          ∙ ap (λ z. read && z) (first_read (part_of encoding p) (parts_in_list encoding others) news i p)
          ∙ and_assoc read (is_variant_read (part_of encoding p) (drop i news)) (variants_read (parts_in_list encoding others) (drop (i + 1) news))
          ∙ ap (λ z. z && variants_read (parts_in_list encoding others) (drop (i + 1) news)) (sym (k ∙ ap (λ z. read && z) f)),
    )

length-listed : (encoding : IntEncoding) (parts : List Shape) → length (parts_in_list encoding parts) ≡ length parts
length-listed encoding [] = refl
length-listed encoding (part ∷ parts) = ap suc (length-listed encoding parts)

-- without like parts, none is read
pub lacking : (result found words all : Bool) → found ≡ false → result ≡ not words → words ≡ all → result ≡ (found || not all)
lacking result found words all e f g = f ∙ ap not g ∙ ap (λ z. z || not all) (sym e)

pub nothing_lacks : (encoding : IntEncoding) (parts : List Shape) → (length parts ≡ 0 → ⊥) → has_parts (parts_in_list encoding parts) shapes.Unit ≡ false
nothing_lacks encoding parts h = rw (length-listed encoding parts) (ne_eqb (length parts) 0 h)

pub array_lacks : (encoding : IntEncoding) (parts : List Shape) (len claim : ℕ) (b : Box Shape Global) → (len ≡ length parts → ⊥) → has_parts (parts_in_list encoding parts) (shapes.Array len claim b) ≡ false
array_lacks encoding parts len claim b h = let e = ne_eqb len (length parts) h in rw (length-listed encoding parts, e) refl

pub array_has : (encoding : IntEncoding) (parts : List Shape) (len claim : ℕ) (b : Box Shape Global) → len ≡ length parts →
    has_parts (parts_in_list encoding parts) (shapes.Array len claim b) ≡ reads_each b.value (parts_in_list encoding parts)
array_has encoding parts len claim b h = let e = eq-eqb len (length parts) h in rw (length-listed encoding parts, e) refl

each-differ : (encoding : IntEncoding) (parts news : List Shape) → (length news ≡ length parts → ⊥) → each_read (parts_in_list encoding parts) news ≡ false
each-differ encoding [] [] h = absurd (h refl)
each-differ encoding [] (new ∷ news) h = refl
each-differ encoding (part ∷ parts) [] h = refl
each-differ encoding (part ∷ parts) (new ∷ news) h = and_right (is_read encoding part new) (each_read (parts_in_list encoding parts) news) (each-differ encoding parts news (λ e. h (ap suc e)))

pub tuple_lacks : (encoding : IntEncoding) (parts : List Shape) (v : Vec Shape Global) → (length v.items ≡ length parts → ⊥) → has_parts (parts_in_list encoding parts) (shapes.Tuple v) ≡ false
tuple_lacks encoding parts v h = rw (items_hidden-the_row-Shape-0 v) (each-differ encoding parts v.items h)

-- a tuple of as many parts as an array has elements reads it part by part, and another one not at all
pub tuple_reads_array : (encoding : IntEncoding) (len : ℕ) (element : Shape) (v : Vec Shape Global) → (len ≡ 0 → ⊥) → length v.items ≡ len →
    is_array_read encoding len element (shapes.Tuple v) ≡ (list_all (is_read encoding element) v.items || not (has_words element))
tuple_reads_array encoding len element v some h = let e = ne_eqb len 0 some in let f = eq-eqb (length v.items) len h in rw (e, items_hidden-the_row-Shape-0 v, f) refl

pub tuple_lacks_array : (encoding : IntEncoding) (len : ℕ) (element : Shape) (v : Vec Shape Global) → (len ≡ 0 → ⊥) → (length v.items ≡ len → ⊥) →
    is_array_read encoding len element (shapes.Tuple v) ≡ not (has_words element)
tuple_lacks_array encoding len element v some h = let e = ne_eqb len 0 some in let f = ne_eqb (length v.items) len h in rw (e, items_hidden-the_row-Shape-0 v, f) refl
