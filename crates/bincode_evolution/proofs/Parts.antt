-- Tuples and arrays that read all words of others.
use Rattle.std.specs.Prelude.{◌≡◌, ℕ, suc, Bool, true, false, ◌==◌, List, [], ◌∷◌, length}
use Rattle.std.specs.List.{list_all}
use Rattle.std.proofs.Common.{◌∙◌, ap, sym, subst, arith}
use Rattle.std.proofs.lemmas.Bool.{and_parts, eqb-true}
use Rattle.bincode_base.specs.Setting.{Setting}
use Rattle.bincode_spec.specs.Charge.{Reserve, Release}
use Rattle.bincode_spec.specs.Format.{Format, pure, step, without_count, map_format, elements, ◌>>=◌}
use Rattle.bincode_spec.specs.Meaning.{Meaning, Nothing, Then, list_meaning}
use Rattle.bincode_spec.specs.Words.{nothing, first_and, tuple, array}
use Rattle.bincode_shape.specs.declared.shape.Shape as shapes
use Rattle.bincode_shape.specs.declared.shape.Shape.{Shape, items-the_row-Shape, end_of-Shape, more_of-Shape}
use Rattle.bincode_shape.specs.Shapes.{format_of, at, share}
use Rattle.bincode_shape.specs.Rows.{formats}
use Rattle.bincode_evolution.specs.Lists.{formats-items}
use Rattle.bincode_evolution.specs.Reading.{ReadsTo, ReadsAll}
use Rattle.bincode_evolution.specs.Rules.{Part, is_nothing, is_row, reads_each, each_read, has_parts}
use Rattle.bincode_evolution.proofs.Taking.{TakesBoth, taken_in_turn, takes_in_turn, takes_pure, taken_pure, takes_stepped, taken_stepped, takes_map, taken_map, taken_without_count, takes_without_count}
use Rattle.bincode_evolution.proofs.Taking.{reads_itself, reads_array, reads_first_and, NoWord}

-- what is known of a part of an old shape: the shapes that read it do so, and without words it has none
pub record Sound (s : Setting) (part : Part) (F : Format Meaning) : Type 0 where
  pub reads : (new : Shape) → part.is_read_by new ≡ true → ReadsAll (format_of new s) F
  pub none : part.has_words ≡ false → NoWord F

abbrev pub EachSound : Setting → List Part → List (Setting → Format Meaning) → Type 0
EachSound s [] [] = Unit {0}
EachSound s [] (F ∷ Fs) = ⊥
EachSound s (part ∷ parts) [] = ⊥
EachSound s (part ∷ parts) (F ∷ Fs) = Sound s part (F s) × EachSound s parts Fs

-- elements, one by one
pub record OneMore (n share : ℕ) (F : Format Meaning) (input : List ℕ) (ms : List Meaning) (remaining : List ℕ) : Type 0 where
  pub m : Meaning
  pub others : List Meaning
  pub middle : List ℕ
  pub meaning_is : ms ≡ m ∷ others
  pub first : ReadsTo (F.read input) m middle
  pub second : ReadsTo ((elements n share F).read middle) others remaining

pub taken_element : (n share : ℕ) (F : Format Meaning) (input : List ℕ) (ms : List Meaning) (remaining : List ℕ) → ReadsTo ((elements (suc n) share F).read input) ms remaining →
    OneMore n share F input ms remaining
taken_element n share F input ms remaining t =
    let p = taken_in_turn (without_count F) (λ a. map_format (λ others. a ∷ others) (elements n share F)) input ms remaining (taken_stepped (Release share) _ input ms remaining t) in
    let q = taken_map (λ others. p.head ∷ others) (elements n share F) p.middle ms remaining p.second in
    record { m = p.head; others = q.0; middle = p.middle; meaning_is = q.1; first = taken_without_count F input p.head p.middle p.first; second = q.2 }

pub takes_element : (n share : ℕ) (F : Format Meaning) (input : List ℕ) (m : Meaning) (middle : List ℕ) (others : List Meaning) (remaining : List ℕ) → ReadsTo (F.read input) m middle →
    ReadsTo ((elements n share F).read middle) others remaining → ReadsTo ((elements (suc n) share F).read input) (m ∷ others) remaining
takes_element n share F input m middle others remaining t u =
    takes_stepped (Release share) _ input (m ∷ others) remaining
    (takes_in_turn (without_count F) (λ a. map_format (λ rest. a ∷ rest) (elements n share F)) input (m ∷ others) remaining (record {
      head = m;
      middle = middle;
      first = takes_without_count F input m middle t;
      second = takes_map (λ rest. m ∷ rest) (elements n share F) middle others remaining u;
    }))

pub taken_array : (n share : ℕ) (F : Format Meaning) (input : List ℕ) (m : Meaning) (remaining : List ℕ) → ReadsTo ((array n share F).read input) m remaining →
    (ms : List Meaning) × (m ≡ list_meaning ms) × ReadsTo ((elements n share F).read input) ms remaining
taken_array n share F input m remaining t =
    let p = taken_map list_meaning (step (Reserve n share) >>= λ _. elements n share F) input m remaining t in
    (p.0, p.1, taken_stepped (Reserve n share) (elements n share F) input p.0 remaining p.2)

pub takes_array : (n share : ℕ) (F : Format Meaning) (input : List ℕ) (ms : List Meaning) (remaining : List ℕ) → ReadsTo ((elements n share F).read input) ms remaining →
    ReadsTo ((array n share F).read input) (list_meaning ms) remaining
takes_array n share F input ms remaining t =
    takes_map list_meaning (step (Reserve n share) >>= λ _. elements n share F) input ms remaining (takes_stepped (Reserve n share) (elements n share F) input ms remaining t)

-- parts in order
taken_first : (F others : Format Meaning) (input : List ℕ) (m : Meaning) (remaining : List ℕ) → ReadsTo ((first_and F others).read input) m remaining → TakesBoth F (λ a. map_format (Then a) others) input m remaining
unfolding first_and
taken_first F others input m remaining t = taken_in_turn F (λ a. map_format (Then a) others) input m remaining t

takes_first : (F others : Format Meaning) (input : List ℕ) (m : Meaning) (middle : List ℕ) (n : Meaning) (remaining : List ℕ) → ReadsTo (F.read input) m middle → ReadsTo (others.read middle) n remaining →
    ReadsTo ((first_and F others).read input) (Then m n) remaining
unfolding first_and
takes_first F others input m middle n remaining t u =
    takes_in_turn F (λ a. map_format (Then a) others) input (Then m n) remaining (record { head = m; middle = middle; first = t; second = takes_map (Then m) others middle n remaining u })

takes_nothing : (input : List ℕ) → ReadsTo (nothing.read input) Nothing input
unfolding nothing
takes_nothing input = takes_pure Nothing input

taken_nothing : (input : List ℕ) (m : Meaning) (remaining : List ℕ) → ReadsTo (nothing.read input) m remaining → (m ≡ Nothing) × (remaining ≡ input)
unfolding nothing
taken_nothing input m remaining t = taken_pure Nothing input m remaining t

-- a tuple reads an array
elements_as_parts : (s : Setting) (share : ℕ) (F : Format Meaning) (test : Shape → Bool) → ((new : Shape) → test new ≡ true → ReadsAll (format_of new s) F) →
    (news : List Shape) → list_all test news ≡ true → (input : List ℕ) (ms : List Meaning) (remaining : List ℕ) → ReadsTo ((elements (length news) share F).read input) ms remaining →
    ReadsTo ((tuple (at s (formats news))).read input) (list_meaning ms) remaining
elements_as_parts s share F test f [] h input ms remaining t =
    let p = taken_pure [] input ms remaining t in
    subst (λ z. ReadsTo (nothing.read input) (list_meaning z) remaining) (sym p.0) (subst (λ z. ReadsTo (nothing.read input) Nothing z) (sym p.1) (takes_nothing input))
elements_as_parts s share F test f (new ∷ news) h input ms remaining t =
    let both = and_parts (test new) (list_all test news) h in
    let p = taken_element (length news) share F input ms remaining t in
    subst (λ z. ReadsTo ((tuple (at s (formats (new ∷ news)))).read input) (list_meaning z) remaining) (sym p.meaning_is)
    (takes_first (format_of new s) (tuple (at s (formats news))) input p.m p.middle (list_meaning p.others) remaining
    ((f new both.0).reads input p.middle p.m p.first)
    (elements_as_parts s share F test f news both.1 p.middle p.others remaining p.second))

-- and an array a tuple
parts_as_elements : (s : Setting) (share : ℕ) (element : Shape) (parts : List Part) (Fs : List (Setting → Format Meaning)) → EachSound s parts Fs → reads_each element parts ≡ true →
    (input : List ℕ) (m : Meaning) (remaining : List ℕ) → ReadsTo ((tuple (at s Fs)).read input) m remaining →
    (ms : List Meaning) × (m ≡ list_meaning ms) × ReadsTo ((elements (length parts) share (format_of element s)).read input) ms remaining
parts_as_elements s share element [] [] sound h input m remaining t =
    let p = taken_nothing input m remaining t in ([], p.0, subst (λ z. ReadsTo ((pure {A = List Meaning} []).read input) [] z) (sym p.1) (takes_pure [] input))
parts_as_elements s share element [] (F ∷ Fs) sound h input m remaining t = absurd sound
parts_as_elements s share element (part ∷ parts) [] sound h input m remaining t = absurd sound
parts_as_elements s share element (part ∷ parts) (F ∷ Fs) sound h input m remaining t =
    let both = and_parts (part.is_read_by element) (reads_each element parts) h in
    let p = taken_first (F s) (tuple (at s Fs)) input m remaining t in
    let q = taken_map (Then p.head) (tuple (at s Fs)) p.middle m remaining p.second in
    let r = parts_as_elements s share element parts Fs sound.1 both.1 p.middle q.0 remaining q.2 in (
      p.head ∷ r.0,
      q.1 ∙ ap (Then p.head) r.1,
      takes_element (length parts) share (format_of element s) input p.head p.middle r.0 remaining ((sound.0.reads element both.0).reads input p.middle p.head p.first) r.2,
    )

each_reads : (s : Setting) (parts : List Part) (Fs : List (Setting → Format Meaning)) → EachSound s parts Fs → (news : List Shape) → each_read parts news ≡ true →
    ReadsAll (tuple (at s (formats news))) (tuple (at s Fs))
each_reads s [] [] sound [] h = reads_itself nothing
each_reads s [] [] sound (new ∷ news) h = absurd (cc)
each_reads s [] (F ∷ Fs) sound news h = absurd sound
each_reads s (part ∷ parts) [] sound news h = absurd sound
each_reads s (part ∷ parts) (F ∷ Fs) sound [] h = absurd (cc)
each_reads s (part ∷ parts) (F ∷ Fs) sound (new ∷ news) h =
    let both = and_parts (part.is_read_by new) (each_read parts news) h in reads_first_and (sound.0.reads new both.0) (each_reads s parts Fs sound.1 news both.1)

no_parts : (s : Setting) (news : List Shape) → length news ≡ 0 → ReadsAll (tuple (at s (formats news))) nothing
no_parts s [] h = reads_itself nothing
no_parts s (new ∷ news) h = absurd (omega (arith, h))

-- what is nothing reads nothing
pub nothing_reads : (s : Setting) (new : Shape) → is_nothing new ≡ true → ReadsAll (format_of new s) nothing
nothing_reads s shapes.Unit h = reads_itself nothing
nothing_reads s (shapes.Array' len claim p element) h = subst (λ z. ReadsAll (array z (share claim) (format_of element s)) nothing) (sym (eqb-true len 0 h)) (record {
  reads = λ input remaining m t.
      let q = taken_nothing input m remaining t in
      subst (λ z. ReadsTo ((array 0 (share claim) (format_of element s)).read input) z remaining) (sym q.0)
      (takes_array 0 (share claim) (format_of element s) input [] remaining (subst (λ z. ReadsTo ((pure {A = List Meaning} []).read input) [] z) (sym q.1) (takes_pure [] input)));
})
nothing_reads s (shapes.Tuple' v parts) h = subst (λ z. ReadsAll (tuple (at s z)) nothing) (sym (formats-items parts)) (no_parts s (items-the_row-Shape _ parts) (eqb-true (length (items-the_row-Shape _ parts)) 0 h))
nothing_reads s new h = absurd (cc)

-- nothing is what reads an array without elements
pub empty_reads : (share : ℕ) (F : Format Meaning) → ReadsAll nothing (array 0 share F)
empty_reads share F = record {
  reads = λ input remaining m t.
      let p = taken_array 0 share F input m remaining t in
      let q = taken_pure [] input p.0 remaining p.2 in
      subst (λ z. ReadsTo (nothing.read input) z remaining) (sym (p.1 ∙ ap list_meaning q.0)) (subst (λ z. ReadsTo (nothing.read input) Nothing z) (sym q.1) (takes_nothing input));
}

-- what is a row of such elements reads an array
pub row_reads : (s : Setting) (len old : ℕ) (F : Format Meaning) (test : Shape → Bool) → ((new : Shape) → test new ≡ true → ReadsAll (format_of new s) F) →
    (new : Shape) → is_row len test new ≡ true → ReadsAll (format_of new s) (array len old F)
row_reads s len old F test f (shapes.Array' n claim p element) h =
    let both = and_parts (n == len) (test element) h in
    subst (λ z. ReadsAll (array n (share claim) (format_of element s)) (array z old F)) (eqb-true n len both.0) (reads_array n old (share claim) (f element both.1))
row_reads s len old F test f (shapes.Tuple' v parts) h =
    let news = items-the_row-Shape _ parts in
    let both = and_parts (length news == len) (list_all test news) h in
    subst (λ z. ReadsAll (tuple (at s z)) (array len old F)) (sym (formats-items parts))
    (subst (λ z. ReadsAll (tuple (at s (formats news))) (array z old F)) (eqb-true (length news) len both.0) (record {
      reads = λ input remaining m t.
          let p = taken_array (length news) old F input m remaining t in
          subst (λ z. ReadsTo ((tuple (at s (formats news))).read input) z remaining) (sym p.1) (elements_as_parts s old F test f news both.1 input p.0 remaining p.2);
    }))
row_reads s len old F test f new h = absurd (cc)

nothing_is_read : (s : Setting) (parts : List Part) (Fs : List (Setting → Format Meaning)) → EachSound s parts Fs → length parts ≡ 0 → ReadsAll nothing (tuple (at s Fs))
nothing_is_read s [] [] sound h = reads_itself nothing
nothing_is_read s [] (F ∷ Fs) sound h = absurd sound
nothing_is_read s (part ∷ parts) Fs sound h = absurd (omega (arith, h))

-- what has such parts reads a tuple
pub parts_read : (s : Setting) (parts : List Part) (Fs : List (Setting → Format Meaning)) → EachSound s parts Fs → (new : Shape) → has_parts parts new ≡ true → ReadsAll (format_of new s) (tuple (at s Fs))
parts_read s parts Fs sound shapes.Unit h = nothing_is_read s parts Fs sound (eqb-true (length parts) 0 h)
parts_read s parts Fs sound (shapes.Array' len claim p element) h =
    let both = and_parts (len == length parts) (reads_each element parts) h in
    subst (λ z. ReadsAll (array z (share claim) (format_of element s)) (tuple (at s Fs))) (sym (eqb-true len (length parts) both.0)) (record {
      reads = λ input remaining m t.
          let q = parts_as_elements s (share claim) element parts Fs sound both.1 input m remaining t in
          subst (λ z. ReadsTo ((array (length parts) (share claim) (format_of element s)).read input) z remaining) (sym q.1)
          (takes_array (length parts) (share claim) (format_of element s) input q.0 remaining q.2);
    })
parts_read s parts Fs sound (shapes.Tuple' v others) h =
    subst (λ z. ReadsAll (tuple (at s z)) (tuple (at s Fs))) (sym (formats-items others)) (each_reads s parts Fs sound (items-the_row-Shape _ others) h)
parts_read s parts Fs sound new h = absurd (cc)
