-- The number of values counted from a meaning is that of its image.
use Rattle.std.specs.Prelude.{◌≡◌, ℕ, zero, suc, ◌+◌, Bool, true, false, ◌&&◌, ◌==◌, length, refl}
use Rattle.std.specs.List.{list_all}
use Rattle.std.proofs.Common.{◌∙◌, ap}
use Rattle.bincode_spec.specs.Meaning.{Meaning, list_meaning}
use Rattle.bincode_shape.specs.declared.shape.Shape as shapes
use Rattle.bincode_shape.specs.declared.shape.Shape.{Shape, Row_of-Shape, end_of-Shape, more_of-Shape}
use Rattle.bincode_shape.specs.declared.shape.Value as values
use Rattle.bincode_shape.specs.declared.shape.Value.{Value, Row_of-Value, end_of-Value, more_of-Value, items-the_row-Value, None', Some'}
use Rattle.bincode_shape.specs.Shapes.{fits, tests_of, meaning, meanings_of, each_passes, picked_passes, is_unit, is_truth, is_character, is_text, is_unsigned, is_signed, IsImage}
use Rattle.bincode_shape.specs.Counts.{values_in, values_of_all, count_each, count_parts, count_picked, count_of, counts_of}

both : (a b : Bool) → (a && b) ≡ true → (a ≡ true) × (b ≡ true)
both true b h = (refl, h)
both false b h = absurd (cc)

-- what has no parts is one value
unit-one : (v : Value) → is_unit v ≡ true → values_in v ≡ 1
unit-one values.Unit h = refl
unit-one v h = absurd (cc)

truth-one : (v : Value) → is_truth v ≡ true → values_in v ≡ 1
truth-one (values.Bool b) h = refl
truth-one v h = absurd (cc)

character-one : (v : Value) → is_character v ≡ true → values_in v ≡ 1
character-one (values.Char c) h = refl
character-one v h = absurd (cc)

text-one : (v : Value) → is_text v ≡ true → values_in v ≡ 1
text-one (values.Text t) h = refl
text-one v h = absurd (cc)

unsigned-one : (width : ℕ) (v : Value) → is_unsigned width v ≡ true → values_in v ≡ 1
unsigned-one width (values.Unsigned n) h = refl
unsigned-one width v h = absurd (cc)

signed-one : (width : ℕ) (v : Value) → is_signed width v ≡ true → values_in v ≡ 1
signed-one width (values.Signed z) h = refl
signed-one width v h = absurd (cc)

-- elements, one by one
each-counted : (test : Value → Bool) (count : Meaning → ℕ) → ((v : Value) → test v ≡ true → count (meaning v) ≡ values_in v) →
    {m : _} → (items : Row_of-Value m) → list_all test (items-the_row-Value _ items) ≡ true → count_each count (list_meaning (meanings_of items)) ≡ values_of_all items
each-counted test count f end_of-Value h = refl
each-counted test count f (more_of-Value item others) h =
    let p = both (test item) (list_all test (items-the_row-Value _ others)) h in
    rw (f item p.0, each-counted test count f others p.1) refl

mutual
  fitting-counted : (shape : Shape) (v : Value) → fits shape v ≡ true → count_of shape (meaning v) ≡ values_in v
  fitting-counted shapes.Unit v h = rw (unit-one v h) refl
  fitting-counted shapes.Bool v h = rw (truth-one v h) refl
  fitting-counted shapes.Char v h = rw (character-one v h) refl
  fitting-counted shapes.Text v h = rw (text-one v h) refl
  fitting-counted shapes.U8 v h = rw (unsigned-one 1 v h) refl
  fitting-counted shapes.U16 v h = rw (unsigned-one 2 v h) refl
  fitting-counted shapes.U32 v h = rw (unsigned-one 4 v h) refl
  fitting-counted shapes.U64 v h = rw (unsigned-one 8 v h) refl
  fitting-counted shapes.U128 v h = rw (unsigned-one 16 v h) refl
  fitting-counted shapes.Usize v h = rw (unsigned-one 8 v h) refl
  fitting-counted shapes.I8 v h = rw (signed-one 1 v h) refl
  fitting-counted shapes.I16 v h = rw (signed-one 2 v h) refl
  fitting-counted shapes.I32 v h = rw (signed-one 4 v h) refl
  fitting-counted shapes.I64 v h = rw (signed-one 8 v h) refl
  fitting-counted shapes.I128 v h = rw (signed-one 16 v h) refl
  fitting-counted shapes.Isize v h = rw (signed-one 8 v h) refl
  fitting-counted (shapes.Seq' claim p element) (values.List' u items) h =
      ap (λ n. n + 1) (each-counted (fits element) (count_of element) (λ v. fitting-counted element v) items h)
  fitting-counted (shapes.Seq' claim p element) v h = absurd (cc)
  fitting-counted (shapes.Array' len claim p element) (values.List' u items) h =
      ap (λ n. n + 1) (each-counted (fits element) (count_of element) (λ v. fitting-counted element v) items
      (both (length (items-the_row-Value _ items) == len) (list_all (fits element) (items-the_row-Value _ items)) h).1)
  fitting-counted (shapes.Array' len claim p element) v h = absurd (cc)
  fitting-counted (shapes.Tuple' s parts) (values.List' u items) h = ap (λ n. n + 1) (parts-counted parts items h)
  fitting-counted (shapes.Tuple' s parts) v h = absurd (cc)
  fitting-counted (shapes.Optional' p part) (values.Optional' None') h = refl
  fitting-counted (shapes.Optional' p part) (values.Optional' (Some' q v)) h = ap (λ n. n + 1) (fitting-counted part v h)
  fitting-counted (shapes.Optional' p part) v h = absurd (cc)
  fitting-counted (shapes.Choice' s parts) (values.Choice' n q v) h = ap (λ k. k + 1) (picked-counted parts n v h)
  fitting-counted (shapes.Choice' s parts) v h = absurd (cc)

  parts-counted : {m n : _} → (parts : Row_of-Shape m) (items : Row_of-Value n) → each_passes (tests_of parts) (items-the_row-Value _ items) ≡ true →
      count_parts (counts_of parts) (list_meaning (meanings_of items)) ≡ values_of_all items
  parts-counted end_of-Shape end_of-Value h = refl
  parts-counted end_of-Shape (more_of-Value item items) h = absurd (cc)
  parts-counted (more_of-Shape part parts) end_of-Value h = absurd (cc)
  parts-counted (more_of-Shape part parts) (more_of-Value item items) h =
      let p = both (fits part item) (each_passes (tests_of parts) (items-the_row-Value _ items)) h in
      rw (fitting-counted part item p.0, parts-counted parts items p.1) refl

  picked-counted : {m : _} → (parts : Row_of-Shape m) (n : ℕ) (v : Value) → picked_passes (tests_of parts) n v ≡ true → count_picked (counts_of parts) n (meaning v) ≡ values_in v
  picked-counted end_of-Shape n v h = absurd (cc)
  picked-counted (more_of-Shape part parts) zero v h = fitting-counted part v h
  picked-counted (more_of-Shape part parts) (suc n) v h = picked-counted parts n v h

-- Each image of a meaning has as many values as are counted from the meaning.
pub image-counted : (shape : Shape) (m : Meaning) (v : Value) → IsImage shape m v → count_of shape m ≡ values_in v
image-counted shape m v h = ap (count_of shape) h.1 ∙ fitting-counted shape v h.0
