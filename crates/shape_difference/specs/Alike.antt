-- Whether two values mean the same.
use Rattle.std.specs.Prelude.{ℕ, ℤ, pos, negsuc, nat_eq, Bool, true, false, ◌&&◌, ◌==◌, List, [], ◌∷◌, length, string_bytes}
use Rattle.std.specs.Bool.{beq}
use Rattle.std.specs.Ordering.{int_eq}
use Rattle.std.specs.Cmp.Lexicographic.{pointwise}
use Rattle.bincode_shape.specs.declared.shape.Value as values
use Rattle.bincode_shape.specs.declared.shape.Value.{Value, Row_of-Value, end_of-Value, more_of-Value, items-the_row-Value, None', Some'}
use Rattle.bincode_shape.specs.Shapes.{each_passes}

-- the value of nothing, as a unit or as an empty list
abbrev pub is_nothing : Value → Bool
is_nothing values.Unit = true
is_nothing (values.List' v items) = length (items-the_row-Value _ items) == 0
is_nothing _ = false

abbrev pub is_same_bool : Bool → Value → Bool
is_same_bool b (values.Bool c) = beq b c
is_same_bool b _ = false

abbrev pub is_same_char : ℕ → Value → Bool
is_same_char c (values.Char d) = c == d
is_same_char c _ = false

abbrev pub is_same_text : List ℕ → Value → Bool
is_same_text bytes (values.Text t) = pointwise nat_eq bytes (string_bytes t)
is_same_text bytes _ = false

-- a number that is not below 0
abbrev pub is_same_natural : ℕ → ℤ → Bool
is_same_natural n (pos m) = n == m
is_same_natural n (negsuc m) = false

abbrev pub is_same_unsigned : ℕ → Value → Bool
is_same_unsigned n (values.Unsigned m) = n == m
is_same_unsigned n (values.Signed z) = is_same_natural n z
is_same_unsigned n _ = false

abbrev pub is_same_signed : ℤ → Value → Bool
is_same_signed z (values.Unsigned n) = is_same_natural n z
is_same_signed z (values.Signed y) = int_eq z y
is_same_signed z _ = false

-- a list of items that pass, one by one
abbrev pub is_same_list : List (Value → Bool) → Value → Bool
is_same_list tests values.Unit = length tests == 0
is_same_list tests (values.List' v items) = each_passes tests (items-the_row-Value _ items)
is_same_list tests _ = false

-- a choice of this tag, whose part passes; an option chooses 0, which is nothing, or 1
abbrev pub is_same_choice : ℕ → Bool → (Value → Bool) → Value → Bool
is_same_choice n empty test (values.Optional' None') = (n == 0) && empty
is_same_choice n empty test (values.Optional' (Some' p part)) = (n == 1) && test part
is_same_choice n empty test (values.Choice' k p part) = (n == k) && test part
is_same_choice n empty test _ = false

abbrev mutual
  -- the values have one meaning
  pub alike : Value → Value → Bool
  alike values.Unit other = is_nothing other
  alike (values.Bool b) other = is_same_bool b other
  alike (values.Char c) other = is_same_char c other
  alike (values.Text t) other = is_same_text (string_bytes t) other
  alike (values.Unsigned n) other = is_same_unsigned n other
  alike (values.Signed z) other = is_same_signed z other
  alike (values.List' v items) other = is_same_list (tests_of items) other
  alike (values.Optional' None') other = is_same_choice 0 true is_nothing other
  alike (values.Optional' (Some' p part)) other = is_same_choice 1 (is_nothing part) (alike part) other
  alike (values.Choice' n p part) other = is_same_choice n (is_nothing part) (alike part) other

  pub tests_of : {m : _} → Row_of-Value m → List (Value → Bool)
  tests_of end_of-Value = []
  tests_of (more_of-Value item others) = alike item ∷ tests_of others
