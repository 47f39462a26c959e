-- How many values the image of a word has, and which shapes have empty words only.
use Rattle.std.specs.Prelude.{◌≡◌, ℕ, zero, suc, ◌+◌, ◌-◌, ◌^◌, min, Bool, true, false, ◌&&◌, ◌||◌, ◌==◌, List, [], ◌∷◌}
use Rattle.bincode_spec.specs.Meaning.{Meaning, Then, Choice}
use Rattle.bincode_shape.specs.declared.shape.Shape as shapes
use Rattle.bincode_shape.specs.declared.shape.Shape.{Shape, Row_of-Shape, end_of-Shape, more_of-Shape}
use Rattle.bincode_shape.specs.declared.shape.Value as values
use Rattle.bincode_shape.specs.declared.shape.Value.{Value, Row_of-Value, end_of-Value, more_of-Value, None', Some'}

abbrev mutual
  -- a value and all that it holds
  pub values_in : Value → ℕ
  values_in (values.List' v items) = values_of_all items + 1
  values_in (values.Optional' None') = 1
  values_in (values.Optional' (Some' p part)) = values_in part + 1
  values_in (values.Choice' n p part) = values_in part + 1
  values_in _ = 1

  pub values_of_all : {m : _} → Row_of-Value m → ℕ
  values_of_all end_of-Value = 0
  values_of_all (more_of-Value item others) = values_in item + values_of_all others

-- each element of a list, with one count,
abbrev pub count_each : (Meaning → ℕ) → Meaning → ℕ
count_each count (Then m others) = count m + count_each count others
count_each count _ = 0

-- each part of a tuple, with its own,
abbrev pub count_parts : List (Meaning → ℕ) → Meaning → ℕ
count_parts (count ∷ counts) (Then m others) = count m + count_parts counts others
count_parts _ _ = 0

-- the part of an option,
abbrev pub count_some : (Meaning → ℕ) → Meaning → ℕ
count_some count (Choice zero m) = 0
count_some count (Choice (suc n) m) = count m
count_some count _ = 0

-- and the part that is chosen
abbrev pub count_picked : List (Meaning → ℕ) → ℕ → Meaning → ℕ
count_picked [] n m = 0
count_picked (count ∷ counts) zero m = count m
count_picked (count ∷ counts) (suc n) m = count_picked counts n m

abbrev pub count_choice : List (Meaning → ℕ) → Meaning → ℕ
count_choice counts (Choice n m) = count_picked counts n m
count_choice counts _ = 0

abbrev mutual
  -- the number of values in the image of a meaning: itself, and those of its parts
  pub count_of : Shape → Meaning → ℕ
  count_of (shapes.Seq' claim p element) m = count_each (count_of element) m + 1
  count_of (shapes.Array' len claim p element) m = count_each (count_of element) m + 1
  count_of (shapes.Tuple' v parts) m = count_parts (counts_of parts) m + 1
  count_of (shapes.Optional' p part) m = count_some (count_of part) m + 1
  count_of (shapes.Choice' v parts) m = count_choice (counts_of parts) m + 1
  count_of _ m = 1

  pub counts_of : {m : _} → Row_of-Shape m → List (Meaning → ℕ)
  counts_of end_of-Shape = []
  counts_of (more_of-Shape part others) = count_of part ∷ counts_of others

-- as a `u128`, at most its maximum
abbrev pub as_u128 : ℕ → ℕ
as_u128 n = min n (2 ^ 128 - 1)

-- it is the count of a meaning
abbrev pub IsCounted : Shape → Meaning → ℕ → Type 0
IsCounted shape m n = n ≡ as_u128 (count_of shape m)

abbrev mutual
  -- all words of the shape are empty
  pub without_bytes : Shape → Bool
  without_bytes shapes.Unit = true
  without_bytes (shapes.Array' len claim p element) = (len == 0) || without_bytes element
  without_bytes (shapes.Tuple' v parts) = all_without parts
  without_bytes _ = false

  pub all_without : {m : _} → Row_of-Shape m → Bool
  all_without end_of-Shape = true
  all_without (more_of-Shape part others) = without_bytes part && all_without others
