-- What words mean, whatever the Rust type: one type for all.
use Rattle.std.specs.Prelude.{◌≡◌, ℕ, ℤ, Bool, List, [], ◌∷◌}
use Rattle.std.specs.Float.{Float}

pub data Meaning : Type 0 where
  Truth : Bool → Meaning
  Number : ℤ → Meaning
  -- a float of either format, of which every NaN is one
  Real : Float → Meaning
  Character : ℕ → Meaning
  Bytes : List ℕ → Meaning
  -- the empty list, and a first item before the others
  Nothing : Meaning
  Then : Meaning → Meaning → Meaning
  -- one of several kinds, with its part
  Choice : ℕ → Meaning → Meaning

-- a list or a tuple
abbrev pub list_meaning : List Meaning → Meaning
list_meaning [] = Nothing
list_meaning (m ∷ ms) = Then m (list_meaning ms)

-- it is this truth value
abbrev pub IsTruth : Bool → Meaning → Type 0
IsTruth b m = m ≡ Truth b

-- it is this number
abbrev pub IsNumber : ℤ → Meaning → Type 0
IsNumber z m = m ≡ Number z

-- it is this float
abbrev pub IsReal : Float → Meaning → Type 0
IsReal v m = m ≡ Real v

-- it is this character
abbrev pub IsCharacter : ℕ → Meaning → Type 0
IsCharacter c m = m ≡ Character c

-- it is these bytes
abbrev pub IsBytes : List ℕ → Meaning → Type 0
IsBytes bytes m = m ≡ Bytes bytes

-- it is the empty list
abbrev pub IsNothing : Meaning → Type 0
IsNothing m = m ≡ Nothing

-- a list with such a first item, and such others
pub record IsThen (First Others : Meaning → Type 0) (m : Meaning) : Type 0 where
  pub first : Meaning
  pub others : Meaning
  pub meaning_is : m ≡ Then first others
  pub is_first : First first
  pub are_others : Others others

-- a list with such first four items, and such others
abbrev pub IsFourThen : (Meaning → Type 0) → (Meaning → Type 0) → (Meaning → Type 0) → (Meaning → Type 0) → (Meaning → Type 0) → Meaning → Type 0
IsFourThen P Q R S Others = IsThen P (IsThen Q (IsThen R (IsThen S Others)))
