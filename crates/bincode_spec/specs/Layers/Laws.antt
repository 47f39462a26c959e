-- The laws of the format of every type.
use Rattle.std.specs.Prelude.{◌≡◌, ℕ, ◌+◌, ◌<◌, ◌≤◌, List, [], ◌∷◌, ◌++◌, All}
use Rattle.bincode_base.specs.Setting.{Setting}
use Rattle.bincode_spec.specs.Fault.{Fault, IsEnd}
use Rattle.bincode_spec.specs.Charge.{Step, charged_bytes, reserved_bytes, released_bytes}
use Rattle.bincode_spec.specs.Format.{Format, Reading, Took, Failed}
use Rattle.bincode_spec.specs.Words.{Variant}

-- these steps are a prefix of those
abbrev pub IsStepPrefix : List Step → List Step → Type 0
IsStepPrefix front steps = (back : List Step) × (steps ≡ front ++ back)

-- the steps that were taken
abbrev pub steps_of : {A : Type 0} → Reading A → List Step
steps_of (Took _ _ steps) = steps
steps_of (Failed _ steps) = steps

-- the input did not end too early
abbrev pub IsAnswered : {A : Type 0} → Reading A → Type 0
IsAnswered (Took _ _ _) = Unit {0}
IsAnswered (Failed fault _) = ¬ (IsEnd fault)

-- bytes that complete an input which ended too early
pub record Completion {A : Type 0} (read : List ℕ → Reading A) (input : List ℕ) : Type 0 where
  pub more : List ℕ
  pub are_bytes : All (λ b. b < 256) more
  pub answered : IsAnswered (read (input ++ more))

-- the input is a word with this meaning, then what remains
pub record BeginsWith {A : Type 0} (F : Format A) (input : List ℕ) (meaning : A) (remaining : List ℕ) (steps : List Step) : Type 0 where
  pub word : List ℕ
  pub input_is : input ≡ word ++ remaining
  pub is_word : F.Word word meaning steps

-- Each input begins with one word, or has one fault: what the program finds. More bytes change no fault but the end of
-- the input; the steps of that are a prefix of those of each longer input, and some bytes complete it. What is written
-- is a word.
pub record IsLawful {A : Type 0} (F : Format A) : Type 0 where
  pub word_read : (word remaining : List ℕ) (m : A) (s : List Step) → F.Word word m s → F.read (word ++ remaining) ≡ Took m remaining s
  pub read_word : (input remaining : List ℕ) (m : A) (s : List Step) → F.read input ≡ Took m remaining s → BeginsWith F input m remaining s
  pub fault_read : (input : List ℕ) (fault : Fault) (s : List Step) → F.Faults input fault s → F.read input ≡ Failed fault s
  pub read_fault : (input : List ℕ) (fault : Fault) (s : List Step) → F.read input ≡ Failed fault s → F.Faults input fault s
  pub stays : (input more : List ℕ) (fault : Fault) (s : List Step) → ¬ (IsEnd fault) → F.read input ≡ Failed fault s → F.read (input ++ more) ≡ Failed fault s
  pub begun : (input more : List ℕ) (fault : Fault) (s : List Step) → IsEnd fault → F.read input ≡ Failed fault s → IsStepPrefix s (steps_of (F.read (input ++ more)))
  pub mended : (input : List ℕ) (fault : Fault) (s : List Step) → IsEnd fault → F.read input ≡ Failed fault s → Completion F.read input
  pub written_is_word : (word : List ℕ) (m : A) → F.Written word m → (s : List Step) × F.Word word m s

-- no prefix of the steps releases more than was held before and reserved since
abbrev pub IsBacked : ℕ → List Step → Type 0
IsBacked held steps = (front back : List Step) → steps ≡ front ++ back → released_bytes front ≤ held + reserved_bytes front

-- A word: what was held before and is reserved covers what is released and is held after. A fault releases no more.
abbrev pub Settles : ℕ → ℕ → {A : Type 0} → Reading A → Type 0
Settles before after (Took _ _ steps) = IsBacked before steps × (before + reserved_bytes steps ≡ after + released_bytes steps)
Settles before after (Failed _ steps) = IsBacked before steps

-- `Settles` for each input
pub record Holds (before after : ℕ) {A : Type 0} (F : Format A) : Type 0 where
  pub settles : (input : List ℕ) → Settles before after (F.read input)

-- a word releases all that it reserves, and never too early
abbrev pub IsBalanced : {A : Type 0} → Format A → Type 0
IsBalanced F = Holds 0 0 F

-- the part of each variant is lawful
abbrev pub AllLawful : Setting → List Variant → Type 0
AllLawful s [] = Unit {0}
AllLawful s (variant ∷ others) = IsLawful (variant.1 s) × AllLawful s others

-- and is balanced
abbrev pub AllBalanced : Setting → List Variant → Type 0
AllBalanced s [] = Unit {0}
AllBalanced s (variant ∷ others) = IsBalanced (variant.1 s) × AllBalanced s others

-- Each word charges `cost` in all and releases what it reserves, and no front of its steps charges and holds more
-- than `peak`.
pub record Costs (peak cost : ℕ) {A : Type 0} (F : Format A) : Type 0 where
  pub charges : (word : List ℕ) (m : A) (s : List Step) → F.Word word m s → charged_bytes s ≡ cost
  pub evens : (word : List ℕ) (m : A) (s : List Step) → F.Word word m s → reserved_bytes s ≡ released_bytes s
  pub stays : (word : List ℕ) (m : A) (s : List Step) → F.Word word m s → (front back : List Step) → s ≡ front ++ back → charged_bytes front + reserved_bytes front ≤ peak + released_bytes front
