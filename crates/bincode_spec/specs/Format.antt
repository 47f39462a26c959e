-- A format is a language: its words, each with a meaning and its steps, which of them is written, and the fault of each
-- input that begins with no word. Beside these relations stands the program that reads a word or a fault from an input;
-- the laws say that the two agree. All formats are made of the few below.
use Rattle.std.specs.Prelude.{◌≡◌, ℕ, zero, suc, ◌-◌, ◌<◌, ◌⊎◌, List, [], ◌∷◌, ◌++◌, length, take, drop, nat_lt, if◌then◌else◌, Result, Ok, Err, Some, None}
use Rattle.bincode_spec.specs.Fault.{Fault, End}
use Rattle.bincode_spec.specs.Charge.{Step, Charge, Reserve, Release}

-- The result of reading, with the steps taken: a meaning and the bytes after the word, or a fault.
pub data Reading (A : Type 0) : Type 0 where
  Took : A → List ℕ → List Step → Reading A
  Failed : Fault → List Step → Reading A

abbrev pub after_steps : {A : Type 0} → List Step → Reading A → Reading A
after_steps steps (Took a remaining others) = Took a remaining (steps ++ others)
after_steps steps (Failed why others) = Failed why (steps ++ others)

abbrev pub then_read : {A B : Type 0} → Reading A → (A → List ℕ → Reading B) → Reading B
then_read (Took a remaining steps) next = after_steps steps (next a remaining)
then_read (Failed why steps) next = Failed why steps

pub record Format (A : Type 0) : Type 1 where
  -- these bytes are a word with this meaning, and reading it has these steps
  pub Word : List ℕ → A → List Step → Type 0
  -- this word is written for the meaning
  pub Written : List ℕ → A → Type 0
  -- the input begins with no word: its first fault, and the steps before it
  pub Faults : List ℕ → Fault → List Step → Type 0
  -- the plain program
  pub read : List ℕ → Reading A

-- the empty word
unfoldable pub pure : {A : Type 0} → A → Format A
pure a = record {
  Word = λ bytes meaning steps. (bytes ≡ []) × (meaning ≡ a) × (steps ≡ []);
  Written = λ bytes meaning. (bytes ≡ []) × (meaning ≡ a);
  Faults = λ input fault steps. ⊥;
  read = λ input. Took a input [];
}

-- no word
unfoldable pub fail : {A : Type 0} → Fault → Format A
fail why = record {
  Word = λ bytes meaning steps. ⊥;
  Written = λ bytes meaning. ⊥;
  Faults = λ input fault steps. (fault ≡ why) × (steps ≡ []);
  read = λ input. Failed why [];
}

-- the empty word, with one step
unfoldable pub step : Step → Format (Unit {0})
step change = record {
  Word = λ bytes meaning steps. (bytes ≡ []) × (steps ≡ change ∷ []);
  Written = λ bytes meaning. bytes ≡ [];
  Faults = λ input fault steps. ⊥;
  read = λ input. Took tt input (change ∷ []);
}

-- any n bytes, which mean themselves
unfoldable pub fixed_bytes : ℕ → Format (List ℕ)
fixed_bytes n = record {
  Word = λ bytes meaning steps. (length bytes ≡ n) × (meaning ≡ bytes) × (steps ≡ []);
  Written = λ bytes meaning. (length bytes ≡ n) × (meaning ≡ bytes);
  Faults = λ input fault steps. (length input < n) × (fault ≡ End (Some (n - length input))) × (steps ≡ []);
  read = λ input. if nat_lt (length input) n then Failed (End (Some (n - length input))) [] else Took (take n input) (drop n input) [];
}

-- a word of the first, then one of the second, which depends on the meaning of the first
pub record InTurn {A B : Type 0} (F : Format A) (G : A → Format B) (bytes : List ℕ) (meaning : B) (steps : List Step) : Type 0 where
  pub first : List ℕ
  pub second : List ℕ
  pub head : A
  pub first_steps : List Step
  pub second_steps : List Step
  pub bytes_are : bytes ≡ first ++ second
  pub steps_are : steps ≡ first_steps ++ second_steps
  pub first_word : F.Word first head first_steps
  pub second_word : (G head).Word second meaning second_steps

pub record WrittenInTurn {A B : Type 0} (F : Format A) (G : A → Format B) (bytes : List ℕ) (meaning : B) : Type 0 where
  pub first : List ℕ
  pub second : List ℕ
  pub head : A
  pub bytes_are : bytes ≡ first ++ second
  pub first_written : F.Written first head
  pub second_written : (G head).Written second meaning

-- a word of the first, then what faults in the second
pub record FaultsLater {A B : Type 0} (F : Format A) (G : A → Format B) (input : List ℕ) (fault : Fault) (steps : List Step) : Type 0 where
  pub first : List ℕ
  pub remaining : List ℕ
  pub head : A
  pub first_steps : List Step
  pub rest_steps : List Step
  pub input_is : input ≡ first ++ remaining
  pub steps_are : steps ≡ first_steps ++ rest_steps
  pub first_word : F.Word first head first_steps
  pub rest_faults : (G head).Faults remaining fault rest_steps

infixl 10 ◌>>=◌
unfoldable pub ◌>>=◌ : {A B : Type 0} → Format A → (A → Format B) → Format B
F >>= G = record {
  Word = InTurn F G;
  Written = WrittenInTurn F G;
  Faults = λ input fault steps. F.Faults input fault steps ⊎ FaultsLater F G input fault steps;
  read = λ input. then_read (F.read input) (λ head remaining. (G head).read remaining);
}

-- the words of F, of which only the chosen ones are written
unfoldable pub written_as : {A : Type 0} → (List ℕ → A → Type 0) → Format A → Format A
written_as Chosen F = record { Word = F.Word; Written = Chosen; Faults = F.Faults; read = F.read }

-- the fault, without how many bytes the input lacks
abbrev pub fault_without_count : Fault → Fault
fault_without_count (End missing) = End None
fault_without_count why = why

abbrev pub reading_without_count : {A : Type 0} → Reading A → Reading A
reading_without_count (Took a remaining steps) = Took a remaining steps
reading_without_count (Failed why steps) = Failed (fault_without_count why) steps

-- the format F, whose faults leave open how many bytes the input lacks
unfoldable pub without_count : {A : Type 0} → Format A → Format A
without_count F = record { Word = F.Word; Written = F.Written; Faults = λ input fault steps. (inner : Fault) × F.Faults input inner steps × (fault ≡ fault_without_count inner); read = λ input. reading_without_count (F.read input) }

-- any word may be written: of a cell it is not known what it holds
pub record AnyWord {A : Type 0} (F : Format A) (bytes : List ℕ) (meaning : A) : Type 0 where
  pub steps : List Step
  pub is_word : F.Word bytes meaning steps

abbrev pub of_cell : {A : Type 0} → Format A → Format A
of_cell F = written_as (AnyWord F) F

-- the result of a test of a meaning: another meaning, or a fault
abbrev pub from_result : {A : Type 0} → Result A Fault → Format A
from_result (Ok a) = pure a
from_result (Err why) = fail why

abbrev pub map_format : {A B : Type 0} → (A → B) → Format A → Format B
map_format f F = F >>= λ a. pure (f a)

-- a charge, then a word
abbrev pub charge_then : {A : Type 0} → ℕ → Format A → Format A
charge_then n F = step (Charge n) >>= λ _. F

-- n words in order, before each of which its claim is released. They may be read at once, so that a fault leaves open
-- how many bytes the input lacks
abbrev pub elements : {A : Type 0} → ℕ → ℕ → Format A → Format (List A)
elements zero share F = pure []
elements (suc n) share F = step (Release share) >>= λ _. without_count F >>= λ a. map_format (λ others. a ∷ others) (elements n share F)

-- the claims of n elements are reserved, then the elements follow
abbrev pub sequence : {A : Type 0} → ℕ → ℕ → Format A → Format (List A)
sequence n share F = step (Reserve n share) >>= λ _. elements n share F
