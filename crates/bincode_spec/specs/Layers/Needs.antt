-- What a limit has to hold for an input, told by its parts: those of the word that it begins with, or those up to and
-- with the one that faults.
use Rattle.std.specs.Prelude.{ℕ, zero, suc, ◌+◌, ◌*◌, max, Bool, true, false, List}
use Rattle.bincode_base.specs.Setting.{Setting}
use Rattle.bincode_spec.specs.Charge.{charged_bytes}
use Rattle.bincode_spec.specs.Format.{Format, Reading, Took, Failed}
use Rattle.bincode_spec.specs.Integers.{unsigned_integer}
use Rattle.bincode_spec.specs.Words.{len}
use Rattle.bincode_base.specs.declared.error.IntegerType.TheVariants as integers

-- after a word: its full width, and what the rest needs; after a fault nothing is read
abbrev pub after_word : {A : Type 0} → Reading A → (A → List ℕ → ℕ) → ℕ
after_word (Took a rest steps) next = charged_bytes steps + next a rest
after_word (Failed why steps) next = 0

-- parts in order: the maximum, over the parts, of the widths of those before and what the part needs
abbrev pub then_needs : {A : Type 0} → Format A → (List ℕ → ℕ) → (A → List ℕ → ℕ) → List ℕ → ℕ
then_needs F first next input = max (first input) (after_word (F.read input) next)

-- n elements: the maximum, over the elements, of the widths of those before, the claims of those after it, and what the
-- element needs
abbrev pub each_needs : {A : Type 0} → ℕ → ℕ → Format A → (List ℕ → ℕ) → List ℕ → ℕ
each_needs zero share F need input = 0
each_needs (suc n) share F need input = max (n * share + need input) (after_word (F.read input) (λ _ rest. each_needs n share F need rest))

-- and the claims of all
abbrev pub array_needs : {A : Type 0} → ℕ → ℕ → Format A → (List ℕ → ℕ) → List ℕ → ℕ
array_needs n share F need input = max (n * share) (each_needs n share F need input)

-- length-prefixed elements
abbrev pub list_needs : {A : Type 0} → Setting → ℕ → Format A → (List ℕ → ℕ) → List ℕ → ℕ
list_needs setting share F need = then_needs (len setting) (λ _. 8) (λ n. array_needs n share F need)

-- length-prefixed bytes
abbrev pub text_needs : Setting → List ℕ → ℕ
text_needs setting = then_needs (len setting) (λ _. 8) (λ n _. n)

-- the part that a tag selects, or one of the others
abbrev pub picked_needs : Bool → (List ℕ → ℕ) → (List ℕ → ℕ) → List ℕ → ℕ
picked_needs true p q = p
picked_needs false p q = q

-- a span of time: its two numbers
abbrev pub duration_needs : Setting → List ℕ → ℕ
duration_needs setting = then_needs (unsigned_integer integers.U64 8 setting) (λ _. 8) (λ _ _. 4)
