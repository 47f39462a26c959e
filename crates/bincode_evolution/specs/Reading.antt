-- When one format reads all words of another, and which formats have words.
use Rattle.std.specs.Prelude.{◌≡◌, ℕ, List}
use Rattle.bincode_spec.specs.Charge.{Step}
use Rattle.bincode_spec.specs.Format.{Format, Reading, Took}

-- a word with this meaning is read, and these bytes remain; whatever is charged
abbrev pub ReadsTo : {A : Type 0} → Reading A → A → List ℕ → Type 0
ReadsTo reading m remaining = (steps : List Step) × (reading ≡ Took m remaining steps)

-- each input that the old format reads, the new one reads too: with the same meaning, and as many bytes
pub record ReadsAll {A : Type 0} (new old : Format A) : Type 0 where
  pub reads : (input remaining : List ℕ) (m : A) → ReadsTo (old.read input) m remaining → ReadsTo (new.read input) m remaining

-- some bytes are a word
pub record WordOf {A : Type 0} (F : Format A) : Type 0 where
  pub word : List ℕ
  pub meaning : A
  pub steps : List Step
  pub is_word : F.Word word meaning steps

-- an input that the old format reads, and that the new one does not read with the same meaning and as many bytes
pub record Differs {A : Type 0} (new old : Format A) : Type 0 where
  pub input : List ℕ
  pub remaining : List ℕ
  pub meaning : A
  pub taken : ReadsTo (old.read input) meaning remaining
  pub untaken : ReadsTo (new.read input) meaning remaining → ⊥
