-- What shows that a format does not read all words of another.
use Rattle.std.specs.Prelude.{ℕ, List, []}
use Rattle.bincode_spec.specs.Format.{Format}
use Rattle.bincode_evolution.specs.Reading.{ReadsTo}

-- the old format reads all of these bytes, and the new one does not read all of them with the same meaning
pub record Shows {A : Type 0} (new old : Format A) (word : List ℕ) : Type 0 where
  pub meaning : A
  pub is_word : ReadsTo (old.read word) meaning []
  pub is_unread : ReadsTo (new.read word) meaning [] → ⊥
