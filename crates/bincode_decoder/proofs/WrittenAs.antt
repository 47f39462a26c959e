-- What is written does not change what is read.
use Rattle.std.specs.Prelude.{◌≡◌, ℕ, List, Option, refl}
use Rattle.bincode_spec.specs.Format.{Format, written_as}
use Rattle.bincode_spec.specs.Answer.{answer}

pub rewritten-answer : {A : Type 0} (Chosen : List ℕ → A → Type 0) (F : Format A) (limit : Option ℕ) (input : List ℕ) (c : ℕ) → answer limit (written_as Chosen F) input c ≡ answer limit F input c
unfolding answer written_as
rewritten-answer Chosen F limit input c = refl
