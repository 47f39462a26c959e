-- From the answer for all settings to what is read in each.
use Rattle.std.specs.Prelude.{◌≡◌, ℕ, Bool, true, List, get_or, Result, Ok, Err, IfOk, IsTrue}
use Rattle.std.proofs.lemmas.List.Sums.{AllPass-from_list_all}
use Rattle.bincode_shape.specs.Describing.{Describes}
use Rattle.bincode_shape.specs.Same.{same-itself}
use Rattle.bincode_shape.specs.Shapes.{format_of}
use Rattle.bincode_shape.specs.declared.shape.Shape.{Shape}
use Rattle.bincode_types.specs.TypeWords.{Words}
use Rattle.bincode_evolution.specs.Rules.{is_read}
use Rattle.bincode_evolution.proofs.Sound.{shape_reads}
use Rattle.bincode_evolution.proofs.Types.{described_reads}
use Rattle.shape_grammar.specs.Grammar.{IsSpelled}
use Rattle.evolution_text.specs.Answers.{is_read_in_all, IsAnswer, IsAnswerOf, ReadsInAll, ReadsSpelled}
use Rattle.evolution_text.specs.Settings.{as_setting}
use Rattle.evolution_text.specs.declared.failure.CompareError.{CompareError}
use Rattle.evolution_text.specs.declared.setting.Setting.{Setting}

-- what the rules allow in each setting is read in each
pub all_read : (settings : List Setting) (old new : Shape) → is_read_in_all settings old new ≡ true → ReadsInAll settings old new
all_read settings old new h =
    λ k d below. shape_reads old (as_setting (get_or settings k d)) new (AllPass-from_list_all (λ s. is_read s.encoding old new) settings h k d below)

-- the answer for two texts, if there is one
pub answer_of : (new old : List ℕ) (settings : List Setting) (new_shape old_shape : Shape) (r : Result Bool CompareError) → IsSpelled new new_shape → IsSpelled old old_shape →
    IfOk r (λ a. a ≡ is_read_in_all settings old_shape new_shape) → IfOk r (λ a. IsTrue a → ReadsInAll settings old_shape new_shape) → IfOk r (IsAnswer new old settings)
answer_of new old settings new_shape old_shape (Ok a) n o by_rules reads = record {
  new_shape = new_shape;
  old_shape = old_shape;
  new_is_spelled = n;
  old_is_spelled = o;
  reads = reads;
  by_rules = by_rules;
}
answer_of new old settings new_shape old_shape (Err why) n o by_rules reads = tt

-- the answer for a type and a text, if there is one
pub type_answer_of : {A : Type 0} (W : Words A) (old : List ℕ) (settings : List Setting) (new_shape old_shape : Shape) (r : Result Bool CompareError) → Describes new_shape W → IsSpelled old old_shape →
    IfOk r (λ a. a ≡ is_read_in_all settings old_shape new_shape) → IfOk r (IsAnswerOf W old settings)
type_answer_of W old settings new_shape old_shape (Ok a) d o by_rules = record {
  new_shape = new_shape;
  old_shape = old_shape;
  is_described = d;
  is_spelled = o;
  by_rules = by_rules;
}
type_answer_of W old settings new_shape old_shape (Err why) d o by_rules = tt

-- and what it promises: what a shape reads, the type that it describes reads
pub type_reads : {A : Type 0} (W : Words A) (old : List ℕ) (settings : List Setting) (new_shape old_shape : Shape) (r : Result Bool CompareError) → Describes new_shape W → IsSpelled old old_shape →
    IfOk r (λ a. IsTrue a → ReadsInAll settings old_shape new_shape) → IfOk r (λ a. IsTrue a → ReadsSpelled W old settings)
type_reads W old settings new_shape old_shape (Ok a) d o reads =
    λ h. record {
      old_shape = old_shape;
      is_spelled = o;
      reads = λ k e below. described_reads (same-itself (format_of old_shape (as_setting (get_or settings k e)))) (d (as_setting (get_or settings k e))) (reads h k e below);
    }
type_reads W old settings new_shape old_shape (Err why) d o reads = tt
