-- What is answered of two shapes.
use Rattle.std.specs.Prelude.{◌≡◌, ℕ, Bool, IsTrue, List, All}
use Rattle.std.specs.List.{list_all}
use Rattle.bincode_evolution.specs.Reading.{ReadsAll}
use Rattle.bincode_evolution.specs.Rules.{is_read}
use Rattle.bincode_shape.specs.Describing.{Describes}
use Rattle.bincode_shape.specs.Shapes.{format_of}
use Rattle.bincode_shape.specs.declared.shape.Shape.{Shape}
use Rattle.bincode_types.specs.TypeWords.{Words}
use Rattle.shape_grammar.specs.Grammar.{IsSpelled}
use Rattle.evolution_text.specs.Settings.{as_setting}
use Rattle.evolution_text.specs.declared.setting.Setting.{Setting}

-- by the rules the new shape reads all words of the old one, in each of these settings
abbrev pub is_read_in_all : List Setting → Shape → Shape → Bool
is_read_in_all settings old new = list_all (λ s. is_read s.encoding old new) settings

-- each input that the old shape reads, the new one reads as the same, in each of these settings
abbrev pub ReadsInAll : List Setting → Shape → Shape → Type 0
ReadsInAll settings old new = All (λ s. ReadsAll (format_of new (as_setting s)) (format_of old (as_setting s))) settings

-- the answer for two texts: that of the rules for the shapes that they spell
pub record IsAnswer (new old : List ℕ) (settings : List Setting) (answer : Bool) : Type 0 where
  pub new_shape : Shape
  pub old_shape : Shape
  pub new_is_spelled : IsSpelled new new_shape
  pub old_is_spelled : IsSpelled old old_shape
  -- yes means that a decoder without a limit reads each file of the old shape by the new one, as the same values
  pub reads : IsTrue answer → ReadsInAll settings old_shape new_shape
  pub by_rules : answer ≡ is_read_in_all settings old_shape new_shape

-- the answer for a type and a text: that of the rules for a shape that describes the type
pub record IsAnswerOf {A : Type 0} (W : Words A) (old : List ℕ) (settings : List Setting) (answer : Bool) : Type 0 where
  pub new_shape : Shape
  pub old_shape : Shape
  pub is_described : Describes new_shape W
  pub is_spelled : IsSpelled old old_shape
  pub by_rules : answer ≡ is_read_in_all settings old_shape new_shape

-- each input that the shape of the text reads, the type reads as the same, in each of these settings
pub record ReadsSpelled {A : Type 0} (W : Words A) (old : List ℕ) (settings : List Setting) : Type 0 where
  pub old_shape : Shape
  pub is_spelled : IsSpelled old old_shape
  pub reads : All (λ s. ReadsAll (W.format (as_setting s)) (format_of old_shape (as_setting s))) settings
