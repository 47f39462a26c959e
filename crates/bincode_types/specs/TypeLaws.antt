-- The laws that some types have, of their `Words`.
use Rattle.std.specs.Prelude.{◌≡◌, Bool, true}
use Rattle.bincode_base.specs.Setting.{Setting}
use Rattle.bincode_base.specs.declared.error.EncodeError.{EncodeError}
use Rattle.bincode_spec.specs.Allowed.{AllowedWord, IsShortest, OneLength}
use Rattle.bincode_spec.specs.Cells.{HasWord}
use Rattle.bincode_spec.specs.Format.{Format}
use Rattle.bincode_spec.specs.Meaning.{Meaning}
use Rattle.bincode_types.specs.TypeWords.{Words}

-- there is a word in every setting
abbrev pub HasSomeWord : {A : Type 0} → Words A → Type 0
HasSomeWord W = (s : Setting) → HasWord (W.format s)

-- every valid value can be written in every setting
abbrev pub AlwaysWritable : {A : Type 0} → Words A → Type 0
AlwaysWritable {A} W = (s : Setting) (v : A) → W.valid v → W.writable s v

-- the laws of a type without cells, by what it says of its words
pub record IsPlain {A : Type 0} (F : Setting → Format Meaning) (Valid : A → Type 0) (Means : A → Meaning → Type 0) (CanWrite : Setting → A → Type 0) (OwnErrors : EncodeError → Type 0) : Type 0 where
  -- every valid value can be written in every setting
  pub always_writable : (s : Setting) (v : A) → Valid v → CanWrite s v
  -- all words that a value allows have one length
  pub one_length : (s : Setting) (v : A) → Valid v → OneLength (AllowedWord (Means v) (F s))
  -- encoding fails with no error but the writer's
  pub names_none : (e : EncodeError) → OwnErrors e → ⊥

abbrev pub PlainWords : {A : Type 0} → Words A → Type 0
PlainWords W = IsPlain W.format W.valid W.means W.writable W.own_errors

-- the laws of a type whose words lose nothing of a value
pub record IsExact {A : Type 0} (Valid : A → Type 0) (Means : A → Meaning → Type 0) (DecodesTo : Meaning → A → Type 0) (eq : A → A → Bool) : Type 0 where
  -- values of one meaning are equal
  pub one_value : (v w : A) (m : Meaning) → Valid v → Valid w → Means v m → Means w m → eq v w ≡ true
  -- decoding what a value means gives an equal value
  pub comes_back : (v w : A) (m : Meaning) → Valid v → Means v m → DecodesTo m w → eq v w ≡ true

abbrev pub ExactWords : {A : Type 0} → Words A → (A → A → Bool) → Type 0
ExactWords W eq = IsExact W.valid W.means W.decodes_to eq

-- of all words that decode to what the written one decodes to, none is shorter
abbrev pub CanonicalWords : {A : Type 0} → Words A → Type 0
CanonicalWords {A} W = (s : Setting) (v w : A) → W.valid v → IsShortest (W.means v) (λ m. W.decodes_to m w) (W.format s)
