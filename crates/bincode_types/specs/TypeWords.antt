-- The format of a type and its laws.
use Rattle.std.specs.Prelude.{ℕ, ◌≤◌, List, max}
use Rattle.std.proofs.Common.{arith}
use Rattle.bincode_base.specs.Setting.{Setting}
use Rattle.bincode_base.specs.declared.error.EncodeError.{EncodeError}
use Rattle.bincode_spec.specs.Format.{Format}
use Rattle.bincode_spec.specs.Layers.Laws.{IsLawful, IsBalanced}
use Rattle.bincode_spec.specs.Forms.{Form}
use Rattle.bincode_spec.specs.Meaning.{Meaning}
use Rattle.bincode_spec.specs.Allowed.{AllowedWord, SomeWord, MayName}
use Rattle.bincode_lemmas.specs.FormLaws.{FormLaws}
use Rattle.bincode_lemmas.specs.NeedLaws.{Needs}
use Rattle.bincode_lemmas.specs.ChargedLaws.{ChargesEnough}

pub record Words (A : Type 0) : Type 1 where
  -- the words, their meanings and charges, and the faults of all other inputs; they depend on the setting alone
  pub format : Setting → Format Meaning
  -- what holds of each value of the type
  pub valid : A → Type 0
  -- what a value means
  pub means : A → Meaning → Type 0
  -- the values that decoding returns for a meaning
  pub decodes_to : Meaning → A → Type 0
  -- the inner type of each cell in the value has a word, and each valid value of it can be written
  pub writable : Setting → A → Type 0
  -- the errors of encoding that are the type's own, not the writer's
  pub own_errors : EncodeError → Type 0
  -- decoding may allocate
  pub may_allocate : Type 0
  -- what a container claims for an element, in bytes
  pub claim : ℕ
  -- how large a limit an input needs: for the word that it begins with, or up to its first fault
  pub need : Setting → List ℕ → ℕ
  -- no word begins another, each has one meaning, and each input begins with one word or has one fault
  pub lawful : (s : Setting) → IsLawful (format s)
  -- a word releases what it reserves
  pub balanced : (s : Setting) → IsBalanced (format s)
  -- each valid value that can be written allows a word, which is made of bytes
  pub has_word : (s : Setting) (v : A) → valid v → writable s v → SomeWord (AllowedWord (means v) (format s))
  -- no error of a writer is the type's own
  pub errors_are_own : (e : EncodeError) → own_errors e → MayName e
  -- it claims at least one byte
  pub claims : 1 ≤ claim
  -- what an input needs is the most that is charged and held at one time
  pub needs : (s : Setting) → Needs (need s) (format s)
  -- no word has more bytes than one and a half times its charge, and each of its lists has elements that claim
  -- something
  pub charges_enough : (s : Setting) → ChargesEnough (format s)

-- the `Words` of a scalar. A container claims its size in memory, and at least 1
abbrev pub scalar_words : {A : Type 0} (form : Form A) → FormLaws form → (size : ℕ) → Words A
scalar_words form laws size = record {
  format = form.format;
  valid = form.Bounds;
  means = form.means;
  decodes_to = λ m v. form.means v m;
  writable = λ s v. Unit {0};
  own_errors = λ e. ⊥;
  may_allocate = ⊥;
  claim = max size 1;
  need = λ s. form.need;
  lawful = laws.lawful;
  balanced = laws.balanced;
  has_word = λ s v h w. (laws.spelled s v h).has_word;
  errors_are_own = λ e h. absurd h;
  claims = omega arith;
  needs = laws.needs;
  charges_enough = laws.charges_enough;
}

-- the `Words` of a type that is written as its parts
abbrev pub words_by : {A B : Type 0} → Words B → (A → B) → Words A
words_by W parts = record {
  format = W.format;
  valid = λ v. W.valid (parts v);
  means = λ v. W.means (parts v);
  decodes_to = λ m v. W.decodes_to m (parts v);
  writable = λ s v. W.writable s (parts v);
  own_errors = W.own_errors;
  may_allocate = W.may_allocate;
  claim = W.claim;
  need = W.need;
  lawful = W.lawful;
  balanced = W.balanced;
  has_word = λ s v. W.has_word s (parts v);
  errors_are_own = W.errors_are_own;
  claims = W.claims;
  needs = W.needs;
  charges_enough = W.charges_enough;
}

-- these `Words` with another claim
abbrev pub with_claim : {A : Type 0} (n : ℕ) → 1 ≤ n → Words A → Words A
with_claim n some W = record {
  format = W.format;
  valid = W.valid;
  means = W.means;
  decodes_to = W.decodes_to;
  writable = W.writable;
  own_errors = W.own_errors;
  may_allocate = W.may_allocate;
  claim = n;
  need = W.need;
  lawful = W.lawful;
  balanced = W.balanced;
  has_word = W.has_word;
  errors_are_own = W.errors_are_own;
  claims = some;
  needs = W.needs;
  charges_enough = W.charges_enough;
}
