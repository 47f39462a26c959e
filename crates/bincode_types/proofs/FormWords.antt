-- The laws of the words of a form, where values with one meaning need not be equal.
use Rattle.std.specs.Prelude.{ℕ}
use Rattle.bincode_spec.specs.Forms.{Form}
use Rattle.bincode_lemmas.specs.FormLaws.{FormLaws}
use Rattle.bincode_lemmas.specs.AllowedLaws.{more-allowed}
use Rattle.bincode_types.specs.TypeLaws.{HasSomeWord, PlainWords, CanonicalWords}
use Rattle.bincode_types.specs.TypeWords.{scalar_words}

module _ {A : Type 0} (form : Form A) (laws : FormLaws form) (size : ℕ) where
  pub form-inhabited : HasSomeWord (scalar_words form laws size)
  form-inhabited = laws.some_word

  pub form-plain : PlainWords (scalar_words form laws size)
  form-plain = record { always_writable = λ s v h. tt; one_length = λ s v h. (laws.spelled s v h).one_length; names_none = λ e h. h }

  pub form-canonical : CanonicalWords (scalar_words form laws size)
  form-canonical = λ s v w h written bytes m steps a b u k.
      (laws.spelled s v h).none_shorter written bytes m steps (more-allowed (λ n p. p.0) written a) b u (laws.one_meaning v w a.meaning m a.is_meant.0 a.is_meant.1 k)
