use Rattle.bincode_lemmas.specs.TupleLaws.{either}
use Rattle.bincode_types.specs.declared.sums.VariantOf.TheVariants.{This, Other}
use Rattle.bincode_types.proofs.sums.VariantOfPlainVariants.tell_plain.Goals as goal

pub returns-clause-always_writable : goal.returns-clause-always_writable
returns-clause-always_writable g c = λ s. elim [
  | This a ↦ c.tell_plain.ensures.always_writable s a
  | Other o ↦ λ h. c.tell_plain-2.ensures.always_writable s o h.1
]

pub returns-clause-one_length : goal.returns-clause-one_length
returns-clause-one_length g c = λ s. elim [ This a ↦ c.tell_plain.ensures.one_length s a | Other o ↦ λ h. c.tell_plain-2.ensures.one_length s o h.1 ]

pub returns-clause-names_none : goal.returns-clause-names_none
returns-clause-names_none g c = λ e. either (c.tell_plain.ensures.names_none e) (c.tell_plain-2.ensures.names_none e)
