use Rattle.bincode_lemmas.specs.ChoiceLaws.{same-alike, choice-one_length}
use Rattle.bincode_types.proofs.sums.EnumOfPlain.tell_plain.Goals as goal

pub returns : goal.returns
returns g c = record {
  always_writable = λ s v h. c.tell_plain.ensures.always_writable s v.0 h.1;
  one_length = λ s v h. choice-one_length g.Of.Tag.Tag.tags g.Of.Variants.variants s _ _ (same-alike (g.Of.Variants.picked s _ v.0 h.1))
      (g.Of.Variants.means v.0) (g.Of.Tag.Tag.numerals.spelled s _ h.0).one_length (c.tell_plain.ensures.one_length s v.0 h.1);
  names_none = c.tell_plain.ensures.names_none;
}
