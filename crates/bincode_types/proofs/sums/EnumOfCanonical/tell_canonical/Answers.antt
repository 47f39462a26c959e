use Rattle.bincode_lemmas.specs.ChoiceLaws.{choice-shortest}
use Rattle.bincode_types.proofs.sums.EnumOfCanonical.tell_canonical.Goals as goal

pub returns : goal.returns
returns g c = λ s v w h. choice-shortest g.Of.Tag.Tag.tags g.Of.Variants.variants s _ _ _ (g.Of.Variants.picked s _ v.0 h.1)
    (g.Of.Variants.means v.0) (g.Of.Variants.decodes_to w.0) (g.Of.Tag.Tag.numerals.spelled s _ h.0).none_shorter (c.tell_canonical.ensures s v.0 w.0 h.1)
