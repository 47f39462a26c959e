use Rattle.bincode_spec.specs.Words.{variant_tags, allowed_tags}
use Rattle.bincode_lemmas.specs.ChoiceLaws.{part-here, choice-some_word}
use Rattle.std.specs.Prelude.{◌∷◌}
use Rattle.bincode_types.proofs.sums.EnumOfVariantOf0Inhabited.tell_inhabited.Goals as goal

pub returns : goal.returns
returns g c = λ s. choice-some_word g.Others.Tag.Tag.tags ((0, g.A.Wire.words.format) ∷ g.Others.Variants.variants) s 0 (g.A.Wire.words.format s)
    (part-here s (allowed_tags (variant_tags ((0, g.A.Wire.words.format) ∷ g.Others.Variants.variants))) 0 g.A.Wire.words.format g.Others.Variants.variants)
    (g.Others.Tag.Tag.numerals.lawful s) (g.Others.Tag.Tag.numerals.spelled s 0 g.Others.Tag.Tag.zero_fits).has_word
    (c.tell_inhabited.ensures s)
