use Rattle.bincode_lemmas.specs.AllowedLaws.{fewer-none_shorter}
use Rattle.bincode_lemmas.specs.ChoiceLaws.{tags-differ}
use Rattle.bincode_types.specs.declared.sums.VariantOf.TheVariants.{This, Other}
use Rattle.std.proofs.Common.{sym}
use Rattle.bincode_types.proofs.sums.VariantOfCanonicalVariants.tell_canonical.Goals as goal

pub returns : goal.returns
returns g c = λ s. elim [
  | This a ↦ elim [
    | This b ↦ λ h e. c.tell_canonical.ensures s a b h
    | Other o ↦ λ h e written bytes m steps w. absurd (tags-differ g.row.TAG (g.Others.Variants.variant o).0 w.is_meant.1.0 e)
  ]
  | Other p ↦ elim [
    | This b ↦ λ h e. absurd (tags-differ g.row.TAG (g.Others.Variants.variant p).0 h.0 (sym e))
    | Other o ↦ λ h e. fewer-none_shorter (λ m p. (p.0, p.1.1)) (λ m p. p.1) (c.tell_canonical-2.ensures s p o h.1 e)
  ]
]
