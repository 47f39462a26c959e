use Rattle.bincode_lemmas.specs.ChoiceLaws.{tags-differ}
use Rattle.bincode_types.specs.declared.sums.VariantOf.TheVariants.{This, Other}
use Rattle.std.proofs.Common.{sym}
use Rattle.bincode_types.proofs.sums.VariantOfExactVariants.tell_exact.Goals as goal

pub returns-clause-one_value : goal.returns-clause-one_value
returns-clause-one_value g c = elim [
  | This a ↦ elim [
    | This b ↦ λ m h k e. c.tell_exact.ensures.one_value a b m h k
    | Other o ↦ λ m h k e. absurd (tags-differ g.row.TAG (g.Others.Variants.variant o).0 k.0 e)
  ]
  | Other p ↦ elim [
    | This b ↦ λ m h k e. absurd (tags-differ g.row.TAG (g.Others.Variants.variant p).0 h.0 (sym e))
    | Other o ↦ λ m h k. c.tell_exact-2.ensures.one_value p o m h.1 k.1
  ]
]

pub returns-clause-comes_back : goal.returns-clause-comes_back
returns-clause-comes_back g c = elim [
  | This a ↦ elim [
    | This b ↦ λ m h e. c.tell_exact.ensures.comes_back a b m h
    | Other o ↦ λ m h e p q. absurd (tags-differ g.row.TAG (g.Others.Variants.variant o).0 q.0 e)
  ]
  | Other p ↦ elim [
    | This b ↦ λ m h e. absurd (tags-differ g.row.TAG (g.Others.Variants.variant p).0 h.0 (sym e))
    | Other o ↦ λ m h e r q. c.tell_exact-2.ensures.comes_back p o m h.1 e r q.1
  ]
]
