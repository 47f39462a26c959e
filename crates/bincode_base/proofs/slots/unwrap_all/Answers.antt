use Rattle.std.proofs.Common.{rules, arith, IsSome, subst, sym}
use Rattle.std.proofs.lemmas.List.{get_or-set_other}
use Rattle.bincode_base.proofs.Taken.{slot-kept, slots-given, all-given}
use Rattle.bincode_base.proofs.slots.unwrap_all.Goals as goal

pub from_fn-requires : goal.from_fn-requires
from_fn-requires g c = (
  search rules,
  record {
    at = λ xs t q x u ys fs st. (
      search rules,
      (search rules, subst IsSome (sym (slot-kept (λ p. p.0.now) _ _ (λ p y r s i lt. search (rules, get_or-set_other)) xs 0 t _ q ys fs x (omega (arith, st.1)))) (c.requires x (search rules))),
    );
  },
)

pub returns : goal.returns
returns g c =
    all-given _ _ (search rules)
    (λ k d lt. slots-given _ (λ p. p.0.now) (λ p x y q r. search rules) (λ p x y q r i lt. search (rules, get_or-set_other)) c.from_fn.result _ 0 _ c.from_fn.ensures.items.each k k d
    (omega arith) (omega (arith, lt, c.from_fn.ensures.items.long)))
