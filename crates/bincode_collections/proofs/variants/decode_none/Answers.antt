use Rattle.std.specs.Prelude.{[]}
use Rattle.std.proofs.Common.{refl, inl, inr, arith}
use Rattle.bincode_lemmas.specs.AnswerLaws.{answer-fail}
use Rattle.bincode_spec.specs.Decoding.{by_fault, by_memory}
use Rattle.bincode_collections.proofs.variants.decode_none.Goals as goal

pub returns-clause-reads : goal.returns-clause-reads
returns-clause-reads g c = record {
  ok = λ known. tt;
  err = λ known. elim c.unexpected_tag.ensures [
    | inl t ↦ by_fault _ (answer-fail _ _ _ _) t ([], refl)
    | inr m ↦ by_memory (inl m.0) m.1 ([], refl)
  ];
  failures_monotone = omega arith;
  tells = λ known. known;
  charge_kept = omega arith;
  within = λ _. tt;
  same_loans = refl;
}
