use Rattle.std.specs.Prelude.{[]}
use Rattle.std.proofs.Common.{refl, arith}
use Rattle.bincode_lemmas.specs.AnswerLaws.{answer-fail}
use Rattle.bincode_spec.specs.Decoding.{by_fault}
use Rattle.bincode_decoder.proofs.empty.decode_no_variants.Goals as goal

pub returns : goal.returns
returns g c = record {
  ok = λ known. tt;
  err = λ known. by_fault _ (answer-fail _ _ _ _) (_, refl) ([], refl);
  failures_monotone = omega arith;
  tells = λ known. known;
  charge_kept = omega arith;
  within = λ _. tt;
  same_loans = refl;
}
