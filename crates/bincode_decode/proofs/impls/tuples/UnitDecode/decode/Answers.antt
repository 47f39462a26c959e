use Rattle.std.proofs.Common.{refl, arith}
use Rattle.bincode_lemmas.specs.DecodingLaws.{nothing-decodes}
use Rattle.bincode_decode.proofs.impls.tuples.UnitDecode.decode.Goals as goal

pub returns : goal.returns
returns g c = record { ok = λ known. nothing-decodes _ _ _; err = λ known. tt; failures_monotone = omega arith; tells = λ known. known; charge_kept = omega arith; within = λ within. within; same_loans = refl }
