use Rattle.std.proofs.lemmas.Result.{err_from_is_err_and}
use Rattle.bincode_base.specs.declared.error.IntegerType.TheVariants as integers
use Rattle.bincode_spec.specs.Format.{fixed_bytes, without_count, charge_then}
use Rattle.bincode_spec.specs.Integers.{Eight}
use Rattle.bincode_spec.specs.Words.{len}
use Rattle.bincode_lemmas.specs.IntegerLaws.{unsigned-lawful}
use Rattle.std.proofs.Common.{refl}
use Rattle.bincode_decoder.proofs.PartAnswers.{first-stops, next-reads}
use Rattle.bincode_decoder.proofs.borrow.take_length_prefixed.Goals as goal

pub returns-in_err-count : goal.returns-in_err-count
returns-in_err-count g c =
    let p = err_from_is_err_and c.from_residual.result c.from_residual.ensures.1 in
    rw (p.1, p.2) (first-stops (len g.D.C.Config.setting) (λ n. charge_then n (without_count (fixed_bytes n))) (λ none. absurd none) c.in_err-count.ensures.reads)

pub returns : goal.returns
returns g c =
    next-reads (len g.D.C.Config.setting) (λ n. charge_then n (without_count (fixed_bytes n))) (unsigned-lawful integers.U64 8 g.D.C.Config.setting (Eight refl)) c.in_ok-count.ensures.reads
    c.take_claimed.ensures
