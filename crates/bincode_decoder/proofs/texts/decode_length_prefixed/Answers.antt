use Rattle.std.proofs.lemmas.Result.{err_from_is_err_and}
use Rattle.bincode_base.specs.declared.error.IntegerType.TheVariants as integers
use Rattle.bincode_spec.specs.Format.{fixed_bytes, without_count, charge_then}
use Rattle.bincode_spec.specs.Integers.{Eight}
use Rattle.bincode_spec.specs.Words.{len}
use Rattle.bincode_lemmas.specs.IntegerLaws.{unsigned-lawful}
use Rattle.std.proofs.Common.{refl}
use Rattle.bincode_decoder.proofs.PartAnswers.{first-stops, next-reads, reads-besides}
use Rattle.bincode_decoder.proofs.Refusals.{none-refused, some-refused}
use Rattle.bincode_decoder.proofs.texts.decode_length_prefixed.Goals as goal

pub returns-in_err-count-clause-read : goal.returns-in_err-count-clause-read
returns-in_err-count-clause-read g c =
    let p = err_from_is_err_and c.from_residual.result c.from_residual.ensures.1 in
    rw (p.1, p.2) (first-stops (len g.D.C.Config.setting) (λ n. charge_then n (without_count (fixed_bytes n))) (λ none. absurd none) c.in_err-count.ensures.reads)

pub returns-clause-read : goal.returns-clause-read
returns-clause-read g c =
    next-reads (len g.D.C.Config.setting) (λ n. charge_then n (without_count (fixed_bytes n))) (unsigned-lawful integers.U64 8 g.D.C.Config.setting (Eight refl)) c.in_ok-count.ensures.reads
    (reads-besides _ (λ _. tt) c.decode_claimed.ensures.read)

pub returns-in_err-count-clause-memory : goal.returns-in_err-count-clause-memory
returns-in_err-count-clause-memory g c =
    let p = err_from_is_err_and c.from_residual.result c.from_residual.ensures.1 in
    rw (p.1, p.2) (none-refused g.D.C.Config.setting c.in_err-count.ensures.reads)

pub returns-clause-memory : goal.returns-clause-memory
returns-clause-memory g c = some-refused g.D.C.Config.setting c.decode_claimed.result c.in_ok-count.ensures.reads c.decode_claimed.ensures.read
