use Rattle.std.specs.Prelude.{◌<◌}
use Rattle.std.proofs.Common.{refl, arith, true, false}
use Rattle.std.proofs.lemmas.Result.{err_from_is_err_and}
use Rattle.bincode_spec.specs.Fault.{InvalidBool}
use Rattle.bincode_lemmas.specs.IntegerLaws.{unsigned_byte-lawful}
use Rattle.bincode_spec.specs.Decoding.{by_fault}
use Rattle.bincode_lemmas.specs.DecodingLaws.{gave-takes, stops-first, truth-decodes, truth-refuses}
use Rattle.bincode_decoder.proofs.ReadAnswers.{read-as, exactly}
use Rattle.bincode_decoder.proofs.truth.decode_truth.Goals as goal

pub returns-in_err-b : goal.returns-in_err-b
returns-in_err-b g c =
    let p = err_from_is_err_and c.from_residual.result c.from_residual.ensures.1 in
    let read = c.in_err-b.ensures.reads in
    rw (p.1, p.2) (record {
      reads = read-as (λ known. tt) (λ known. stops-first _ _ _ _ (λ h. h) _ _ _ _ _ _ _ _ _ (read.err known)) (λ _. tt) read;
      charges = c.in_err-b.ensures.charges;
    })

pub returns-in-0 : goal.returns-in-0
returns-in-0 g c =
    let read = c.in_ok-b.ensures.reads in
    record {
      reads = read-as (λ known. truth-decodes _ _ _ _ _ _ false (exactly (read.ok known)) c.in-0.is) (λ known. tt) read.within read;
      charges = c.in_ok-b.ensures.charges;
    }

pub returns-in-1 : goal.returns-in-1
returns-in-1 g c =
    let read = c.in_ok-b.ensures.reads in
    record {
      reads = read-as (λ known. truth-decodes _ _ _ _ _ _ true (exactly (read.ok known)) c.in-1.is) (λ known. tt) read.within read;
      charges = c.in_ok-b.ensures.charges;
    }

pub returns-in_default : goal.returns-in_default
returns-in_default g c =
    let read = c.in_ok-b.ensures.reads in
    let above : 1 < c.in_ok-b.b = omega arith in
    record {
      reads = read-as (λ known. tt)
          (λ known. by_fault (InvalidBool c.in_ok-b.b) (truth-refuses _ _ _ _ _ _ (exactly (read.ok known)) above) refl (gave-takes _ _ unsigned_byte-lawful _ _ _ _ _ (exactly (read.ok known)))) (λ _. tt) read;
      charges = c.in_ok-b.ensures.charges;
    }
