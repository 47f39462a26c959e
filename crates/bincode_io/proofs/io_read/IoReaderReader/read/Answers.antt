use Rattle.std.proofs.Common.{inl, inr, refl, arith}
use Rattle.std.proofs.lemmas.Result.{on_ok_weaker, IfErr-weaker}
use Rattle.bincode_io.proofs.Streams.{given}
use Rattle.bincode_io.proofs.io_read.IoReaderReader.read.Goals as goal

pub returns-clause-fills : goal.returns-clause-fills
returns-clause-fills g c = record {
  next = λ tells. on_ok_weaker c.fill.result (λ h. given _ _ _ h tells) c.fill.ensures.ok;
  why = λ tells. IfErr-weaker c.fill.result _ _ (λ e h. inr (inl h)) c.fill.ensures.err;
  left = λ tells. IfErr-weaker c.fill.result _ _ (λ e h. inl h) c.fill.ensures.err;
  failures_monotone = omega arith;
  tells = c.fill.ensures.is_known;
  same_loans = refl;
}
