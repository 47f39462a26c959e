use Rattle.std.proofs.Common.{arith, inl, inr, [], refl, sym}
use Rattle.std.proofs.lemmas.Result.{IfOk-weaker, IfErr-weaker}
use Rattle.bincode_io.proofs.read.borrow.SliceReaderBorrowReader.TheImpl.Goals as goal

pub take_bytes-tells : goal.take_bytes-tells
take_bytes-tells g x c = record {
  next = λ known. IfOk-weaker c.result _ _ (λ s h. h.0) c.ensures.next;
  whole = IfOk-weaker c.result _ _ (λ s h. h.1) c.ensures.next;
  why = λ known. IfErr-weaker c.result _ _ (λ e h. inl h) c.ensures.why;
  left = λ known. IfErr-weaker c.result _ _ (λ e h. inr ([], sym h)) c.ensures.left;
  failures_monotone = omega arith;
  tells = λ known. tt;
  same_loans = refl;
}
