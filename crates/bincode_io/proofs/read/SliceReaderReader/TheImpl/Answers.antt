use Rattle.std.proofs.Common.{arith, inl, inr, [], refl, sym}
use Rattle.std.proofs.lemmas.Option.{IfSome_then}
use Rattle.std.proofs.lemmas.Result.{IfErr-weaker}
use Rattle.bincode_io.proofs.read.SliceReaderReader.TheImpl.Goals as goal

pub read-tells : goal.read-tells
read-tells g x c = record {
  next = λ known. c.ensures.next;
  why = λ known. IfErr-weaker c.result _ _ (λ e h. inl h) c.ensures.why;
  left = λ known. IfErr-weaker c.result _ _ (λ e h. inr ([], sym h)) c.ensures.left;
  failures_monotone = omega arith;
  tells = λ known. tt;
  same_loans = refl;
}

pub peek_read-tells : goal.peek_read-tells
peek_read-tells g x c = record {
  next = IfSome_then c.result c.ensures.next (λ s h. (h.0, λ known. h.1));
  shows = λ some. c.ensures.shows;
}
