use Rattle.std.proofs.Common.{refl}
use Rattle.std.proofs.lemmas.Result.{err_from_is_err_and}
use Rattle.bincode.proofs.Decoded.{stopped-word, stopped-fault, stopped-limit, refused-alone, or_refused}
use Rattle.bincode.proofs.Decoded.{decoded-word, decoded-shorter, decoded-fault, decoded-limit}
use Rattle.bincode.proofs.borrow.borrow_decode_from_slice_with_context.Goals as goal

pub returns-in_err-value : goal.returns-in_err-value
returns-in_err-value g c =
    let p = err_from_is_err_and c.from_residual.result c.from_residual.ensures.1 in
    record {
      word = rw p.1 tt;
      found = λ word more m s i w within. rw (p.1, p.2) (refused-alone _ _ _ _ (stopped-word _ (g.D.Wire.words.lawful _) (g.D.Wire.words.balanced _) _ _ _ _ _ _ _ _ _ (rw c.new-reader.ensures at (c.in_err-value.ensures.err tt)).1 word more m s i w within));
      fault = λ why s u within. rw (p.1, p.2) (or_refused _ _ _ _ _ (stopped-fault _ (g.D.Wire.words.lawful _) (g.D.Wire.words.balanced _) _ _ _ _ _ _ _ _ _ (rw c.new-reader.ensures at (c.in_err-value.ensures.err tt)).1 why s u within));
      limit = λ s u h. rw (p.1, p.2) (or_refused _ _ _ _ _ (stopped-limit _ (g.D.Wire.words.lawful _) (g.D.Wire.words.balanced _) _ _ _ _ _ _ _ _ _ (rw c.new-reader.ensures at (c.in_err-value.ensures.err tt)).1 s u h));
    }

pub overflow_sub-taken : goal.overflow_sub-taken
overflow_sub-taken g c =
    decoded-shorter _ (g.D.Wire.words.lawful _) (g.D.Wire.words.balanced _) _ _ _ _ _ (rw c.new-reader.ensures at (c.in_ok-value.ensures.ok tt)).1 _ c.bytes_left.ensures

pub returns : goal.returns
returns g c = record {
  word = decoded-word _ (g.D.Wire.words.lawful _) (g.D.Wire.words.balanced _) _ _ _ _ _ (rw c.new-reader.ensures at (c.in_ok-value.ensures.ok tt)).1 _ _ c.bytes_left.ensures refl;
  found = λ word more m s i w within. tt;
  fault = decoded-fault _ (g.D.Wire.words.lawful _) (g.D.Wire.words.balanced _) _ _ _ _ _ (rw c.new-reader.ensures at (c.in_ok-value.ensures.ok tt)).1;
  limit = decoded-limit _ (g.D.Wire.words.lawful _) (g.D.Wire.words.balanced _) _ _ _ _ _ (rw c.new-reader.ensures at (c.in_ok-value.ensures.ok tt)).1;
}
