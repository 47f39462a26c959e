use Rattle.std.proofs.Common.{refl}
use Rattle.std.proofs.lemmas.Result.{err_from_is_err_and}
use Rattle.bincode_lemmas.specs.LimitedLaws.{decoded-bounded}
use Rattle.bincode_shape.specs.ShapeLaws.{format_of-lawful, format_of-balanced, format_of-charged}
use Rattle.bincode.proofs.Decoded.{stopped-word, stopped-fault, stopped-limit, refused-alone, or_refused}
use Rattle.bincode.proofs.Decoded.{decoded-word, decoded-shorter, decoded-fault, decoded-limit}
use Rattle.bincode.proofs.shaped.decode_shaped.Goals as goal

pub returns-in_err-value-clause-answer : goal.returns-in_err-value-clause-answer
returns-in_err-value-clause-answer g c =
    let p = err_from_is_err_and c.from_residual.result c.from_residual.ensures.1 in
    let shape = c.args.shape.now in
    record {
      word = rw p.1 tt;
      found = λ word more m s i w within. rw (p.1, p.2) (refused-alone _ _ _ _ (stopped-word _ (format_of-lawful shape _) (format_of-balanced shape _) _ _ _ _ _ _ _ _ _ (rw c.new-reader.ensures at (c.in_err-value.ensures.err tt)).1 word more m s i w within));
      fault = λ why s u within. rw (p.1, p.2) (or_refused _ _ _ _ _ (stopped-fault _ (format_of-lawful shape _) (format_of-balanced shape _) _ _ _ _ _ _ _ _ _ (rw c.new-reader.ensures at (c.in_err-value.ensures.err tt)).1 why s u within));
      limit = λ s u h. rw (p.1, p.2) (or_refused _ _ _ _ _ (stopped-limit _ (format_of-lawful shape _) (format_of-balanced shape _) _ _ _ _ _ _ _ _ _ (rw c.new-reader.ensures at (c.in_err-value.ensures.err tt)).1 s u h));
    }

pub overflow_sub-result : goal.overflow_sub-result
overflow_sub-result g c =
    let shape = c.args.shape.now in decoded-shorter _ (format_of-lawful shape _) (format_of-balanced shape _) _ _ _ _ _ (rw c.new-reader.ensures at (c.in_ok-value.ensures.ok tt)).1 _ c.bytes_left.ensures

pub returns-clause-answer : goal.returns-clause-answer
returns-clause-answer g c =
    let shape = c.args.shape.now in
    record {
      word = decoded-word _ (format_of-lawful shape _) (format_of-balanced shape _) _ _ _ _ _ (rw c.new-reader.ensures at (c.in_ok-value.ensures.ok tt)).1 _ _ c.bytes_left.ensures refl;
      found = λ word more m s i w within. tt;
      fault = decoded-fault _ (format_of-lawful shape _) (format_of-balanced shape _) _ _ _ _ _ (rw c.new-reader.ensures at (c.in_ok-value.ensures.ok tt)).1;
      limit = decoded-limit _ (format_of-lawful shape _) (format_of-balanced shape _) _ _ _ _ _ (rw c.new-reader.ensures at (c.in_ok-value.ensures.ok tt)).1;
    }

pub returns-clause-bounded : goal.returns-clause-bounded
returns-clause-bounded g c = λ limit e.
    let shape = c.args.shape.now in
    decoded-bounded _ (format_of-lawful shape _) (format_of-balanced shape _) (format_of-charged shape _) _ _ _ _
    (decoded-word _ (format_of-lawful shape _) (format_of-balanced shape _) _ _ _ _ _ (rw c.new-reader.ensures at (c.in_ok-value.ensures.ok tt)).1 _ _ c.bytes_left.ensures refl) limit e
