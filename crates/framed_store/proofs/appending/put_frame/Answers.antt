use Rattle.std.proofs.Common.{rules, arith, ap, length}
use Rattle.framed_store.proofs.Placed.{three-parts}
use Rattle.framed_store.proofs.appending.put_frame.Goals as goal

pub returns : goal.returns
returns c = (
  search rules,
  three-parts c.copy_from_slice.new.self c.copy_from_slice-2.new.self c.copy_from_slice-3.new.self _ _ _ (rw (c.copy_from_slice.ensures.after, c.copy_from_slice-2.ensures.after, c.copy_from_slice-3.ensures.after) (rw c.unwrap-around.ensures at c.around.ensures.frame)) (omega (arith, c.copy_from_slice.ensures.len, c.copy_from_slice-2.ensures.len, c.copy_from_slice-3.ensures.len, ap length c.copy_from_slice.ensures.after, ap length c.copy_from_slice-2.ensures.after, ap length c.copy_from_slice-3.ensures.after)),
)
