use Rattle.bincode_shape.specs.Rows.{without-vec}
use Rattle.bincode_shape.proofs.bytes.+bytes.Goals as goal

pub has_no_bytes-returns-in-Tuple : goal.has_no_bytes-returns-in-Tuple
has_no_bytes-returns-in-Tuple t c = rw (c.in-Tuple.is, without-vec c.in-Tuple.parts) (rw c.deref-in-Tuple.ensures.value at c.have_no_bytes.ensures)
