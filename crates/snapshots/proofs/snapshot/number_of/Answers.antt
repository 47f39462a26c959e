use Rattle.std.proofs.lemmas.Nat.{le_bytes_8}
use Rattle.snapshots.proofs.snapshot.number_of.Goals as goal

pub returns : goal.returns
returns c = le_bytes_8 c.args.count.now _ c.requires (λ i. (c.type_inv.count i).fits) c.from_le_bytes.ensures
