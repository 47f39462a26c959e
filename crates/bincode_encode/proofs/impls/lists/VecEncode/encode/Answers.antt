use Rattle.bincode_encode.proofs.impls.lists.VecEncode.encode.Goals as goal

pub returns : goal.returns
returns g c = rw c.rebuild_result.ensures (rw c.deref.ensures.value at c.encode_list.ensures)
