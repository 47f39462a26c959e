use Rattle.bincode_encode.proofs.impls.lists.CowSliceEncodeParts.encode_parts.Goals as goal

pub returns : goal.returns
returns g c = rw c.deref.ensures.value at c.encode_list.ensures
