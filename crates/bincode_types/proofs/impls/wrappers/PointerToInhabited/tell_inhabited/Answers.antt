use Rattle.bincode_types.proofs.impls.wrappers.PointerToInhabited.tell_inhabited.Goals as goal

pub returns : goal.returns
returns g c = c.tell_inhabited.ensures
