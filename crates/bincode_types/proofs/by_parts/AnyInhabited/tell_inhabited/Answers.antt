use Rattle.bincode_types.proofs.by_parts.AnyInhabited.tell_inhabited.Goals as goal

pub returns : goal.returns
returns g c = c.tell_inhabited.ensures
