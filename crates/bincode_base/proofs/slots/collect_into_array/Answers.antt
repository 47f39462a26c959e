use Rattle.bincode_base.proofs.slots.collect_into_array.Goals as goal

pub returns : goal.returns
returns g c = c.collect_by.ensures
