use Rattle.bincode_types.proofs.own.time.methods.DurationOrd.cmp.Goals as goal

pub returns : goal.returns
returns c = rw (c.as_nanos.ensures, c.as_nanos-2.ensures) at c.cmp.ensures
