use Rattle.bincode_collections.proofs.runs.decode_run.Goals as goal

pub returns-in-Some : goal.returns-in-Some
returns-in-Some g c = c.in-Some.ensures

pub decode_each-requires-2 : goal.decode_each-requires-2
decode_each-requires-2 g c = rw (c.in_default.ensures, c.decode_at_once.auto.values) c.requires

pub returns : goal.returns
returns g c = rw (c.in_default.ensures, c.decode_at_once.auto.values) at c.decode_each-2.ensures
