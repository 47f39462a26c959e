use Rattle.bincode_spec.specs.Hashed.{PutsEntry}
use Rattle.bincode_collections.proofs.InTurn.{puts-push, puts-entry}
use Rattle.bincode_collections.proofs.sets_and_maps.HashMapInsertAll.put.Goals as goal

pub returns-in-Ok : goal.returns-in-Ok
returns-in-Ok g c = λ items made. puts-push (PutsEntry g.K.PartialEq.eq) _ _ items c.args.item _ made (puts-entry g.K.PartialEq.eq _ _ c.args.item.0 c.args.item.1 _ c.in-Ok.ensures.old c.in-Ok.ensures.entries)
