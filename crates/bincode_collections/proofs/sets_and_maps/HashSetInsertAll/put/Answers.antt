use Rattle.bincode_spec.specs.Hashed.{PutsKey}
use Rattle.bincode_collections.proofs.InTurn.{puts-push, puts-key}
use Rattle.bincode_collections.proofs.sets_and_maps.HashSetInsertAll.put.Goals as goal

pub returns : goal.returns
returns g c = λ items made. puts-push (PutsKey g.K.PartialEq.eq) _ _ items c.args.item _ made (puts-key g.K.PartialEq.eq _ _ c.args.item _ c.in-Ok.ensures.added c.in-Ok.ensures.keys)
