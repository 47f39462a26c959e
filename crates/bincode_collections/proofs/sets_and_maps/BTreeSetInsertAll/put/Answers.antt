use Rattle.std.proofs.Common.{sym, ap, ◌∙◌, []}
use Rattle.std.specs.BTreeSet.{insert_key}
use Rattle.bincode_collections.proofs.Putting.{keys-push}
use Rattle.bincode_collections.proofs.sets_and_maps.BTreeSetInsertAll.put.Goals as goal

pub returns : goal.returns
returns g c = λ items made. c.in-Ok.ensures.keys ∙ (ap (λ keys. insert_key g.K.Ord.cmp keys c.args.item) made ∙ sym (keys-push g.K.Ord.cmp [] items c.args.item))
