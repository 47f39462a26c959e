use Rattle.std.proofs.Common.{sym, ap, ◌∙◌, []}
use Rattle.std.specs.BTreeMap.{insert_entry}
use Rattle.bincode_collections.proofs.Putting.{entries-push}
use Rattle.bincode_collections.proofs.sets_and_maps.BTreeMapInsertAll.put.Goals as goal

pub returns : goal.returns
returns g c = λ items made.
    let k = c.args.item.0 in
    let v = c.args.item.1 in
    c.in-Ok.ensures.entries ∙ (ap (λ entries. insert_entry g.K.Ord.cmp entries k v) made ∙ sym (entries-push g.K.Ord.cmp [] items k v))
