use Rattle.std.proofs.Common.{arith, rules, map, Some, ◌∙◌}
use Rattle.bincode_base.proofs.Taken.{all-filled, values-same}
use Rattle.bincode_base.proofs.slots.collect_by.Goals as goal

pub unwrap_all-requires : goal.unwrap_all-requires
unwrap_all-requires g c = let f = rw c.in-Some-Ok.field-0-is at c.in-Some-Ok.ensures in (search rules, (search rules, all-filled f.0 _ _ (search rules) f.1))

pub returns-in-Some-Ok : goal.returns-in-Some-Ok
returns-in-Some-Ok g c =
    let f = rw c.in-Some-Ok.field-0-is at c.in-Some-Ok.ensures in
    let e = values-same c.unwrap_all.result f.0 (◌∙◌ {c = map Some f.0} c.unwrap_all.ensures f.1) in
    (search rules, rw e f.2)

pub returns-in-Some-Err : goal.returns-in-Some-Err
returns-in-Some-Err g c = let f = rw c.in-Some-Err.field-0-is at c.in-Some-Err.ensures in (f.0, omega (arith, f.1, c.fill.auto.slots), f.2)
