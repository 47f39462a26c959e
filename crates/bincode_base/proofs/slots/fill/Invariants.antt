use Rattle.std.proofs.Common.{◌≡◌, List, length, map, take, Some, Ok}
use Rattle.std.specs.Iterator.{Yields}
use Rattle.bincode_base.proofs.slots.fill.Given as goal

abbrev pub invariant-loop-index : goal.invariant-loop-index
invariant-loop-index g l =
    (items : List g.row.T.Denot)
    × (length items ≡ l.index)
    × (length l.slots ≡ length l.fn.slots)
    × (take l.index l.slots ≡ map Some items)
    × Yields g.I.Iterator.next_gives l.fn.iter (map Ok items) l.iter
    × g.I.Iterator.can_next l.iter
