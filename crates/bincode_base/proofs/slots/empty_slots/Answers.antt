use Rattle.std.proofs.Common.{rules, None}
use Rattle.bincode_base.proofs.slots.empty_slots.Goals as goal

pub returns : goal.returns
returns g c i h = let called = c.from_fn.ensures.items.at i None h in search (rules, called.2)
