use Rattle.std.proofs.Common.{◌≡◌, ℕ, Some, length, ◌-◌, ◌≤◌}
use Rattle.std.specs.List.{All}
use Rattle.own_types.specs.Requests.{FollowOn, IsBounded, IsRead}
use Rattle.own_types.proofs.requests.read_requests.Given as goal

abbrev pub invariant-loop-alloc : goal.invariant-loop-alloc
invariant-loop-alloc g l =
    (length l.read.items ≤ l.most)
    × (l.end ≤ length l.received)
    × ((limit : ℕ) → g.C.Config.bound ≡ Some limit → All (IsBounded (g.T.Wire.words.format g.C.Config.setting) limit l.received) l.read.items)
    × FollowOn 0 l.read.items l.end
    × All (IsRead (g.T.Wire.words.format g.C.Config.setting) g.C.Config.bound g.T.Wire.words.decodes_to l.received) l.read.items

abbrev pub decreases-loop-alloc : goal.decreases-loop-alloc
decreases-loop-alloc g l = l.most - length l.read.items
