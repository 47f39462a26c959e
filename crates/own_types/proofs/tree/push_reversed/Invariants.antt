use Rattle.std.proofs.Common.{◌≡◌, ◌++◌, map}
use Rattle.own_types.proofs.tree.push_reversed.Given as goal

abbrev pub invariant-loop-child : goal.invariant-loop-child
invariant-loop-child l = l.waiting.items ≡ l.initial.waiting.items ++ map (λ b. b.now) l.yielded
