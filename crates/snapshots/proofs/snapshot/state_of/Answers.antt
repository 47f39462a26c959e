use Rattle.std.proofs.Common.{◌≡◌}
use Rattle.bincode_base.specs.declared.error.DecodeError.TheVariants.{Memory}
use Rattle.framed_store.proofs.Refused.{refused-for}
use Rattle.snapshots.proofs.snapshot.state_of.Goals as goal

pub returns-else-is_memory-clause-fault : goal.returns-else-is_memory-clause-fault
returns-else-is_memory-clause-fault g c =
    let read = c.in-Err.ensures in
    let other : ¬ (c.in-Err.why ≡ Memory) = λ e. let h = c.if-is_memory.ensures.1 e in cc in
    refused-for (g.T.Wire.words.format g.C.Config.setting) _ _ c.args.word.now c.in-Err.why other read.found read.fault read.limit
