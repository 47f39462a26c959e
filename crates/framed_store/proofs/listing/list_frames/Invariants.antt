use Rattle.std.proofs.Common.{◌-◌, ◌≤◌, length, drop}
use Rattle.framed_store.specs.Told.{ReadFrom}
use Rattle.framed_store.proofs.listing.list_frames.Given as goal

abbrev pub invariant-loop-offset : goal.invariant-loop-offset
invariant-loop-offset g l = record {
  within : l.offset ≤ length l.store;
  so_far : ReadFrom (g.T.Wire.words.format g.C.Config.setting) g.C.Config.bound g.T.Wire.words.decodes_to l.most 0 l.store l.records.items l.offset (drop l.offset l.store);
}

abbrev pub decreases-loop-offset : goal.decreases-loop-offset
decreases-loop-offset g l = length l.store - l.offset
