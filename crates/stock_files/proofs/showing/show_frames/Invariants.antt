use Rattle.bincode_io.specs.Stream.{TellsBytes, known_bytes}
use Rattle.stock_files.proofs.Judging.{JudgedTo}
use Rattle.stock_files.proofs.showing.show_frames.Given as goal

abbrev pub invariant-loop : goal.invariant-loop
invariant-loop g l = record {
  is_known : TellsBytes (g.R.Read.remaining l.initial.store) → TellsBytes (g.R.Read.remaining l.store);
  so_far : TellsBytes (g.R.Read.remaining l.initial.store) → JudgedTo (g.T.Wire.words.format g.C.Config.setting) g.C.Config.bound g.T.Wire.words.decodes_to l.most
      (known_bytes (g.R.Read.remaining l.initial.store)) (known_bytes (g.R.Read.remaining l.store)) l.seen.others;
}
