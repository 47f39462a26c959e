use Rattle.std.specs.Prelude.{[], ◌++◌}
use Rattle.frames.proofs.check.Goals as goal

pub returns : goal.returns
returns c = c.value.ensures (c.args.length.now ++ c.args.word.now) (c.update-2.ensures c.args.length.now (c.update.ensures [] c.new-check.ensures))
