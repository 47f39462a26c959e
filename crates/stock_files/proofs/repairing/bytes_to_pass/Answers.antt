use Rattle.std.proofs.Common.{refl}
use Rattle.stock_files.proofs.Salvaging.{passed-frame, passed-to-frame}
use Rattle.stock_files.proofs.repairing.bytes_to_pass.Goals as goal

pub returns-clause-some : goal.returns-clause-some
returns-clause-some c = passed-to-frame 65526 c.args.bytes.now c.find_frame.result c.requires c.find_frame.ensures.found c.find_frame.ensures.first

pub returns-then-not-ends_with_frame-clause-some : goal.returns-then-not-ends_with_frame-clause-some
returns-then-not-ends_with_frame-clause-some c =
    passed-frame 65526 c.args.bytes.now c.split_at.result.0.now c.split_at.result.1.now c.in-Damaged.size c.ends_with_frame.result c.in-Damaged.ensures
    c.split_at.ensures.front c.split_at.ensures.back (c.if-goes_on.ensures refl) c.ends_with_frame.ensures c.if-not-ends_with_frame.true
