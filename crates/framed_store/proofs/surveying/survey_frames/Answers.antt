use Rattle.std.proofs.Common.{arith}
use Rattle.framed_store.proofs.Stepped.{frame-within, counted-whole, counted-damaged, cut-whole}
use Rattle.framed_store.proofs.surveying.survey_frames.Goals as goal

pub frames-preserved-in-Damaged : goal.frames-preserved-in-Damaged
frames-preserved-in-Damaged c =
    let so_far = c.frames.invariant in
    let read = c.in-Damaged.ensures in
    let next = frame-within c.args.most c.args.store.now c.frames.offset c.in-Damaged.size so_far.within read.1 read.0.1 in record {
      within = next.0;
      counts = let counts = so_far.counts in let eight = next.1 in omega (arith, counts, eight);
      so_far = counted-damaged c.args.most c.args.store.now c.frames.offset c.frames.whole c.frames.damaged c.in-Damaged.size read so_far.so_far;
    }

pub frames-preserved : goal.frames-preserved
frames-preserved c =
    let so_far = c.frames.invariant in
    let read = c.in-Whole.ensures in
    let next = frame-within c.args.most c.args.store.now c.frames.offset c.in-Whole.size so_far.within read.1 read.0.1 in record {
      within = next.0;
      counts = let counts = so_far.counts in let eight = next.1 in omega (arith, counts, eight);
      so_far = counted-whole c.args.most c.args.store.now c.frames.offset c.frames.whole c.frames.damaged c.in-Whole.size (read.0, read.1, read.2) so_far.so_far;
    }

pub returns-in-End-clause-cut : goal.returns-in-End-clause-cut
returns-in-End-clause-cut c = cut-whole c.args.most c.args.store.now c.frames.offset c.frames.whole c.frames.damaged c.frames.invariant.within c.frames.invariant.so_far

pub returns-in-Torn-clause-cut : goal.returns-in-Torn-clause-cut
returns-in-Torn-clause-cut c = cut-whole c.args.most c.args.store.now c.frames.offset c.frames.whole c.frames.damaged c.frames.invariant.within c.frames.invariant.so_far

pub returns-in-TooLong-clause-cut : goal.returns-in-TooLong-clause-cut
returns-in-TooLong-clause-cut c = cut-whole c.args.most c.args.store.now c.frames.offset c.frames.whole c.frames.damaged c.frames.invariant.within c.frames.invariant.so_far
