use Rattle.std.proofs.Common.{◌+◌, arith, refl, subst, sym}
use Rattle.bincode_io.specs.Stream.{known_bytes}
use Rattle.frames.specs.declared.Frame.TheVariants as frames
use Rattle.framed_store.specs.declared.ending.Ending.TheVariants as endings
use Rattle.framed_store.proofs.Taken.{Surveyed, surveyed-whole, surveyed-damaged, ends-on, survey-ends, survey-cut}
use Rattle.framed_store.proofs.streams.survey_stream.Goals as goal

pub returns-in-End-clause-counts : goal.returns-in-End-clause-counts
returns-in-End-clause-counts g c = λ tells.
    let taken = c.in_ok-take_front.ensures.front (c.frames.invariant.is_known tells) in
    survey-ends c.args.most (known_bytes (g.R.Read.remaining c.args.stream.now)) c.frames.offset c.frames.whole c.frames.damaged (known_bytes (g.R.Read.remaining c.frames.stream)) endings.Whole
    (c.frames.invariant.so_far tells) (ends-on c.args.most c.take_front.new.buffer.items (known_bytes (g.R.Read.remaining c.frames.stream)) (known_bytes (g.R.Read.remaining c.take_front.new.stream)) taken frames.End (rw c.deref.ensures.value at c.in-End.ensures))

pub returns-in-End-clause-cut : goal.returns-in-End-clause-cut
returns-in-End-clause-cut g c = λ tells. survey-cut c.args.most (known_bytes (g.R.Read.remaining c.args.stream.now)) c.frames.offset c.frames.whole c.frames.damaged (known_bytes (g.R.Read.remaining c.frames.stream)) (c.frames.invariant.so_far tells)

pub returns-in-Torn-clause-counts : goal.returns-in-Torn-clause-counts
returns-in-Torn-clause-counts g c = λ tells.
    let taken = c.in_ok-take_front.ensures.front (c.frames.invariant.is_known tells) in
    survey-ends c.args.most (known_bytes (g.R.Read.remaining c.args.stream.now)) c.frames.offset c.frames.whole c.frames.damaged (known_bytes (g.R.Read.remaining c.frames.stream)) (endings.Torn c.frames.offset)
    (c.frames.invariant.so_far tells) (refl, ends-on c.args.most c.take_front.new.buffer.items (known_bytes (g.R.Read.remaining c.frames.stream)) (known_bytes (g.R.Read.remaining c.take_front.new.stream)) taken frames.Torn (rw c.deref.ensures.value at c.in-Torn.ensures))

pub returns-in-Torn-clause-cut : goal.returns-in-Torn-clause-cut
returns-in-Torn-clause-cut g c = λ tells. survey-cut c.args.most (known_bytes (g.R.Read.remaining c.args.stream.now)) c.frames.offset c.frames.whole c.frames.damaged (known_bytes (g.R.Read.remaining c.frames.stream)) (c.frames.invariant.so_far tells)

pub returns-in-TooLong-clause-counts : goal.returns-in-TooLong-clause-counts
returns-in-TooLong-clause-counts g c = λ tells.
    let taken = c.in_ok-take_front.ensures.front (c.frames.invariant.is_known tells) in
    survey-ends c.args.most (known_bytes (g.R.Read.remaining c.args.stream.now)) c.frames.offset c.frames.whole c.frames.damaged (known_bytes (g.R.Read.remaining c.frames.stream)) (endings.TooLong c.frames.offset c.in-TooLong.length)
    (c.frames.invariant.so_far tells) (refl, ends-on c.args.most c.take_front.new.buffer.items (known_bytes (g.R.Read.remaining c.frames.stream)) (known_bytes (g.R.Read.remaining c.take_front.new.stream)) taken (frames.TooLong c.in-TooLong.length) (rw c.deref.ensures.value at c.in-TooLong.ensures))

pub returns-in-TooLong-clause-cut : goal.returns-in-TooLong-clause-cut
returns-in-TooLong-clause-cut g c = λ tells. survey-cut c.args.most (known_bytes (g.R.Read.remaining c.args.stream.now)) c.frames.offset c.frames.whole c.frames.damaged (known_bytes (g.R.Read.remaining c.frames.stream)) (c.frames.invariant.so_far tells)

pub frames-preserved-in-Damaged : goal.frames-preserved-in-Damaged
frames-preserved-in-Damaged g c =
    let read = rw c.deref.ensures.value at c.in-Damaged.ensures in
    let next = c.in_ok-offset-in-Damaged.ensures.sum in record {
      counts = let counts = c.frames.invariant.counts in let eight = read.1 in omega (arith, counts, eight, next);
      is_known = λ tells. c.take_front.ensures.is_known (c.frames.invariant.is_known tells);
      so_far = λ tells.
          let taken = c.in_ok-take_front.ensures.front (c.frames.invariant.is_known tells) in
          subst (λ n. Surveyed c.args.most (known_bytes (g.R.Read.remaining c.args.stream.now)) n c.frames.whole (c.frames.damaged + 1) (known_bytes (g.R.Read.remaining c.take_front.new.stream))) (sym next)
          (surveyed-damaged c.args.most (known_bytes (g.R.Read.remaining c.args.stream.now)) c.frames.offset c.frames.whole c.frames.damaged c.in-Damaged.size c.take_front.new.buffer.items
          (known_bytes (g.R.Read.remaining c.frames.stream)) (known_bytes (g.R.Read.remaining c.take_front.new.stream)) (c.frames.invariant.so_far tells) taken read);
    }

pub frames-preserved : goal.frames-preserved
frames-preserved g c =
    let read = rw c.deref.ensures.value at c.in-Whole.ensures in
    let next = c.in_ok-offset-in-Whole.ensures.sum in record {
      counts = let counts = c.frames.invariant.counts in let eight = read.1 in omega (arith, counts, eight, next);
      is_known = λ tells. c.take_front.ensures.is_known (c.frames.invariant.is_known tells);
      so_far = λ tells.
          let taken = c.in_ok-take_front.ensures.front (c.frames.invariant.is_known tells) in
          subst (λ n. Surveyed c.args.most (known_bytes (g.R.Read.remaining c.args.stream.now)) n (c.frames.whole + 1) c.frames.damaged (known_bytes (g.R.Read.remaining c.take_front.new.stream))) (sym next)
          (surveyed-whole c.args.most (known_bytes (g.R.Read.remaining c.args.stream.now)) c.frames.offset c.frames.whole c.frames.damaged c.in-Whole.size c.take_front.new.buffer.items
          (known_bytes (g.R.Read.remaining c.frames.stream)) (known_bytes (g.R.Read.remaining c.take_front.new.stream)) (c.frames.invariant.so_far tells) taken (read.0, read.1, read.2));
    }
