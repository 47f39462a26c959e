use Rattle.std.proofs.Common.{arith, rules}
use Rattle.framed_store.proofs.Strode.{skip-more}
use Rattle.framed_store.proofs.stepping.skip.Goals as goal

pub loop-skipped-preserved : goal.loop-skipped-preserved
loop-skipped-preserved g c =
    let before = c.loop-skipped.invariant in
    let read = c.in_ok-n.ensures in record {
      within = let fits = read.within in let more = c.loop-skipped-test.true in omega (arith, fits, more);
      room = search rules;
      bytes = skip-more (g.R.Read.remaining c.args.stream.now) (g.R.Read.remaining c.loop-skipped.stream) (g.R.Read.remaining c.skip_some.new.stream) c.loop-skipped.skipped c.in_ok-n.n before.bytes read.bytes;
    }
