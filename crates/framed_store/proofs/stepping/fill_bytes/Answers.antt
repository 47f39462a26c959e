use Rattle.std.proofs.Common.{arith, rules, refl, []}
use Rattle.framed_store.proofs.Taken.{filled-more}
use Rattle.framed_store.proofs.stepping.fill_bytes.Goals as goal

pub loop-at-preserved : goal.loop-at-preserved
loop-at-preserved g c =
    let before = c.loop-at.invariant in
    let read = c.in_ok-n.ensures in
    let more = filled-more (g.R.Read.remaining c.args.stream.now) (g.R.Read.remaining c.loop-at.stream) (g.R.Read.remaining c.read_at.new.stream) [] c.loop-at.bytes c.read_at.new.bytes
    c.loop-at.at c.in_ok-n.n (let fits = read.fits in omega (arith, fits)) read.front refl before.bytes read.ok in record {
      length_kept = search rules;
      within = read.fits;
      bytes = more.1;
    }
