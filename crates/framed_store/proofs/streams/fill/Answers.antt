use Rattle.std.proofs.Common.{rules}
use Rattle.std.proofs.lemmas.List.{places}
use Rattle.framed_store.proofs.Taken.{filled-more}
use Rattle.framed_store.proofs.streams.fill.Goals as goal

pub loop-filled-preserved : goal.loop-filled-preserved
loop-filled-preserved g c =
    let read = c.in_ok-n.ensures in
    let before = c.loop-filled.invariant in
    let more = filled-more (g.R.Read.remaining c.args.stream.now) (g.R.Read.remaining c.loop-filled.stream) (g.R.Read.remaining c.read_piece.new.stream) c.args.buffer.now.items
    c.loop-filled.buffer.items c.read_piece.new.buffer.items c.loop-filled.filled c.in_ok-n.n (search (rules, places)) read.front before.front before.bytes read.ok in record {
      within = read.within;
      filled = read.fits;
      front = more.0;
      bytes = more.1;
    }
