use Rattle.framed_store.proofs.Listings.{read-on}
use Rattle.framed_store.proofs.listing.list_frames.Goals as goal

pub loop-offset-preserved : goal.loop-offset-preserved
loop-offset-preserved g c =
    let so_far = c.loop-offset.invariant in
    let next = read-on (g.T.Wire.words.format g.C.Config.setting) g.C.Config.bound g.T.Wire.words.decodes_to c.args.most c.args.store.now c.loop-offset.offset _ c.in-Record.size c.in-Record.content so_far.within so_far.so_far (rw c.in-Record.is at c.in_ok-next_record.ensures) in record {
      within = next.0;
      so_far = rw c.in_ok-push-in-Record.ensures.items next.2;
    }
