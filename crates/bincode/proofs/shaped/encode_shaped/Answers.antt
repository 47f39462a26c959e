use Rattle.bincode.proofs.Room.{fits-room}
use Rattle.bincode.proofs.shaped.encode_shaped.Goals as goal

pub returns-clause-room : goal.returns-clause-room
returns-clause-room g c = λ fit.
    let laws = g.met.W.Writer in fits-room _ _ _ _ _ laws.adds_room laws.adds_count laws.refuses_why _ _ _ _ _ _ _ c.encode_fitting.ensures
