use Rattle.bincode.proofs.Room.{fits-room}
use Rattle.bincode.proofs.writer.encode_into_writer.Goals as goal

pub returns-clause-room : goal.returns-clause-room
returns-clause-room g c =
    let laws = g.met.W.Writer in
    fits-room _ _ _ _ _ laws.adds_room laws.adds_count laws.refuses_why _ _ _ _ _ _ _ c.encode_with.ensures
