use Rattle.bincode_io.specs.Stream.{known_bytes}
use Rattle.framed_store.proofs.TakenRecords.{next-taken, left-taken}
use Rattle.framed_store.proofs.streams.next_from_stream.Goals as goal

pub returns-in-Ok-clause-next : goal.returns-in-Ok-clause-next
returns-in-Ok-clause-next g c = λ tells.
    next-taken (g.T.Wire.words.format g.C.Config.setting) g.C.Config.bound g.T.Wire.words.decodes_to c.args.most c.take_front.new.buffer.items (known_bytes (g.R.Read.remaining c.args.stream.now))
    (known_bytes (g.R.Read.remaining c.take_front.new.stream)) (c.in_ok-take_front.ensures.front tells) c.in-Ok.next (rw c.deref.ensures.value at c.in-Ok.ensures)

pub returns-in-Ok-clause-left : goal.returns-in-Ok-clause-left
returns-in-Ok-clause-left g c = λ tells.
    left-taken (g.T.Wire.words.format g.C.Config.setting) g.C.Config.bound g.T.Wire.words.decodes_to c.args.most c.take_front.new.buffer.items (known_bytes (g.R.Read.remaining c.args.stream.now))
    (known_bytes (g.R.Read.remaining c.take_front.new.stream)) (c.in_ok-take_front.ensures.front tells) c.in-Ok.next (rw c.deref.ensures.value at c.in-Ok.ensures)
