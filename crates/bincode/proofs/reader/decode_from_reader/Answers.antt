use Rattle.bincode.proofs.reader.decode_from_reader.Goals as goal

pub returns-clause-answer : goal.returns-clause-answer
returns-clause-answer g c = c.decode_from_reader_with.ensures.answer
