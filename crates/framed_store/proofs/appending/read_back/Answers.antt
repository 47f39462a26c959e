use Rattle.framed_store.proofs.Appends.{read-fitting, read-memory}
use Rattle.framed_store.proofs.appending.read_back.Goals as goal

pub returns-in-Ok-clause-entry : goal.returns-in-Ok-clause-entry
returns-in-Ok-clause-entry g c = read-fitting _ _ _ _ _ _ c.tell_valid.ensures c.requires c.if-length-most.false _ _ c.in-Ok.ensures.word

pub returns-clause-fits : goal.returns-clause-fits
returns-clause-fits g c = λ fits. read-memory g.T.Wire.words _ _ c.args.most c.args.value.now c.args.word.now c.requires _ c.in-Err.e c.in-Err.ensures.found fits
