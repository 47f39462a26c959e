use Rattle.snapshots.proofs.saving.save_machine.Goals as goal

pub returns-in-Ok-clause-fits : goal.returns-in-Ok-clause-fits
returns-in-Ok-clause-fits g c = λ fits. c.save.ensures.fits (fits c.in-Ok.saved c.in-Ok.ensures)
