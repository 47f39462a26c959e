use Rattle.bincode_encode.proofs.impls.floats.tell_f64_fits.Goals as goal

pub returns : goal.returns
returns c = c.well_formed.0.1
