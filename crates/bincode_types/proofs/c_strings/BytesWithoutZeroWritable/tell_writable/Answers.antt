use Rattle.bincode_types.proofs.c_strings.BytesWithoutZeroWritable.tell_writable.Goals as goal

pub returns : goal.returns
returns g c = λ s v h. tt
