use Rattle.bincode_types.proofs.texts.TextBytesWritable.tell_writable.Goals as goal

pub returns : goal.returns
returns g c = λ s v h. tt
