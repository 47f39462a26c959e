use Rattle.bincode_base.proofs.config.AnyConfig.endianness.Goals as goal

pub returns : goal.returns
returns g c = cc
