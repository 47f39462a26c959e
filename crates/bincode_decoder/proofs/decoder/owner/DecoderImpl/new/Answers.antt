use Rattle.std.proofs.Common.{refl}
use Rattle.bincode_decoder.proofs.decoder.owner.DecoderImpl.new.Goals as goal

pub returns-clause-charge : goal.returns-clause-charge
returns-clause-charge g c = refl
