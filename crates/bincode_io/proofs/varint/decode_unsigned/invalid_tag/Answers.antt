use Rattle.std.proofs.Common.{refl}
use Rattle.bincode_io.proofs.varint.decode_unsigned.invalid_tag.Goals as goal

pub returns : goal.returns
returns c = rw c.name_of_tag.ensures refl
