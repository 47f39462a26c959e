use Rattle.std.specs.Prelude.{refl}
use Rattle.bincode_spec.specs.Format.{pure, fail, fixed_bytes, ◌>>=◌, written_as, without_count, step}
use Rattle.bincode_spec.specs.Integers.{digits, byte, varint, unsigned_integer, signed_integer, unsigned_byte, signed_byte}
use Rattle.proved_callers.proofs.formats.need_rows.Goals as goal

pub returns : goal.returns
unfolding pure fail fixed_bytes ◌>>=◌ written_as without_count step digits byte varint unsigned_integer unsigned_byte signed_integer signed_byte
returns c = refl
