use Rattle.std.specs.Prelude.{refl}
use Rattle.bincode_spec.specs.Format.{pure, fail, fixed_bytes, ◌>>=◌, written_as, without_count, step}
use Rattle.bincode_spec.specs.Integers.{digits, byte, varint, unsigned_integer, signed_integer, unsigned_byte, signed_byte}
use Rattle.bincode_spec.specs.Words.{nothing, first_and, tag_then_part}
use Rattle.std.specs.Str.{is_utf8, chars}
use lib.Utf8.{encode}
use Rattle.proved_callers.proofs.formats.character_rows.Goals as goal

pub returns : goal.returns
unfolding pure fail fixed_bytes ◌>>=◌ written_as without_count step digits byte varint unsigned_integer unsigned_byte signed_integer signed_byte is_utf8 chars encode nothing first_and tag_then_part
returns c = refl
