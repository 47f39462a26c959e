use Rattle.std.specs.Prelude.{pos, negsuc, refl}
use Rattle.std.proofs.Common.{arith}
use Rattle.bincode_base.specs.declared.error.IntegerType.TheVariants.{I16, I32, I64, I128}
use Rattle.bincode_spec.specs.Integers.{Two, Four, Eight, Sixteen}
use Rattle.bincode_lemmas.specs.AllowedLaws.{signed-allows, signed_byte-allows}
use Rattle.proved_callers.specs.Formats.{standard, standard_big, legacy}
use Rattle.proved_callers.proofs.formats.signed_words.Goals as goal

pub returns : goal.returns
returns c = (
  signed_byte-allows (negsuc 0) (omega arith),
  signed-allows I32 4 (negsuc 0) legacy (Four refl) (omega arith),
  signed-allows I16 2 (negsuc 0) standard (Two refl) (omega arith),
  signed-allows I16 2 (pos 256) standard (Two refl) (omega arith),
  signed-allows I16 2 (pos 256) standard_big (Two refl) (omega arith),
  signed-allows I16 2 (pos 32767) standard (Two refl) (omega arith),
  signed-allows I32 4 (pos 40000) standard (Four refl) (omega arith),
  signed-allows I32 4 (pos 40000) standard_big (Four refl) (omega arith),
  signed-allows I64 8 (pos 3000000000) standard (Eight refl) (omega arith),
  signed-allows I64 8 (negsuc 9223372036854775807) standard (Eight refl) (omega arith),
  signed-allows I128 16 (pos 11000000000000000000) standard (Sixteen refl) (omega arith),
)
