use Rattle.std.proofs.Common.{arith}
use Rattle.bincode_base.specs.declared.error.IntegerType.TheVariants.{U32, U64, U128}
use Rattle.bincode_lemmas.specs.AllowedLaws.{unsigned-allows}
use Rattle.proved_callers.specs.Formats.{standard, standard_big, legacy, legacy_big}
use Rattle.proved_callers.proofs.formats.unsigned_words.Goals as goal

pub returns : goal.returns
returns c = (
  unsigned-allows U32 4 250 standard (omega arith),
  unsigned-allows U32 4 251 standard (omega arith),
  unsigned-allows U32 4 300 standard (omega arith),
  unsigned-allows U32 4 65535 standard (omega arith),
  unsigned-allows U32 4 65536 standard (omega arith),
  unsigned-allows U32 4 65536 standard_big (omega arith),
  unsigned-allows U64 8 4294967296 standard (omega arith),
  unsigned-allows U128 16 340282366920938463463374607431768211455 standard (omega arith),
  unsigned-allows U32 4 300 legacy (omega arith),
  unsigned-allows U32 4 300 legacy_big (omega arith),
  unsigned-allows U32 4 5 legacy_big (omega arith),
)
