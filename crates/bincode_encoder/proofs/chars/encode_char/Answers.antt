use Rattle.std.proofs.Common.{sym, arith}
use Rattle.bincode_lemmas.specs.CharLaws.{encoded-1}
use Rattle.bincode_encoder.proofs.chars.encode_char.Goals as goal

pub write_char-requires-clause-bytes : goal.write_char-requires-clause-bytes
write_char-requires-clause-bytes g c = sym (encoded-1 c.from-code.result (omega arith))
