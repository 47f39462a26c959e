use Rattle.std.proofs.Common.{sym}
use Rattle.bincode_lemmas.specs.CharLaws.{encoded-4}
use Rattle.bincode_types.proofs.chars.four_bytes_of_char.Goals as goal

pub returns : goal.returns
returns c = sym (encoded-4 c.args.code c.requires.least)
