use Rattle.std.proofs.Common.{sym}
use Rattle.bincode_lemmas.specs.CharLaws.{encoded-3}
use Rattle.bincode_types.proofs.chars.three_bytes_of_char.Goals as goal

pub returns : goal.returns
returns c = sym (encoded-3 c.args.code c.requires.least c.requires.most)
