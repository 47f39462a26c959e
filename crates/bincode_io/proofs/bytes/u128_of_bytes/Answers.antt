use Rattle.std.proofs.Common.{◌≡◌, ◌∙◌, length, rules}
use Rattle.bincode_io.proofs.StdBytes.{from_low_first-std, from_high_first-std}
use Rattle.bincode_io.proofs.bytes.u128_of_bytes.Goals as goal

pub returns-in-Little : goal.returns-in-Little
returns-in-Little c =
    let l : length c.args.bytes ≡ 16 = search rules in
    rw c.in-Little.is (c.from_le_bytes.ensures ∙ from_low_first-std 15 c.args.bytes l)

pub returns-in-Big : goal.returns-in-Big
returns-in-Big c =
    let l : length c.args.bytes ≡ 16 = search rules in
    rw c.in-Big.is (c.from_be_bytes.ensures ∙ from_high_first-std 15 c.args.bytes l)
