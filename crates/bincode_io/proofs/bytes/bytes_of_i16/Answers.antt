use Rattle.std.proofs.Common.{◌≡◌, ◌∙◌, ap, rules}
use Rattle.bincode_spec.specs.Number.{digits_of, two_complement}
use Rattle.bincode_io.proofs.bytes.bytes_of_i16.Goals as goal

pub returns : goal.returns
returns c =
    let e : c.cast_unsigned.result ≡ two_complement 2 c.args.n = search rules in
    c.bytes_of_u16.ensures ∙ ap (digits_of c.args.endian 2) e
