use Rattle.std.specs.Int.{w8}
use Rattle.std.proofs.Common.{◌≡◌, ◌∙◌, ap, rules}
use Rattle.std.proofs.lemmas.Int.{to_z-of_z}
use mir.Val.{of_z}
use Rattle.bincode_spec.specs.Number.{two_complement}
use Rattle.bincode_io.proofs.bytes.byte_of_i8.Goals as goal

pub returns : goal.returns
returns c =
    let same : of_z w8 c.args.val ≡ two_complement 1 c.args.val = search rules in
    c.cast_unsigned.ensures ∙ ap (of_z w8) (to_z-of_z w8 c.args.val c.ranges.val) ∙ same
