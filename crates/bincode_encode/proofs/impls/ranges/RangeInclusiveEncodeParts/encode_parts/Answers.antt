use Rattle.bincode_encode.proofs.impls.ranges.RangeInclusiveEncodeParts.encode_parts.Goals as goal

pub returns : goal.returns
returns g c = rw (c.start.ensures, c.end.ensures) at c.encode.ensures
