use Rattle.bincode_encode.proofs.impls.choices.BoundEncodeParts.encode_parts.Goals as goal

pub returns-in-Unbounded : goal.returns-in-Unbounded
returns-in-Unbounded g c = rw c.in-Unbounded.is c.encode_variant.ensures

pub returns-in-Included : goal.returns-in-Included
returns-in-Included g c = rw c.in-Included.is c.encode_variant-in-Included.ensures

pub returns-in-Excluded : goal.returns-in-Excluded
returns-in-Excluded g c = rw c.in-Excluded.is c.encode_variant-in-Excluded.ensures
