use Rattle.bincode_encode.proofs.impls.choices.ResultEncodeParts.encode_parts.Goals as goal

pub returns-in-Ok : goal.returns-in-Ok
returns-in-Ok g c = rw c.in-Ok.is c.encode_variant.ensures

pub returns-in-Err : goal.returns-in-Err
returns-in-Err g c = rw c.in-Err.is c.encode_variant-in-Err.ensures

pub encode_variant-requires-clause-picks : goal.encode_variant-requires-clause-picks
encode_variant-requires-clause-picks g c = ((λ bytes m h. h), (λ bytes m h. h))

pub encode_variant-requires-clause-means : goal.encode_variant-requires-clause-means
encode_variant-requires-clause-means g c = ((λ m h. h), (λ m h. h))
