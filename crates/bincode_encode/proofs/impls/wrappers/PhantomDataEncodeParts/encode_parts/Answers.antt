use Rattle.bincode_encode.proofs.impls.wrappers.PhantomDataEncodeParts.encode_parts.Goals as goal

pub returns : goal.returns
returns g c = c.encode.ensures
