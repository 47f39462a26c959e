use Rattle.bincode_encode.proofs.impls.choices.OptionEncodeParts.encode_parts.Goals as goal

pub returns-in-None : goal.returns-in-None
returns-in-None g c = rw c.in-None.is c.encode_variant.ensures

pub returns-in-Some : goal.returns-in-Some
returns-in-Some g c = rw c.in-Some.is c.encode_variant-in-Some.ensures
