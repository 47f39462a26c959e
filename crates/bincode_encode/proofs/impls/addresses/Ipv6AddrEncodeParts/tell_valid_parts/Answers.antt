use Rattle.bincode_encode.proofs.impls.addresses.Ipv6AddrEncodeParts.tell_valid_parts.Goals as goal

pub returns : goal.returns
returns c = rw c.octets.ensures at c.tell_valid.ensures
