use Rattle.std.specs.Prelude.{◌<◌}
use Rattle.std.specs.Net.Addr.{octets_of}
use Rattle.std.proofs.Common.{◌∙◌, ap}
use Rattle.std.proofs.lemmas.List.Elements.{All-from_get_or}
use Rattle.bincode_types.specs.Addresses.{octets-come_back}
use Rattle.bincode_decode.proofs.impls.addresses.address_of.Goals as goal

pub returns : goal.returns
returns c =
    let are_bytes = All-from_get_or (λ b. b < 256) c.args.octets.now 0 (λ i within. c.fits-octets i) in
    ap octets_of c.from_octets.ensures ∙ octets-come_back 8 c.args.octets.now c.told-octets are_bytes
