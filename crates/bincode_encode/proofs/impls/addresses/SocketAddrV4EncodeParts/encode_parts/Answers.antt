use Rattle.bincode_encoder.proofs.EncodingAnswers.{encodes-as}
use Rattle.bincode_encode.proofs.impls.addresses.SocketAddrV4EncodeParts.encode_parts.Goals as goal

pub returns : goal.returns
returns g c =
    encodes-as (λ bytes w. w) (λ bytes w. w) (λ _. tt) (λ e none. absurd none)
    (rw (c.octets.ensures, c.ip.ensures, c.port.ensures) at c.encode_socket.ensures)
