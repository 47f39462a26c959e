use Rattle.bincode_io.proofs.Windows.{byte-shown, window-reads}
use Rattle.bincode_io.proofs.bytes.read_byte.Goals as goal

pub returns-in-Some-len1 : goal.returns-in-Some-len1
returns-in-Some-len1 g c =
    window-reads 1 (byte-shown c.in-Some-len1.field-0.now c.in-Some-len1.ensures.next.0) (λ known. c.in-Some-len1.ensures.next.1 known)
    c.peek_read.follows.holds-at-none.0 c.consume.ensures
