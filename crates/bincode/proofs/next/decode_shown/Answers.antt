use Rattle.bincode.proofs.Shown.{shown-read}
use Rattle.bincode.proofs.next.decode_shown.Goals as goal

pub returns-clause-word : goal.returns-clause-word
returns-clause-word g c =
    let kept = rw c.in-Ok.is at c.fill_buf.follows.holds-at-none in
    shown-read _ _ _ _ _ _ _ _ _ c.in-Ok.ensures.front kept.0 kept.1 c.consume.ensures.bytes c.in-Ok-decode_from_slice.ensures.word
