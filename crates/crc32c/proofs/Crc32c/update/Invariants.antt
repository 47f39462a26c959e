use Rattle.std.specs.Prelude.{◌≡◌, take}
use Rattle.crc32c.specs.Crc.{after_bytes}
use Rattle.crc32c.proofs.Crc32c.update.Given as goal

abbrev pub invariant-loop-byte : goal.invariant-loop-byte
invariant-loop-byte l = l.self.state ≡ after_bytes l.initial.self.state (take l.byte-index l.bytes)
