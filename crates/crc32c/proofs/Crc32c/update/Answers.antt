use Rattle.std.specs.Prelude.{◌≡◌, [], ◌∷◌, take, ◌^◌, ◌-◌}
use Rattle.std.proofs.Common.{sym}
use Rattle.std.proofs.lemmas.Grind.{take_at_read}
use Rattle.std.proofs.lemmas.List.{take_all}
use Rattle.crc32c.specs.CrcLaws.{after-joined}
use Rattle.crc32c.proofs.Crc32c.update.Goals as goal

pub loop-byte-preserved : goal.loop-byte-preserved
loop-byte-preserved c =
    let xs = c.args.bytes.now in
    let i = c.loop-byte.byte-index in
    rw (c.next_state-self.ensures, c.loop-byte.invariant, (take_at_read xs i 0 c.loop-byte-test.true).1) (sym (after-joined c.args.self.now.state (take i xs) (_ ∷ [])))

pub returns : goal.returns
returns c = λ message holds.
    let xs = c.args.bytes.now in
    let all : take c.loop-byte.byte-index xs ≡ xs = take_all c.loop-byte.byte-index xs c.loop-byte-test.false in
    rw (c.loop-byte.invariant, all, holds) (sym (after-joined (2 ^ 32 - 1) message xs))
