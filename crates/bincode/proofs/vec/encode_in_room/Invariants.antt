use Rattle.std.proofs.Common.{◌≡◌, ◌-◌, ◌^◌, []}
use Rattle.bincode_spec.specs.Allowed.{AllowedWord, OneLength}
use Rattle.bincode_spec.specs.Encoding.{IsReady}
use Rattle.bincode.proofs.vec.encode_in_room.Given as goal

abbrev pub invariant-loop-writer : goal.invariant-loop-writer
invariant-loop-writer g l =
    let Allowed = IsReady (g.E.Wire.words.writable g.C.Config.setting l.val) (AllowedWord (g.E.Wire.words.means l.val) (g.E.Wire.words.format g.C.Config.setting)) in
    l.counted ≡ 0 → OneLength Allowed → Allowed [] → l.room ≡ 0

abbrev pub decreases-loop-writer : goal.decreases-loop-writer
decreases-loop-writer g l = 2 ^ 64 - l.room
