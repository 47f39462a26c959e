use Rattle.std.proofs.Common.{◌≡◌, inl, arith, refl, sym, rules, None}
use Rattle.std.proofs.lemmas.List.{append-nil}
use Rattle.bincode_blocks.specs.Blocks.{held_by, failure_of}
use Rattle.bincode_blocks.proofs.block_writer.BlockWriter.make_room.Goals as goal

pub returns-in-Ok-clause-clears : goal.returns-in-Ok-clause-clears
returns-in-Ok-clause-clears g c =
    let none : failure_of c.args.self.now ≡ None = search rules in
    let is = c.write_front.ensures.same in
    inl (record { out = held_by c.args.self.now; appended = c.in-Ok.ensures.ok; joined = sym (append-nil _); same_count = omega arith; handed = search rules; same_failure = refl }, none, (refl, search rules))
