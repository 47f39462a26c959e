use Rattle.std.proofs.Common.{refl, length, le_refl, zero-le}
use Rattle.std.proofs.lemmas.Slice.{between_to_end}
use Rattle.bincode_io.specs.Slices.{left_of}
use Rattle.bincode_io.proofs.Slices.{front-given}
use Rattle.bincode_io.proofs.read.SliceReaderReader.peek_read.Goals as goal

pub returns : goal.returns
returns c =
    let self = c.args.self.now in
    let left = between_to_end self.slice.now self.taken (length self.slice.now) (le_refl _) in
    let lookup = rw left at c.get.ensures.lookup in
    let given = front-given c.args.n (left_of self) c.get.result lookup.0 in (
      (refl, λ _. tt, (((λ _. (tt, refl)), refl, refl), given.0)),
      record { next = given.1; shows = (given.2, λ within. lookup.1 (zero-le, within)); stays = tt },
    )
