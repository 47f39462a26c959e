use Rattle.std.proofs.Common.{◌≡◌, rules}
use Rattle.bincode_io.specs.Stream.{lent_stream}
use Rattle.bincode.proofs.streams.decode_from_std_read_with_context.Goals as goal

pub returns : goal.returns
returns g c =
    let after : c.src-1.given.0 ≡ lent_stream c.decode_from_reader_with.new.reader = search rules in
    let read = rw c.new-reader.ensures.stream at c.decode_from_reader_with.ensures.answer in
    rw after (record { word = read.word; found = read.found; fault = read.fault; limit = read.limit; left = read.left; tells = read.tells })
