use Rattle.std.proofs.Common.{refl, arith, rules, ◌==◌}
use Rattle.std.specs.Io.Buffered.{reader_remaining, reader_buffer, reader_capacity, reader_inner}
use Rattle.bincode_io.proofs.Streams.{copied}
use Rattle.bincode_io.proofs.io_read.BufReaderReader.read.Goals as goal

pub returns-clause-fills : goal.returns-clause-fills
returns-clause-fills g c =
    let old = c.args.self.now in
    let moved = copied (reader_capacity old == 0) (reader_buffer old) c.copy_from_slice.new.self _ (g.R.Read.remaining (reader_inner old))
    (reader_remaining g.R.Read.remaining c.consume.new.self) (search rules) (search rules) c.consume.ensures.bytes in
    record {
      next = λ tells. (moved tells).1;
      why = λ tells. tt;
      left = λ tells. tt;
      failures_monotone = omega arith;
      tells = λ tells. (moved tells).0;
      same_loans = refl;
    }
