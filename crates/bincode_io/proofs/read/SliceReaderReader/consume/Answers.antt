use Rattle.std.proofs.Common.{sym, refl}
use Rattle.std.proofs.lemmas.List.{drop-drop}
use Rattle.bincode_io.proofs.read.SliceReaderReader.consume.Goals as goal

pub returns : goal.returns
returns c = record {
  taken = λ known. sym (drop-drop c.args.n c.args.self.now.taken c.args.self.now.slice.now);
  same_failures = refl;
  tells = λ known. known;
  same_loans = refl;
}
