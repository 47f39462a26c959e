use Rattle.std.specs.Path.{path_buf_bytes}
use Rattle.bincode_types.proofs.PathTexts.{paths-alike}
use Rattle.bincode_types.proofs.impls.paths.PathBufExact.tell_exact.Goals as goal

pub returns : goal.returns
returns c = record {
  one_value = λ v w m h k. paths-alike (path_buf_bytes v) (path_buf_bytes w) m;
  comes_back = λ v w m h. paths-alike (path_buf_bytes v) (path_buf_bytes w) m;
}
