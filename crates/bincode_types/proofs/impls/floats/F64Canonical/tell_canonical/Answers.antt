use Rattle.std.specs.Float.{binary64}
use Rattle.bincode_spec.specs.Floats.{floats}
use Rattle.bincode_lemmas.specs.FloatLaws.{floats-laws}
use Rattle.bincode_types.proofs.FormWords.{form-canonical}
use Rattle.bincode_types.proofs.impls.floats.F64Canonical.tell_canonical.Goals as goal

pub returns : goal.returns
returns c = form-canonical (floats binary64 (λ v. v)) (floats-laws binary64 (λ v. v)) 8
