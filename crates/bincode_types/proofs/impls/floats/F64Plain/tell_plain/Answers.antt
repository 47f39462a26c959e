use Rattle.std.specs.Float.{binary64}
use Rattle.bincode_spec.specs.Floats.{floats}
use Rattle.bincode_lemmas.specs.FloatLaws.{floats-laws}
use Rattle.bincode_types.proofs.FormWords.{form-plain}
use Rattle.bincode_types.proofs.impls.floats.F64Plain.tell_plain.Goals as goal

pub returns : goal.returns
returns c = form-plain (floats binary64 (λ v. v)) (floats-laws binary64 (λ v. v)) 8
