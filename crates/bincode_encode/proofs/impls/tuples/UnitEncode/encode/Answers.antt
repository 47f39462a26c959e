use Rattle.std.proofs.Common.{refl}
use Rattle.bincode_lemmas.specs.AllowedLaws.{nothing-allows}
use Rattle.bincode_lemmas.specs.EncodingLaws.{writes-alone}
use Rattle.bincode_encode.proofs.impls.tuples.UnitEncode.encode.Goals as goal

pub returns : goal.returns
returns g c = record {
  ok = writes-alone _ _ _ _ _ nothing-allows (g.met.Z.W.Writer.adds_none _);
  err = tt;
  same_loans = refl;
}
