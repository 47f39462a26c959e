use Rattle.std.proofs.Common.{refl, inl}
use Rattle.bincode.specs.Encoding.{by_name}
use Rattle.bincode_tests.proofs.own_errors.HaltingEncode.encode.Goals as goal

-- It writes nothing, and its error is its own.
pub returns : goal.returns
returns g c = record {
  ok = tt;
  err = by_name _ (g.met.E.W.Writer.adds_none _) c.error_of.ensures (inl c.error_of.ensures);
  same_loans = refl;
}
