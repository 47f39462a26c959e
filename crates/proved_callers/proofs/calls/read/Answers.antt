use Rattle.proved_callers.proofs.Refusals.{no-memory}
use Rattle.proved_callers.proofs.calls.read.Goals as goal

pub returns : goal.returns
returns g c = record {
  memory = λ none. no-memory _ (g.D.Wire.words.lawful _) (g.D.Wire.words.balanced _) _ _ _ none _ c.decode_from_slice.ensures.found c.decode_from_slice.ensures.fault c.decode_from_slice.ensures.limit;
}
