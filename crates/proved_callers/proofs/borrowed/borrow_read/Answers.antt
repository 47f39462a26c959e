use Rattle.proved_callers.proofs.Refusals.{no-memory}
use Rattle.proved_callers.proofs.borrowed.borrow_read.Goals as goal

pub returns : goal.returns
returns g c = record {
  memory = λ none. no-memory _ (g.D.Wire.words.lawful _) (g.D.Wire.words.balanced _) _ _ _ none _ c.borrow_decode_from_slice.ensures.found c.borrow_decode_from_slice.ensures.fault c.borrow_decode_from_slice.ensures.limit;
}
