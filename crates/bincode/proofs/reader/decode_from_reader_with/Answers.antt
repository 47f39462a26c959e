use Rattle.bincode.proofs.Decoded.{answer-word, answer-found, answer-fault, answer-limit, answer-left}
use Rattle.bincode.proofs.reader.decode_from_reader_with.Goals as goal

pub returns-clause-answer : goal.returns-clause-answer
returns-clause-answer g c = record {
  word = λ known. answer-word _ (g.D.Wire.words.lawful _) (g.D.Wire.words.balanced _) _ _ _ (λ m v. g.D.Wire.words.decodes_to m v) _ (c.decode_with.ensures.ok known);
  found = λ known. answer-found _ (g.D.Wire.words.lawful _) (g.D.Wire.words.balanced _) _ _ _ _ _ _ _ _ _ (c.decode_with.ensures.err known);
  fault = λ known. answer-fault _ (g.D.Wire.words.lawful _) (g.D.Wire.words.balanced _) _ _ _ _ _ _ _ _ (λ m v. g.D.Wire.words.decodes_to m v) _ (c.decode_with.ensures.ok known) (c.decode_with.ensures.err known);
  limit = λ known. answer-limit _ (g.D.Wire.words.lawful _) (g.D.Wire.words.balanced _) _ _ _ _ _ _ _ _ (λ m v. g.D.Wire.words.decodes_to m v) _ (c.decode_with.ensures.ok known) (c.decode_with.ensures.err known);
  left = λ known. answer-left _ (g.D.Wire.words.lawful _) (g.D.Wire.words.balanced _) _ _ _ _ _ _ _ _ _ (c.decode_with.ensures.err known);
  tells = c.decode_with.ensures.is_known;
}
