use Rattle.bincode_shape.specs.Shapes.{IsImage}
use Rattle.bincode_shape.specs.ShapeLaws.{format_of-lawful, format_of-balanced}
use Rattle.bincode.proofs.Decoded.{answer-word, answer-found, answer-fault, answer-limit, answer-left}
use Rattle.bincode.proofs.shaped.decode_shaped_from_reader.Goals as goal

pub returns-clause-answer : goal.returns-clause-answer
returns-clause-answer g c =
    let shape = c.args.shape.now in
    record {
      word = λ known. answer-word _ (format_of-lawful shape _) (format_of-balanced shape _) _ _ _ (λ m v. IsImage shape m v) _ (c.decode_shaped_with.ensures.ok known);
      found = λ known. answer-found _ (format_of-lawful shape _) (format_of-balanced shape _) _ _ _ _ _ _ _ _ _ (c.decode_shaped_with.ensures.err known);
      fault = λ known. answer-fault _ (format_of-lawful shape _) (format_of-balanced shape _) _ _ _ _ _ _ _ _ (λ m v. IsImage shape m v) _ (c.decode_shaped_with.ensures.ok known) (c.decode_shaped_with.ensures.err known);
      limit = λ known. answer-limit _ (format_of-lawful shape _) (format_of-balanced shape _) _ _ _ _ _ _ _ _ (λ m v. IsImage shape m v) _ (c.decode_shaped_with.ensures.ok known) (c.decode_shaped_with.ensures.err known);
      left = λ known. answer-left _ (format_of-lawful shape _) (format_of-balanced shape _) _ _ _ _ _ _ _ _ _ (c.decode_shaped_with.ensures.err known);
      tells = c.decode_shaped_with.ensures.is_known;
    }
