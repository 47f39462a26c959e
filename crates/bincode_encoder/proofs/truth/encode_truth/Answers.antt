use Rattle.std.specs.Prelude.{◌≡◌, Bool, true, false, refl}
use Rattle.std.specs.Int.{from_bool}
use Rattle.bincode_spec.specs.Words.{truth_byte}
use Rattle.bincode_lemmas.specs.AllowedLaws.{truth-allows}
use Rattle.bincode_lemmas.specs.EncodingLaws.{ready_word}
use Rattle.bincode_encoder.proofs.EncodingAnswers.{piece-encodes}
use Rattle.bincode_encoder.proofs.truth.encode_truth.Goals as goal

as_byte : (v : Bool) → from_bool v ≡ truth_byte v
as_byte true = refl
as_byte false = refl

pub returns : goal.returns
returns g c =
    let write = rw (c.from.ensures, as_byte c.args.val) at c.write_from.ensures in
    piece-encodes g.met.E.W.Writer.adds_none (ready_word _ _ (truth-allows c.args.val)) write.ok write.err write.same_loans
