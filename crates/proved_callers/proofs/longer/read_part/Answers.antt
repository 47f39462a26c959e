use Rattle.bincode_lemmas.specs.CutLaws.{end-mended}
use Rattle.proved_callers.proofs.longer.read_part.Goals as goal

pub returns : goal.returns
returns g c = λ cut.
    let a = c.decode_from_slice.ensures in
    end-mended _ (g.T.Wire.words.lawful _) (g.T.Wire.words.balanced _) _ _ g.T.Wire.words.decodes_to _ _ a cut
