use Rattle.bincode_encode.proofs.CellWords.{held-encodes}
use Rattle.bincode_encode.proofs.impls.cells.CellEncode.encode.Goals as goal

pub returns : goal.returns
returns g c =
    let valid = c.tell_valid.ensures in
    held-encodes (g.T.Wire.words.lawful _) (λ w. w.each_writable _ valid) (g.T.Wire.words.has_word _ _ valid) (λ e n. n) c.encode.ensures
