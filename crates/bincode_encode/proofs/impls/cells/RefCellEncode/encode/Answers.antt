use Rattle.std.proofs.Common.{refl, inl, inr}
use Rattle.bincode_spec.specs.Encoding.{by_name}
use Rattle.bincode_encode.proofs.CellWords.{held-encodes}
use Rattle.bincode_encode.proofs.impls.cells.RefCellEncode.encode.Goals as goal

pub returns-in_default : goal.returns-in_default
returns-in_default g c = record {
  ok = tt;
  err = by_name _ (g.met.E.W.Writer.adds_none _) (inl c.borrowed_cell.ensures) (inr (λ some h. (some, h)));
  same_loans = refl;
}

pub returns : goal.returns
returns g c =
    let valid = c.tell_valid.ensures in
    held-encodes (g.T.Wire.words.lawful _) (λ w. w.each_writable _ valid) (g.T.Wire.words.has_word _ _ valid) (λ e n. inr n) c.encode.ensures
