use Rattle.std.proofs.lemmas.Option.{IfSome_then}
use Rattle.bincode_shape.proofs.Formats.{next_described}
use Rattle.bincode_shape.proofs.rows.Cons4DescribedRow.put_shapes.Goals as goal

pub returns : goal.returns
returns g c =
    let a = c.in_ok-shapes.ensures in
    let b = c.in_ok-shapes-2.ensures in
    let d = c.in_ok-shapes-3.ensures in
    let e = c.in_ok-shapes-4.ensures in
    IfSome_then c.put_shapes.result c.put_shapes.ensures (λ put h. next_described _ _ _ a.0 _ _ a.1 a.2
    (next_described _ _ _ b.0 _ _ b.1 b.2 (next_described _ _ _ d.0 _ _ d.1 d.2 (next_described _ _ _ e.0 _ _ e.1 e.2 h))))
