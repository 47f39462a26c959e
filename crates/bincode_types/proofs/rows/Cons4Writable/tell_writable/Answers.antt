use Rattle.bincode_types.proofs.rows.Cons4Writable.tell_writable.Goals as goal

pub returns : goal.returns
returns g c = λ s v h. (
  c.tell_writable.ensures s v.0 h.0,
  (
    c.tell_writable-2.ensures s v.1 h.1.0,
    (
      c.tell_writable-3.ensures s v.2 h.1.1.0,
      (c.tell_writable-4.ensures s v.3 h.1.1.1.0, c.tell_writable-5.ensures s v.4 h.1.1.1.1),
    ),
  ),
)
