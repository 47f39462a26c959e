use Rattle.std.proofs.Common.{sym}
use Rattle.bincode_shape.proofs.Fitting.{fits-Tuple, fits-Choice, lengths-differ, picked-at, picked-none}
use Rattle.bincode_shape.proofs.fits.+fits.Goals as goal

pub does_each_fit-returns-then-parts-items : goal.does_each_fit-returns-then-parts-items
does_each_fit-returns-then-parts-items t c = sym (lengths-differ c.args.parts.now c.args.items.now c.if-parts-items.true)

pub does_fit-returns-in-List-value-2 : goal.does_fit-returns-in-List-value-2
does_fit-returns-in-List-value-2 t c =
    rw (c.in-Tuple.is, c.in-List-value-2.is, fits-Tuple c.in-Tuple.parts c.in-List-value-2.items)
    (rw (c.deref-in-List-value-2.ensures.value, c.deref-in-List-value-2-2.ensures.value) at c.does_each_fit.ensures)

pub does_fit-returns-in-Some : goal.does_fit-returns-in-Some
does_fit-returns-in-Some t c =
    let found = rw c.deref-in-Choice-value.ensures.value at c.in-Some.ensures.lookup in
    rw (
      c.in-Choice.is,
      c.in-Choice-value.is,
      fits-Choice c.in-Choice.parts c.in-Choice-value.index c.in-Choice-value.held,
      picked-at c.in-Choice.parts.items c.in-Choice-value.index c.in-Some.part.now c.in-Choice-value.held.value found.3.0 found.1,
    )
    (rw c.deref-in-Some.ensures at c.does_fit-in-Some.ensures)

pub does_fit-returns-in-None : goal.does_fit-returns-in-None
does_fit-returns-in-None t c =
    let none = rw c.deref-in-Choice-value.ensures.value at c.in-None.ensures.lookup in
    rw (c.in-Choice.is, c.in-Choice-value.is, fits-Choice c.in-Choice.parts c.in-Choice-value.index c.in-Choice-value.held)
    (sym (picked-none c.in-Choice.parts.items c.in-Choice-value.index c.in-Choice-value.held.value none.3))
