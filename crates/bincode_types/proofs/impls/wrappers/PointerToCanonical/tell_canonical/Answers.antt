use Rattle.bincode_types.proofs.impls.wrappers.PointerToCanonical.tell_canonical.Goals as goal

pub returns : goal.returns
returns g c = λ s v w. c.tell_canonical.ensures s v.to w.to
