use Rattle.bincode_types.specs.declared.sums.VariantOf.TheVariants.{This, Other}
use Rattle.bincode_types.proofs.sums.VariantOfWritableVariants.tell_writable.Goals as goal

pub returns : goal.returns
returns g c = λ s. elim [
  | This a ↦ c.tell_writable.ensures s a
  | Other o ↦ λ h. c.tell_writable-2.ensures s o h.1
]
