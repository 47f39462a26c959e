use Rattle.bincode_lemmas.specs.AlikeLaws.{word-alike}
use Rattle.proved_callers.proofs.alike.read_number_from_both.Goals as goal

pub returns : goal.returns
returns g c = λ told told' same. word-alike _ (λ v. v) _ _ told told' same c.varint_decode_u64-first.ensures c.varint_decode_u64-second.ensures
