use Rattle.std.proofs.lemmas.Result.{IfErr-weaker}
use Rattle.bincode_lemmas.specs.Fronts.{front-written}
use Rattle.proved_callers.proofs.calls.write.Goals as goal

pub returns : goal.returns
returns g c = IfErr-weaker c.encode_into_slice.result _ _ (λ e. front-written _ _ (c.tell_writable.ensures _ _ c.tell_valid.ensures) _ _ e) c.encode_into_slice.ensures.left
