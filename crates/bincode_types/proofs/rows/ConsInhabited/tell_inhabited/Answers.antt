use Rattle.bincode_lemmas.specs.TupleLaws.{then-some_word}
use Rattle.bincode_types.proofs.rows.ConsInhabited.tell_inhabited.Goals as goal

pub returns : goal.returns
returns g c = λ s. then-some_word _ _ (c.tell_inhabited.ensures s) (c.tell_inhabited-2.ensures s)
