use Rattle.bincode_lemmas.specs.AlikeLaws.{read-alike}
use Rattle.proved_callers.proofs.alike.decode_from_both.Goals as goal

pub returns : goal.returns
returns g c = λ told told' same charged.
    read-alike g.C.Config.bound g.T.Wire.words.may_allocate (g.T.Wire.words.format g.C.Config.setting) g.T.Wire.words.decodes_to (g.D.Decoder.charge c.args.first.now)
    c.decode-first.result c.decode-second.result told told' same c.decode-first.ensures (rw charged at c.decode-second.ensures)
