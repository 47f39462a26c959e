use Rattle.bincode_lemmas.specs.LimitedLaws.{read-limited, read-bounded}
use Rattle.bincode.proofs.checked.read_within_from_stream.Goals as goal

pub returns-clause-limited : goal.returns-clause-limited
returns-clause-limited g c = λ told.
    let a = c.decode_from_std_read.ensures in
    read-limited (g.T.Wire.words.format g.C.Config.setting) (g.T.Wire.words.lawful g.C.Config.setting) (g.T.Wire.words.need g.C.Config.setting) (g.T.Wire.words.needs g.C.Config.setting)
    _ (λ missing e ends l. let i = ends.1 in cc) _ _ g.C.Config.bound _ (a.found told) (a.fault told) (a.limit told)

pub returns-clause-bounded : goal.returns-clause-bounded
returns-clause-bounded g c = λ told.
    read-bounded (g.T.Wire.words.format g.C.Config.setting) (g.T.Wire.words.lawful g.C.Config.setting) (g.T.Wire.words.balanced g.C.Config.setting) (g.T.Wire.words.charges_enough g.C.Config.setting)
    g.T.Wire.words.decodes_to _ _ g.C.Config.bound _ (c.decode_from_std_read.ensures.word told)
