use Rattle.bincode_lemmas.specs.LimitedLaws.{answer-limited, answer-bounded}
use Rattle.bincode.proofs.checked.borrow_read_within.Goals as goal

pub returns-clause-limited : goal.returns-clause-limited
returns-clause-limited g c =
    let a = c.borrow_decode_from_slice.ensures in
    answer-limited (g.T.Wire.words.format g.C.Config.setting) (g.T.Wire.words.lawful g.C.Config.setting) (g.T.Wire.words.need g.C.Config.setting) (g.T.Wire.words.needs g.C.Config.setting)
    g.T.Wire.words.may_allocate g.T.Wire.words.decodes_to _ g.C.Config.bound _ a

pub returns-clause-bounded : goal.returns-clause-bounded
returns-clause-bounded g c =
    let a = c.borrow_decode_from_slice.ensures in
    answer-bounded (g.T.Wire.words.format g.C.Config.setting) (g.T.Wire.words.lawful g.C.Config.setting) (g.T.Wire.words.balanced g.C.Config.setting) (g.T.Wire.words.charges_enough g.C.Config.setting)
    g.T.Wire.words.may_allocate g.T.Wire.words.decodes_to _ g.C.Config.bound _ a
