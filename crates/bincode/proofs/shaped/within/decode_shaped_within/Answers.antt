use Rattle.std.proofs.Common.{arith}
use Rattle.bincode.proofs.Within.{many-found, many-refused, few-refused, few-word, told-limit}
use Rattle.bincode.proofs.shaped.within.decode_shaped_within.Goals as goal

pub returns-then-measure-most-clause-found : goal.returns-then-measure-most-clause-found
returns-then-measure-most-clause-found g c =
    let m = c.in-Ok.measure in
    λ word rest k steps i w within h. absurd (many-found c.args.shape.now g.C.Config.setting g.C.Config.bound c.args.src.now m.values m.bytes c.args.most c.in-Ok.ensures.word c.if-measure-most.true word rest k steps i w h)

pub returns-then-measure-most-clause-many : goal.returns-then-measure-most-clause-many
returns-then-measure-most-clause-many g c =
    let m = c.in-Ok.measure in
    λ word rest k steps i w within h. many-refused c.args.shape.now g.C.Config.setting g.C.Config.bound c.args.src.now m.values m.bytes c.args.most c.in-Ok.ensures.word word rest k steps i w

pub returns-then-measure-most-clause-limit : goal.returns-then-measure-most-clause-limit
returns-then-measure-most-clause-limit g c = λ steps of over. absurd (c.in-Ok.ensures.limit steps of over)

pub returns-in-Ok-decode_shaped-clause-word : goal.returns-in-Ok-decode_shaped-clause-word
returns-in-Ok-decode_shaped-clause-word g c =
    let m = c.in-Ok.measure in
    let r = c.in-Ok-decode_shaped in
    few-word c.args.shape.now g.C.Config.setting g.C.Config.bound c.args.src.now m.values m.bytes c.args.most c.in-Ok.ensures.word (omega (arith, c.if-measure-most.false)) (omega arith)
    r.value r.bytes r.ensures.answer.word

pub returns-in-Ok-decode_shaped-clause-many : goal.returns-in-Ok-decode_shaped-clause-many
returns-in-Ok-decode_shaped-clause-many g c =
    let m = c.in-Ok.measure in
    λ word rest k steps i w within h. absurd (few-refused c.args.shape.now g.C.Config.setting g.C.Config.bound c.args.src.now m.values m.bytes c.args.most c.in-Ok.ensures.word (omega (arith, c.if-measure-most.false)) (omega arith) word rest k steps i w h)

pub returns-in-Err-decode_shaped-clause-many : goal.returns-in-Err-decode_shaped-clause-many
returns-in-Err-decode_shaped-clause-many g c =
    let m = c.in-Ok.measure in
    λ word rest k steps i w within h. absurd (few-refused c.args.shape.now g.C.Config.setting g.C.Config.bound c.args.src.now m.values m.bytes c.args.most c.in-Ok.ensures.word (omega (arith, c.if-measure-most.false)) (omega arith) word rest k steps i w h)

pub returns-in-Err-decode_shaped-clause-limit : goal.returns-in-Err-decode_shaped-clause-limit
returns-in-Err-decode_shaped-clause-limit g c = λ steps of over. absurd (c.in-Ok.ensures.limit steps of over)

pub returns-in-Err-clause-limit : goal.returns-in-Err-clause-limit
returns-in-Err-clause-limit g c = λ steps of over. told-limit c.in-Err.e (c.in-Err.ensures.limit steps of over)
