use Rattle.std.proofs.Common.{◌≡◌, ◌+◌, ◌≤◌, arith, rules, length}
use Rattle.std.specs.Int.{w32, from_le_bytes}
use Rattle.framed_store.proofs.Strode.{skipped-frame}
use Rattle.framed_store.proofs.stepping.step.Goals as goal

pub returns-clause-told : goal.returns-clause-told
returns-clause-told g c = λ tells.
    let field = c.fill_bytes.new.bytes in
    let named : c.from_le_bytes-length.result ≡ from_le_bytes w32 field = c.from_le_bytes-length.ensures in
    let is_four : length field ≡ 4 = search rules in
    let within = c.if-length-most.false in
    let fits : from_le_bytes w32 field ≤ c.args.most = omega (arith, named, within) in
    let enough = c.if-branch-rest.false in
    let few = c.in_ok-skip.ensures.within in
    let whole : c.in_ok-skip.field-0 ≡ 4 + from_le_bytes w32 field = omega (arith, named, enough, few) in
    skipped-frame c.args.most (4 + (4 + c.from_le_bytes-length.result)) (g.R.Read.remaining c.args.stream.now) (g.R.Read.remaining c.fill_bytes.new.stream) (g.R.Read.remaining c.skip.new.stream) field
    c.in_ok-there.there c.in_ok-skip.field-0 is_four c.if-there-lt-FIELD.false c.in_ok-there.ensures.bytes fits c.in_ok-skip.ensures.bytes whole (omega (arith, named)) tells
