use Rattle.std.proofs.Common.{refl, arith}
use Rattle.call_tests.proofs.zeros.ZerosService.answer.Goals as goal

pub returns-clause-replied : goal.returns-clause-replied
returns-clause-replied c =
    let all = c.in_ok-zeros.ensures.len in
    let counted = c.in_ok-zeros.zeros.ok.0 in (c.in_ok-zeros.zeros, refl, omega (arith, all, counted))
