use Rattle.std.specs.Prelude.{[]}
use Rattle.std.proofs.Common.{ap, sym, append-nil}
use Rattle.bincode.proofs.Exactly.{none-shorter}
use Rattle.bincode.specs.declared.exact.DecodeExactError.TheVariants.{Decode}
use Rattle.bincode.proofs.exact.decode_exact_from_slice.Goals as goal

pub returns-then-taken-src-clause-found : goal.returns-then-taken-src-clause-found
returns-then-taken-src-clause-found g c = λ m steps w within. absurd (none-shorter _ (g.D.Wire.words.lawful _) _ _ _ _ c.in-Ok.ensures.word c.if-taken-src.true m steps w)

pub returns-in-Err-clause-found : goal.returns-in-Err-clause-found
returns-in-Err-clause-found g c = λ m steps w within.
    let r = c.in-Err.ensures.found c.args.src.now [] m steps (sym (append-nil c.args.src.now)) w within in (r.0, ap Decode r.1)
