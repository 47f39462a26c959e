use Rattle.std.proofs.Common.{refl}
use Rattle.shape_grammar.proofs.Readings.{optional-of}
use Rattle.shape_grammar.proofs.text.question_marks.Goals as goal

pub loop-preserved : goal.loop-preserved
loop-preserved c =
    let held = c.in_ok-part.ensures.shape in
    let mark = c.takes.ensures.taken c.if-not-takes.false in
    record {
      levels = c.in_ok-part.ensures.levels;
      same = refl;
      spelled = λ a s. optional-of a c.loop.scanner.rest.now c.takes.new.self.rest.now held.0 c.loop.part.shape c.in_ok-part.part.shape held.1 held.2 (c.loop.invariant.spelled a s) mark;
    }
