use Rattle.std.proofs.Common.{arith}
use Rattle.std.specs.Io.Buffered.{reader_remaining}
use Rattle.bincode_io.specs.Stream.{known_bytes}
use Rattle.calls.proofs.Served.{served-more, served-stops}
use Rattle.calls.proofs.serving.serve.Goals as goal

pub frames-preserved : goal.frames-preserved
frames-preserved g c =
    let before = c.frames.invariant in
    let longer = rw c.in-Ok-Answered.field-0-is at c.in-Ok-Answered.ensures.longer in
    let counts = before.counts in record {
      counts = omega (arith, counts, longer);
      is_known = λ tells. c.in-Ok-Answered.ensures.is_known (before.is_known tells);
      so_far = λ tells.
          served-more g.S.Service.replies g.S.Service.refusal_reply g.S.Request.Wire.words g.S.Reply.Wire.words g.C.Config.setting g.C.Config.bound c.args.most (known_bytes (reader_remaining g.R.Read.remaining c.args.input.now))
          (g.S.Service.state c.args.service.now) c.frames.answers (g.S.Service.state c.frames.service) (known_bytes (reader_remaining g.R.Read.remaining c.frames.input)) (g.W.Write.contents c.args.output.now) (g.W.Write.contents c.frames.output)
          (before.so_far tells) c.frames.offset c.in-Ok-Answered.next (g.S.Service.state c.serve_next.new.service) (known_bytes (reader_remaining g.R.Read.remaining c.serve_next.new.input)) (g.W.Write.contents c.serve_next.new.output)
          (rw c.in-Ok-Answered.field-0-is at (c.in-Ok-Answered.ensures.takes (before.is_known tells)));
    }

pub returns-in-Err-clause-stopped : goal.returns-in-Err-clause-stopped
returns-in-Err-clause-stopped g c = λ tells.
    let before = c.frames.invariant in
    served-stops g.S.Service.replies g.S.Service.refusal_reply g.S.Request.Wire.words g.S.Reply.Wire.words g.C.Config.setting g.C.Config.bound c.args.most g.S.Service.fails (known_bytes (reader_remaining g.R.Read.remaining c.args.input.now))
    (g.S.Service.state c.args.service.now) c.frames.answers (g.S.Service.state c.frames.service) (known_bytes (reader_remaining g.R.Read.remaining c.frames.input)) (g.W.Write.contents c.args.output.now) (g.W.Write.contents c.frames.output)
    (before.so_far tells) (g.S.Service.state c.serve_next.new.service) (g.W.Write.contents c.serve_next.new.output) c.in-Err.why (c.in-Err.ensures.stops (before.is_known tells))
