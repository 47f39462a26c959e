use Rattle.std.proofs.lemmas.Result.{err_from_is_err_and}
use Rattle.std.specs.Io.Buffered.{reader_remaining}
use Rattle.bincode_io.specs.Stream.{known_bytes}
use Rattle.calls.proofs.Stopped.{too-long-unsent, too-long-unflushed, too-long-flushed, frame-stops, flush-stops, takes-flushed, takes-unflushed}
use Rattle.calls.proofs.serving.serve_next.Goals as goal
use Rattle.calls.proofs.serving.serve_next.Goals.{then-not-holds_frame+in_ok-flush-in-Ok-Record, else-not-holds_frame}

pub returns-in_err-refuse-in-Ok-TooLong-clause-stops : goal.returns-in_err-refuse-in-Ok-TooLong-clause-stops
returns-in_err-refuse-in-Ok-TooLong-clause-stops g c = λ tells.
    let p = err_from_is_err_and c.from_residual.result c.from_residual.ensures.1 in
    let next = rw c.in-Ok-TooLong.field-0-is at (c.in-Ok-TooLong.ensures.next tells) in
    rw (p.1, p.2)
    (too-long-unsent g.S.Service.replies g.S.Service.refusal_reply g.S.Request.Wire.words g.S.Reply.Wire.words g.C.Config.setting g.C.Config.bound c.args.most g.S.Service.fails
    (known_bytes (reader_remaining g.R.Read.remaining c.args.input.now)) (g.S.Service.state c.args.service.now) (g.W.Write.contents c.args.output.now) (g.W.Write.contents c.refuse.new.output)
    c.in-Ok-TooLong.length next c.in_err-refuse-in-Ok-TooLong.field-0.0 c.in_err-refuse-in-Ok-TooLong.ensures.failed)

pub returns-in_err-flush-in-Ok-TooLong-clause-stops : goal.returns-in_err-flush-in-Ok-TooLong-clause-stops
returns-in_err-flush-in-Ok-TooLong-clause-stops g c = λ tells.
    let p = err_from_is_err_and c.from_residual-in_err-flush-in-Ok-TooLong.result c.from_residual-in_err-flush-in-Ok-TooLong.ensures.1 in
    let next = rw c.in-Ok-TooLong.field-0-is at (c.in-Ok-TooLong.ensures.next tells) in
    rw (p.1, p.2)
    (too-long-unflushed g.S.Service.replies g.S.Service.refusal_reply g.S.Request.Wire.words g.S.Reply.Wire.words g.C.Config.setting g.C.Config.bound c.args.most g.S.Service.fails
    (known_bytes (reader_remaining g.R.Read.remaining c.args.input.now)) (g.S.Service.state c.args.service.now) (g.W.Write.contents c.args.output.now) (g.W.Write.contents c.refuse.new.output)
    (g.W.Write.contents c.flush.new.output) c.in-Ok-TooLong.length next c.in_ok-refuse-in-Ok-TooLong.ensures.sent c.in_err-flush-in-Ok-TooLong.ensures.kept
    c.in_err-flush-in-Ok-TooLong.field-0.0 c.in_err-flush-in-Ok-TooLong.ensures.failed)

pub returns-in_ok-flush-in-Ok-TooLong-clause-stops : goal.returns-in_ok-flush-in-Ok-TooLong-clause-stops
returns-in_ok-flush-in-Ok-TooLong-clause-stops g c = λ tells.
    let next = rw c.in-Ok-TooLong.field-0-is at (c.in-Ok-TooLong.ensures.next tells) in
    too-long-flushed g.S.Service.replies g.S.Service.refusal_reply g.S.Request.Wire.words g.S.Reply.Wire.words g.C.Config.setting g.C.Config.bound c.args.most g.S.Service.fails
    (known_bytes (reader_remaining g.R.Read.remaining c.args.input.now)) (g.S.Service.state c.args.service.now) (g.W.Write.contents c.args.output.now) (g.W.Write.contents c.refuse.new.output)
    (g.W.Write.contents c.flush.new.output) c.in-Ok-TooLong.length next c.in_ok-refuse-in-Ok-TooLong.ensures.sent c.in_ok-flush-in-Ok-TooLong.ensures.kept

pub returns-in_err-answer_frame-in-Ok-Record-clause-stops : goal.returns-in_err-answer_frame-in-Ok-Record-clause-stops
returns-in_err-answer_frame-in-Ok-Record-clause-stops g c = λ tells.
    let p = err_from_is_err_and c.from_residual-in_err-answer_frame-in-Ok-Record.result c.from_residual-in_err-answer_frame-in-Ok-Record.ensures.1 in
    let next = rw c.in-Ok-Record.field-0-is at (c.in-Ok-Record.ensures.next tells) in
    rw (p.1, p.2)
    (frame-stops g.S.Service.replies g.S.Service.refusal_reply g.S.Request.Wire.words g.S.Reply.Wire.words g.C.Config.setting g.C.Config.bound c.args.most g.S.Service.fails
    (known_bytes (reader_remaining g.R.Read.remaining c.args.input.now)) (g.S.Service.state c.args.service.now) (g.S.Service.state c.answer_frame.new.service)
    (g.W.Write.contents c.args.output.now) (g.W.Write.contents c.answer_frame.new.output) c.in-Ok-Record.size c.in-Ok-Record.content next
    c.in_err-answer_frame-in-Ok-Record.field-0.0 c.in_err-answer_frame-in-Ok-Record.ensures.failed)

pub returns-in_err-flush-in-Ok-Record-clause-stops : goal.returns-in_err-flush-in-Ok-Record-clause-stops
returns-in_err-flush-in-Ok-Record-clause-stops g c = λ tells.
    let p = err_from_is_err_and c.from_residual-in_err-flush-in-Ok-Record.result c.from_residual-in_err-flush-in-Ok-Record.ensures.1 in
    let next = rw c.in-Ok-Record.field-0-is at (c.in-Ok-Record.ensures.next tells) in
    rw (p.1, p.2)
    (flush-stops g.S.Service.replies g.S.Service.refusal_reply g.S.Request.Wire.words g.S.Reply.Wire.words g.C.Config.setting g.C.Config.bound c.args.most g.S.Service.fails
    (known_bytes (reader_remaining g.R.Read.remaining c.args.input.now)) (g.S.Service.state c.args.service.now) (g.S.Service.state c.answer_frame.new.service)
    (g.W.Write.contents c.args.output.now) (g.W.Write.contents c.answer_frame.new.output) (g.W.Write.contents c.flush-then-not-holds_frame.new.output) c.in-Ok-Record.size c.in-Ok-Record.content next
    c.in_ok-answer_frame-in-Ok-Record.ensures.answered c.in_err-flush-in-Ok-Record.ensures.kept c.in_err-flush-in-Ok-Record.field-0.0 c.in_err-flush-in-Ok-Record.ensures.failed)

pub returns-after-not-holds_frame-clause-takes : goal.returns-after-not-holds_frame-clause-takes
returns-after-not-holds_frame-clause-takes g c = λ tells.
    let next = rw c.in-Ok-Record.field-0-is at (c.in-Ok-Record.ensures.next tells) in
    let left = rw c.in-Ok-Record.field-0-is at (c.in-Ok-Record.ensures.left tells) in
    elim c.if-not-holds_frame.branch [
      | then-not-holds_frame+in_ok-flush-in-Ok-Record w ↦
          rw w.output-is
          (takes-flushed g.S.Service.replies g.S.Service.refusal_reply g.S.Request.Wire.words g.S.Reply.Wire.words g.C.Config.setting g.C.Config.bound c.args.most c.args.offset
          (known_bytes (reader_remaining g.R.Read.remaining c.args.input.now)) (g.S.Service.state c.args.service.now) (g.S.Service.state c.answer_frame.new.service)
          (known_bytes (reader_remaining g.R.Read.remaining c.next_from_stream.new.stream)) (g.W.Write.contents c.args.output.now) (g.W.Write.contents c.answer_frame.new.output)
          (g.W.Write.contents w.flush-then-not-holds_frame.new.output) c.in-Ok-Record.size c.in-Ok-Record.content c.in-Ok.next next c.in_ok-answer_frame-in-Ok-Record.ensures.answered w.flush-then-not-holds_frame.ensures.kept c.in-Ok.ensures.sum left)
      | else-not-holds_frame w ↦
          rw w.output-is
          (takes-unflushed g.S.Service.replies g.S.Service.refusal_reply g.S.Request.Wire.words g.S.Reply.Wire.words g.C.Config.setting g.C.Config.bound c.args.most c.args.offset
          (known_bytes (reader_remaining g.R.Read.remaining c.args.input.now)) (g.S.Service.state c.args.service.now) (g.S.Service.state c.answer_frame.new.service)
          (known_bytes (reader_remaining g.R.Read.remaining c.next_from_stream.new.stream)) (g.W.Write.contents c.args.output.now) (g.W.Write.contents c.answer_frame.new.output)
          c.in-Ok-Record.size c.in-Ok-Record.content c.in-Ok.next next c.in_ok-answer_frame-in-Ok-Record.ensures.answered c.in-Ok.ensures.sum left)
    ]
