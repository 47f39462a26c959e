use Rattle.std.proofs.Common.{subst, sym}
use Rattle.bincode_io.specs.Stream.{known_bytes}
use Rattle.framed_store.proofs.Strode.{Strode, one-more}
use Rattle.framed_store.proofs.stepping.step_over.Goals as goal

pub frames-preserved : goal.frames-preserved
frames-preserved g c =
    let sum = c.in_ok-offset-in-Frame.ensures.sum in record {
      is_known = λ tells. c.step.ensures.is_known (c.frames.invariant.is_known tells);
      so_far = λ tells.
          let told = rw c.in-Frame.is at (c.in_ok-step.ensures.told (c.frames.invariant.is_known tells)) in
          subst (λ n. Strode c.args.most (known_bytes (g.R.Read.remaining c.args.stream.now)) n (known_bytes (g.R.Read.remaining c.step.new.stream))) (sym sum)
          (one-more c.args.most (known_bytes (g.R.Read.remaining c.args.stream.now)) c.frames.offset c.in-Frame.size (known_bytes (g.R.Read.remaining c.frames.stream))
          (known_bytes (g.R.Read.remaining c.step.new.stream)) (c.frames.invariant.so_far tells) told.0 told.1 told.2);
    }
