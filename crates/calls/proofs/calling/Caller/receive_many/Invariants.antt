use Rattle.std.proofs.Common.{◌≡◌, length}
use Rattle.bincode_io.specs.Stream.{TellsBytes, known_bytes}
use Rattle.calls.specs.Calling.{AreReplies, input_of, most_of, output_of}
use Rattle.calls.proofs.calling.Caller.receive_many.Given as goal

abbrev pub invariant-loop : goal.invariant-loop
invariant-loop g l = record {
  count : length l.replies.items ≡ l.counter;
  output : output_of l.self ≡ output_of l.initial.self;
  most : most_of l.self ≡ most_of l.initial.self;
  is_known : TellsBytes (g.R.Read.remaining (input_of l.initial.self)) → TellsBytes (g.R.Read.remaining (input_of l.self));
  replies : TellsBytes (g.R.Read.remaining (input_of l.initial.self)) → AreReplies g.A.Wire.words g.C.Config.setting g.C.Config.bound (most_of l.initial.self) (known_bytes (g.R.Read.remaining (input_of l.initial.self)))
      (known_bytes (g.R.Read.remaining (input_of l.self))) l.replies.items;
}
