use Rattle.bincode_lemmas.specs.DurationLaws.{span-same}
use Rattle.bincode_types.specs.Durations.{secs_of, nanos_of}
use Rattle.bincode_types.proofs.impls.time.DurationExact.tell_exact.Goals as goal

pub returns : goal.returns
returns c = record {
  one_value = λ v w m h k. span-same (secs_of v) (nanos_of v) (secs_of w) (nanos_of w) m;
  comes_back = λ v w m h. span-same (secs_of v) (nanos_of v) (secs_of w) (nanos_of w) m;
}
