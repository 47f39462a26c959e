use Rattle.bincode_base.specs.declared.error.IntegerType.TheVariants.{U32, U64}
use Rattle.bincode_lemmas.specs.AllowedLaws.{both-one_length, same-one_length}
use Rattle.bincode_lemmas.specs.DurationLaws.{allowed-duration, nanos-fit}
use Rattle.bincode_lemmas.specs.SpelledLaws.{unsigned-spelled}
use Rattle.bincode_types.specs.Durations.{secs_of, nanos_of}
use Rattle.bincode_types.proofs.impls.time.DurationPlain.tell_plain.Goals as goal

pub returns : goal.returns
returns c = record {
  always_writable = λ s v h. tt;
  one_length = λ s v h.
      same-one_length _ _ (allowed-duration s (secs_of v) (nanos_of v))
      (both-one_length _ _ (unsigned-spelled U64 8 (secs_of v) s h.0).one_length
      (unsigned-spelled U32 4 (nanos_of v) s (nanos-fit (nanos_of v) h.1)).one_length);
  names_none = λ e h. h;
}
