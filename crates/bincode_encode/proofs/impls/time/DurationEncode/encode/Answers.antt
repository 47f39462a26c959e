use Rattle.std.specs.Prelude.{◌<◌, ◌^◌}
use Rattle.std.proofs.Common.{rules, inl, inr}
use Rattle.bincode_spec.specs.Words.{second_in_nanos}
use Rattle.bincode_lemmas.specs.AllowedLaws.{pair-allows, allowed-pair}
use Rattle.bincode_lemmas.specs.DurationLaws.{duration-allows, allowed-duration}
use Rattle.bincode_encoder.proofs.EncodingAnswers.{encodes-as}
use Rattle.bincode_encode.proofs.impls.time.DurationEncode.encode.Goals as goal

pub returns : goal.returns
returns g c =
    let a : c.args.self.now.secs < 2 ^ 64 = search rules in
    let b : c.args.self.now.nanos < second_in_nanos = search rules in
    encodes-as (λ bytes w. duration-allows _ _ _ a b bytes (allowed-pair _ _ _ _ bytes w)) (λ bytes w. pair-allows _ _ _ _ bytes (allowed-duration _ _ _ bytes w)) (λ _. (tt, (tt, tt)))
    (λ _. elim [ inl n ↦ n | inr m ↦ elim m [ inl n ↦ n | inr n ↦ n ] ])
    (rw (c.as_secs.ensures, c.subsec_nanos.ensures.nanos) at c.encode.ensures)
