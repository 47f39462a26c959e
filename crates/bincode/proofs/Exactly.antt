-- Bytes that are one word begin with no shorter one.
use Rattle.std.specs.Prelude.{◌≡◌, ◌<◌, ℕ, List, [], length, Option}
use Rattle.std.proofs.Common.{◌∙◌, ap, arith, append-nil}
use Rattle.bincode_spec.specs.Charge.{Step}
use Rattle.bincode_spec.specs.Format.{Format}
use Rattle.bincode_spec.specs.Layers.Laws.{IsLawful}
use Rattle.bincode_spec.specs.Meaning.{Meaning}
use Rattle.bincode_spec.specs.Slice.{IsDecoded}
use Rattle.bincode_lemmas.specs.FormatLaws.{one-word}

pub none-shorter : (F : Format Meaning) → IsLawful F → (limit : Option ℕ) (input : List ℕ) (DecodesTo : Meaning → Type 0) (n : ℕ) → IsDecoded F limit input DecodesTo n → n < length input →
    (m : Meaning) (steps : List Step) → F.Word input m steps → ⊥
none-shorter F f limit input DecodesTo n d fewer m steps w =
    let one = one-word f input d.word [] d.remaining m d.meaning steps d.steps w d.is_word (append-nil input ∙ d.input_is) in
    let same : length input ≡ length d.word = ap length one.0 in
    let count = d.count in omega (arith, same, count, fewer)
