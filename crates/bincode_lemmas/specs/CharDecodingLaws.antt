-- The answer of decoding a character, from its first byte, the claim and the bytes after it.
use Rattle.std.specs.Prelude.{◌≡◌, ℕ, ◌-◌, ◌≤◌, List, [], ◌∷◌, length, slice_index, Option, Some, None, Result, Ok, Err, IfOk, IfErr, refl}
use Rattle.std.proofs.Common.{sym, ◌∙◌, ap, subst, arith}
use Rattle.bincode_spec.specs.Device.{DeviceErrors}
use Rattle.bincode_base.specs.declared.error.DecodeError.{DecodeError}
use Rattle.bincode_base.specs.declared.error.DecodeError.TheVariants.{InvalidCharEncoding}
use Rattle.bincode_spec.specs.Fault.{Fault, InvalidChar}
use Rattle.bincode_spec.specs.Layers.Reads.{ReadFailure, by_fault, by_failure, by_device}
use Rattle.bincode_spec.specs.Format.{Took, Failed, pure, fail, fixed_bytes, charge_then, ◌>>=◌}
use Rattle.bincode_lemmas.specs.FormatLaws.{fixed_bytes-lawful}
use Rattle.bincode_spec.specs.Integers.{byte}
use Rattle.bincode_lemmas.specs.IntegerLaws.{byte-lawful}
use Rattle.bincode_spec.specs.Meaning.{Meaning, Character, IsCharacter}
use Rattle.bincode_spec.specs.Words.{char_width, char_of, four_bytes, rest_of_char, after_char, character}
use Rattle.bincode_spec.specs.Layers.Chars.{Spells}
use Rattle.bincode_lemmas.specs.CharLaws.{char_of-alone}
use Rattle.bincode_spec.specs.Answer.{Gave, Refused, answer}
use Rattle.bincode_lemmas.specs.AnswerLaws.{answer-took, answer-failed, answer-fail}
use Rattle.bincode_spec.specs.Decoding.{Decodes, DecodeFailure}
use Rattle.bincode_spec.specs.Decoding as stops
use Rattle.bincode_lemmas.specs.DecodingLaws.{answer-next, stops-first, stops-next}

module _ (first width : ℕ) (input : List ℕ) where
  -- the bytes after the first are there, and pass the test
  pub rest_of_char-took : (bytes remaining : List ℕ) (m : Meaning) → (fixed_bytes (width - 1)).read input ≡ Took bytes remaining [] → char_of (first ∷ bytes) ≡ Ok m →
      (rest_of_char first width).read input ≡ Took m remaining []
  unfolding ◌>>=◌ pure
  rest_of_char-took bytes remaining m e h = rw (e, h) refl

  -- they are there, and fail the test
  pub rest_of_char-invalid : (bytes remaining : List ℕ) (why : Fault) → (fixed_bytes (width - 1)).read input ≡ Took bytes remaining [] →
      char_of (first ∷ bytes) ≡ Err why → (rest_of_char first width).read input ≡ Failed why []
  unfolding ◌>>=◌ fail
  rest_of_char-invalid bytes remaining why e h = rw (e, h) refl

  -- they are not all there
  pub rest_of_char-short : (why : Fault) → (fixed_bytes (width - 1)).read input ≡ Failed why [] → (rest_of_char first width).read input ≡ Failed why []
  unfolding ◌>>=◌
  rest_of_char-short why e = rw e refl

  module _ (end_error : ℕ → DecodeError → Type 0) (device : DeviceErrors) (before after : ℕ) (remaining : List ℕ) (e : DecodeError) where
    -- reading the bytes after the first failed
    pub rest_of_char-misread : ReadFailure end_error device ((fixed_bytes (width - 1)).read input) before after input remaining e → ReadFailure end_error device ((rest_of_char first width).read input) before after input remaining e
    rest_of_char-misread (by_fault why h t k) = by_fault why (rest_of_char-short why h) t k
    rest_of_char-misread (by_failure d h k) = by_failure d h k
    rest_of_char-misread (by_device h) = by_device h

    -- bytes that fail the test
    pub rest_of_char-refused : (bytes : List ℕ) → (fixed_bytes (width - 1)).read input ≡ Took bytes remaining [] →
        char_of (first ∷ bytes) ≡ Err (InvalidChar (four_bytes (first ∷ bytes))) → e ≡ InvalidCharEncoding (four_bytes (first ∷ bytes)) →
        ReadFailure end_error device ((rest_of_char first width).read input) before after input remaining e
    rest_of_char-refused bytes r h t =
        let p = (fixed_bytes-lawful (width - 1)).read_word input remaining bytes [] r in
        by_fault (InvalidChar (four_bytes (first ∷ bytes))) (rest_of_char-invalid bytes remaining (InvalidChar (four_bytes (first ∷ bytes))) r h) t (p.word, p.input_is)

long_1 : (bytes : List ℕ) → length bytes ≡ 1 → bytes ≡ slice_index bytes 0 ∷ []
long_1 [] e = absurd (omega arith)
long_1 (a ∷ []) e = refl
long_1 (a ∷ b ∷ bytes) e = absurd (omega arith)

long_2 : (bytes : List ℕ) → length bytes ≡ 2 → bytes ≡ slice_index bytes 0 ∷ slice_index bytes 1 ∷ []
long_2 (a ∷ b ∷ []) e = refl
long_2 [] e = absurd (omega arith)
long_2 (a ∷ []) e = absurd (omega arith)
long_2 (a ∷ b ∷ c ∷ bytes) e = absurd (omega arith)

long_3 : (bytes : List ℕ) → length bytes ≡ 3 → bytes ≡ slice_index bytes 0 ∷ slice_index bytes 1 ∷ slice_index bytes 2 ∷ []
long_3 (a ∷ b ∷ c ∷ []) e = refl
long_3 [] e = absurd (omega arith)
long_3 (a ∷ []) e = absurd (omega arith)
long_3 (a ∷ b ∷ []) e = absurd (omega arith)
long_3 (a ∷ b ∷ c ∷ d ∷ bytes) e = absurd (omega arith)

-- the bytes that were read, one by one
module _ (input bytes remaining : List ℕ) where
  pub fixed_bytes-took_1 : (fixed_bytes 1).read input ≡ Took bytes remaining [] → bytes ≡ slice_index bytes 0 ∷ []
  unfolding fixed_bytes
  fixed_bytes-took_1 r = let u = (fixed_bytes-lawful 1).read_word input remaining bytes [] r in long_1 bytes (rw u.is_word.1 u.is_word.0)

  pub fixed_bytes-took_2 : (fixed_bytes 2).read input ≡ Took bytes remaining [] → bytes ≡ slice_index bytes 0 ∷ slice_index bytes 1 ∷ []
  unfolding fixed_bytes
  fixed_bytes-took_2 r = let u = (fixed_bytes-lawful 2).read_word input remaining bytes [] r in long_2 bytes (rw u.is_word.1 u.is_word.0)

  pub fixed_bytes-took_3 : (fixed_bytes 3).read input ≡ Took bytes remaining [] → bytes ≡ slice_index bytes 0 ∷ slice_index bytes 1 ∷ slice_index bytes 2 ∷ []
  unfolding fixed_bytes
  fixed_bytes-took_3 r = let u = (fixed_bytes-lawful 3).read_word input remaining bytes [] r in long_3 bytes (rw u.is_word.1 u.is_word.0)

-- bytes after the first that were read, with the character that was found for all of them
module _ (first width : ℕ) (input bytes remaining tail : List ℕ) (found : Option ℕ) (read : (fixed_bytes (width - 1)).read input ≡ Took bytes remaining [])
    (bytes_are : bytes ≡ tail) (spells : Spells (first ∷ tail) found) where
  pub rest_of_char-found : (r : Result ℕ DecodeError) → IfOk r (λ c. found ≡ Some c) → IfOk r (λ c. (rest_of_char first width).read input ≡ Took (Character c) remaining [])
  rest_of_char-found (Ok c) e = rest_of_char-took first width input tail remaining (Character c) (rw (← bytes_are) read) (rw e at spells)
  rest_of_char-found (Err e) h = tt

  pub rest_of_char-not_found : (end_error : ℕ → DecodeError → Type 0) (device : DeviceErrors) (before after : ℕ) (r : Result ℕ DecodeError) →
      IfErr r (λ e. (found ≡ None) × (e ≡ InvalidCharEncoding (four_bytes (first ∷ tail)))) →
      IfErr r (ReadFailure end_error device ((rest_of_char first width).read input) before after input remaining)
  rest_of_char-not_found end_error device before after (Ok c) h = tt
  rest_of_char-not_found end_error device before after (Err e) h = rest_of_char-refused first width input end_error device before after remaining e tail (rw (← bytes_are) read) (rw h.0 at spells) h.1

-- a byte alone is its character
pub rest_of_char-alone : (first width : ℕ) (input : List ℕ) → char_width first ≡ Some width → width ≤ 1 → (rest_of_char first width).read input ≡ Took (Character first) input []
unfolding fixed_bytes
rest_of_char-alone first width input w h =
    let l : width - 1 ≡ 0 = omega arith in
    let r : (fixed_bytes (width - 1)).read input ≡ Took [] input [] = rw l ((fixed_bytes-lawful 0).word_read [] input [] [] (refl, refl, refl)) in
    rest_of_char-took first width input [] input (Character first) r (char_of-alone first width w h)

module _ (limit : Option ℕ) (input middle : List ℕ) (c first : ℕ) (read : byte.read input ≡ Took first middle []) where
  -- the answer is that after the first byte
  pub character-next : (width : Option ℕ) → char_width first ≡ width → answer limit character input c ≡ answer limit (after_char first width) middle c
  character-next width e =
      answer-next limit byte (λ z. after_char z (char_width z)) input c first middle c (answer-took limit byte input middle first c read) ∙ ap (λ z. answer limit (after_char first z) middle c) e

  -- a byte that begins no character
  pub character-none : char_width first ≡ None → answer limit character input c ≡ Refused (InvalidChar (first ∷ 0 ∷ 0 ∷ 0 ∷ [])) c
  character-none e = character-next None e ∙ answer-fail limit (InvalidChar (four_bytes (first ∷ []))) middle c

  -- the character that was read is given
  pub character-decodes : (width d v : ℕ) (remaining : List ℕ) → char_width first ≡ Some width →
      answer limit (charge_then width (rest_of_char first width)) middle c ≡ Gave (Character v) remaining d →
      Decodes (IsCharacter v) (answer limit character input c) remaining d
  character-decodes width d v remaining w e = record { meaning = Character v; answer_is = character-next (Some width) w ∙ e; is_decoded = refl }

  module _ (end_error : ℕ → DecodeError → Type 0) (device : DeviceErrors) (H : Type 0) where
    -- a byte that begins no character
    pub character-stops_none : (before after : ℕ) {now : ℕ} (e : DecodeError) → now ≡ c → char_width first ≡ None → e ≡ InvalidCharEncoding (first ∷ 0 ∷ 0 ∷ 0 ∷ []) →
        DecodeFailure end_error device H (answer limit character input c) before after input middle now e
    character-stops_none before after e still w t =
        let p = byte-lawful.read_word input middle first [] read in
        stops.by_fault (InvalidChar (first ∷ 0 ∷ 0 ∷ 0 ∷ [])) (character-none w ∙ ap (Refused (InvalidChar (first ∷ 0 ∷ 0 ∷ 0 ∷ []))) (sym still)) t (p.word, p.input_is)

    -- if decoding what follows the first byte fails, so does the whole
    pub character-stops_after : (width before between after : ℕ) (remaining : List ℕ) {now : ℕ} (e : DecodeError) → char_width first ≡ Some width → before ≤ between →
        DecodeFailure end_error device H (answer limit (charge_then width (rest_of_char first width)) middle c) between after middle remaining now e →
        DecodeFailure end_error device H (answer limit character input c) before after input remaining now e
    character-stops_after width before between after remaining {now} e w le s =
        stops-next end_error device H H (λ z. z) limit byte (λ z. after_char z (char_width z)) byte-lawful input c before between after first middle remaining c e
        (answer-took limit byte input middle first c read) le
        (subst (λ z. DecodeFailure end_error device H (answer limit (after_char first z) middle c) between after middle remaining now e) (sym w) s)

-- reading the first byte failed
pub character-stops_first :
    (limit : Option ℕ) (input : List ℕ) (c : ℕ) (end_error : ℕ → DecodeError → Type 0) (device : DeviceErrors) (H : Type 0) (before after : ℕ) (remaining : List ℕ) {now : ℕ} (e : DecodeError) → now ≡ c →
    ReadFailure end_error device (byte.read input) before after input remaining e →
    DecodeFailure end_error device H (answer limit character input c) before after input remaining now e
character-stops_first limit input c end_error device H before after remaining e still (by_fault why h t k) =
    stops-first end_error device H H (λ z. z) limit byte (λ z. after_char z (char_width z)) input c before after remaining e
    (stops.by_fault why (answer-failed limit byte input why c h ∙ ap (Refused why) (sym still)) t k)
character-stops_first limit input c end_error device H before after remaining e still (by_failure d h k) = stops.by_failure d h k
character-stops_first limit input c end_error device H before after remaining e still (by_device h) = stops.by_device h
