-- A word that the buffer of a stream shows is one of the stream.
use Rattle.std.specs.Prelude.{◌≡◌, ◌≤◌, ◌++◌, ℕ, List, length, drop, Option, Some, None, IfSome}
use Rattle.std.proofs.Common.{◌∙◌, ap, sym, arith, append_assoc, length-append}
use Rattle.std.proofs.lemmas.List.{take-append-drop}
use Rattle.std.proofs.Math.Seq.{drop-append_seam}
use Rattle.std.specs.Io.{StartsWith}
use Rattle.std.specs.Io.KnownBytes.{Keeps}
use Rattle.std.specs.Io.BufRead.{DropsConsumable}
use Rattle.bincode_spec.specs.Answer.{StepsOf, answer}
use Rattle.bincode_spec.specs.Charge.{Step, Passes, StaysWithin}
use Rattle.bincode_spec.specs.Decoding.{Decodes, WordRead}
use Rattle.bincode_spec.specs.Fault.{Fault}
use Rattle.bincode_spec.specs.Format.{Format}
use Rattle.bincode_spec.specs.Layers.Laws.{IsLawful, IsBalanced}
use Rattle.bincode_spec.specs.Meaning.{Meaning}
use Rattle.bincode_spec.specs.Slice.{IsDecoded}
use Rattle.bincode_lemmas.specs.AnswerLaws.{counted_after, word-gave}
use Rattle.bincode_io.specs.Stream.{TellsBytes, known_bytes}
use Rattle.bincode.proofs.Decoded.{decoded-fault, decoded-limit}
use Rattle.bincode.proofs.Known.{within-most}

module _ (F : Format Meaning) (f : IsLawful F) (b : IsBalanced F) (limit : Option ℕ) (input remaining : List ℕ) (DecodesTo : Meaning → Type 0) (r : WordRead F limit input remaining DecodesTo) where
  -- the answer to an input is the word that begins it
  gave : Decodes DecodesTo (answer limit F input 0) remaining (counted_after limit 0 r.steps)
  gave = record { meaning = r.meaning; answer_is = rw r.input_is (word-gave F f b limit r.word remaining r.meaning r.steps 0 r.is_word r.within); is_decoded = r.is_decoded }

  -- so there is no fault within the limit,
  pub read-fault : (why : Fault) (s : List Step) → F.Faults input why s → StaysWithin limit 0 s → ⊥
  read-fault = decoded-fault F f b limit input remaining _ DecodesTo gave

  -- nor do the steps pass it
  pub read-limit : (s : List Step) → StepsOf F input s → Passes limit 0 s → ⊥
  read-limit = decoded-limit F f b limit input remaining _ DecodesTo gave

-- what a call that takes the bytes of a word leaves
dropped : (word rest later input remaining : List ℕ) (n : ℕ) → input ≡ word ++ (rest ++ later) → n ≡ length word → remaining ≡ drop n input → input ≡ word ++ remaining
dropped word rest later input remaining n i count r =
    let left : remaining ≡ rest ++ later = r ∙ ap (λ k. drop k input) count ∙ ap (λ l. drop (length word) l) i ∙ drop-append_seam word (rest ++ later) in
    i ∙ ap (λ l. word ++ l) (sym left)

-- a word that is shown begins what remains of the stream
shown-word : (F : Format Meaning) (limit : Option ℕ) (shown input remaining : List ℕ) (DecodesTo : Meaning → Type 0) (n : ℕ) → StartsWith input shown → IsDecoded F limit shown DecodesTo n →
    remaining ≡ drop n input → WordRead F limit input remaining DecodesTo
shown-word F limit shown input remaining DecodesTo n front d r =
    let later = drop (length shown) input in
    let whole : input ≡ d.word ++ (d.remaining ++ later) = sym (take-append-drop (length shown) input) ∙ ap (λ l. l ++ later) (front ∙ d.input_is) ∙ append_assoc d.word d.remaining later in
    record { word = d.word; meaning = d.meaning; steps = d.steps; input_is = dropped d.word d.remaining later input remaining n whole d.count r; is_word = d.is_word; within = d.within; is_decoded = d.is_decoded }

-- it is no longer than what is shown
shown-within : (F : Format Meaning) (limit : Option ℕ) (shown : List ℕ) (DecodesTo : Meaning → Type 0) (n : ℕ) → IsDecoded F limit shown DecodesTo n → n ≤ length shown
shown-within F limit shown DecodesTo n d = let l = ap length d.input_is ∙ length-append d.word d.remaining in let c = d.count in omega arith

-- what is read of the bytes that a stream shows is read of the stream, which then loses them
pub shown-read : (F : Format Meaning) (limit : Option ℕ) (before rested after : Option (List ℕ)) (most : Option ℕ) (shown : List ℕ) (DecodesTo : Meaning → Type 0) (n : ℕ) →
    IfSome before (λ xs. StartsWith xs shown) → Keeps before rested → IfSome before (λ _. IfSome most (λ k. length shown ≤ k)) → DropsConsumable rested after most n → IsDecoded F limit shown DecodesTo n →
    TellsBytes before → WordRead F limit (known_bytes before) (known_bytes after) DecodesTo
shown-read F limit None rested after most shown DecodesTo n front kept fits drops d tells = absurd tells
shown-read F limit (Some xs) None after most shown DecodesTo n front kept fits drops d tells = absurd kept
shown-read F limit (Some xs) (Some ys) after most shown DecodesTo n front kept fits drops d tells =
    let few = within-most most n (length shown) (shown-within F limit shown DecodesTo n d) fits in
    shown-word F limit shown xs (known_bytes after) DecodesTo n front d (ap known_bytes (drops few) ∙ ap (λ l. drop n l) kept)
