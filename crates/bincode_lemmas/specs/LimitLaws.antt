-- What another limit changes, and what is decoded again within one.
use Rattle.std.specs.Prelude.{◌≡◌, ℕ, List, [], ◌++◌, length, take, drop, Option, Some, None, Result, Ok, Err, IfOk, MatchResult, refl}
use Rattle.std.proofs.Common.{sym, ◌∙◌, ap, subst, arith, append-nil}
use Rattle.std.proofs.Math.Seq.{take-append_seam}
use Rattle.bincode_base.specs.declared.error.DecodeError.{DecodeError}
use Rattle.bincode_spec.specs.Allowed.{AllowedWord}
use Rattle.bincode_spec.specs.Answer.{Gave, answer}
use Rattle.bincode_spec.specs.Charge.{Step, StaysWithin}
use Rattle.bincode_spec.specs.Decoding.{MayReportMemory}
use Rattle.bincode_spec.specs.Format.{Format}
use Rattle.bincode_spec.specs.Layers.Laws.{IsLawful, IsBalanced}
use Rattle.bincode_spec.specs.Limits.{IsNoTighter, FitsLimit}
use Rattle.bincode_spec.specs.Meaning.{Meaning}
use Rattle.bincode_spec.specs.Slice.{WordWritten, IsDecoded, FindsWords}
use Rattle.bincode_lemmas.specs.AnswerLaws.{counted_after, gave-word, word-gave}
use Rattle.bincode_lemmas.specs.FormatLaws.{one-word}

-- what stays within a limit stays within each larger one, and without one
pub within-larger : (small large : Option ℕ) (charge : ℕ) (steps : List Step) → IsNoTighter small large → StaysWithin small charge steps → StaysWithin large charge steps
within-larger small None charge steps h w = tt
within-larger None (Some large) charge steps h w = absurd h
within-larger (Some small) (Some large) charge steps h w = λ front back e. let p = w front back e in omega arith

-- If decoding succeeds under a limit, it gives the same meaning and leaves the same bytes under each larger one and
-- none.
pub larger-gives : {A : Type 0} (F : Format A) (f : IsLawful F) (b : IsBalanced F) (small large : Option ℕ) → IsNoTighter small large → (input remaining : List ℕ) (m : A) (charge : ℕ) →
    answer small F input 0 ≡ Gave m remaining charge → (after : ℕ) × (answer large F input 0 ≡ Gave m remaining after)
larger-gives F f b small large h input remaining m charge g =
    let w = gave-word F f b small input remaining m charge g in
    let e = word-gave F f b large w.word remaining m w.steps 0 w.is_word (within-larger small large 0 w.steps h w.within) in
    (counted_after large 0 w.steps, ap (λ z. answer large F z 0) w.input_is ∙ e)

-- So do the decoding calls: what is decoded within a limit is decoded within each larger one, to a value of the same
-- meaning and from as many bytes, or the error is `Memory` and decoding may allocate.
pub larger-decodes : {A : Type 0} (F : Format Meaning) (f : IsLawful F) (small large : Option ℕ) → IsNoTighter small large → (input : List ℕ) (DecodesTo : Meaning → A → Type 0) (a : A) (n : ℕ) →
    IsDecoded F small input (λ m. DecodesTo m a) n → (MayAllocate : Type 0) (result : Result (A × ℕ) DecodeError) → IfOk result (λ x. IsDecoded F large input (λ m. DecodesTo m x.0) x.1) →
    FindsWords F large MayAllocate input result → MatchResult result (λ x. ((m : Meaning) × DecodesTo m a × DecodesTo m x.0) × (x.1 ≡ n)) (MayReportMemory MayAllocate)
larger-decodes F f small large h input DecodesTo a n d MayAllocate (Ok x) e found =
    let one = one-word f d.word e.word d.remaining e.remaining d.meaning e.meaning d.steps e.steps d.is_word e.is_word (sym d.input_is ∙ e.input_is) in
    ((d.meaning, d.is_decoded, subst (λ m. DecodesTo m x.0) (sym one.1) e.is_decoded), e.count ∙ ap length (sym one.0) ∙ sym d.count)
larger-decodes F f small large h input DecodesTo a n d MayAllocate (Err e) g found =
    found d.word d.remaining d.meaning d.steps d.input_is d.is_word (within-larger small large 0 d.steps h d.within)

module _ {A : Type 0} (F : Format Meaning) (f : IsLawful F) (limit : Option ℕ) (Means : Meaning → Type 0)
    (DecodesTo : Meaning → A → Type 0) (Same : A → Type 0) (same : (a : A) (m : Meaning) → Means m → DecodesTo m a → Same a) where
  -- A word that was written is read back under each limit that its own steps stay within: an equal value, of as many
  -- bytes, whatever follows them, or the error is `Memory` and decoding may allocate.
  pub read-back : (word remaining : List ℕ) → AllowedWord Means F word → FitsLimit F limit word →
      (MayAllocate : Type 0) (result : Result (A × ℕ) DecodeError) → IfOk result (λ x. IsDecoded F limit (word ++ remaining) (λ m. DecodesTo m x.0) x.1) →
      FindsWords F limit MayAllocate (word ++ remaining) result → MatchResult result (λ x. Same x.0 × (x.1 ≡ length word)) (MayReportMemory MayAllocate)
  read-back word remaining w within MayAllocate (Ok x) d found =
      let u = f.written_is_word word w.meaning w.is_written in
      let one = one-word f word d.word remaining d.remaining w.meaning d.meaning u.0 d.steps u.1 d.is_word d.input_is in
      (same x.0 w.meaning w.is_meant (subst (λ m. DecodesTo m x.0) (sym one.1) d.is_decoded), d.count ∙ ap length (sym one.0))
  read-back word remaining w within MayAllocate (Err e) d found =
      let u = f.written_is_word word w.meaning w.is_written in
      found word remaining w.meaning u.0 refl u.1 (within w.meaning u.0 u.1)

  -- so is a slice that it was written into
  pub read-back_slice : (n : ℕ) (old new : List ℕ) → WordWritten (AllowedWord Means F) n old new → FitsLimit F limit (take n new) →
      (MayAllocate : Type 0) (result : Result (A × ℕ) DecodeError) → IfOk result (λ x. IsDecoded F limit new (λ m. DecodesTo m x.0) x.1) →
      FindsWords F limit MayAllocate new result → MatchResult result (λ x. Same x.0 × (x.1 ≡ n)) (MayReportMemory MayAllocate)
  read-back_slice n old new w within MayAllocate result d found =
      let remaining = drop (length w.word) old in
      let front : take n new ≡ w.word = ap (λ k. take k new) w.count ∙ ap (take (length w.word)) w.fills ∙ take-append_seam w.word remaining in
      subst (λ k. MatchResult result (λ x. Same x.0 × (x.1 ≡ k)) (MayReportMemory MayAllocate)) (sym w.count)
      (read-back w.word remaining w.is_allowed (subst (FitsLimit F limit) front within) MayAllocate result
      (subst (λ input. IfOk result (λ x. IsDecoded F limit input (λ m. DecodesTo m x.0) x.1)) w.fills d)
      (subst (λ input. FindsWords F limit MayAllocate input result) w.fills found))

  -- and a vector
  pub read-back_vec : (bytes : List ℕ) → AllowedWord Means F bytes → FitsLimit F limit bytes →
      (MayAllocate : Type 0) (result : Result (A × ℕ) DecodeError) → IfOk result (λ x. IsDecoded F limit bytes (λ m. DecodesTo m x.0) x.1) →
      FindsWords F limit MayAllocate bytes result → MatchResult result (λ x. Same x.0 × (x.1 ≡ length bytes)) (MayReportMemory MayAllocate)
  read-back_vec bytes w within MayAllocate result d found =
      let whole : bytes ≡ bytes ++ [] = sym (append-nil bytes) in
      read-back bytes [] w within MayAllocate result
      (subst (λ input. IfOk result (λ x. IsDecoded F limit input (λ m. DecodesTo m x.0) x.1)) whole d)
      (subst (λ input. FindsWords F limit MayAllocate input result) whole found)
