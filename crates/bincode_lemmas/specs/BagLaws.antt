-- Bags: lists of their items in any order.
use Rattle.std.specs.Prelude.{◌≡◌, ℕ, pos, List, ◌++◌, length, refl}
use Rattle.std.specs.List.{All}
use Rattle.std.specs.List.Sorted.{IsPermutation}
use Rattle.std.proofs.Common.{sym, ◌∙◌, ap, subst, arith, length-append}
use Rattle.std.proofs.lemmas.List.Sorted.{IsPermutation-refl, IsPermutation-sym, IsPermutation-trans, length_permutation, All-permutation}
use Rattle.bincode_base.specs.Setting.{Setting}
use Rattle.bincode_spec.specs.Format.{Format}
use Rattle.bincode_spec.specs.Meaning.{Meaning, IsNumber}
use Rattle.bincode_spec.specs.Words.{natural_number, len, list}
use Rattle.bincode_spec.specs.Allowed.{AllowedWord, OneLength, IsShortest}
use Rattle.bincode_lemmas.specs.Sequences.{Both}
use Rattle.bincode_spec.specs.Run.{IsListOf}
use Rattle.bincode_lemmas.specs.Sequences.{AllowsEach}
use Rattle.bincode_spec.specs.Layers.Meanings.{LengthWord}
use Rattle.bincode_spec.specs.Collections.{IsMadeOf, MakesBag}
use Rattle.bincode_lemmas.specs.AllowedLaws.{more-allowed, both-one_length}
use Rattle.bincode_lemmas.specs.RunAllowedLaws.{each-one_length}
use Rattle.bincode_lemmas.specs.ListLaws.{each-list, list-each, list-shortest, length-one_length}
use Rattle.bincode_lemmas.specs.LaidLaws.{each-permuted}
use Rattle.bincode_lemmas.specs.ReadLaws.{ReadsAs, list-reads, reads-list}

module _ {A : Type 0} (Means : A → Meaning → Type 0) (s : Setting) (share : ℕ) (F : Format Meaning) where
  -- a bag may be written in its own order
  pub bag-has_word : (vs : List A) (bytes : List ℕ) → AllowedWord (IsListOf Means vs) (list s share F) bytes → AllowedWord (IsMadeOf MakesBag Means vs) (list s share F) bytes
  bag-has_word vs = more-allowed (λ m i. (vs, IsPermutation-refl vs, i))

  -- its words have one length, whatever the order
  in_order : (vs : List A) (bytes : List ℕ) → AllowedWord (IsMadeOf MakesBag Means vs) (list s share F) bytes →
      (other : List ℕ) × Both (LengthWord s (length vs)) (AllowsEach (λ v. AllowedWord (Means v) F) vs) other × (length other ≡ length bytes)
  in_order vs bytes w =
      let items = w.is_meant.0 in
      let moved : IsPermutation items vs = w.is_meant.1 in
      let b = list-each Means s share F items bytes (record { meaning = w.meaning; is_meant = w.is_meant.2; is_written = w.is_written }) in
      let p = each-permuted (λ v. AllowedWord (Means v) F) items vs moved b.1 b.4 in
      let number : LengthWord s (length vs) b.0 = subst (λ n. LengthWord s n b.0) (sym (length_permutation items vs moved)) b.3 in
      (b.0 ++ p.0, (b.0, p.0, refl, number, p.1), omega (arith, length-append b.0 p.0, length-append b.0 b.1, p.2, ap length b.2))

  -- so if it has a word, it has one in its own order
  pub bag-list : (vs : List A) (bytes : List ℕ) → AllowedWord (IsMadeOf MakesBag Means vs) (list s share F) bytes → (word : List ℕ) × AllowedWord (IsListOf Means vs) (list s share F) word
  bag-list vs bytes w = let p = in_order vs bytes w in (p.0, each-list Means s share F vs p.0 p.1)

  -- its words have one length, if those of each value have
  pub bag-one_length : (P : A → Type 0) → ((v : A) → P v → OneLength (AllowedWord (Means v) F)) → (vs : List A) → All P vs → OneLength (AllowedWord (IsMadeOf MakesBag Means vs) (list s share F))
  bag-one_length P f vs h x y a b =
      let p = in_order vs x a in
      let q = in_order vs y b in
      sym p.2 ∙ both-one_length _ _ (length-one_length s (length vs)) (each-one_length _ P vs f h) p.0 q.0 p.1 q.1 ∙ q.2

  -- no word that decodes to what it decodes to is shorter, if none of a value is
  module _ (DecodesTo : A → Meaning → Type 0) where
    -- a word of items in another order is as long
    moved_read : (vs ws : List A) → IsPermutation vs ws → (bytes : List ℕ) → ReadsAs (IsListOf DecodesTo vs) (list s share F) bytes →
        (other : List ℕ) × ReadsAs (IsListOf DecodesTo ws) (list s share F) other × (length other ≡ length bytes)
    moved_read vs ws moved bytes r =
        let b = list-reads DecodesTo share F s vs bytes r in
        let p = each-permuted (λ v. ReadsAs (DecodesTo v) F) vs ws moved b.1 b.4 in
        let number = subst (λ n. ReadsAs (IsNumber (pos n)) (natural_number (len s)) b.0) (sym (length_permutation vs ws moved)) b.3 in
        (b.0 ++ p.0, reads-list DecodesTo share F s ws (b.0 ++ p.0) (b.0, p.0, refl, number, p.1), omega (arith, length-append b.0 p.0, length-append b.0 b.1, p.2, ap length b.2))

    pub bag-shortest : (P : A → Type 0) → ((v w : A) → P v → IsShortest (Means v) (DecodesTo w) F) → (vs ws : List A) → All P vs →
        IsShortest (IsMadeOf MakesBag Means vs) (IsMadeOf MakesBag DecodesTo ws) (list s share F)
    bag-shortest P least vs ws h written bytes m steps w below u i =
        let meant = w.is_meant.0 in
        let given = w.is_meant.1 in
        let moved = IsPermutation-trans i.0 ws given.0 i.1 (IsPermutation-sym given.0 ws given.1) in
        let r = moved_read i.0 given.0 moved bytes (record { meaning = m; steps = steps; are_bytes = below; is_word = u; is_decoded = i.2 }) in
        let all : All P meant.0 = All-permutation P vs meant.0 (IsPermutation-sym meant.0 vs meant.1) h in
        let l = list-shortest Means s share F DecodesTo P least meant.0 given.0 all written r.0 r.1.meaning r.1.steps
        (record { meaning = w.meaning; is_meant = (meant.2, given.2); is_written = w.is_written }) r.1.are_bytes r.1.is_word r.1.is_decoded in
        omega (arith, l, r.2)
