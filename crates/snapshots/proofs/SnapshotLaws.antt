-- What is read of the bytes of a snapshot.
use Rattle.std.specs.Prelude.{◌≡◌, ◌^◌, ◌<◌, ◌≤◌, ◌++◌, ℕ, List, [], length, take, drop, Option, Bool, true, Err}
use Rattle.std.specs.Int.{w64, from_le_bytes, to_le_bytes}
use Rattle.std.proofs.Common.{◌∙◌, ap, sym, subst, arith, inl, inr, append-nil, length-append}
use Rattle.std.proofs.Math.Seq.{take-append_seam, drop-append_seam}
use Rattle.std.proofs.lemmas.List.{drop-drop, take-append-drop}
use Rattle.std.proofs.lemmas.Nat.{from_le_bytes-to_le_bytes_8}
use Rattle.sha2.specs.Sha256.{sha256}
use Rattle.sha2.proofs.Facts256.{length-sha256}
use Rattle.bincode_base.specs.Setting.{Setting}
use Rattle.bincode_base.specs.declared.error.DecodeError.{DecodeError}
use Rattle.bincode_base.specs.declared.error.DecodeError.TheVariants.{Memory}
use Rattle.bincode_spec.specs.Allowed.{AllowedWord}
use Rattle.bincode_spec.specs.Format.{Format}
use Rattle.bincode_spec.specs.Layers.Laws.{IsLawful}
use Rattle.bincode_spec.specs.Meaning.{Meaning}
use Rattle.bincode_spec.specs.Slice.{IsDecoded, FindsWords}
use Rattle.bincode_lemmas.specs.FormatLaws.{one-word}
use Rattle.bincode_types.specs.TypeLaws.{ExactWords}
use Rattle.bincode_types.specs.TypeWords.{Words}
use Rattle.framed_store.specs.Appended.{IsEntry}
use Rattle.snapshots.specs.Snapshots.{counted_word, snapshot, IsSnapshot, IsLoaded, DigestFits, HoldsState, IsHeaderFault, IsStateFault, IsLoadFault, IsNoMemory, FitsLimits}
use Rattle.snapshots.specs.declared.snapshot.LoadError.{LoadError}
use Rattle.snapshots.specs.declared.snapshot.LoadError.TheVariants as failures

-- the parts of bytes with a header that fits
pub holds-state : (bytes : List ℕ) (commands : ℕ) (word : List ℕ) → 40 ≤ length bytes → take 32 bytes ≡ sha256 (drop 32 bytes) → commands < 2 ^ 64 → to_le_bytes w64 commands ≡ take 8 (drop 32 bytes) →
    word ≡ drop 8 (drop 32 bytes) → HoldsState bytes commands word
holds-state bytes commands word there fits small count behind =
    let body : counted_word commands word ≡ drop 32 bytes = ap (λ z. z ++ word) count ∙ ap (λ z. take 8 (drop 32 bytes) ++ z) behind ∙ take-append-drop 8 (drop 32 bytes) in
    let whole : snapshot commands word ≡ bytes = ap (λ z. sha256 z ++ z) body ∙ ap (λ z. z ++ drop 32 bytes) (sym fits) ∙ take-append-drop 32 bytes in
    ((there, fits), small, sym whole, behind ∙ drop-drop 8 32 bytes)

-- the bytes of a snapshot after its digest, and its digest
after-digest : (commands : ℕ) (word : List ℕ) → drop 32 (snapshot commands word) ≡ counted_word commands word
after-digest commands word =
    subst (λ n. drop n (snapshot commands word) ≡ counted_word commands word) (length-sha256 (counted_word commands word)) (drop-append_seam (sha256 (counted_word commands word)) (counted_word commands word))

the-digest : (commands : ℕ) (word : List ℕ) → take 32 (snapshot commands word) ≡ sha256 (counted_word commands word)
the-digest commands word =
    subst (λ n. take n (snapshot commands word) ≡ sha256 (counted_word commands word)) (length-sha256 (counted_word commands word)) (take-append_seam (sha256 (counted_word commands word)) (counted_word commands word))

-- a snapshot has a digest that fits
snapshot-fits : (commands : ℕ) (word : List ℕ) → DigestFits (snapshot commands word)
snapshot-fits commands word =
    let digest = length-sha256 (counted_word commands word) in
    let all = length-append (sha256 (counted_word commands word)) (counted_word commands word) in
    let body = length-append (to_le_bytes w64 commands) word in
    (omega (arith, digest, all, body), the-digest commands word ∙ ap sha256 (sym (after-digest commands word)))

-- a snapshot has one number of commands and one word
one-snapshot : (m n : ℕ) (word other : List ℕ) → m < 2 ^ 64 → n < 2 ^ 64 → snapshot m word ≡ snapshot n other → (m ≡ n) × (word ≡ other)
one-snapshot m n word other small below same =
    let body : counted_word m word ≡ counted_word n other = sym (after-digest m word) ∙ ap (drop 32) same ∙ after-digest n other in
    let fields : to_le_bytes w64 m ≡ to_le_bytes w64 n = sym (take-append_seam (to_le_bytes w64 m) word) ∙ ap (take 8) body ∙ take-append_seam (to_le_bytes w64 n) other in (
      sym (from_le_bytes-to_le_bytes_8 m small) ∙ ap (from_le_bytes w64) fields ∙ from_le_bytes-to_le_bytes_8 n below,
      sym (drop-append_seam (to_le_bytes w64 m) word) ∙ ap (drop 8) body ∙ drop-append_seam (to_le_bytes w64 n) other,
    )

-- no other header is told of a snapshot
no-header-fault : (commands : ℕ) (word bytes : List ℕ) → bytes ≡ snapshot commands word → (e : LoadError) → IsHeaderFault bytes e → ⊥
no-header-fault commands word bytes are failures.Short h = let fits = (subst DigestFits (sym are) (snapshot-fits commands word)).0 in omega (arith, fits, h)
no-header-fault commands word bytes are failures.Damaged h = h.1 (subst DigestFits (sym are) (snapshot-fits commands word)).1
no-header-fault commands word bytes are (failures.Undecodable _) h = h
no-header-fault commands word bytes are (failures.Longer _) h = h
no-header-fault commands word bytes are (failures.Memory _) h = h

module _ {A : Type 0} (W : Words A) (s : Setting) (limit : Option ℕ) where
  abbrev F : Format Meaning
  F = W.format s

  f : IsLawful F
  f = W.lawful s

  module _ (state : A) (word : List ℕ) (entry : IsEntry W s limit state word) where
    -- decoding a state's word gives an equal state
    equal-state : (eq : A → A → Bool) → ExactWords W eq → (other : A) → IsDecoded F limit word (λ m. W.decodes_to m other) (length word) → eq state other ≡ true
    equal-state eq exact other d =
        let w = entry.is_written in
        let u = f.written_is_word word w.meaning w.is_written in
        let one = one-word f word d.word [] d.remaining w.meaning d.meaning u.0 d.steps u.1 d.is_word (append-nil word ∙ d.input_is) in
        exact.comes_back state other w.meaning entry.is_valid w.is_meant (subst (λ z. W.decodes_to z other) (sym one.1) d.is_decoded)

    -- it fails only with `Memory`
    no-state-fault : (e : LoadError) → IsStateFault F limit word e → IsNoMemory e
    no-state-fault failures.Short h = h
    no-state-fault failures.Damaged h = h
    no-state-fault (failures.Undecodable why) h =
        let w = entry.is_written in
        let u = f.written_is_word word w.meaning w.is_written in
        absurd (h.no_word word [] w.meaning u.0 (sym (append-nil word)) u.1 (entry.is_within w.meaning u.0 u.1))
    no-state-fault (failures.Longer taken) h =
        let d = h.0 in
        let w = entry.is_written in
        let u = f.written_is_word word w.meaning w.is_written in
        let one = one-word f word d.word [] d.remaining w.meaning d.meaning u.0 d.steps u.1 d.is_word (append-nil word ∙ d.input_is) in
        let same : length word ≡ length d.word = ap length one.0 in
        let count = d.count in
        let fewer = h.1 in
        absurd (omega (arith, same, count, fewer))
    no-state-fault (failures.Memory _) h = tt

  -- what was saved is loaded: its number, and an equal state
  pub loaded-back : (eq : A → A → Bool) → ExactWords W eq → (commands : ℕ) (state : A) (bytes : List ℕ) → commands < 2 ^ 64 → IsSnapshot W s limit commands state bytes → (n : ℕ) (other : A) → n < 2 ^ 64 →
      IsLoaded F limit W.decodes_to bytes n other → (n ≡ commands) × (eq state other ≡ true)
  loaded-back eq exact commands state bytes small saved n other below loaded =
      let one = one-snapshot n commands loaded.word saved.word below small (sym loaded.bytes_are ∙ saved.bytes_are) in
      (one.0, equal-state state saved.word saved.is_entry eq exact other (subst (λ z. IsDecoded F limit z (λ m. W.decodes_to m other) (length z)) one.1 loaded.is_word))

  pub not-loaded-back : (commands : ℕ) (state : A) (bytes : List ℕ) → IsSnapshot W s limit commands state bytes → (e : LoadError) → IsLoadFault F limit bytes e → IsNoMemory e
  not-loaded-back commands state bytes saved e (inl h) = absurd (no-header-fault commands saved.word bytes saved.bytes_are e h)
  not-loaded-back commands state bytes saved e (inr h) =
      let body : drop 32 bytes ≡ counted_word commands saved.word = ap (drop 32) saved.bytes_are ∙ after-digest commands saved.word in
      let behind : drop 40 bytes ≡ saved.word = sym (drop-drop 8 32 bytes) ∙ ap (drop 8) body ∙ drop-append_seam (to_le_bytes w64 commands) saved.word in
      no-state-fault state saved.word saved.is_entry e (subst (λ z. IsStateFault F limit z e) behind h.1)

-- if words fit the limit, decoding one again fails only with `Memory`
pub read-memory : {A : Type 0} (W : Words A) (s : Setting) (limit : Option ℕ) (state : A) (word : List ℕ) → AllowedWord (W.means state) (W.format s) word → (MayAllocate : Type 0) (e : DecodeError) →
    FindsWords {A = Unit {0}} (W.format s) limit MayAllocate word (Err e) → FitsLimits W s limit state → e ≡ Memory
read-memory W s limit state word allowed MayAllocate e found fits =
    let u = (W.lawful s).written_is_word word allowed.meaning allowed.is_written in
    (found word [] allowed.meaning u.0 (sym (append-nil word)) u.1 (fits word allowed allowed.meaning u.0 u.1)).1
