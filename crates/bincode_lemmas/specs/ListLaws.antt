-- Length-prefixed lists are lawful; what they allow, from what their values allow.
use Rattle.std.specs.Prelude.{◌≡◌, ℕ, zero, suc, ◌<◌, ◌^◌, pos, Result, Ok, List, [], ◌∷◌, ◌++◌, length, refl}
use Rattle.std.specs.List.{All}
use Rattle.std.proofs.Common.{sym, ◌∙◌, ap, subst, arith, append-nil}
use Rattle.std.proofs.lemmas.List.Elements.{All-append}
use Rattle.bincode_base.specs.Setting.{Setting}
use Rattle.bincode_base.specs.declared.error.IntegerType.TheVariants.{U64}
use Rattle.bincode_spec.specs.Fault.{Fault}
use Rattle.bincode_spec.specs.Charge.{Step, Reserve}
use Rattle.bincode_spec.specs.Format.{Format, pure, step, ◌>>=◌, without_count, elements, sequence}
use Rattle.bincode_spec.specs.Layers.Laws.{IsLawful, IsBalanced}
use Rattle.bincode_spec.specs.Integers.{Eight}
use Rattle.bincode_spec.specs.Meaning.{Meaning, Number, IsNumber, list_meaning}
use Rattle.bincode_spec.specs.Words.{natural_number, len, array, list}
use Rattle.bincode_spec.specs.Allowed.{AllowedWord, SomeWord, OneLength, NoneShorter, IsShortest}
use Rattle.bincode_lemmas.specs.Sequences.{Both}
use Rattle.bincode_spec.specs.Cells.{HasWord}
use Rattle.bincode_spec.specs.Run.{IsListOf}
use Rattle.bincode_lemmas.specs.Sequences.{AllowsEach}
use Rattle.bincode_spec.specs.Layers.Meanings.{LengthWord}
use Rattle.bincode_spec.specs.Collections.{AreValid}
use Rattle.bincode_lemmas.specs.FormatLaws.{turn-lawful}
use Rattle.bincode_lemmas.specs.Balance.{turn-holds}
use Rattle.bincode_lemmas.specs.IntegerLaws.{unsigned-lawful, unsigned-balanced, unsigned-least}
use Rattle.bincode_lemmas.specs.WordsLaws.{array-lawful, array-balanced}
use Rattle.bincode_lemmas.specs.AllowedLaws.{written-map, natural-allows, allowed-natural, natural-one, alone-one_length, same-one_length, both-one_length, allowed-unsigned}
use Rattle.bincode_lemmas.specs.CellLaws.{word-held}
use Rattle.bincode_lemmas.specs.SpelledLaws.{word-from_result, from_result-word, unsigned-spelled, number-none_shorter, parts-no_longer}
use Rattle.bincode_lemmas.specs.RunAllowedLaws.{array-allows, allowed-array, each-has_word, each-one_length, array-shortest}

-- lengths

pub length-has_word : (s : Setting) (n : ℕ) → n < 2 ^ 64 → SomeWord (LengthWord s n)
length-has_word s n h = (unsigned-spelled U64 8 n s (omega (arith, h))).has_word

pub length-one_length : (s : Setting) (n : ℕ) → OneLength (LengthWord s n)
length-one_length s n = alone-one_length _ _ (allowed-unsigned U64 8 n s)

pub length-none_shorter : (s : Setting) (n : ℕ) → NoneShorter (IsNumber (pos n)) (IsNumber (pos n)) (natural_number (len s))
length-none_shorter s n = number-none_shorter pos natural-one (len s) n (unsigned-least U64 8 n s)

-- how many items there are

pub is_list-length : {A : Type 0} (Is : A → Meaning → Type 0) (vs : List A) (ms : List Meaning) → IsListOf Is vs (list_meaning ms) → length vs ≡ length ms
is_list-length Is [] [] h = refl
is_list-length Is [] (m ∷ ms) h = absurd (cc)
is_list-length Is (v ∷ vs) [] h = let e = h.meaning_is in absurd (cc)
is_list-length Is (v ∷ vs) (m ∷ ms) h =
    let e = h.meaning_is in
    let b : h.others ≡ list_meaning ms = cc in
    let l = is_list-length Is vs ms (subst (IsListOf Is vs) b h.are_others) in
    omega (arith, l)

module _ (share : ℕ) (F : Format Meaning) where
  elements_written : (n : ℕ) (bytes : List ℕ) (ms : List Meaning) → (elements n share F).Written bytes ms → length ms ≡ n
  unfolding pure step ◌>>=◌ without_count
  elements_written zero bytes ms w = ap length w.1
  elements_written (suc n) bytes ms w =
      let u = w.second_written in
      let t = written-map (λ others. u.head ∷ others) (elements n share F) u.second ms u.second_written in
      let l = elements_written n u.second t.0 t.2 in
      omega (arith, l, ap length t.1)

  elements_word : (n : ℕ) (bytes : List ℕ) (ms : List Meaning) (steps : List Step) → (elements n share F).Word bytes ms steps → length ms ≡ n
  unfolding pure step ◌>>=◌ without_count
  elements_word zero bytes ms steps w = ap length w.1
  elements_word (suc n) bytes ms steps w =
      let u = w.second_word in
      let t = word-from_result (λ others. Ok (u.head ∷ others)) (elements n share F) u.second ms u.second_steps u.second_word in
      let q : u.head ∷ t.0 ≡ ms = cc t.2 in
      let l = elements_word n u.second t.0 t.1 t.3 in
      omega (arith, l, ap length (sym q))

  -- as many as the array has
  pub array-written_length : {A : Type 0} (Is : A → Meaning → Type 0) (vs : List A) (n : ℕ) (bytes : List ℕ) (m : Meaning) → (array n share F).Written bytes m → IsListOf Is vs m → length vs ≡ n
  unfolding step ◌>>=◌
  array-written_length Is vs n bytes m w h =
      let t = written-map list_meaning (sequence n share F) bytes m w in
      is_list-length Is vs t.0 (subst (IsListOf Is vs) t.1 h) ∙ elements_written n t.2.second t.0 t.2.second_written

  pub array-word_length : {A : Type 0} (Is : A → Meaning → Type 0) (vs : List A) (n : ℕ) (bytes : List ℕ) (m : Meaning) (steps : List Step) →
      (array n share F).Word bytes m steps → IsListOf Is vs m → length vs ≡ n
  unfolding step ◌>>=◌
  array-word_length Is vs n bytes m steps w h =
      let t = word-from_result (λ ms. Ok (list_meaning ms)) (sequence n share F) bytes m steps w in
      let q : ◌≡◌ {A = Result Meaning Fault} (Ok (list_meaning t.0)) (Ok m) = t.2 in
      let k : m ≡ list_meaning t.0 = cc in
      is_list-length Is vs t.0 (subst (IsListOf Is vs) k h) ∙ elements_word n t.3.second t.0 t.3.second_steps t.3.second_word

-- lists are lawful
pub list-lawful : (s : Setting) (share : ℕ) (F : Format Meaning) → IsLawful F → IsLawful (list s share F)
list-lawful s share F f = turn-lawful (len s) (λ n. array n share F) (unsigned-lawful U64 8 s (Eight refl)) (λ n. array-lawful n share F f)

pub list-balanced : (s : Setting) (share : ℕ) (F : Format Meaning) → IsBalanced F → IsBalanced (list s share F)
list-balanced s share F f = turn-holds 0 0 0 (len s) (λ n. array n share F) (unsigned-balanced U64 8 s) (λ n. array-balanced n share F f)

module _ {A : Type 0} (Means : A → Meaning → Type 0) (s : Setting) (share : ℕ) (F : Format Meaning) where
  -- a list allows what is written for its length, then what its array allows
  pub list-allows : (vs : List A) (bytes : List ℕ) → Both (LengthWord s (length vs)) (AllowedWord (IsListOf Means vs) (array (length vs) share F)) bytes →
      AllowedWord (IsListOf Means vs) (list s share F) bytes
  unfolding ◌>>=◌
  list-allows vs bytes b = record {
    meaning = b.4.meaning;
    is_meant = b.4.is_meant;
    is_written = record {
      first = b.0;
      second = b.1;
      head = length vs;
      bytes_are = b.2;
      first_written = allowed-natural (len s) b.0 (length vs) b.3;
      second_written = b.4.is_written;
    };
  }

  pub allowed-list : (vs : List A) (bytes : List ℕ) → AllowedWord (IsListOf Means vs) (list s share F) bytes →
      Both (LengthWord s (length vs)) (AllowedWord (IsListOf Means vs) (array (length vs) share F)) bytes
  unfolding ◌>>=◌
  allowed-list vs bytes w =
      let u = w.is_written in
      let n : length vs ≡ u.head = array-written_length share F Means vs u.head u.second w.meaning u.second_written w.is_meant in
      let first = natural-allows (len s) u.first (length vs) (subst (λ k. (len s).Written u.first k) (sym n) u.first_written) in
      let second : AllowedWord (IsListOf Means vs) (array (length vs) share F) u.second =
      record { meaning = w.meaning; is_meant = w.is_meant; is_written = subst (λ k. (array k share F).Written u.second w.meaning) (sym n) u.second_written } in
      (u.first, u.second, u.bytes_are, first, second)

  -- and then what its values do in turn
  pub each-list : (vs : List A) (bytes : List ℕ) → Both (LengthWord s (length vs)) (AllowsEach (λ v. AllowedWord (Means v) F) vs) bytes → AllowedWord (IsListOf Means vs) (list s share F) bytes
  each-list vs bytes b = list-allows vs bytes (b.0, b.1, b.2, b.3, array-allows Means share F (length vs) vs b.1 refl b.4)

  pub list-each : (vs : List A) (bytes : List ℕ) → AllowedWord (IsListOf Means vs) (list s share F) bytes → Both (LengthWord s (length vs)) (AllowsEach (λ v. AllowedWord (Means v) F) vs) bytes
  list-each vs bytes w = let b = allowed-list vs bytes w in (b.0, b.1, b.2, b.3, allowed-array Means share F (length vs) vs b.1 refl b.4)

  -- it has a word, if each of its values has
  pub list-has_word : (P Q : A → Type 0) → ((v : A) → P v → Q v → SomeWord (AllowedWord (Means v) F)) → (vs : List A) → AreValid P vs → All Q vs →
      SomeWord (AllowedWord (IsListOf Means vs) (list s share F))
  list-has_word P Q f vs h k =
      let n = length-has_word s (length vs) h.0 in
      let x = each-has_word _ P Q vs f h.1 k in
      record {
        bytes = n.bytes ++ x.bytes;
        are_bytes = All-append (λ b. b < 256) n.bytes x.bytes n.are_bytes x.are_bytes;
        is_allowed = each-list vs (n.bytes ++ x.bytes) (n.bytes, x.bytes, refl, n.is_allowed, x.is_allowed);
      }

  -- its words have one length, if those of each value have
  pub list-one_length : (P : A → Type 0) → ((v : A) → P v → OneLength (AllowedWord (Means v) F)) → (vs : List A) → All P vs → OneLength (AllowedWord (IsListOf Means vs) (list s share F))
  list-one_length P f vs h = same-one_length _ _ (list-each vs) (both-one_length _ _ (length-one_length s (length vs)) (each-one_length _ P vs f h))

  -- no word that decodes to what it decodes to is shorter, if none of a value is
  pub list-shortest : (DecodesTo : A → Meaning → Type 0) (P : A → Type 0) → ((v w : A) → P v → IsShortest (Means v) (DecodesTo w) F) → (vs ws : List A) → All P vs →
      IsShortest (IsListOf Means vs) (IsListOf DecodesTo ws) (list s share F)
  unfolding ◌>>=◌
  list-shortest DecodesTo P least vs ws h written bytes m steps w below u i =
      let x = w.is_written in
      let n : length vs ≡ x.head = array-written_length share F Means vs x.head x.second w.meaning x.second_written w.is_meant.0 in
      let k : length ws ≡ x.head = array-written_length share F DecodesTo ws x.head x.second w.meaning x.second_written w.is_meant.1 in
      let l : length ws ≡ u.head = array-word_length share F DecodesTo ws u.head u.second m u.second_steps u.second_word i in
      let same : x.head ≡ u.head = sym k ∙ l in
      let word : (natural_number (len s)).Word u.first (Number (pos u.head)) u.first_steps =
      from_result-word (λ k. Ok (Number (pos k))) (len s) u.first u.head (Number (pos u.head)) u.first_steps refl u.first_word in
      let second : AllowedWord (λ m. IsListOf Means vs m × IsListOf DecodesTo ws m) (array x.head share F) x.second =
      record { meaning = w.meaning; is_meant = w.is_meant; is_written = x.second_written } in
      parts-no_longer written bytes x.first x.second u.first u.second x.bytes_are u.bytes_are below
      (λ b. length-none_shorter s u.head x.first u.first (Number (pos u.head)) u.first_steps
      (natural-allows (len s) x.first u.head (subst (λ k. (len s).Written x.first k) same x.first_written)) b word refl)
      (λ b. array-shortest Means DecodesTo share F P least x.head vs ws n h x.second u.second m u.second_steps second b
      (subst (λ k. (array k share F).Word u.second m u.second_steps) (sym same) u.second_word) i)

no_elements : (share : ℕ) (F : Format Meaning) → (steps : List Step) × (array 0 share F).Word [] (list_meaning []) steps
unfolding pure step ◌>>=◌
no_elements share F =
    let run : (sequence 0 share F).Word [] [] (Reserve 0 share ∷ []) =
    record {
      first = [];
      second = [];
      head = tt;
      first_steps = Reserve 0 share ∷ [];
      second_steps = [];
      bytes_are = refl;
      steps_are = refl;
      first_word = (refl, refl);
      second_word = (refl, refl, refl);
    } in
    (Reserve 0 share ∷ [], from_result-word (λ ms. Ok (list_meaning ms)) (sequence 0 share F) [] [] (list_meaning []) (Reserve 0 share ∷ []) refl run)

-- a list may be empty
pub list-some_word : (s : Setting) (share : ℕ) (F : Format Meaning) → HasWord (list s share F)
unfolding ◌>>=◌
list-some_word s share F =
    let n = length-has_word s 0 (omega arith) in
    let f = (unsigned-lawful U64 8 s (Eight refl)).written_is_word n.bytes 0 (allowed-natural (len s) n.bytes 0 n.is_allowed) in
    let a = no_elements share F in
    word-held (list s share F) (n.bytes ++ []) (list_meaning []) (f.0 ++ a.0)
    (rw (append-nil n.bytes) n.are_bytes)
    (record { first = n.bytes; second = []; head = 0; first_steps = f.0; second_steps = a.0; bytes_are = refl; steps_are = refl; first_word = f.1; second_word = a.1 })
