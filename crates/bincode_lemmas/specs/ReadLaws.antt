-- What words of lists decode to, from what words of their values decode to.
use Rattle.std.specs.Prelude.{◌≡◌, ℕ, ◌<◌, ◌≤◌, ◌^◌, ◌⊎◌, pos, Result, Ok, List, [], ◌∷◌, ◌++◌, length, refl}
use Rattle.std.specs.List.{All}
use Rattle.std.proofs.Common.{sym, ◌∙◌, ap, subst, inl, inr, arith, append-nil, length-append}
use Rattle.std.proofs.Math.Seq.{take-append_seam, drop-append_seam}
use Rattle.std.proofs.lemmas.Bool.{cases_lt}
use Rattle.std.proofs.lemmas.List.Elements.{All-nil, All-append, All-take, All-drop}
use Rattle.bincode_base.specs.declared.config.Endianness.{Endianness}
use Rattle.bincode_base.specs.declared.config.IntEncoding.{IntEncoding}
use Rattle.bincode_base.specs.declared.config.IntEncoding.TheVariants.{Fixed, Variable}
use Rattle.bincode_base.specs.declared.error.IntegerType.TheVariants.{U64}
use Rattle.bincode_base.specs.Setting.{Setting}
use Rattle.bincode_spec.specs.Fault.{Fault}
use Rattle.bincode_spec.specs.Charge.{Step, Reserve, Release}
use Rattle.bincode_spec.specs.Format.{Format, pure, step, ◌>>=◌, without_count, map_format, elements, sequence}
use Rattle.bincode_spec.specs.Integers.{Two, Four, Eight, number_by, unsigned_integer, unsigned_tag, shortest_word, spelling}
use Rattle.bincode_spec.specs.Meaning.{Meaning, Nothing, Then, Number, IsNumber, IsNothing, IsThen, list_meaning}
use Rattle.bincode_spec.specs.Words.{natural_number, len, nothing, first_and, array, list}
use Rattle.bincode_lemmas.specs.Sequences.{Both}
use Rattle.bincode_spec.specs.Run.{IsListOf}
use Rattle.bincode_lemmas.specs.Sequences.{AllowsEach}
use Rattle.bincode_lemmas.specs.AllowedLaws.{natural-one, allowed-natural, allowed-unsigned}
use Rattle.bincode_lemmas.specs.DigitLaws.{length-digits_of}
use Rattle.bincode_lemmas.specs.IntegerLaws.{word-charged, unsigned-lawful, spelling-least, length-shortest, shortest-1, shortest-3, shortest-5, shortest-9, shortest-17}
use Rattle.bincode_lemmas.specs.SpelledLaws.{word-from_result, from_result-word}
use Rattle.bincode_lemmas.specs.ListLaws.{length-has_word, array-word_length}

-- a word of bytes that decodes to what is given
pub record ReadsAs (DecodesTo : Meaning → Type 0) (F : Format Meaning) (bytes : List ℕ) : Type 0 where
  pub meaning : Meaning
  pub steps : List Step
  pub are_bytes : All (λ b. b < 256) bytes
  pub is_word : F.Word bytes meaning steps
  pub is_decoded : DecodesTo meaning

-- bytes in two parts are those of each part
module _ (bytes x y : List ℕ) (e : bytes ≡ x ++ y) (h : All (λ b. b < 256) bytes) where
  first_bytes : All (λ b. b < 256) x
  first_bytes = subst (All (λ b. b < 256)) (take-append_seam x y) (All-take (λ b. b < 256) (length x) (x ++ y) (subst (All (λ b. b < 256)) e h))

  second_bytes : All (λ b. b < 256) y
  second_bytes = subst (All (λ b. b < 256)) (drop-append_seam x y) (All-drop (λ b. b < 256) (length x) (x ++ y) (subst (All (λ b. b < 256)) e h))

-- a run, value by value

module _ {A : Type 0} (DecodesTo : A → Meaning → Type 0) (share : ℕ) (F : Format Meaning) where
  elements_read : (vs : List A) (bytes : List ℕ) (ms : List Meaning) (steps : List Step) → All (λ b. b < 256) bytes → IsListOf DecodesTo vs (list_meaning ms) →
      (elements (length vs) share F).Word bytes ms steps → AllowsEach (λ v. ReadsAs (DecodesTo v) F) vs bytes
  unfolding pure step ◌>>=◌ without_count
  elements_read [] bytes ms steps h i w = w.0
  elements_read (v ∷ vs) bytes ms steps h i w =
      let u = w.second_word in
      let t = word-from_result (λ others. Ok (u.head ∷ others)) (elements (length vs) share F) u.second ms u.second_steps u.second_word in
      let q : u.head ∷ t.0 ≡ ms = cc t.2 in
      let e : Then i.first i.others ≡ Then u.head (list_meaning t.0) = sym i.meaning_is ∙ ap list_meaning (sym q) in
      let a : i.first ≡ u.head = cc in
      let b : i.others ≡ list_meaning t.0 = cc in
      let p : bytes ≡ u.first ++ u.second = w.bytes_are ∙ ap (λ z. z ++ w.second) w.first_word.0 ∙ u.bytes_are in (
        u.first,
        u.second,
        p,
        record { meaning = u.head; steps = u.first_steps; are_bytes = first_bytes bytes u.first u.second p h; is_word = u.first_word; is_decoded = subst (DecodesTo v) a i.is_first },
        elements_read vs u.second t.0 t.1 (second_bytes bytes u.first u.second p h) (subst (IsListOf DecodesTo vs) b i.are_others) t.3,
      )

  read_elements : (vs : List A) (bytes : List ℕ) → AllowsEach (λ v. ReadsAs (DecodesTo v) F) vs bytes →
      (ms : List Meaning) × (steps : List Step) × All (λ b. b < 256) bytes × IsListOf DecodesTo vs (list_meaning ms) × (elements (length vs) share F).Word bytes ms steps
  unfolding pure step ◌>>=◌ without_count
  read_elements [] bytes a = ([], [], subst (All (λ b. b < 256)) (sym a) (All-nil (λ b. b < 256)), refl, (a, refl, refl))
  read_elements (v ∷ vs) bytes (x, y, e, a, c) =
      let p = read_elements vs y c in
      let others : (map_format (λ others. a.meaning ∷ others) (elements (length vs) share F)).Word y (a.meaning ∷ p.0) p.1 =
      from_result-word (λ others. Ok (a.meaning ∷ others)) (elements (length vs) share F) y p.0 (a.meaning ∷ p.0) p.1 refl p.4 in (
        a.meaning ∷ p.0,
        Release share ∷ (a.steps ++ p.1),
        subst (All (λ b. b < 256)) (sym e) (All-append (λ b. b < 256) x y a.are_bytes p.2),
        record { first = a.meaning; others = list_meaning p.0; meaning_is = refl; is_first = a.is_decoded; are_others = p.3 },
        record {
          first = [];
          second = bytes;
          head = tt;
          first_steps = Release share ∷ [];
          second_steps = a.steps ++ p.1;
          bytes_are = refl;
          steps_are = refl;
          first_word = (refl, refl);
          second_word = record { first = x; second = y; head = a.meaning; first_steps = a.steps; second_steps = p.1; bytes_are = e; steps_are = refl; first_word = a.is_word; second_word = others };
        },
      )

  -- and so are arrays
  array_read : (n : ℕ) (vs : List A) (bytes : List ℕ) → length vs ≡ n → ReadsAs (IsListOf DecodesTo vs) (array n share F) bytes → AllowsEach (λ v. ReadsAs (DecodesTo v) F) vs bytes
  unfolding step ◌>>=◌
  array_read n vs bytes e r =
      let t = word-from_result (λ ms. Ok (list_meaning ms)) (sequence n share F) bytes r.meaning r.steps r.is_word in
      let q : ◌≡◌ {A = Result Meaning Fault} (Ok (list_meaning t.0)) (Ok r.meaning) = t.2 in
      let k : r.meaning ≡ list_meaning t.0 = cc in
      let u = t.3 in
      let p : bytes ≡ u.second = u.bytes_are ∙ ap (λ z. z ++ u.second) u.first_word.0 in
      let w : (elements (length vs) share F).Word u.second t.0 u.second_steps = subst (λ j. (elements j share F).Word u.second t.0 u.second_steps) (sym e) u.second_word in
      subst (AllowsEach (λ v. ReadsAs (DecodesTo v) F) vs) (sym p)
      (elements_read vs u.second t.0 u.second_steps (subst (All (λ b. b < 256)) p r.are_bytes) (subst (IsListOf DecodesTo vs) k r.is_decoded) w)

  read_array : (vs : List A) (bytes : List ℕ) → AllowsEach (λ v. ReadsAs (DecodesTo v) F) vs bytes → ReadsAs (IsListOf DecodesTo vs) (array (length vs) share F) bytes
  unfolding step ◌>>=◌
  read_array vs bytes a =
      let p = read_elements vs bytes a in
      let steps = Reserve (length vs) share ∷ p.1 in
      let run : (sequence (length vs) share F).Word bytes p.0 steps =
      record {
        first = [];
        second = bytes;
        head = tt;
        first_steps = Reserve (length vs) share ∷ [];
        second_steps = p.1;
        bytes_are = refl;
        steps_are = refl;
        first_word = (refl, refl);
        second_word = p.4;
      } in
      record {
        meaning = list_meaning p.0;
        steps = steps;
        are_bytes = p.2;
        is_word = from_result-word (λ ms. Ok (list_meaning ms)) (sequence (length vs) share F) bytes p.0 (list_meaning p.0) steps refl run;
        is_decoded = p.3;
      }

  -- a word of a list is one of its length, then one of each value
  module _ (s : Setting) where
    pub list-reads : (vs : List A) (bytes : List ℕ) → ReadsAs (IsListOf DecodesTo vs) (list s share F) bytes →
        Both (ReadsAs (IsNumber (pos (length vs))) (natural_number (len s))) (AllowsEach (λ v. ReadsAs (DecodesTo v) F) vs) bytes
    unfolding ◌>>=◌
    list-reads vs bytes r =
        let u = r.is_word in
        let n : length vs ≡ u.head = array-word_length share F DecodesTo vs u.head u.second r.meaning u.second_steps u.second_word r.is_decoded in
        let number : (natural_number (len s)).Word u.first (Number (pos u.head)) u.first_steps =
        from_result-word (λ k. Ok (Number (pos k))) (len s) u.first u.head (Number (pos u.head)) u.first_steps refl u.first_word in
        let below = first_bytes bytes u.first u.second u.bytes_are r.are_bytes in
        let first : ReadsAs (IsNumber (pos (length vs))) (natural_number (len s)) u.first =
        record { meaning = Number (pos u.head); steps = u.first_steps; are_bytes = below; is_word = number; is_decoded = ap (λ k. Number (pos k)) (sym n) } in
        let second : ReadsAs (IsListOf DecodesTo vs) (array u.head share F) u.second =
        record { meaning = r.meaning; steps = u.second_steps; are_bytes = second_bytes bytes u.first u.second u.bytes_are r.are_bytes; is_word = u.second_word; is_decoded = r.is_decoded } in
        (u.first, u.second, u.bytes_are, first, array_read u.head vs u.second n second)

    pub reads-list : (vs : List A) (bytes : List ℕ) → Both (ReadsAs (IsNumber (pos (length vs))) (natural_number (len s))) (AllowsEach (λ v. ReadsAs (DecodesTo v) F) vs) bytes →
        ReadsAs (IsListOf DecodesTo vs) (list s share F) bytes
    unfolding ◌>>=◌
    reads-list vs bytes (x, y, e, a, c) =
        let t = word-from_result (λ k. Ok (Number (pos k))) (len s) x a.meaning a.steps a.is_word in
        let q : ◌≡◌ {A = Result Meaning Fault} (Ok (Number (pos t.0))) (Ok (Number (pos (length vs)))) = t.2 ∙ ap Ok a.is_decoded in
        let n : t.0 ≡ length vs = natural-one t.0 (length vs) (cc) in
        let r = read_array vs y c in
        record {
          meaning = r.meaning;
          steps = t.1 ++ r.steps;
          are_bytes = subst (All (λ b. b < 256)) (sym e) (All-append (λ b. b < 256) x y a.are_bytes r.are_bytes);
          is_word = record {
            first = x;
            second = y;
            head = length vs;
            first_steps = t.1;
            second_steps = r.steps;
            bytes_are = e;
            steps_are = refl;
            first_word = subst (λ k. (len s).Word x k t.1) n t.3;
            second_word = r.is_word;
          };
          is_decoded = r.is_decoded;
        }

-- a smaller length has a word that is no longer

length_least : (s : Setting) (n : ℕ) (bytes : List ℕ) (steps : List Step) → All (λ b. b < 256) bytes → (len s).Word bytes n steps → length (spelling s.encoding s.order 8 n) ≤ length bytes
unfolding unsigned_integer
length_least s n bytes steps h w =
    let p = word-charged 8 (number_by unsigned_tag U64 s.order 8 s.encoding) bytes n steps w in
    spelling-least unsigned_tag U64 s.order 8 s.encoding bytes n p.0 h p.1

module _ (order : Endianness) (k n : ℕ) (le : k ≤ n) (below : k < 18446744073709551616) where
  shortest_grows : (250 < n) ⊎ (n ≤ 250) → (n < 65536) ⊎ (65536 ≤ n) → (n < 4294967296) ⊎ (4294967296 ≤ n) → (n < 18446744073709551616) ⊎ (18446744073709551616 ≤ n) →
      length (shortest_word order k) ≤ length (shortest_word order n)
  shortest_grows (inr a) b c d = omega (arith, ap length (shortest-1 order n a).0, ap length (shortest-1 order k (omega (arith, a, le))).0)
  shortest_grows (inl a) (inl b) c d =
      omega (arith, ap length (shortest-3 order n a b).0, length-digits_of order 2 n, length-shortest order 2 k (Two refl) (omega (arith, b, le)))
  shortest_grows (inl a) (inr b) (inl c) d =
      omega (arith, ap length (shortest-5 order n b c).0, length-digits_of order 4 n, length-shortest order 4 k (Four refl) (omega (arith, c, le)))
  shortest_grows (inl a) (inr b) (inr c) (inl d) =
      omega (arith, ap length (shortest-9 order n c d).0, length-digits_of order 8 n, length-shortest order 8 k (Eight refl) (omega (arith, d, le)))
  shortest_grows (inl a) (inr b) (inr c) (inr d) =
      omega (arith, ap length (shortest-17 order n d).0, length-digits_of order 16 n, length-shortest order 8 k (Eight refl) (omega (arith, below)))

  spelling_grows : (encoding : IntEncoding) → length (spelling encoding order 8 k) ≤ length (spelling encoding order 8 n)
  spelling_grows Fixed = omega (arith, length-digits_of order 8 k, length-digits_of order 8 n)
  spelling_grows Variable = shortest_grows (cases_lt 250 n) (cases_lt n 65536) (cases_lt n 4294967296) (cases_lt n 18446744073709551616)

pub smaller-length : (s : Setting) (k n : ℕ) → k ≤ n → k < 2 ^ 64 → (bytes : List ℕ) → ReadsAs (IsNumber (pos n)) (natural_number (len s)) bytes →
    (other : List ℕ) × ReadsAs (IsNumber (pos k)) (natural_number (len s)) other × (length other ≤ length bytes)
smaller-length s k n le below bytes r =
    let t = word-from_result (λ k. Ok (Number (pos k))) (len s) bytes r.meaning r.steps r.is_word in
    let q : ◌≡◌ {A = Result Meaning Fault} (Ok (Number (pos t.0))) (Ok (Number (pos n))) = t.2 ∙ ap Ok r.is_decoded in
    let e : t.0 ≡ n = natural-one t.0 n (cc) in
    let least = length_least s n bytes t.1 r.are_bytes (subst (λ j. (len s).Word bytes j t.1) e t.3) in
    let x = length-has_word s k below in
    let w = (unsigned-lawful U64 8 s (Eight refl)).written_is_word x.bytes k (allowed-natural (len s) x.bytes k x.is_allowed) in
    let other : ReadsAs (IsNumber (pos k)) (natural_number (len s)) x.bytes =
    record {
      meaning = Number (pos k);
      steps = w.0;
      are_bytes = x.are_bytes;
      is_word = from_result-word (λ k. Ok (Number (pos k))) (len s) x.bytes k (Number (pos k)) w.0 refl w.1;
      is_decoded = refl;
    } in
    (x.bytes, other, omega (arith, least, spelling_grows s.order k n le (omega (arith, below)) s.encoding, ap length (allowed-unsigned U64 8 k s x.bytes x.is_allowed)))

-- fewer values have a word that is no longer, if some words of theirs are
pub fewer-read : {A : Type 0} (DecodesTo : A → Meaning → Type 0) (share : ℕ) (F : Format Meaning) (s : Setting) (vs ws : List A) → length ws ≤ length vs → length ws < 2 ^ 64 →
    ((bytes : List ℕ) → AllowsEach (λ v. ReadsAs (DecodesTo v) F) vs bytes → (other : List ℕ) × AllowsEach (λ v. ReadsAs (DecodesTo v) F) ws other × (length other ≤ length bytes)) →
    (bytes : List ℕ) → ReadsAs (IsListOf DecodesTo vs) (list s share F) bytes →
    (other : List ℕ) × ReadsAs (IsListOf DecodesTo ws) (list s share F) other × (length other ≤ length bytes)
fewer-read DecodesTo share F s vs ws le below shed bytes r =
    let b = list-reads DecodesTo share F s vs bytes r in
    let x = smaller-length s (length ws) (length vs) le below b.0 b.3 in
    let y = shed b.1 b.4 in (
      x.0 ++ y.0,
      reads-list DecodesTo share F s ws (x.0 ++ y.0) (x.0, y.0, refl, x.1, y.1),
      omega (arith, x.2, y.2, length-append x.0 y.0, ap length b.2, length-append b.0 b.1),
    )

-- a tuple decodes to what its first part does, then to what the others do
module _ (P Q : Meaning → Type 0) (F others : Format Meaning) where
  tuple_reads : (bytes : List ℕ) → ReadsAs (IsThen P Q) (first_and F others) bytes → Both (ReadsAs P F) (ReadsAs Q others) bytes
  unfolding first_and ◌>>=◌
  tuple_reads bytes r =
      let u = r.is_word in
      let i = r.is_decoded in
      let t = word-from_result (λ k. Ok (Then u.head k)) others u.second r.meaning u.second_steps u.second_word in
      let q : ◌≡◌ {A = Result Meaning Fault} (Ok (Then u.head t.0)) (Ok (Then i.first i.others)) = t.2 ∙ ap Ok i.meaning_is in
      let a : i.first ≡ u.head = cc in
      let b : i.others ≡ t.0 = cc in (
        u.first,
        u.second,
        u.bytes_are,
        record { meaning = u.head; steps = u.first_steps; are_bytes = first_bytes bytes u.first u.second u.bytes_are r.are_bytes; is_word = u.first_word; is_decoded = subst P a i.is_first },
        record { meaning = t.0; steps = t.1; are_bytes = second_bytes bytes u.first u.second u.bytes_are r.are_bytes; is_word = t.3; is_decoded = subst Q b i.are_others },
      )

  reads_tuple : (bytes : List ℕ) → Both (ReadsAs P F) (ReadsAs Q others) bytes → ReadsAs (IsThen P Q) (first_and F others) bytes
  unfolding first_and ◌>>=◌
  reads_tuple bytes (x, y, e, a, c) = record {
    meaning = Then a.meaning c.meaning;
    steps = a.steps ++ c.steps;
    are_bytes = subst (All (λ b. b < 256)) (sym e) (All-append (λ b. b < 256) x y a.are_bytes c.are_bytes);
    is_word = record {
      first = x;
      second = y;
      head = a.meaning;
      first_steps = a.steps;
      second_steps = c.steps;
      bytes_are = e;
      steps_are = refl;
      first_word = a.is_word;
      second_word = from_result-word (λ k. Ok (Then a.meaning k)) others y c.meaning (Then a.meaning c.meaning) c.steps refl c.is_word;
    };
    is_decoded = record { first = a.meaning; others = c.meaning; meaning_is = refl; is_first = a.is_decoded; are_others = c.is_decoded };
  }

nothing_reads : (bytes : List ℕ) → ReadsAs IsNothing nothing bytes → bytes ≡ []
unfolding nothing pure
nothing_reads bytes r = r.is_word.0

reads_nothing : ReadsAs IsNothing nothing []
unfolding nothing pure
reads_nothing = record { meaning = Nothing; steps = []; are_bytes = All-nil (λ b. b < 256); is_word = (refl, refl, refl); is_decoded = refl }

-- and a pair to what its parts do in turn
module _ (P Q : Meaning → Type 0) (F G : Format Meaning) where
  pub pair-reads : (bytes : List ℕ) → ReadsAs (IsThen P (IsThen Q IsNothing)) (first_and F (first_and G nothing)) bytes → Both (ReadsAs P F) (ReadsAs Q G) bytes
  pair-reads bytes r =
      let a = tuple_reads P (IsThen Q IsNothing) F (first_and G nothing) bytes r in
      let b = tuple_reads Q IsNothing G nothing a.1 a.4 in
      let e : a.1 ≡ b.0 = b.2 ∙ ap (λ z. b.0 ++ z) (nothing_reads b.1 b.4) ∙ append-nil b.0 in
      (a.0, a.1, a.2, a.3, subst (ReadsAs Q G) (sym e) b.3)

  pub reads-pair : (bytes : List ℕ) → Both (ReadsAs P F) (ReadsAs Q G) bytes → ReadsAs (IsThen P (IsThen Q IsNothing)) (first_and F (first_and G nothing)) bytes
  reads-pair bytes (x, y, e, a, b) =
      reads_tuple P (IsThen Q IsNothing) F (first_and G nothing) bytes (x, y, e, a, reads_tuple Q IsNothing G nothing y (y, [], sym (append-nil y), b, reads_nothing))
