-- What a run of values allows, from what each value allows.
use Rattle.std.specs.Prelude.{◌≡◌, ℕ, zero, suc, ◌<◌, ◌≤◌, Bool, true, Result, Ok, List, [], ◌∷◌, ◌++◌, length, refl}
use Rattle.std.specs.List.{All}
use Rattle.std.specs.Cmp.Lexicographic.{pointwise}
use Rattle.std.proofs.Common.{sym, ◌∙◌, ap, subst, arith, append_assoc}
use Rattle.std.proofs.lemmas.List.Elements.{All-nil, All-head, All-tail, All-append}
use Rattle.bincode_spec.specs.Fault.{Fault}
use Rattle.bincode_spec.specs.Charge.{Step, Reserve, Release}
use Rattle.bincode_spec.specs.Format.{Format, pure, step, ◌>>=◌, without_count, map_format, elements, sequence}
use Rattle.bincode_spec.specs.Meaning.{Meaning, Nothing, Then, list_meaning}
use Rattle.bincode_spec.specs.Words.{array}
use Rattle.bincode_spec.specs.Allowed.{AllowedWord, SomeWord, OneLength, IsShortest}
use Rattle.bincode_lemmas.specs.Sequences.{Both}
use Rattle.bincode_lemmas.specs.AllowedLaws.{map-written, written-map, both-one_length}
use Rattle.bincode_spec.specs.Cells.{HasWord}
use Rattle.bincode_lemmas.specs.CellLaws.{held-word, word-held}
use Rattle.bincode_lemmas.specs.TupleLaws.{then-same}
use Rattle.bincode_lemmas.specs.SpelledLaws.{word-from_result, from_result-word, parts-no_longer}
use Rattle.bincode_spec.specs.Run.{IsListOf}
use Rattle.bincode_lemmas.specs.Sequences.{AllowsEach}

-- the words of a run, element by element

module _ {A : Type 0} (Means : A → Meaning → Type 0) (share : ℕ) (F : Format Meaning) where
  each_written : (vs : List A) (bytes : List ℕ) → AllowsEach (λ v. AllowedWord (Means v) F) vs bytes →
      (ms : List Meaning) × IsListOf Means vs (list_meaning ms) × (elements (length vs) share F).Written bytes ms
  unfolding pure step ◌>>=◌ without_count
  each_written [] bytes a = ([], refl, (a, refl))
  each_written (v ∷ vs) bytes (x, y, e, a, b) =
      let p = each_written vs y b in
      let others : (map_format (λ others. a.meaning ∷ others) (elements (length vs) share F)).Written y (a.meaning ∷ p.0) = map-written (λ others. a.meaning ∷ others)
      (elements (length vs) share F) y p.0 p.2 in (
        a.meaning ∷ p.0,
        record { first = a.meaning; others = list_meaning p.0; meaning_is = refl; is_first = a.is_meant; are_others = p.1 },
        record {
          first = [];
          second = bytes;
          head = tt;
          bytes_are = refl;
          first_written = refl;
          second_written =
              record { first = x; second = y; head = a.meaning; bytes_are = e; first_written = a.is_written; second_written = others };
        },
      )

  written_each : (vs : List A) (bytes : List ℕ) (ms : List Meaning) → IsListOf Means vs (list_meaning ms) →
      (elements (length vs) share F).Written bytes ms → AllowsEach (λ v. AllowedWord (Means v) F) vs bytes
  unfolding pure step ◌>>=◌ without_count
  written_each [] bytes ms i w = w.0
  written_each (v ∷ vs) bytes ms i w =
      let u = w.second_written in
      let t = written-map (λ others. u.head ∷ others) (elements (length vs) share F) u.second ms u.second_written in
      let e : Then i.first i.others ≡ Then u.head (list_meaning t.0) = sym i.meaning_is ∙ ap list_meaning t.1 in
      let a : i.first ≡ u.head = cc in
      let b : i.others ≡ list_meaning t.0 = cc in
      let p : bytes ≡ u.first ++ u.second = w.bytes_are ∙ ap (λ z. z ++ w.second) w.first_written ∙ u.bytes_are in (
        u.first,
        u.second,
        p,
        record { meaning = u.head; is_meant = subst (Means v) a i.is_first; is_written = u.first_written },
        written_each vs u.second t.0
            (subst (IsListOf Means vs) b i.are_others) t.2,
      )

  -- an array allows what its values do in turn
  pub array-allows : (n : ℕ) (vs : List A) (bytes : List ℕ) → length vs ≡ n → AllowsEach (λ v. AllowedWord (Means v) F) vs bytes → AllowedWord (IsListOf Means vs) (array n share F) bytes
  unfolding step ◌>>=◌
  array-allows n vs bytes e a =
      let p = each_written vs bytes a in
      let w : (elements n share F).Written bytes p.0 = subst (λ k. (elements k share F).Written bytes p.0) e p.2 in
      let u : (sequence n share F).Written bytes p.0 = record { first = []; second = bytes; head = tt; bytes_are = refl; first_written = refl; second_written = w } in
      record { meaning = list_meaning p.0; is_meant = p.1; is_written = map-written list_meaning (sequence n share F) bytes p.0 u }

  pub allowed-array : (n : ℕ) (vs : List A) (bytes : List ℕ) → length vs ≡ n → AllowedWord (IsListOf Means vs) (array n share F) bytes → AllowsEach (λ v. AllowedWord (Means v) F) vs bytes
  unfolding step ◌>>=◌
  allowed-array n vs bytes e a =
      let t = written-map list_meaning (sequence n share F) bytes a.meaning a.is_written in
      let u = t.2 in
      let p : bytes ≡ u.second = u.bytes_are ∙ ap (λ z. z ++ u.second) u.first_written in
      let w : (elements (length vs) share F).Written u.second t.0 = subst (λ k. (elements k share F).Written u.second t.0) (sym e) u.second_written in
      subst (AllowsEach (λ v. AllowedWord (Means v) F) vs) (sym p) (written_each vs u.second t.0 (subst (IsListOf Means vs) t.1 a.is_meant) w)

-- an array has a word, if its values have one
module _ (share : ℕ) (F : Format Meaning) (x : HasWord F) where
  each_word : (n : ℕ) → (bytes : List ℕ) × (ms : List Meaning) × (steps : List Step) × All (λ b. b < 256) bytes × (elements n share F).Word bytes ms steps
  unfolding pure step ◌>>=◌ without_count
  each_word zero = ([], [], [], All-nil (λ b. b < 256), (refl, refl, refl))
  each_word (suc n) =
      let a = held-word F x in
      let b = each_word n in
      let others : (map_format (λ others. a.0 ∷ others) (elements n share F)).Word b.0 (a.0 ∷ b.1) b.2 = from_result-word (λ others. Ok (a.0 ∷ others)) (elements n share F) b.0 b.1
      (a.0 ∷ b.1) b.2 refl b.4 in (
        x.bytes ++ b.0,
        a.0 ∷ b.1,
        Release share ∷ (a.1 ++ b.2),
        All-append (λ b. b < 256) x.bytes b.0 x.are_bytes b.3,
        record {
          first = [];
          second = x.bytes ++ b.0;
          head = tt;
          first_steps = Release share ∷ [];
          second_steps = a.1 ++ b.2;
          bytes_are = refl;
          steps_are = refl;
          first_word = (refl, refl);
          second_word = record { first = x.bytes; second = b.0; head = a.0; first_steps = a.1; second_steps = b.2; bytes_are = refl; steps_are = refl; first_word = a.2; second_word = others };
        },
      )

  pub array-some_word : (n : ℕ) → HasWord (array n share F)
  unfolding step ◌>>=◌
  array-some_word n =
      let a = each_word n in
      let run : (sequence n share F).Word a.0 a.1 (Reserve n share ∷ a.2) =
      record { first = []; second = a.0; head = tt; first_steps = Reserve n share ∷ []; second_steps = a.2; bytes_are = refl; steps_are = refl; first_word = (refl, refl); second_word = a.4 } in
      word-held (array n share F) a.0 (list_meaning a.1) (Reserve n share ∷ a.2) a.3 (from_result-word (λ ms. Ok (list_meaning ms)) (sequence n share F) a.0 a.1 (list_meaning a.1) (Reserve n share ∷ a.2) refl run)

-- a run in two parts

module _ {A : Type 0} (Allowed : A → List ℕ → Type 0) where
  pub each-join : (vs ws : List A) (bytes : List ℕ) → Both (AllowsEach Allowed vs) (AllowsEach Allowed ws) bytes → AllowsEach Allowed (vs ++ ws) bytes
  each-join [] ws bytes (x, y, e, a, b) = let p : bytes ≡ y = e ∙ ap (λ z. z ++ y) a in subst (AllowsEach Allowed ws) (sym p) b
  each-join (v ∷ vs) ws bytes (x, y, e, (p, q, f, a, c), b) = (p, q ++ y, e ∙ ap (λ z. z ++ y) f ∙ append_assoc p q y, a, each-join vs ws (q ++ y) (q, y, refl, c, b))

  pub each-split : (vs ws : List A) (bytes : List ℕ) → AllowsEach Allowed (vs ++ ws) bytes → Both (AllowsEach Allowed vs) (AllowsEach Allowed ws) bytes
  each-split [] ws bytes a = ([], bytes, refl, refl, a)
  each-split (v ∷ vs) ws bytes (p, q, e, a, b) =
      let r = each-split vs ws q b in
      (p ++ r.0, r.1, e ∙ ap (λ z. p ++ z) r.2 ∙ sym (append_assoc p r.0 r.1), (p, r.0, refl, a, r.3), r.4)

-- an array in two parts

module _ {A : Type 0} (Means : A → Meaning → Type 0) (share : ℕ) (F : Format Meaning) where
  pub array-join : (vs ws : List A) (bytes : List ℕ) →
      Both (AllowedWord (IsListOf Means vs) (array (length vs) share F)) (AllowedWord (IsListOf Means ws) (array (length ws) share F)) bytes →
      AllowedWord (IsListOf Means (vs ++ ws)) (array (length (vs ++ ws)) share F) bytes
  array-join vs ws bytes (x, y, e, a, b) =
      array-allows Means share F (length (vs ++ ws)) (vs ++ ws) bytes refl
      (each-join (λ v. AllowedWord (Means v) F) vs ws bytes (x, y, e, allowed-array Means share F (length vs) vs x refl a, allowed-array Means share F (length ws) ws y refl b))

  pub array-split : (vs ws : List A) (bytes : List ℕ) → AllowedWord (IsListOf Means (vs ++ ws)) (array (length (vs ++ ws)) share F) bytes →
      Both (AllowedWord (IsListOf Means vs) (array (length vs) share F)) (AllowedWord (IsListOf Means ws) (array (length ws) share F)) bytes
  array-split vs ws bytes w =
      let b = each-split (λ v. AllowedWord (Means v) F) vs ws bytes (allowed-array Means share F (length (vs ++ ws)) (vs ++ ws) bytes refl w) in
      (b.0, b.1, b.2, array-allows Means share F (length vs) vs b.0 refl b.3, array-allows Means share F (length ws) ws b.1 refl b.4)

-- what holds of each value holds of the run

module _ {A : Type 0} (Allowed : A → List ℕ → Type 0) where
  pub each-has_word : (P Q : A → Type 0) (vs : List A) → ((v : A) → P v → Q v → SomeWord (Allowed v)) → All P vs → All Q vs → SomeWord (AllowsEach Allowed vs)
  each-has_word P Q [] f h k = record { bytes = []; are_bytes = All-nil (λ b. b < 256); is_allowed = refl }
  each-has_word P Q (v ∷ vs) f h k =
      let a = f v (All-head P v vs h) (All-head Q v vs k) in
      let b = each-has_word P Q vs f (All-tail P v vs h) (All-tail Q v vs k) in
      record { bytes = a.bytes ++ b.bytes; are_bytes = All-append (λ b. b < 256) a.bytes b.bytes a.are_bytes b.are_bytes; is_allowed = (a.bytes, b.bytes, refl, a.is_allowed, b.is_allowed) }

  none_one_length : OneLength (AllowsEach Allowed [])
  none_one_length x y a b = ap length (a ∙ sym b)

  pub each-one_length : (P : A → Type 0) (vs : List A) → ((v : A) → P v → OneLength (Allowed v)) → All P vs → OneLength (AllowsEach Allowed vs)
  each-one_length P [] f h = none_one_length
  each-one_length P (v ∷ vs) f h = both-one_length (Allowed v) (AllowsEach Allowed vs) (f v (All-head P v vs h)) (each-one_length P vs f (All-tail P v vs h))

-- no word that decodes to what a run decodes to is shorter, if none that decodes to what an element does is

module _ {A : Type 0} (Means DecodesTo : A → Meaning → Type 0) (share : ℕ) (F : Format Meaning) (P : A → Type 0) (least : (v w : A) → P v → IsShortest (Means v) (DecodesTo w) F) where
  each_shortest : (vs ws : List A) → All P vs → (written bytes : List ℕ) (ns ms : List Meaning) (s : List Step) → IsListOf Means vs (list_meaning ns) →
      IsListOf DecodesTo ws (list_meaning ns) → (elements (length vs) share F).Written written ns → All (λ b. b < 256) bytes →
      (elements (length vs) share F).Word bytes ms s → IsListOf DecodesTo ws (list_meaning ms) → length written ≤ length bytes
  unfolding pure step ◌>>=◌ without_count
  each_shortest [] ws h written bytes ns ms s i j a below u k = omega (arith, ap length a.0)
  each_shortest (v ∷ vs) [] h written bytes ns ms s i j a below u k = let e : Nothing ≡ Then i.first i.others = sym j ∙ i.meaning_is in absurd (cc)
  each_shortest (v ∷ vs) (w ∷ ws) h written bytes ns ms s i j a below u k =
      let x = a.second_written in
      let z = written-map (λ others. x.head ∷ others) (elements (length vs) share F) x.second ns x.second_written in
      let c : Then i.first i.others ≡ Then x.head (list_meaning z.0) = sym i.meaning_is ∙ ap list_meaning z.1 in
      let d : Then j.first j.others ≡ Then x.head (list_meaning z.0) = sym j.meaning_is ∙ ap list_meaning z.1 in
      let i_first : i.first ≡ x.head = cc in
      let i_others : i.others ≡ list_meaning z.0 = cc in
      let j_first : j.first ≡ x.head = cc in
      let j_others : j.others ≡ list_meaning z.0 = cc in
      let written_is : written ≡ x.first ++ x.second = a.bytes_are ∙ ap (λ y. y ++ a.second) a.first_written ∙ x.bytes_are in
      let r = u.second_word in
      let t = word-from_result (λ others. Ok (r.head ∷ others)) (elements (length vs) share F) r.second ms r.second_steps r.second_word in
      let q : r.head ∷ t.0 ≡ ms = cc t.2 in
      let f : Then k.first k.others ≡ Then r.head (list_meaning t.0) = sym k.meaning_is ∙ ap list_meaning (sym q) in
      let k_first : k.first ≡ r.head = cc in
      let k_others : k.others ≡ list_meaning t.0 = cc in
      let bytes_are : bytes ≡ r.first ++ r.second = u.bytes_are ∙ ap (λ y. y ++ u.second) u.first_word.0 ∙ r.bytes_are in
      let head : AllowedWord (λ m. Means v m × DecodesTo w m) F x.first =
      record { meaning = x.head; is_meant = (subst (Means v) i_first i.is_first, subst (DecodesTo w) j_first j.is_first); is_written = x.first_written } in
      parts-no_longer written bytes x.first x.second r.first r.second written_is bytes_are below
      (λ bytes_below. least v w (All-head P v vs h) x.first r.first r.head r.first_steps head bytes_below r.first_word (subst (DecodesTo w) k_first k.is_first))
      (λ bytes_below. each_shortest vs ws (All-tail P v vs h) x.second r.second z.0 t.0 t.1 (subst (IsListOf Means vs) i_others i.are_others)
      (subst (IsListOf DecodesTo ws) j_others j.are_others) z.2 bytes_below t.3 (subst (IsListOf DecodesTo ws) k_others k.are_others))

  pub array-shortest : (n : ℕ) (vs ws : List A) → length vs ≡ n → All P vs → IsShortest (IsListOf Means vs) (IsListOf DecodesTo ws) (array n share F)
  unfolding step ◌>>=◌
  array-shortest n vs ws e h written bytes m s w below u i =
      let a = written-map list_meaning (sequence n share F) written w.meaning w.is_written in
      let x = a.2 in
      let written_is : written ≡ x.second = x.bytes_are ∙ ap (λ z. z ++ x.second) x.first_written in
      let is_written : (elements (length vs) share F).Written x.second a.0 = subst (λ k. (elements k share F).Written x.second a.0) (sym e) x.second_written in
      let t = word-from_result (λ ms. Ok (list_meaning ms)) (sequence n share F) bytes m s u in
      let q : ◌≡◌ {A = Result Meaning Fault} (Ok (list_meaning t.0)) (Ok m) = t.2 in
      let k : m ≡ list_meaning t.0 = cc in
      let v = t.3 in
      let bytes_are : bytes ≡ v.second = v.bytes_are ∙ ap (λ z. z ++ v.second) v.first_word.0 in
      let word : (elements (length vs) share F).Word v.second t.0 v.second_steps = subst (λ j. (elements j share F).Word v.second t.0 v.second_steps) (sym e) v.second_word in
      let l : length x.second ≤ length v.second =
      each_shortest vs ws h x.second v.second a.0 t.0 v.second_steps (subst (IsListOf Means vs) a.1 w.is_meant.0) (subst (IsListOf DecodesTo ws) a.1 w.is_meant.1) is_written
      (subst (All (λ b. b < 256)) bytes_are below) word (subst (IsListOf DecodesTo ws) k i) in
      omega (arith, l, ap length written_is, ap length bytes_are)

-- runs of one meaning are equal, if values are
pub run-same : {A : Type 0} (Is Is' : A → Meaning → Type 0) (P Q : A → Type 0) (same : A → A → Bool) → ((v w : A) (m : Meaning) → P v → Q w → Is v m → Is' w m → same v w ≡ true) →
    (vs ws : List A) → All P vs → All Q ws → (m : Meaning) → IsListOf Is vs m → IsListOf Is' ws m → pointwise same vs ws ≡ true
run-same Is Is' P Q same f [] [] h k m i j = refl
run-same Is Is' P Q same f [] (w ∷ ws) h k m i j = let e : Nothing ≡ Then j.first j.others = sym i ∙ j.meaning_is in absurd (cc)
run-same Is Is' P Q same f (v ∷ vs) [] h k m i j = let e : Nothing ≡ Then i.first i.others = sym j ∙ i.meaning_is in absurd (cc)
run-same Is Is' P Q same f (v ∷ vs) (w ∷ ws) h k m i j =
    then-same (λ n. f v w n (All-head P v vs h) (All-head Q w ws k)) (run-same Is Is' P Q same f vs ws (All-tail P v vs h) (All-tail Q w ws k)) m i j
