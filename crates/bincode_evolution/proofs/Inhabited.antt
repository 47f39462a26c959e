-- The shapes of which the rules say so have words.
use Rattle.std.specs.Prelude.{◌≡◌, ℕ, zero, suc, ◌+◌, ◌^◌, ◌<◌, ◌≤◌, ◌↔◌, Bool, true, false, ◌||◌, ◌==◌, pos, IsTrue, List, [], ◌∷◌, ◌++◌, length, refl}
use Rattle.std.proofs.Common.{sym, subst, inl, inr, arith}
use Rattle.std.proofs.lemmas.Bool.{and_parts, or_cases, ne_eqb, true_from_ne_false}
use Rattle.std.proofs.lemmas.Str.{IsUtf8-nil}
use Rattle.bincode_base.specs.declared.config.Endianness.{Endianness}
use Rattle.bincode_base.specs.declared.config.Endianness.TheVariants.{Little, Big}
use Rattle.bincode_base.specs.declared.config.IntEncoding.{IntEncoding}
use Rattle.bincode_base.specs.declared.config.IntEncoding.TheVariants.{Fixed, Variable}
use Rattle.bincode_base.specs.declared.error.IntegerType.TheVariants as integers
use Rattle.bincode_base.specs.Setting.{Setting}
use Rattle.bincode_spec.specs.Allowed.{AllowedWord}
use Rattle.bincode_spec.specs.Charge.{Step, Charge, Reserve, Release}
use Rattle.bincode_spec.specs.Fault.{Allowed, InvalidInteger}
use Rattle.bincode_spec.specs.Format.{Format, pure, fail, fixed_bytes, step, ◌>>=◌, written_as, without_count, map_format, elements}
use Rattle.bincode_spec.specs.Integers.{digits, first_of, byte, number_after, first_byte, varint, number_by, unsigned_integer, unsigned_tag, Two, Four, Eight, Sixteen}
use Rattle.bincode_spec.specs.Layers.Laws.{IsLawful}
use Rattle.bincode_spec.specs.Meaning.{Meaning, Nothing, Then, Choice, list_meaning}
use Rattle.bincode_spec.specs.Number.{number_of, low_first_number}
use Rattle.bincode_spec.specs.Words.{nothing, first_and, tuple, array, list, len, tag, Variant, variant_tags, allowed_tags, part, after_tag, tag_then_part}
use Rattle.bincode_lemmas.specs.AllowedLaws.{unsigned-allows, byte-allows, signed-allows, signed_byte-allows, truth-allows}
use Rattle.bincode_lemmas.specs.CharLaws.{character-allows}
use Rattle.bincode_lemmas.specs.ChoiceLaws.{part-here, part-there}
use Rattle.bincode_lemmas.specs.IntegerLaws.{unsigned-lawful, written-unsigned, unsigned_byte-lawful, written-unsigned_byte}
use Rattle.bincode_lemmas.specs.TextLaws.{text-has_word}
use Rattle.bincode_shape.specs.declared.shape.Shape as shapes
use Rattle.bincode_shape.specs.declared.shape.Shape.{Shape, Row_of-Shape, end_of-Shape, more_of-Shape}
use Rattle.bincode_shape.specs.ShapeLaws.{format_of-lawful}
use Rattle.bincode_shape.specs.Shapes.{format_of, formats_of, share, at, byte_tag, option_variants, one_of, numbered_variants}
use Rattle.bincode_evolution.specs.Reading.{WordOf}
use Rattle.bincode_evolution.specs.Rules.{has_words, all_have_words, some_has_words}
use Rattle.bincode_evolution.proofs.Sound.{shape_none}

-- some bytes are a word with this meaning
abbrev pub Spells : {A : Type 0} → Format A → A → Type 0
Spells F m = (word : List ℕ) × (steps : List Step) × F.Word word m steps

spelled : {A : Type 0} (F : Format A) (m : A) → Spells F m → WordOf F
spelled F m w = record { word = w.0; meaning = m; steps = w.1; is_word = w.2 }

spells_in_turn : {A B : Type 0} (F : Format A) (G : A → Format B) (a : A) (m : B) → Spells F a → Spells (G a) m → Spells (F >>= G) m
unfolding ◌>>=◌
spells_in_turn F G a m w v = (
  w.0 ++ v.0,
  w.1 ++ v.1,
  record { first = w.0; second = v.0; head = a; first_steps = w.1; second_steps = v.1; bytes_are = refl; steps_are = refl; first_word = w.2; second_word = v.2 },
)

spells_pure : {A : Type 0} (a : A) → Spells (pure a) a
unfolding pure
spells_pure a = ([], [], (refl, refl, refl))

spells_step : (change : Step) → Spells (step change) tt
unfolding step
spells_step change = ([], change ∷ [], (refl, refl))

spells_map : {A B : Type 0} (f : A → B) (F : Format A) (a : A) → Spells F a → Spells (map_format f F) (f a)
spells_map f F a w = spells_in_turn F (λ z. pure (f z)) a (f a) w (spells_pure (f a))

spells_stepped : {A : Type 0} (change : Step) (F : Format A) (m : A) → Spells F m → Spells (step change >>= λ _. F) m
spells_stepped change F m w = spells_in_turn (step change) (λ _. F) tt m (spells_step change) w

spells_without_count : {A : Type 0} (F : Format A) (m : A) → Spells F m → Spells (without_count F) m
unfolding without_count
spells_without_count F m w = w

spells_written : {A : Type 0} (C : List ℕ → A → Type 0) (F : Format A) (m : A) → Spells F m → Spells (written_as C F) m
unfolding written_as
spells_written C F m w = w

spells_nothing : Spells nothing Nothing
unfolding nothing
spells_nothing = spells_pure Nothing

spells_bytes : (n : ℕ) (bytes : List ℕ) → length bytes ≡ n → Spells (fixed_bytes n) bytes
unfolding fixed_bytes
spells_bytes n bytes h = (bytes, [], (h, refl, refl))

spells_byte : (b : ℕ) → Spells byte b
unfolding byte
spells_byte b = spells_map first_of (fixed_bytes 1) (b ∷ []) (spells_bytes 1 (b ∷ []) refl)

-- any number in four digits, of which one may be large
spells_digits : (order : Endianness) (n : ℕ) → Spells (digits order 4) n
unfolding digits
spells_digits Little n =
    let e : low_first_number (n ∷ 0 ∷ 0 ∷ 0 ∷ []) ≡ n = omega arith in
    subst (λ z. Spells (digits Little 4) z) e (spells_written _ _ _ (spells_map (number_of Little) (fixed_bytes 4) (n ∷ 0 ∷ 0 ∷ 0 ∷ []) (spells_bytes 4 (n ∷ 0 ∷ 0 ∷ 0 ∷ []) refl)))
spells_digits Big n =
    let e : low_first_number (n ∷ 0 ∷ 0 ∷ 0 ∷ []) ≡ n = omega arith in
    subst (λ z. Spells (digits Big 4) z) e (spells_written _ _ _ (spells_map (number_of Big) (fixed_bytes 4) (0 ∷ 0 ∷ 0 ∷ n ∷ []) (spells_bytes 4 (0 ∷ 0 ∷ 0 ∷ n ∷ []) refl)))

spells_number : (order : Endianness) (encoding : IntEncoding) (n : ℕ) → Spells (number_by unsigned_tag integers.U32 order 4 encoding) n
unfolding varint
spells_number order Fixed n = spells_digits order n
spells_number order Variable n =
    spells_written _ _ _ (spells_in_turn byte (λ first. number_after order (InvalidInteger integers.U32 (unsigned_tag first)) first (first_byte 4 first)) 252 n (spells_byte 252) (spells_digits order n))

-- so each tag has a word
pub spells_tag : (s : Setting) (n : ℕ) → Spells (tag s) n
unfolding unsigned_integer
spells_tag s n = spells_stepped (Charge 4) (number_by unsigned_tag integers.U32 s.order 4 s.encoding) n (spells_number s.order s.encoding n)

spells_len : (s : Setting) → Spells (len s) 0
spells_len s =
    let below : 0 < 256 ^ 8 = omega arith in
    let w = (unsigned-lawful integers.U64 8 s (Eight refl)).written_is_word _ 0 (written-unsigned integers.U64 8 0 s below) in (_, w.0, w.1)

spells_byte_tag : (s : Setting) (b : ℕ) → Spells (byte_tag s) b
spells_byte_tag s b = let w = unsigned_byte-lawful.written_is_word (b ∷ []) b (written-unsigned_byte b) in (b ∷ [], w.0, w.1)

-- what may be written is a word
allowed_word : (P : Meaning → Type 0) (F : Format Meaning) (bytes : List ℕ) → IsLawful F → AllowedWord P F bytes → WordOf F
allowed_word P F bytes f a = let w = f.written_is_word bytes a.meaning a.is_written in record { word = bytes; meaning = a.meaning; steps = w.0; is_word = w.1 }

-- elements
spells_elements : (n share : ℕ) (F : Format Meaning) (m : Meaning) → Spells F m → (ms : List Meaning) × Spells (elements n share F) ms
spells_elements zero share F m w = ([], spells_pure [])
spells_elements (suc n) share F m w =
    let v = spells_elements n share F m w in (
      m ∷ v.0,
      spells_stepped (Release share) _ (m ∷ v.0)
          (spells_in_turn (without_count F) (λ a. map_format (λ others. a ∷ others) (elements n share F)) m (m ∷ v.0) (spells_without_count F m w) (spells_map (λ others. m ∷ others) (elements n share F) v.0 v.1)),
    )

array_spelled : (n share : ℕ) (F : Format Meaning) (ms : List Meaning) → Spells (elements n share F) ms → WordOf (array n share F)
array_spelled n share F ms w =
    spelled (array n share F) (list_meaning ms) (spells_map list_meaning (step (Reserve n share) >>= λ _. elements n share F) ms (spells_stepped (Reserve n share) (elements n share F) ms w))

array_word : (n share : ℕ) (F : Format Meaning) (words : Bool) → (words ≡ true → WordOf F) → ((n == 0) || words) ≡ true → WordOf (array n share F)
array_word zero share F words f h = array_spelled 0 share F [] (spells_pure [])
array_word (suc n) share F words f h =
    let e : (suc n == 0) ≡ false = ne_eqb (suc n) 0 (λ z. omega (arith, z)) in
    let w = f (rw e at h) in
    let v = spells_elements (suc n) share F w.meaning (w.word, w.steps, w.is_word) in
    array_spelled (suc n) share F v.0 v.1

list_word : (s : Setting) (share : ℕ) (F : Format Meaning) → WordOf (list s share F)
list_word s share F =
    spelled (list s share F) Nothing (spells_in_turn (len s) (λ n. array n share F) 0 Nothing (spells_len s)
    (spells_map list_meaning (step (Reserve 0 share) >>= λ _. elements 0 share F) [] (spells_stepped (Reserve 0 share) (elements 0 share F) [] (spells_pure []))))

first_and_word : (F others : Format Meaning) → WordOf F → WordOf others → WordOf (first_and F others)
unfolding first_and
first_and_word F others w v =
    spelled (first_and F others) (Then w.meaning v.meaning) (spells_in_turn F (λ m. map_format (Then m) others) w.meaning (Then w.meaning v.meaning) (w.word, w.steps, w.is_word)
    (spells_map (Then w.meaning) others v.meaning (v.word, v.steps, v.is_word)))

chosen_word : (tags : Setting → Format ℕ) (s : Setting) (variants : List Variant) (found : ℕ) → Spells (tags s) found → WordOf (after_tag variants s found) → WordOf (tag_then_part tags variants s)
unfolding tag_then_part
chosen_word tags s variants found w v =
    spelled _ v.meaning (spells_in_turn (tags s) (after_tag variants s) found v.meaning w (v.word, v.steps, v.is_word))

map_word : (f : Meaning → Meaning) (F : Format Meaning) → WordOf F → WordOf (map_format f F)
map_word f F w = spelled (map_format f F) (f w.meaning) (spells_map f F w.meaning (w.word, w.steps, w.is_word))

optional_word : (s : Setting) (F : Setting → Format Meaning) → WordOf (tag_then_part byte_tag (option_variants F) s)
optional_word s F =
    chosen_word byte_tag s (option_variants F) 0 (spells_byte_tag s 0)
    (subst (λ G. WordOf G) (sym (part-here s (allowed_tags (variant_tags (option_variants F))) 0 (λ z. nothing) ((1, F) ∷ []))) (map_word (Choice 0) nothing (spelled nothing Nothing spells_nothing)))

-- no variant, no word
none_word : (s : Setting) (allowed : Allowed) (found : ℕ) → WordOf (part s [] allowed found) → WordOf (one_of [] s)
unfolding fail
none_word s allowed found w = absurd w.is_word

one_of_word : (s : Setting) (variants : List Variant) → ((allowed : Allowed) → (found : ℕ) × WordOf (part s variants allowed found)) → WordOf (one_of variants s)
one_of_word s [] h = let w = h (allowed_tags []) in none_word s (allowed_tags []) w.0 w.1
one_of_word s (variant ∷ others) h =
    let w = h (allowed_tags (variant_tags (variant ∷ others))) in chosen_word tag s (variant ∷ others) w.0 (spells_tag s w.0) w.1

mutual
  pub shape_word : (shape : Shape) (s : Setting) → has_words shape ≡ true → WordOf (format_of shape s)
  shape_word shapes.Unit s h = spelled nothing Nothing spells_nothing
  shape_word shapes.Bool s h = allowed_word _ _ _ (format_of-lawful shapes.Bool s) (truth-allows true)
  shape_word shapes.Char s h = allowed_word _ _ _ (format_of-lawful shapes.Char s) (character-allows 0 refl)
  shape_word shapes.Text s h = let w = text-has_word s [] IsUtf8-nil (omega arith) in allowed_word _ _ _ (format_of-lawful shapes.Text s) w.is_allowed
  shape_word shapes.U8 s h = allowed_word _ _ _ (format_of-lawful shapes.U8 s) (byte-allows 0)
  shape_word shapes.U16 s h = allowed_word _ _ _ (format_of-lawful shapes.U16 s) (unsigned-allows integers.U16 2 0 s (omega arith))
  shape_word shapes.U32 s h = allowed_word _ _ _ (format_of-lawful shapes.U32 s) (unsigned-allows integers.U32 4 0 s (omega arith))
  shape_word shapes.U64 s h = allowed_word _ _ _ (format_of-lawful shapes.U64 s) (unsigned-allows integers.U64 8 0 s (omega arith))
  shape_word shapes.U128 s h = allowed_word _ _ _ (format_of-lawful shapes.U128 s) (unsigned-allows integers.U128 16 0 s (omega arith))
  shape_word shapes.Usize s h = allowed_word _ _ _ (format_of-lawful shapes.Usize s) (unsigned-allows integers.Usize 8 0 s (omega arith))
  shape_word shapes.I8 s h = allowed_word _ _ _ (format_of-lawful shapes.I8 s) (signed_byte-allows (pos 0) (omega arith))
  shape_word shapes.I16 s h = allowed_word _ _ _ (format_of-lawful shapes.I16 s) (signed-allows integers.I16 2 (pos 0) s (Two refl) (omega arith))
  shape_word shapes.I32 s h = allowed_word _ _ _ (format_of-lawful shapes.I32 s) (signed-allows integers.I32 4 (pos 0) s (Four refl) (omega arith))
  shape_word shapes.I64 s h = allowed_word _ _ _ (format_of-lawful shapes.I64 s) (signed-allows integers.I64 8 (pos 0) s (Eight refl) (omega arith))
  shape_word shapes.I128 s h = allowed_word _ _ _ (format_of-lawful shapes.I128 s) (signed-allows integers.I128 16 (pos 0) s (Sixteen refl) (omega arith))
  shape_word shapes.Isize s h = allowed_word _ _ _ (format_of-lawful shapes.Isize s) (signed-allows integers.Isize 8 (pos 0) s (Eight refl) (omega arith))
  shape_word (shapes.Seq' claim p element) s h = list_word s (share claim) (format_of element s)
  shape_word (shapes.Array' n claim p element) s h = array_word n (share claim) (format_of element s) (has_words element) (λ e. shape_word element s e) h
  shape_word (shapes.Tuple' v parts) s h = tuple_word parts s h
  shape_word (shapes.Optional' p element) s h = optional_word s (format_of element)
  shape_word (shapes.Choice' v parts) s h = one_of_word s (numbered_variants 0 (formats_of parts)) (λ allowed. let w = variant_word parts s 0 allowed h in (w.0, w.2))

  tuple_word : {m : _} → (parts : Row_of-Shape m) (s : Setting) → all_have_words parts ≡ true → WordOf (tuple (at s (formats_of parts)))
  tuple_word end_of-Shape s h = spelled nothing Nothing spells_nothing
  tuple_word (more_of-Shape shape others) s h =
      let both = and_parts (has_words shape) (all_have_words others) h in first_and_word (format_of shape s) (tuple (at s (formats_of others))) (shape_word shape s both.0) (tuple_word others s both.1)

  -- some tag selects a part with words
  variant_word : {m : _} → (parts : Row_of-Shape m) (s : Setting) (n : ℕ) (allowed : Allowed) → some_has_words parts ≡ true →
      (found : ℕ) × (n ≤ found) × WordOf (part s (numbered_variants n (formats_of parts)) allowed found)
  variant_word end_of-Shape s n allowed h = absurd (cc)
  variant_word (more_of-Shape shape others) s n allowed h =
      elim (or_cases (has_words shape) (some_has_words others) h) [
        | inl e ↦ (
          n,
          omega arith,
          subst (λ G. WordOf G) (sym (part-here s allowed n (format_of shape) (numbered_variants (n + 1) (formats_of others)))) (map_word (Choice n) (format_of shape s) (shape_word shape s e)),
        )
        | inr e ↦
            let w = variant_word others s (n + 1) allowed e in (
              w.0,
              omega (arith, w.1),
              subst (λ G. WordOf G) (sym (part-there s allowed w.0 n (format_of shape) (numbered_variants (n + 1) (formats_of others)) (ne_eqb w.0 n (λ z. omega (arith, z, w.1))))) w.2,
            )
      ]

-- a word is read, so that a shape without words has none
word_refuted : (shape : Shape) (s : Setting) → has_words shape ≡ false → WordOf (format_of shape s) → ⊥
word_refuted shape s h w =
    (shape_none shape s h).none (w.word ++ []) [] w.meaning (w.steps, (format_of-lawful shape s).word_read w.word [] w.meaning w.steps w.is_word)

-- the rules say exactly which shapes have words
pub words_exact : (shape : Shape) (s : Setting) → IsTrue (has_words shape) ↔ WordOf (format_of shape s)
words_exact shape s = (λ h. shape_word shape s h, λ w. true_since w)
  where
    true_since : WordOf (format_of shape s) → has_words shape ≡ true
    true_since w = true_from_ne_false (has_words shape) (λ e. word_refuted shape s e w)
