-- The rules are right: what they say is read, is read.
use Rattle.std.specs.Prelude.{◌≡◌, ℕ, zero, suc, ◌+◌, Bool, true, false, not, ◌||◌, ◌==◌, if◌then◌else◌, List, [], ◌∷◌, refl}
use Rattle.std.proofs.Common.{inl, inr, arith}
use Rattle.std.proofs.lemmas.Bool.{and_cases, or_parts, or_cases, not-true, eqb-false, ne_eqb}
use Rattle.bincode_base.specs.declared.error.IntegerType.TheVariants as integers
use Rattle.bincode_base.specs.Setting.{Setting}
use Rattle.bincode_spec.specs.Fault.{Allowed, EmptyEnum, UnexpectedVariant}
use Rattle.bincode_spec.specs.Format.{Format}
use Rattle.bincode_spec.specs.Integers.{unsigned_byte, signed_byte}
use Rattle.bincode_spec.specs.Meaning.{Meaning, Choice}
use Rattle.bincode_spec.specs.Words.{natural_number, integer_number, truth, character, text, list, len, array, tuple, part, tag, variant_tags, allowed_tags}
use Rattle.bincode_shape.specs.declared.shape.Shape as shapes
use Rattle.bincode_shape.specs.declared.shape.Shape.{Shape, Row_of-Shape, end_of-Shape, more_of-Shape}
use Rattle.bincode_shape.specs.Shapes.{format_of, formats_of, share, at, one_of, numbered_variants}
use Rattle.bincode_evolution.specs.Reading.{ReadsAll}
use Rattle.bincode_evolution.specs.Rules.{has_words, all_have_words, some_has_words, is_nothing, is_bool, is_char, is_text, is_u8, is_i8, is_list, is_row, is_read, parts_of}
use Rattle.bincode_evolution.specs.Lists.{part_of}
use Rattle.bincode_evolution.proofs.Taking.{reads_itself, reads_through, reads_in_turn, reads_array, NoWord, reads_none, none_array, none_first_and, none_others, none_map, none_picked, none_failed}
use Rattle.bincode_evolution.proofs.Numbers.{unsigned_read, signed_read}
use Rattle.bincode_evolution.proofs.Parts.{EachSound, nothing_reads, empty_reads, row_reads, parts_read}
use Rattle.bincode_evolution.proofs.Choices.{chosen_none, variants_are_read, optional_reads}

array_none : (n share : ℕ) (F : Format Meaning) → (n == 0) ≡ false → NoWord F → NoWord (array n share F)
array_none zero share F h f = absurd (eqb-false 0 0 h refl)
array_none (suc n) share F h f = none_array n share f

one_of_none : (s : Setting) (Fs : List (Setting → Format Meaning)) → ((n found : ℕ) (allowed : Allowed) → NoWord (part s (numbered_variants n Fs) allowed found)) → NoWord (one_of (numbered_variants 0 Fs) s)
one_of_none s [] h = none_failed EmptyEnum
one_of_none s (F ∷ Fs) h = chosen_none tag s (numbered_variants 0 (F ∷ Fs)) (λ found. h 0 found (allowed_tags (variant_tags (numbered_variants 0 (F ∷ Fs)))))

mutual
  -- a shape of which the rules say so has no words
  pub shape_none : (shape : Shape) (s : Setting) → has_words shape ≡ false → NoWord (format_of shape s)
  shape_none (shapes.Array' n claim p element) s h =
      let both = or_parts (n == 0) (has_words element) h in array_none n (share claim) (format_of element s) both.0 (shape_none element s both.1)
  shape_none (shapes.Tuple' v parts) s h = tuple_none parts s h
  shape_none (shapes.Choice' v parts) s h = one_of_none s (formats_of parts) (λ n found allowed. variants_none parts s n found allowed h)
  shape_none shape s h = absurd (cc)

  tuple_none : {m : _} → (parts : Row_of-Shape m) (s : Setting) → all_have_words parts ≡ false → NoWord (tuple (at s (formats_of parts)))
  tuple_none end_of-Shape s h = absurd (cc)
  tuple_none (more_of-Shape shape others) s h =
      elim (and_cases (has_words shape) (all_have_words others) h) [
        | inl e ↦ none_first_and (tuple (at s (formats_of others))) (shape_none shape s e)
        | inr e ↦ none_others (format_of shape s) (tuple_none others s e)
      ]

  variants_none : {m : _} → (parts : Row_of-Shape m) (s : Setting) (n found : ℕ) (allowed : Allowed) → some_has_words parts ≡ false → NoWord (part s (numbered_variants n (formats_of parts)) allowed found)
  variants_none end_of-Shape s n found allowed h = none_failed (UnexpectedVariant allowed found)
  variants_none (more_of-Shape shape others) s n found allowed h =
      let both = or_parts (has_words shape) (some_has_words others) h in
      none_picked (found == n) (none_map (Choice found) (shape_none shape s both.0)) (variants_none others s (n + 1) found allowed both.1)

-- one by the rules, or without words
either : (b words : Bool) (F G : Format Meaning) → (b ≡ true → ReadsAll G F) → (words ≡ false → NoWord F) → (b || not words) ≡ true → ReadsAll G F
either b words F G f g h = elim (or_cases b (not words) h) [ inl e ↦ f e | inr e ↦ reads_none G (g (not-true words e)) ]

bool_reads : (s : Setting) (new : Shape) → is_bool new ≡ true → ReadsAll (format_of new s) truth
bool_reads s shapes.Bool h = reads_itself truth
bool_reads s new h = absurd (cc)

char_reads : (s : Setting) (new : Shape) → is_char new ≡ true → ReadsAll (format_of new s) character
char_reads s shapes.Char h = reads_itself character
char_reads s new h = absurd (cc)

text_reads : (s : Setting) (new : Shape) → is_text new ≡ true → ReadsAll (format_of new s) (text s)
text_reads s shapes.Text h = reads_itself (text s)
text_reads s new h = absurd (cc)

u8_reads : (s : Setting) (new : Shape) → is_u8 new ≡ true → ReadsAll (format_of new s) (natural_number unsigned_byte)
u8_reads s shapes.U8 h = reads_itself (natural_number unsigned_byte)
u8_reads s new h = absurd (cc)

i8_reads : (s : Setting) (new : Shape) → is_i8 new ≡ true → ReadsAll (format_of new s) (integer_number signed_byte)
i8_reads s shapes.I8 h = reads_itself (integer_number signed_byte)
i8_reads s new h = absurd (cc)

list_reads : (s : Setting) (old : ℕ) (F : Format Meaning) (test : Shape → Bool) → ((new : Shape) → test new ≡ true → ReadsAll (format_of new s) F) → (new : Shape) → is_list test new ≡ true →
    ReadsAll (format_of new s) (list s old F)
list_reads s old F test f (shapes.Seq' claim p element) h = reads_in_turn (reads_itself (len s)) (λ n. reads_array n old (share claim) (f element h))
list_reads s old F test f new h = absurd (cc)

array_reads : (s : Setting) (n claim : ℕ) (element : Shape) (F : Format Meaning) (test : Shape → Bool) (words : Bool) → ((new : Shape) → test new ≡ true → ReadsAll (format_of new s) F) →
    (words ≡ false → NoWord F) → (new : Shape) → (if n == 0 then is_nothing new else is_row n test new || not words) ≡ true → ReadsAll (format_of new s) (array n claim F)
array_reads s zero claim element F test words f g new h = reads_through (empty_reads claim F) (nothing_reads s new h)
array_reads s (suc n) claim element F test words f g new h =
    let e : (suc n == 0) ≡ false = ne_eqb (suc n) 0 (λ z. omega (arith, z)) in
    either (is_row (suc n) test new) words (array (suc n) claim F) (format_of new s) (row_reads s (suc n) claim F test f new) (λ k. none_array n claim (g k)) (rw e at h)

mutual
  -- what the rules say is read, is read
  pub shape_reads : (old : Shape) (s : Setting) (new : Shape) → is_read s.encoding old new ≡ true → ReadsAll (format_of new s) (format_of old s)
  shape_reads shapes.Unit s new h = nothing_reads s new h
  shape_reads shapes.Bool s new h = bool_reads s new h
  shape_reads shapes.Char s new h = char_reads s new h
  shape_reads shapes.Text s new h = text_reads s new h
  shape_reads shapes.U8 s new h = u8_reads s new h
  shape_reads shapes.U16 s new h = unsigned_read integers.U16 2 s new h
  shape_reads shapes.U32 s new h = unsigned_read integers.U32 4 s new h
  shape_reads shapes.U64 s new h = unsigned_read integers.U64 8 s new h
  shape_reads shapes.U128 s new h = unsigned_read integers.U128 16 s new h
  shape_reads shapes.Usize s new h = unsigned_read integers.Usize 8 s new h
  shape_reads shapes.I8 s new h = i8_reads s new h
  shape_reads shapes.I16 s new h = signed_read integers.I16 2 s new h
  shape_reads shapes.I32 s new h = signed_read integers.I32 4 s new h
  shape_reads shapes.I64 s new h = signed_read integers.I64 8 s new h
  shape_reads shapes.I128 s new h = signed_read integers.I128 16 s new h
  shape_reads shapes.Isize s new h = signed_read integers.Isize 8 s new h
  shape_reads (shapes.Seq' claim p element) s new h = list_reads s (share claim) (format_of element s) (is_read s.encoding element) (λ z e. shape_reads element s z e) new h
  shape_reads (shapes.Array' n claim p element) s new h =
      array_reads s n (share claim) element (format_of element s) (is_read s.encoding element) (has_words element) (λ z e. shape_reads element s z e) (λ e. shape_none element s e) new h
  shape_reads (shapes.Tuple' v parts) s new h =
      either _ (all_have_words parts) (tuple (at s (formats_of parts))) (format_of new s) (λ e. parts_read s (parts_of s.encoding parts) (formats_of parts) (parts_sound parts s) new e) (λ e. tuple_none parts s e) h
  shape_reads (shapes.Optional' p element) s new h =
      optional_reads s (part_of s.encoding element) (format_of element) (record { reads = λ z e. shape_reads element s z e; none = λ e. shape_none element s e }) new h
  shape_reads (shapes.Choice' v parts) s new h =
      either _ (some_has_words parts) (one_of (numbered_variants 0 (formats_of parts)) s) (format_of new s)
      (λ e. variants_are_read s (parts_of s.encoding parts) (formats_of parts) (parts_sound parts s) new e)
      (λ e. one_of_none s (formats_of parts) (λ n found allowed. variants_none parts s n found allowed e)) h

  parts_sound : {m : _} → (parts : Row_of-Shape m) (s : Setting) → EachSound s (parts_of s.encoding parts) (formats_of parts)
  parts_sound end_of-Shape s = tt
  parts_sound (more_of-Shape shape others) s = (record { reads = λ z e. shape_reads shape s z e; none = λ e. shape_none shape s e }, parts_sound others s)
