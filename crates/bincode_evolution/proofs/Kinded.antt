-- The words of a shape mean values of its kind, so that a shape of another kind reads none of them.
use Rattle.std.specs.Prelude.{length, zero, suc, ◌≡◌, ℕ, ◌-◌, Bool, true, false, ◌==◌, if◌then◌else◌, pos, List, [], ◌∷◌, ◌++◌, Option, Some, None, Ok, Err, refl}
use Rattle.std.specs.Str.{is_utf8}
use Rattle.std.proofs.Common.{◌∙◌, ap, sym, subst}
use Rattle.bincode_base.specs.Setting.{Setting}
use Rattle.bincode_spec.specs.Charge.{Charge, Reserve}
use Rattle.bincode_spec.specs.Fault.{Fault, Allowed, EmptyEnum, UnexpectedVariant, InvalidChar}
use Rattle.bincode_spec.specs.Format.{Format, pure, fail, fixed_bytes, step, ◌>>=◌, from_result, map_format, elements}
use Rattle.bincode_spec.specs.Integers.{byte, unsigned_byte}
use Rattle.bincode_spec.specs.Meaning.{Meaning, Number, Nothing, Then, Choice, list_meaning}
use Rattle.bincode_spec.specs.Words.{natural_number, nothing, first_and, tuple, truth_of, Variant, variant_tags, allowed_tags, if_picked, part, after_tag, tag_then_part, tag, len, array, length_prefixed, text_of, char_width, char_of, rest_of_char, after_char, four_bytes}
use Rattle.bincode_shape.specs.declared.shape.Shape as shapes
use Rattle.bincode_shape.specs.declared.shape.Shape.{Shape, Row_of-Shape, end_of-Shape, more_of-Shape, items-the_row-Shape}
use Rattle.bincode_shape.specs.ShapeLaws.{format_of-lawful}
use Rattle.bincode_shape.specs.Shapes.{format_of, formats_of, share, at, byte_tag, option_variants, one_of, numbered_variants}
use Rattle.bincode_evolution.specs.Kinds.{Kind, OfTruth, OfNumber, OfCharacter, OfText, OfRow, OfChoice, kind, kind_of, row_length}
use Rattle.bincode_evolution.specs.Reading.{ReadsTo, Differs}
use Rattle.bincode_evolution.specs.Rules.{has_words}
use Rattle.bincode_evolution.proofs.Inhabited.{shape_word}
use Rattle.bincode_evolution.proofs.Parts.{taken_element, taken_array}
use Rattle.bincode_evolution.proofs.Taking.{taken_in_turn, taken_pure, taken_map, none_failed}

-- each meaning that is read has this kind
record Kinded (k : Kind) (F : Format Meaning) : Type 0 where
  is_kind : (input : List ℕ) (m : Meaning) (remaining : List ℕ) → ReadsTo (F.read input) m remaining → kind m ≡ k

map_kinded : {A : Type 0} (k : Kind) (f : A → Meaning) (F : Format A) → ((a : A) → kind (f a) ≡ k) → Kinded k (map_format f F)
map_kinded k f F h = record {
  is_kind = λ input m remaining t. let p = taken_map f F input m remaining t in ap kind p.1 ∙ h p.0;
}

turn_kinded : {A : Type 0} (k : Kind) (F : Format A) (G : A → Format Meaning) → ((a : A) → Kinded k (G a)) → Kinded k (F >>= G)
turn_kinded k F G h = record {
  is_kind = λ input m remaining t. let p = taken_in_turn F G input m remaining t in (h p.head).is_kind p.middle m remaining p.second;
}

fail_kinded : (k : Kind) (why : Fault) → Kinded k (fail why)
fail_kinded k why = record { is_kind = λ input m remaining t. absurd ((none_failed why).none input remaining m t) }

pure_kinded : (k : Kind) (m : Meaning) → kind m ≡ k → Kinded k (pure m)
pure_kinded k m h = record { is_kind = λ input n remaining t. let p = taken_pure m input n remaining t in ap kind p.0 ∙ h }

test_kinded : (k : Kind) (b : Bool) (m : Meaning) (why : Fault) → kind m ≡ k → Kinded k (from_result (if b then Ok m else Err why))
test_kinded k true m why h = pure_kinded k m h
test_kinded k false m why h = fail_kinded k why

tests_kinded : (k : Kind) (b c : Bool) (m n : Meaning) (why : Fault) → kind m ≡ k → kind n ≡ k → Kinded k (from_result (if b then Ok m else if c then Ok n else Err why))
tests_kinded k true c m n why h i = pure_kinded k m h
tests_kinded k false c m n why h i = test_kinded k c n why i

after_char_kinded : (first : ℕ) (width : Option ℕ) → Kinded OfCharacter (after_char first width)
after_char_kinded first None = fail_kinded OfCharacter (InvalidChar (four_bytes (first ∷ [])))
after_char_kinded first (Some width) =
    turn_kinded OfCharacter (step (Charge width)) (λ _. rest_of_char first width)
    (λ _. turn_kinded OfCharacter (fixed_bytes (width - 1)) (λ bytes. from_result (char_of (first ∷ bytes)))
    (λ bytes. test_kinded OfCharacter (is_utf8 (first ∷ bytes)) _ _ refl))

list_kind : (ms : List Meaning) → kind (list_meaning ms) ≡ OfRow
list_kind [] = refl
list_kind (m ∷ ms) = refl

array_kinded : (n claim : ℕ) (F : Format Meaning) → Kinded OfRow (array n claim F)
array_kinded n claim F = map_kinded OfRow list_meaning (step (Reserve n claim) >>= λ _. elements n claim F) list_kind

nothing_kinded : Kinded OfRow nothing
unfolding nothing
nothing_kinded = pure_kinded OfRow Nothing refl

first_and_kinded : (F others : Format Meaning) → Kinded OfRow (first_and F others)
unfolding first_and
first_and_kinded F others = turn_kinded OfRow F (λ m. map_format (Then m) others) (λ m. map_kinded OfRow (Then m) others (λ n. refl))

tuple_kinded : (Fs : List (Format Meaning)) → Kinded OfRow (tuple Fs)
tuple_kinded [] = nothing_kinded
tuple_kinded (F ∷ Fs) = first_and_kinded F (tuple Fs)

picked_kinded : (k : Kind) (b : Bool) (F G : Format Meaning) → Kinded k F → Kinded k G → Kinded k (if_picked b F G)
picked_kinded k true F G f g = f
picked_kinded k false F G f g = g

part_kinded : (s : Setting) (variants : List Variant) (allowed : Allowed) (found : ℕ) → Kinded OfChoice (part s variants allowed found)
part_kinded s [] allowed found = fail_kinded OfChoice (UnexpectedVariant allowed found)
part_kinded s (variant ∷ others) allowed found =
    picked_kinded OfChoice (found == variant.0) _ _ (map_kinded OfChoice (Choice found) (variant.1 s) (λ m. refl)) (part_kinded s others allowed found)

chosen_kinded : (tags : Setting → Format ℕ) (s : Setting) (variants : List Variant) → Kinded OfChoice (tag_then_part tags variants s)
unfolding tag_then_part
chosen_kinded tags s variants = turn_kinded OfChoice (tags s) (after_tag variants s) (λ found. part_kinded s variants (allowed_tags (variant_tags variants)) found)

one_of_kinded : (s : Setting) (variants : List Variant) → Kinded OfChoice (one_of variants s)
one_of_kinded s [] = fail_kinded OfChoice EmptyEnum
one_of_kinded s (variant ∷ others) = chosen_kinded tag s (variant ∷ others)

natural_kinded : (F : Format ℕ) → Kinded OfNumber (natural_number F)
natural_kinded F = map_kinded OfNumber (λ n. Number (pos n)) F (λ n. refl)

shape_kinded : (shape : Shape) (s : Setting) → Kinded (kind_of shape) (format_of shape s)
shape_kinded shapes.Unit s = nothing_kinded
shape_kinded shapes.Bool s = turn_kinded OfTruth unsigned_byte (λ b. from_result (truth_of b)) (λ b. tests_kinded OfTruth (b == 0) (b == 1) _ _ _ refl refl)
shape_kinded shapes.Char s = turn_kinded OfCharacter byte (λ first. after_char first (char_width first)) (λ first. after_char_kinded first (char_width first))
shape_kinded shapes.Text s = turn_kinded OfText (length_prefixed s) (λ bytes. from_result (text_of bytes)) (λ bytes. test_kinded OfText (is_utf8 bytes) _ _ refl)
shape_kinded shapes.U8 s = natural_kinded _
shape_kinded shapes.U16 s = natural_kinded _
shape_kinded shapes.U32 s = natural_kinded _
shape_kinded shapes.U64 s = natural_kinded _
shape_kinded shapes.U128 s = natural_kinded _
shape_kinded shapes.Usize s = natural_kinded _
shape_kinded shapes.I8 s = map_kinded OfNumber Number _ (λ n. refl)
shape_kinded shapes.I16 s = map_kinded OfNumber Number _ (λ n. refl)
shape_kinded shapes.I32 s = map_kinded OfNumber Number _ (λ n. refl)
shape_kinded shapes.I64 s = map_kinded OfNumber Number _ (λ n. refl)
shape_kinded shapes.I128 s = map_kinded OfNumber Number _ (λ n. refl)
shape_kinded shapes.Isize s = map_kinded OfNumber Number _ (λ n. refl)
shape_kinded (shapes.Seq' claim p element) s = turn_kinded OfRow (len s) (λ n. array n (share claim) (format_of element s)) (λ n. array_kinded n (share claim) (format_of element s))
shape_kinded (shapes.Array' n claim p element) s = array_kinded n (share claim) (format_of element s)
shape_kinded (shapes.Tuple' v parts) s = tuple_kinded (at s (formats_of parts))
shape_kinded (shapes.Optional' p element) s = chosen_kinded byte_tag s (option_variants (format_of element))
shape_kinded (shapes.Choice' v parts) s = one_of_kinded s (numbered_variants 0 (formats_of parts))

-- Of two shapes of two kinds, the new one reads no word of the old one with the same meaning: there is an input that
-- shows it, where the old one has words.
pub kinds-differ : (old new : Shape) (s : Setting) → has_words old ≡ true → (kind_of old ≡ kind_of new → ⊥) → Differs (format_of new s) (format_of old s)
kinds-differ old new s h apart =
    let w = shape_word old s h in
    let t : ReadsTo ((format_of old s).read (w.word ++ [])) w.meaning [] = (w.steps, (format_of-lawful old s).word_read w.word [] w.meaning w.steps w.is_word) in
    record {
      input = w.word ++ [];
      remaining = [];
      meaning = w.meaning;
      taken = t;
      untaken = λ u.
          apart (sym ((shape_kinded old s).is_kind (w.word ++ []) w.meaning [] t) ∙ (shape_kinded new s).is_kind (w.word ++ []) w.meaning [] u);
    }

-- how many parts a meaning has
parts_in : Meaning → ℕ
parts_in (Then m others) = suc (parts_in others)
parts_in m = 0

-- each meaning that is read has so many parts
record Counted (n : ℕ) (F : Format Meaning) : Type 0 where
  is_count : (input : List ℕ) (m : Meaning) (remaining : List ℕ) → ReadsTo (F.read input) m remaining → parts_in m ≡ n

elements_counted : (n claim : ℕ) (F : Format Meaning) (input : List ℕ) (ms : List Meaning) (remaining : List ℕ) → ReadsTo ((elements n claim F).read input) ms remaining → parts_in (list_meaning ms) ≡ n
unfolding parts_in
elements_counted zero claim F input ms remaining t = ap (λ z. parts_in (list_meaning z)) (taken_pure [] input ms remaining t).0
elements_counted (suc n) claim F input ms remaining t =
    let p = taken_element n claim F input ms remaining t in
    ap (λ z. parts_in (list_meaning z)) p.meaning_is ∙ ap suc (elements_counted n claim F p.middle p.others remaining p.second)

array_counted : (n claim : ℕ) (F : Format Meaning) → Counted n (array n claim F)
array_counted n claim F = record {
  is_count = λ input m remaining t. let p = taken_array n claim F input m remaining t in ap parts_in p.1 ∙ elements_counted n claim F input p.0 remaining p.2;
}

nothing_counted : Counted 0 nothing
unfolding nothing parts_in
nothing_counted = record { is_count = λ input m remaining t. ap parts_in (taken_pure Nothing input m remaining t).0 }

first_and_counted : (n : ℕ) (F others : Format Meaning) → Counted n others → Counted (suc n) (first_and F others)
unfolding first_and parts_in
first_and_counted n F others h = record {
  is_count = λ input m remaining t.
      let p = taken_in_turn F (λ a. map_format (Then a) others) input m remaining t in
      let q = taken_map (Then p.head) others p.middle m remaining p.second in
      ap parts_in q.1 ∙ ap suc (h.is_count p.middle q.0 remaining q.2);
}

tuple_counted : (Fs : List (Format Meaning)) → Counted (length Fs) (tuple Fs)
tuple_counted [] = nothing_counted
tuple_counted (F ∷ Fs) = first_and_counted (length Fs) F (tuple Fs) (tuple_counted Fs)

length-at : {m : _} → (parts : Row_of-Shape m) (s : Setting) → length (at s (formats_of parts)) ≡ length (items-the_row-Shape _ parts)
length-at end_of-Shape s = refl
length-at (more_of-Shape part others) s = ap suc (length-at others s)

row_counted : (shape : Shape) (s : Setting) (n : ℕ) → row_length shape ≡ Some n → Counted n (format_of shape s)
row_counted shapes.Unit s n e = let k : 0 ≡ n = cc in subst (λ z. Counted z nothing) k nothing_counted
row_counted (shapes.Array' len claim p element) s n e = let k : len ≡ n = cc in subst (λ z. Counted z (array len (share claim) (format_of element s))) k (array_counted len (share claim) (format_of element s))
row_counted (shapes.Tuple' v parts) s n e =
    let k : length (items-the_row-Shape _ parts) ≡ n = cc in
    subst (λ z. Counted z (tuple (at s (formats_of parts)))) (length-at parts s ∙ k) (tuple_counted (at s (formats_of parts)))
row_counted shape s n e = absurd (cc)

-- Of two rows of different lengths the new one reads no word of the old one with the same meaning.
pub lengths-differ : (old new : Shape) (s : Setting) (n k : ℕ) → has_words old ≡ true → row_length old ≡ Some n → row_length new ≡ Some k → (n ≡ k → ⊥) → Differs (format_of new s) (format_of old s)
lengths-differ old new s n k h e f apart =
    let w = shape_word old s h in
    let t : ReadsTo ((format_of old s).read (w.word ++ [])) w.meaning [] = (w.steps, (format_of-lawful old s).word_read w.word [] w.meaning w.steps w.is_word) in
    record {
      input = w.word ++ [];
      remaining = [];
      meaning = w.meaning;
      taken = t;
      untaken = λ u. apart (sym ((row_counted old s n e).is_count (w.word ++ []) w.meaning [] t) ∙ (row_counted new s k f).is_count (w.word ++ []) w.meaning [] u);
    }
