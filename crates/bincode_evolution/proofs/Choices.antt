-- Options and enums that read all words of others.
use Rattle.std.specs.Prelude.{◌≡◌, ℕ, ◌+◌, ◌≤◌, Bool, true, false, not, ◌==◌, nat_le, List, [], ◌∷◌, refl}
use Rattle.std.proofs.Common.{sym, subst, arith}
use Rattle.std.proofs.lemmas.Bool.{and_parts, eqb-true, le-leb, not-true}
use Rattle.bincode_base.specs.declared.config.IntEncoding.{IntEncoding}
use Rattle.bincode_base.specs.declared.config.IntEncoding.TheVariants.{Fixed, Variable}
use Rattle.bincode_base.specs.declared.config.Endianness.{Endianness}
use Rattle.bincode_base.specs.declared.error.IntegerType.TheVariants as integers
use Rattle.bincode_base.specs.Setting.{Setting}
use Rattle.bincode_spec.specs.Charge.{Charge}
use Rattle.bincode_spec.specs.Fault.{Fault, Allowed, EmptyEnum, UnexpectedVariant, InvalidInteger}
use Rattle.bincode_spec.specs.Format.{Format, fail, ◌>>=◌, written_as, map_format}
use Rattle.bincode_spec.specs.Integers.{byte, unsigned_byte, unsigned_integer, unsigned_tag, number_by, number_after, first_byte, varint}
use Rattle.bincode_spec.specs.Meaning.{Meaning, Choice}
use Rattle.bincode_spec.specs.Words.{nothing, Variant, variant_tags, allowed_tags, if_picked, part, after_tag, tag_then_part, tag}
use Rattle.bincode_shape.specs.declared.shape.Shape as shapes
use Rattle.bincode_shape.specs.declared.shape.Shape.{Shape, items-the_row-Shape}
use Rattle.bincode_shape.specs.Shapes.{format_of, byte_tag, option_variants, one_of, numbered_variants}
use Rattle.bincode_shape.specs.Rows.{formats}
use Rattle.bincode_evolution.specs.Lists.{formats-items}
use Rattle.bincode_evolution.specs.Reading.{ReadsTo, ReadsAll}
use Rattle.bincode_evolution.specs.Rules.{Part, is_nothing, is_option_of, is_optional, is_variable, variants_read, has_variants}
use Rattle.bincode_evolution.proofs.Taking.{taken_in_turn, takes_in_turn, takes_pure, takes_stepped, taken_stepped, reads_itself, reads_in_turn, reads_map, reads_picked, NoWord, reads_none, none_second, none_map, none_failed, none_picked}
use Rattle.bincode_evolution.proofs.Parts.{Sound, EachSound, nothing_reads}

-- without a new variant, the old one has no words
variants_lack : (s : Setting) (n : ℕ) (allowed : Allowed) (found : ℕ) (parts : List Part) (Fs : List (Setting → Format Meaning)) → EachSound s parts Fs → variants_read parts [] ≡ true →
    NoWord (part s (numbered_variants n Fs) allowed found)
variants_lack s n allowed found [] [] sound h = none_failed (UnexpectedVariant allowed found)
variants_lack s n allowed found [] (F ∷ Fs) sound h = absurd sound
variants_lack s n allowed found (p ∷ parts) [] sound h = absurd sound
variants_lack s n allowed found (p ∷ parts) (F ∷ Fs) sound h =
    let both = and_parts (not p.has_words) (variants_read parts []) h in
    none_picked (found == n) (none_map (Choice found) (sound.0.none (not-true p.has_words both.0))) (variants_lack s (n + 1) allowed found parts Fs sound.1 both.1)

variants_reads : (s : Setting) (n : ℕ) (old new : Allowed) (found : ℕ) (parts : List Part) (Fs : List (Setting → Format Meaning)) → EachSound s parts Fs → (news : List Shape) →
    variants_read parts news ≡ true → ReadsAll (part s (numbered_variants n (formats news)) new found) (part s (numbered_variants n Fs) old found)
variants_reads s n old new found [] [] sound news h = reads_none _ (none_failed (UnexpectedVariant old found))
variants_reads s n old new found [] (F ∷ Fs) sound news h = absurd sound
variants_reads s n old new found (p ∷ parts) [] sound news h = absurd sound
variants_reads s n old new found (p ∷ parts) (F ∷ Fs) sound [] h = reads_none _ (variants_lack s n old found (p ∷ parts) (F ∷ Fs) sound h)
variants_reads s n old new found (p ∷ parts) (F ∷ Fs) sound (shape ∷ news) h =
    let both = and_parts (p.is_read_by shape) (variants_read parts news) h in
    reads_picked (found == n) (reads_map (Choice found) (sound.0.reads shape both.0)) (variants_reads s (n + 1) old new found parts Fs sound.1 news both.1)

-- a tag, then a part
chosen_reads : (tags : Setting → Format ℕ) (s : Setting) (old new : List Variant) → ((found : ℕ) → ReadsAll (after_tag new s found) (after_tag old s found)) →
    ReadsAll (tag_then_part tags new s) (tag_then_part tags old s)
unfolding tag_then_part
chosen_reads tags s old new h = reads_in_turn (reads_itself (tags s)) h

pub chosen_none : (tags : Setting → Format ℕ) (s : Setting) (variants : List Variant) → ((found : ℕ) → NoWord (after_tag variants s found)) → NoWord (tag_then_part tags variants s)
unfolding tag_then_part
chosen_none tags s variants h = none_second (tags s) h

one_of_reads : (s : Setting) (parts : List Part) (Fs : List (Setting → Format Meaning)) → EachSound s parts Fs → (news : List Shape) → variants_read parts news ≡ true →
    ReadsAll (one_of (numbered_variants 0 (formats news)) s) (one_of (numbered_variants 0 Fs) s)
one_of_reads s [] [] sound news h = reads_none _ (none_failed EmptyEnum)
one_of_reads s [] (F ∷ Fs) sound news h = absurd sound
one_of_reads s (p ∷ parts) [] sound news h = absurd sound
one_of_reads s (p ∷ parts) (F ∷ Fs) sound [] h =
    let variants = numbered_variants 0 (F ∷ Fs) in
    reads_none _ (chosen_none tag s variants (λ found. variants_lack s 0 (allowed_tags (variant_tags variants)) found (p ∷ parts) (F ∷ Fs) sound h))
one_of_reads s (p ∷ parts) (F ∷ Fs) sound (shape ∷ news) h =
    let old = numbered_variants 0 (F ∷ Fs) in
    let new = numbered_variants 0 (formats (shape ∷ news)) in
    chosen_reads tag s old new (λ found. variants_reads s 0 (allowed_tags (variant_tags old)) (allowed_tags (variant_tags new)) found (p ∷ parts) (F ∷ Fs) sound (shape ∷ news) h)

-- what has such variants reads an enum
pub variants_are_read : (s : Setting) (parts : List Part) (Fs : List (Setting → Format Meaning)) → EachSound s parts Fs → (new : Shape) → has_variants parts new ≡ true →
    ReadsAll (format_of new s) (one_of (numbered_variants 0 Fs) s)
variants_are_read s parts Fs sound (shapes.Choice' v others) h =
    subst (λ z. ReadsAll (one_of (numbered_variants 0 z) s) (one_of (numbered_variants 0 Fs) s)) (sym (formats-items others)) (one_of_reads s parts Fs sound (items-the_row-Shape _ others) h)
variants_are_read s parts Fs sound new h = absurd (cc)

-- the byte of an option is a tag of its variant, where the length varies
byte_as_number : (order : Endianness) (b : ℕ) (input remaining : List ℕ) → b ≤ 250 → ReadsTo (byte.read input) b remaining →
    ReadsTo ((varint unsigned_tag integers.U32 order 4).read input) b remaining
unfolding varint written_as ◌>>=◌
byte_as_number order b input remaining h t =
    let e : nat_le b 250 ≡ true = le-leb b 250 h in
    takes_in_turn byte (λ first. number_after order (InvalidInteger integers.U32 (unsigned_tag first)) first (first_byte 4 first)) input b remaining (record {
      head = b;
      middle = remaining;
      first = t;
      second = rw e (takes_pure b remaining);
    })

byte_by : (order : Endianness) (encoding : IntEncoding) (b : ℕ) (input remaining : List ℕ) → is_variable encoding ≡ true → b ≤ 250 → ReadsTo (byte.read input) b remaining →
    ReadsTo ((number_by unsigned_tag integers.U32 order 4 encoding).read input) b remaining
byte_by order Fixed b input remaining v h t = absurd (cc)
byte_by order Variable b input remaining v h t = byte_as_number order b input remaining h t

byte_as_tag : (s : Setting) (b : ℕ) (input remaining : List ℕ) → is_variable s.encoding ≡ true → b ≤ 250 → ReadsTo (unsigned_byte.read input) b remaining → ReadsTo ((tag s).read input) b remaining
unfolding unsigned_byte unsigned_integer
byte_as_tag s b input remaining v h t =
    takes_stepped (Charge 4) (number_by unsigned_tag integers.U32 s.order 4 s.encoding) input b remaining
    (byte_by s.order s.encoding b input remaining v h (taken_stepped (Charge 1) byte input b remaining t))

-- an option has two tags
few : (zero_found one_found : Bool) (found : ℕ) (F G : Format Meaning) (why : Fault) (input : List ℕ) (m : Meaning) (remaining : List ℕ) → (found == 0) ≡ zero_found → (found == 1) ≡ one_found →
    ReadsTo ((if_picked zero_found F (if_picked one_found G (fail why))).read input) m remaining → found ≤ 250
few true one_found found F G why input m remaining e f t = let k = eqb-true found 0 e in omega (arith, k)
few false true found F G why input m remaining e f t = let k = eqb-true found 1 f in omega (arith, k)
few false false found F G why input m remaining e f t = absurd ((none_failed why).none input remaining m t)

option_as_enum : (s : Setting) (F : Setting → Format Meaning) (variant : Variant) (others : List Variant) → is_variable s.encoding ≡ true →
    ((found : ℕ) → ReadsAll (after_tag (variant ∷ others) s found) (after_tag (option_variants F) s found)) → ReadsAll (one_of (variant ∷ others) s) (tag_then_part byte_tag (option_variants F) s)
unfolding tag_then_part
option_as_enum s F variant others v h = record {
  reads = λ input remaining m t.
      let p = taken_in_turn unsigned_byte (after_tag (option_variants F) s) input m remaining t in
      let small = few (p.head == 0) (p.head == 1) p.head _ _ _ p.middle m remaining refl refl p.second in
      takes_in_turn (tag s) (after_tag (variant ∷ others) s) input m remaining (record {
        head = p.head;
        middle = p.middle;
        first = byte_as_tag s p.head input p.middle v small p.first;
        second = (h p.head).reads p.middle remaining m p.second;
      });
}

option_reads : (s : Setting) (p : Part) (F : Setting → Format Meaning) → Sound s p (F s) → is_variable s.encoding ≡ true → (news : List Shape) → is_option_of p news ≡ true →
    ReadsAll (one_of (numbered_variants 0 (formats news)) s) (tag_then_part byte_tag (option_variants F) s)
option_reads s p F sound v [] h = absurd (cc)
option_reads s p F sound v (first ∷ []) h =
    let both = and_parts (is_nothing first) (not p.has_words) h in
    option_as_enum s F (0, format_of first) [] v (λ found.
    reads_picked (found == 0) (reads_map (Choice found) (nothing_reads s first both.0))
    (reads_none _ (none_picked (found == 1) (none_map (Choice found) (sound.none (not-true p.has_words both.1))) (none_failed _))))
option_reads s p F sound v (first ∷ second ∷ others) h =
    let both = and_parts (is_nothing first) (p.is_read_by second) h in
    option_as_enum s F (0, format_of first) ((1, format_of second) ∷ numbered_variants 2 (formats others)) v (λ found.
    reads_picked (found == 0) (reads_map (Choice found) (nothing_reads s first both.0))
    (reads_picked (found == 1) (reads_map (Choice found) (sound.reads second both.1)) (reads_none _ (none_failed _))))

-- what reads an option
pub optional_reads : (s : Setting) (p : Part) (F : Setting → Format Meaning) → Sound s p (F s) → (new : Shape) → is_optional s.encoding p new ≡ true →
    ReadsAll (format_of new s) (tag_then_part byte_tag (option_variants F) s)
optional_reads s p F sound (shapes.Optional' q new) h =
    chosen_reads byte_tag s (option_variants F) (option_variants (format_of new)) (λ found.
    reads_picked (found == 0) (reads_itself (map_format (Choice found) nothing))
    (reads_picked (found == 1) (reads_map (Choice found) (sound.reads new h)) (reads_none _ (none_failed _))))
optional_reads s p F sound (shapes.Choice' v others) h =
    let both = and_parts (is_variable s.encoding) (is_option_of p (items-the_row-Shape _ others)) h in
    subst (λ z. ReadsAll (one_of (numbered_variants 0 z) s) (tag_then_part byte_tag (option_variants F) s)) (sym (formats-items others)) (option_reads s p F sound both.0 (items-the_row-Shape _ others) both.1)
optional_reads s p F sound new h = absurd (cc)
