-- What shows that a part is not read shows it of the whole.
use Rattle.std.specs.Prelude.{◌≡◌, ℕ, ◌^◌, ◌<◌, List, [], ◌∷◌, ◌++◌, Some, refl}
use Rattle.std.proofs.Common.{◌∙◌, ap, sym, subst, arith}
use Rattle.bincode_base.specs.declared.error.IntegerType.TheVariants as integers
use Rattle.bincode_base.specs.Setting.{Setting}
use Rattle.bincode_spec.specs.Format.{Format, Reading, map_format}
use Rattle.bincode_spec.specs.Integers.{unsigned_byte, spelling, Eight}
use Rattle.bincode_spec.specs.Meaning.{Meaning, Nothing, Then, Choice, list_meaning}
use Rattle.bincode_spec.specs.Words.{after_tag, tag_then_part, len, array, list}
use Rattle.bincode_lemmas.specs.IntegerLaws.{unsigned-lawful, written-unsigned, unsigned_byte-lawful, written-unsigned_byte}
use Rattle.bincode_shape.specs.declared.shape.Shape as shapes
use Rattle.bincode_shape.specs.declared.shape.Shape.{Shape}
use Rattle.bincode_shape.specs.Shapes.{format_of, share, byte_tag, option_variants}
use Rattle.bincode_evolution.specs.Kinds.{element_of, part_in}
use Rattle.bincode_evolution.specs.Reading.{ReadsTo, Differs}
use Rattle.bincode_evolution.specs.Rules.{is_read}
use Rattle.bincode_evolution.proofs.Taking.{taken_in_turn, takes_in_turn, takes_pure, taken_pure, takes_map, taken_map}
use Rattle.bincode_evolution.proofs.Parts.{taken_element, takes_element, taken_array, takes_array}

pub same_taken : {A : Type 0} (r : Reading A) (m n : A) (remaining others : List ℕ) → ReadsTo r m remaining → ReadsTo r n others → (n ≡ m) × (others ≡ remaining)
same_taken r m n remaining others t u = let e = sym t.1 ∙ u.1 in (cc, cc)

-- one element: its length, and what follows
length_one : (s : Setting) → (word : List ℕ) × ((rest : List ℕ) → ReadsTo ((len s).read (word ++ rest)) 1 rest)
length_one s =
    let below : 1 < 256 ^ 8 = omega arith in
    let law = unsigned-lawful integers.U64 8 s (Eight refl) in
    let w = law.written_is_word _ 1 (written-unsigned integers.U64 8 1 s below) in
    (spelling s.encoding s.order 8 1, λ rest. (w.0, law.word_read _ rest 1 w.0 w.1))

single : (claim : ℕ) (G : Format Meaning) (input : List ℕ) (m : Meaning) (remaining : List ℕ) → ReadsTo ((array 1 claim G).read input) (Then m Nothing) remaining → ReadsTo (G.read input) m remaining
single claim G input m remaining t =
    let p = taken_array 1 claim G input (Then m Nothing) remaining t in
    let q = taken_element 0 claim G input p.0 remaining p.2 in
    let r = taken_pure [] q.middle q.others remaining q.second in
    let e : Then m Nothing ≡ Then q.m (list_meaning q.others) = p.1 ∙ ap list_meaning q.meaning_is in
    let k : m ≡ q.m = cc in
    subst (λ z. ReadsTo (G.read input) z remaining) (sym k) (subst (λ z. ReadsTo (G.read input) q.m z) (sym r.1) q.first)

list_differs : (s : Setting) (old new : ℕ) (F G : Format Meaning) → Differs G F → Differs (list s new G) (list s old F)
list_differs s old new F G d =
    let one = length_one s in
    record {
      input = one.0 ++ d.input;
      remaining = d.remaining;
      meaning = Then d.meaning Nothing;
      taken = takes_in_turn (len s) (λ n. array n old F) (one.0 ++ d.input) (Then d.meaning Nothing) d.remaining (record {
        head = 1;
        middle = d.input;
        first = one.1 d.input;
        second = takes_array 1 old F d.input (d.meaning ∷ []) d.remaining (takes_element 0 old F d.input d.meaning d.remaining [] d.remaining d.taken (takes_pure [] d.remaining));
      });
      untaken = λ t.
          let p = taken_in_turn (len s) (λ n. array n new G) (one.0 ++ d.input) (Then d.meaning Nothing) d.remaining t in
          let q = same_taken ((len s).read (one.0 ++ d.input)) 1 p.head d.input p.middle (one.1 d.input) p.first in
          d.untaken (single new G d.input d.meaning d.remaining
          (subst (λ z. ReadsTo ((array 1 new G).read z) (Then d.meaning Nothing) d.remaining) q.1 (subst (λ n. ReadsTo ((array n new G).read p.middle) (Then d.meaning Nothing) d.remaining) q.0 p.second)));
    }

-- an option of something
byte_one : (rest : List ℕ) → ReadsTo (unsigned_byte.read (1 ∷ rest)) 1 rest
byte_one rest =
    let w = unsigned_byte-lawful.written_is_word (1 ∷ []) 1 (written-unsigned_byte 1) in (w.0, unsigned_byte-lawful.word_read (1 ∷ []) rest 1 w.0 w.1)

option_differs : (s : Setting) (F G : Setting → Format Meaning) → Differs (G s) (F s) → Differs (tag_then_part byte_tag (option_variants G) s) (tag_then_part byte_tag (option_variants F) s)
unfolding tag_then_part
option_differs s F G d = record {
  input = 1 ∷ d.input;
  remaining = d.remaining;
  meaning = Choice 1 d.meaning;
  taken = takes_in_turn unsigned_byte (after_tag (option_variants F) s) (1 ∷ d.input) (Choice 1 d.meaning) d.remaining (record {
    head = 1;
    middle = d.input;
    first = byte_one d.input;
    second = takes_map (Choice 1) (F s) d.input d.meaning d.remaining d.taken;
  });
  untaken = λ t.
      let p = taken_in_turn unsigned_byte (after_tag (option_variants G) s) (1 ∷ d.input) (Choice 1 d.meaning) d.remaining t in
      let q = same_taken (unsigned_byte.read (1 ∷ d.input)) 1 p.head d.input p.middle (byte_one d.input) p.first in
      let u : ReadsTo ((map_format (Choice 1) (G s)).read d.input) (Choice 1 d.meaning) d.remaining =
      subst (λ z. ReadsTo ((after_tag (option_variants G) s 1).read z) (Choice 1 d.meaning) d.remaining) q.1
      (subst (λ n. ReadsTo ((after_tag (option_variants G) s n).read p.middle) (Choice 1 d.meaning) d.remaining) q.0 p.second) in
      let v = taken_map (Choice 1) (G s) d.input (Choice 1 d.meaning) d.remaining u in
      let k : d.meaning ≡ v.0 = let e = v.1 in cc in
      d.untaken (subst (λ z. ReadsTo ((G s).read d.input) z d.remaining) (sym k) v.2);
}

-- what the rules say of the part, they say of the whole, and so does what shows it
pub record Whole (s : Setting) (old new old_part new_part : Shape) : Type 0 where
  pub rule_is : is_read s.encoding old new ≡ is_read s.encoding old_part new_part
  pub differs : Differs (format_of new_part s) (format_of old_part s) → Differs (format_of new s) (format_of old s)

pub list_whole : (s : Setting) (old new a b : Shape) → element_of old ≡ Some a → element_of new ≡ Some b → Whole s old new a b
list_whole s (shapes.Seq' c p x) (shapes.Seq' d q y) a b e f =
    let k : x ≡ a = cc in
    let l : y ≡ b = cc in
    subst (λ z. Whole s (shapes.Seq' c p x) (shapes.Seq' d q y) z b) k
    (subst (λ z. Whole s (shapes.Seq' c p x) (shapes.Seq' d q y) x z) l (record { rule_is = refl; differs = λ h. list_differs s (share c) (share d) (format_of x s) (format_of y s) h }))
list_whole s (shapes.Seq' c p x) new a b e f = absurd (cc)
list_whole s old new a b e f = absurd (cc)

pub option_whole : (s : Setting) (old new a b : Shape) → part_in old ≡ Some a → part_in new ≡ Some b → Whole s old new a b
option_whole s (shapes.Optional' p x) (shapes.Optional' q y) a b e f =
    let k : x ≡ a = cc in
    let l : y ≡ b = cc in
    subst (λ z. Whole s (shapes.Optional' p x) (shapes.Optional' q y) z b) k
    (subst (λ z. Whole s (shapes.Optional' p x) (shapes.Optional' q y) x z) l (record { rule_is = refl; differs = λ h. option_differs s (format_of x) (format_of y) h }))
option_whole s (shapes.Optional' p x) new a b e f = absurd (cc)
option_whole s old new a b e f = absurd (cc)
