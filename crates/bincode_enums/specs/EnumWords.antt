-- The format of an enum, variant by variant.
use Rattle.std.specs.Prelude.{◌≡◌, ◌⊎◌, ◌<◌, ◌+◌, ◌-◌, ◌^◌, ◌==◌, ℕ, true, false, min, max, pos, Bool, List, [], ◌∷◌, Option, refl}
use Rattle.std.proofs.Common.{◌∙◌, sym, subst, arith}
use Rattle.bincode_base.specs.Setting.{Setting}
use Rattle.bincode_base.specs.declared.error.EncodeError.{EncodeError}
use Rattle.bincode_base.specs.declared.error.IntegerType.TheVariants.{U32}
use Rattle.bincode_spec.specs.Allowed.{AllowedWord, SomeWord, MayName, WrittenAlike, IsShortest, OneLength}
use Rattle.bincode_spec.specs.Answer.{answer}
use Rattle.bincode_spec.specs.Choices.{IsChoice}
use Rattle.bincode_spec.specs.Layers.Laws.{AllLawful, AllBalanced}
use Rattle.bincode_spec.specs.Fault.{Allowed, UnexpectedVariant}
use Rattle.bincode_spec.specs.Format.{Format, map_format}
use Rattle.bincode_spec.specs.Integers.{Four}
use Rattle.bincode_spec.specs.Meaning.{Meaning, Choice, Number}
use Rattle.bincode_spec.specs.Layers.Needs.{then_needs, picked_needs}
use Rattle.bincode_spec.specs.Words.{tag, Variant, variant_tags, allowed_tags, in_order, part, tag_then_part}
use Rattle.bincode_lemmas.specs.AllowedLaws.{fewer-none_shorter}
use Rattle.bincode_lemmas.specs.ChargedLaws.{ChargesEnough, picked-charged, fail-charged, map-charged, chosen-charged}
use Rattle.bincode_lemmas.specs.ChoiceLaws.{part-here, part-there, same-alike, chosen-lawful, chosen-balanced, choice-has_word, choice-one_length, choice-same, choice-shortest, tags-differ}
use Rattle.bincode_lemmas.specs.FormLaws.{Numerals, unsigned-numerals}
use Rattle.bincode_lemmas.specs.NeedLaws.{Needs, picked-needs, fail-needs, map-needs, chosen-needs}
use Rattle.bincode_lemmas.specs.TupleLaws.{either}
use Rattle.bincode_types.specs.Sums.{this, other}
use Rattle.bincode_types.specs.TypeLaws.{AlwaysWritable, PlainWords, ExactWords, CanonicalWords}
use Rattle.bincode_types.specs.TypeWords.{Words}
use Rattle.bincode_types.specs.declared.sums.VariantOf.{VariantOf}
use Rattle.bincode_types.specs.declared.sums.VariantOf.TheVariants.{This, Other}

-- the value made from the part of one variant, or from one of the others
abbrev pub by : {n : ℕ} {A B C : Type 0} → (A → C) → (B → C) → VariantOf n A B → C
by f g (This a) = f a
by f g (Other o) = g o

-- the tag is none of these
abbrev pub IsNone : ℕ → List ℕ → Type 0
IsNone found [] = Unit {0}
IsNone found (n ∷ tags) = ((found == n) ≡ false) × IsNone found tags

-- two formats decode alike
abbrev pub DecodeAlike : Format Meaning → Format Meaning → Type 0
DecodeAlike F G = (limit : Option ℕ) (input : List ℕ) (c : ℕ) → answer limit F input c ≡ answer limit G input c

-- the formats of the variants, and the laws that they have if all of their parts have them
pub record VariantWords (A : Type 0) : Type 1 where
  -- the tag of each variant, and the format of its part
  pub variants : List Variant
  -- the tag of a value, and the format of its part
  pub variant : A → Variant
  -- the part is valid, and no earlier variant has the tag
  pub valid : A → Type 0
  -- the tag selects the value's variant
  pub picked : (s : Setting) (allowed : Allowed) (v : A) → valid v → part s variants allowed (variant v).0 ≡ map_format (Choice (variant v).0) ((variant v).1 s)
  pub means : A → Meaning → Type 0
  pub decodes_to : A → Meaning → Type 0
  pub writable : A → Setting → Type 0
  pub own_errors : EncodeError → Type 0
  pub may_allocate : Type 0
  -- the largest claim of a part, in bytes
  pub claim : ℕ
  pub lawful : (s : Setting) → AllLawful s variants
  pub balanced : (s : Setting) → AllBalanced s variants
  pub has_word : (s : Setting) (v : A) → valid v → writable v s → SomeWord (AllowedWord (means v) ((variant v).1 s))
  pub errors_are_own : (e : EncodeError) → own_errors e → MayName e
  -- how large a limit the part after this tag needs
  pub need : Setting → ℕ → List ℕ → ℕ
  pub needs : (s : Setting) (allowed : Allowed) (found : ℕ) → Needs (need s found) (part s variants allowed found)
  pub charges_enough : (s : Setting) (allowed : Allowed) (found : ℕ) → ChargesEnough (part s variants allowed found)
  -- each part can always be written
  pub AllWritable : Type 0
  pub always_writable : AllWritable → (s : Setting) (v : A) → valid v → writable v s
  -- each part is plain
  pub AllPlain : Type 0
  pub plain_writable : AllPlain → (s : Setting) (v : A) → valid v → writable v s
  pub one_length : AllPlain → (s : Setting) (v : A) → valid v → OneLength (AllowedWord (means v) ((variant v).1 s))
  pub names_none : AllPlain → (e : EncodeError) → own_errors e → ⊥
  -- each part is exact, under this equality of values
  pub AllExact : (A → A → Bool) → Type 0
  pub one_value : (eq : A → A → Bool) → AllExact eq → (v w : A) (m : Meaning) → valid v → valid w → (variant v).0 ≡ (variant w).0 → means v m → means w m → eq v w ≡ true
  pub comes_back : (eq : A → A → Bool) → AllExact eq → (v w : A) (m : Meaning) → valid v → (variant v).0 ≡ (variant w).0 → means v m → decodes_to w m → eq v w ≡ true
  -- each part is canonical
  pub AllCanonical : Type 0
  pub shortest : AllCanonical → (s : Setting) (v w : A) → valid v → (variant v).0 ≡ (variant w).0 → IsShortest (means v) (decodes_to w) ((variant v).1 s)

-- no variant
abbrev pub no_more : {A : Type 0} → VariantWords A
no_more = record {
  variants = [];
  variant = λ v. (0, λ s. map_format (λ n. Number (pos n)) (tag s));
  valid = λ v. ⊥;
  picked = λ s allowed v h. absurd h;
  means = λ v m. ⊥;
  decodes_to = λ v m. ⊥;
  writable = λ v s. ⊥;
  own_errors = λ e. ⊥;
  may_allocate = ⊥;
  claim = 0;
  lawful = λ s. tt;
  balanced = λ s. tt;
  has_word = λ s v h w. absurd h;
  errors_are_own = λ e h. absurd h;
  need = λ s found input. 0;
  needs = λ s allowed found. fail-needs (UnexpectedVariant allowed found);
  charges_enough = λ s allowed found. fail-charged (UnexpectedVariant allowed found);
  AllWritable = Unit {0};
  always_writable = λ all s v h. absurd h;
  AllPlain = Unit {0};
  plain_writable = λ all s v h. absurd h;
  one_length = λ all s v h. absurd h;
  names_none = λ all e h. h;
  AllExact = λ eq. Unit {0};
  one_value = λ eq all v w m h. absurd h;
  comes_back = λ eq all v w m h. absurd h;
  AllCanonical = Unit {0};
  shortest = λ all s v w h. absurd h;
}

-- the variant with this tag and part, then the others
abbrev pub or_else : {A B : Type 0} (n : ℕ) → Words A → VariantWords B → VariantWords (VariantOf n A B)
or_else {A} {B} n W V = record {
  variants = (n, W.format) ∷ V.variants;
  variant = elim [ This a ↦ (n, W.format) | Other o ↦ V.variant o ];
  valid = elim [ This a ↦ W.valid a | Other o ↦ (((V.variant o).0 == n) ≡ false) × V.valid o ];
  picked = λ s allowed. elim [
    | This a ↦ λ h. part-here s allowed n W.format V.variants
    | Other o ↦ λ h. part-there s allowed (V.variant o).0 n W.format V.variants h.0 ∙ V.picked s allowed o h.1
  ];
  means = elim [ This a ↦ W.means a | Other o ↦ V.means o ];
  decodes_to = elim [ This a ↦ λ m. W.decodes_to m a | Other o ↦ λ m. (((V.variant o).0 == n) ≡ false) × V.decodes_to o m ];
  writable = elim [ This a ↦ λ s. W.writable s a | Other o ↦ V.writable o ];
  own_errors = λ e. W.own_errors e ⊎ V.own_errors e;
  may_allocate = W.may_allocate ⊎ V.may_allocate;
  claim = max W.claim V.claim;
  lawful = λ s. (W.lawful s, V.lawful s);
  balanced = λ s. (W.balanced s, V.balanced s);
  has_word = λ s. elim [ This a ↦ W.has_word s a | Other o ↦ λ h w. V.has_word s o h.1 w ];
  errors_are_own = λ e. either (W.errors_are_own e) (V.errors_are_own e);
  need = λ s found. picked_needs (found == n) (W.need s) (V.need s found);
  needs = λ s allowed found. picked-needs (found == n) _ _ _ _ (map-needs (W.need s) (Choice found) (W.format s) (W.needs s)) (V.needs s allowed found);
  charges_enough = λ s allowed found. picked-charged (found == n) _ _ (map-charged (Choice found) (W.format s) (W.charges_enough s)) (V.charges_enough s allowed found);
  AllWritable = AlwaysWritable W × V.AllWritable;
  always_writable = λ all s. elim [ This a ↦ all.0 s a | Other o ↦ λ h. V.always_writable all.1 s o h.1 ];
  AllPlain = PlainWords W × V.AllPlain;
  plain_writable = λ all s. elim [ This a ↦ all.0.always_writable s a | Other o ↦ λ h. V.plain_writable all.1 s o h.1 ];
  one_length = λ all s. elim [ This a ↦ all.0.one_length s a | Other o ↦ λ h. V.one_length all.1 s o h.1 ];
  names_none = λ all e. either (all.0.names_none e) (V.names_none all.1 e);
  AllExact = λ eq. ExactWords W (λ a b. eq (this a) (this b)) × V.AllExact (λ o p. eq (other o) (other p));
  one_value = λ eq all. elim [
    | This a ↦ elim [
      | This b ↦ λ m h k e. all.0.one_value a b m h k
      | Other o ↦ λ m h k e. absurd (tags-differ n (V.variant o).0 k.0 e)
    ]
    | Other p ↦ elim [
      | This b ↦ λ m h k e. absurd (tags-differ n (V.variant p).0 h.0 (sym e))
      | Other o ↦ λ m h k. V.one_value (λ o p. eq (other o) (other p)) all.1 p o m h.1 k.1
    ]
  ];
  comes_back = λ eq all. elim [
    | This a ↦ elim [
      | This b ↦ λ m h e. all.0.comes_back a b m h
      | Other o ↦ λ m h e p q. absurd (tags-differ n (V.variant o).0 q.0 e)
    ]
    | Other p ↦ elim [
      | This b ↦ λ m h e. absurd (tags-differ n (V.variant p).0 h.0 (sym e))
      | Other o ↦ λ m h e r q. V.comes_back (λ o p. eq (other o) (other p)) all.1 p o m h.1 e r q.1
    ]
  ];
  AllCanonical = CanonicalWords W × V.AllCanonical;
  shortest = λ all s. elim [
    | This a ↦ elim [
      | This b ↦ λ h e. all.0 s a b h
      | Other o ↦ λ h e written bytes m steps w. absurd (tags-differ n (V.variant o).0 w.is_meant.1.0 e)
    ]
    | Other p ↦ elim [
      | This b ↦ λ h e. absurd (tags-differ n (V.variant p).0 h.0 (sym e))
      | Other o ↦ λ h e. fewer-none_shorter (λ m p. (p.0, p.1.1)) (λ m p. p.1) (V.shortest all.1 s p o h.1 e)
    ]
  ];
}

pub tag-numerals : Numerals 4 (λ n. n < 2 ^ 32) pos tag
tag-numerals = unsigned-numerals U32 4 (Four refl)

-- the format of an enum: the tag of a variant, then its part
abbrev pub enum_words : {A B : Type 0} → VariantWords B → (A → B) → Words A
enum_words V parts = record {
  format = tag_then_part tag V.variants;
  valid = λ v. ((V.variant (parts v)).0 < 2 ^ 32) × V.valid (parts v);
  means = λ v. IsChoice (V.variant (parts v)).0 (V.means (parts v));
  decodes_to = λ m v. IsChoice (V.variant (parts v)).0 (V.decodes_to (parts v)) m;
  writable = λ s v. V.writable (parts v) s;
  own_errors = V.own_errors;
  may_allocate = (in_order 0 (variant_tags V.variants) ≡ false) ⊎ V.may_allocate;
  claim = min (4 + V.claim) (2 ^ 64 - 1);
  need = λ s. then_needs (tag s) (λ _. 4) (V.need s);
  lawful = λ s. chosen-lawful tag V.variants s (tag-numerals.lawful s) (V.lawful s);
  balanced = λ s. chosen-balanced tag V.variants s (tag-numerals.balanced s) (V.balanced s);
  has_word = λ s v h w. choice-has_word tag V.variants s _ _ (same-alike (V.picked s _ (parts v) h.1))
      (V.means (parts v)) (tag-numerals.spelled s _ h.0).has_word (V.has_word s (parts v) h.1 w);
  errors_are_own = V.errors_are_own;
  claims = omega arith;
  needs = λ s. chosen-needs tag V.variants s 4 (V.need s) (tag-numerals.balanced s) (tag-numerals.needs s) (V.needs s (allowed_tags (variant_tags V.variants)));
  charges_enough = λ s. chosen-charged tag V.variants s (tag-numerals.charges_enough s) (V.charges_enough s (allowed_tags (variant_tags V.variants)));
}

module _ {A B : Type 0} (V : VariantWords B) (parts : A → B) where
  pub enum-writable : V.AllWritable → AlwaysWritable (enum_words V parts)
  enum-writable all = λ s v h. V.always_writable all s (parts v) h.1

  pub enum-plain : V.AllPlain → PlainWords (enum_words V parts)
  enum-plain all = record {
    always_writable = λ s v h. V.plain_writable all s (parts v) h.1;
    one_length = λ s v h. choice-one_length tag V.variants s _ _ (same-alike (V.picked s _ (parts v) h.1))
        (V.means (parts v)) (tag-numerals.spelled s _ h.0).one_length (V.one_length all s (parts v) h.1);
    names_none = V.names_none all;
  }

  tested : (made : B → A) → ((v : A) → made (parts v) ≡ v) → (eq : A → A → Bool) (v w : A) → eq (made (parts v)) (made (parts w)) ≡ true → eq v w ≡ true
  tested made back eq v w h = subst (λ z. eq z w ≡ true) (back v) (subst (λ z. eq (made (parts v)) z ≡ true) (back w) h)

  pub enum-exact : (made : B → A) → ((v : A) → made (parts v) ≡ v) → (eq : A → A → Bool) → V.AllExact (λ p q. eq (made p) (made q)) → ExactWords (enum_words V parts) eq
  enum-exact made back eq all = record {
    one_value = λ v w m h k. choice-same (λ n e p q. tested made back eq v w (V.one_value (λ p q. eq (made p) (made q)) all (parts v) (parts w) n h.1 k.1 e p q)) m;
    comes_back = λ v w m h. choice-same (λ n e p q. tested made back eq v w (V.comes_back (λ p q. eq (made p) (made q)) all (parts v) (parts w) n h.1 e p q)) m;
  }

  pub enum-canonical : V.AllCanonical → CanonicalWords (enum_words V parts)
  enum-canonical all = λ s v w h. choice-shortest tag V.variants s _ _ _ (V.picked s _ (parts v) h.1)
      (V.means (parts v)) (V.decodes_to (parts w)) (tag-numerals.spelled s _ h.0).none_shorter (V.shortest all s (parts v) (parts w) h.1)

-- the variants of an enum, and what its laws ask of their parts
pub record EnumVariants (A : Type 0) : Type 1 where
  -- the tag of each variant, and the format of its part
  pub variants : List Variant
  -- each part can always be written; is plain; is exact, under this equality of values; is canonical
  pub AllWritable : Type 0
  pub AllPlain : Type 0
  pub AllExact : (A → A → Bool) → Type 0
  pub AllCanonical : Type 0

-- the laws of the format of an enum
pub record EnumLaws {A : Type 0} (W : Words A) (E : EnumVariants A) : Type 0 where
  -- a value is written as the tag of its variant, then its part
  pub written : (s : Setting) → WrittenAlike (W.format s) (tag_then_part tag E.variants s)
  -- and decoded so
  pub read : (s : Setting) → DecodeAlike (W.format s) (tag_then_part tag E.variants s)
  pub writable : E.AllWritable → AlwaysWritable W
  pub plain : E.AllPlain → PlainWords W
  pub exact : (eq : A → A → Bool) → E.AllExact eq → ExactWords W eq
  pub canonical : E.AllCanonical → CanonicalWords W

-- the variants of an enum whose values are made from parts
abbrev pub enum_variants : {A B : Type 0} → VariantWords B → (B → A) → EnumVariants A
enum_variants V made = record {
  variants = V.variants;
  AllWritable = V.AllWritable;
  AllPlain = V.AllPlain;
  AllExact = λ eq. V.AllExact (λ p q. eq (made p) (made q));
  AllCanonical = V.AllCanonical;
}

pub enum_laws : {A B : Type 0} (V : VariantWords B) (parts : A → B) (made : B → A) → ((v : A) → made (parts v) ≡ v) → EnumLaws (enum_words V parts) (enum_variants V made)
enum_laws V parts made back = record {
  written = λ s. (λ bytes m w. w, λ bytes m w. w);
  read = λ s limit input c. refl;
  writable = enum-writable V parts;
  plain = enum-plain V parts;
  exact = enum-exact V parts made back;
  canonical = enum-canonical V parts;
}
