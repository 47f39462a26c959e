-- Choices, from their tags and their parts: they are lawful, what they allow, and that they have shortest words.
use Rattle.std.specs.Prelude.{◌≡◌, ℕ, ◌<◌, pos, Bool, true, false, ◌==◌, Result, Ok, List, [], ◌∷◌, ◌++◌, refl}
use Rattle.std.proofs.Common.{sym, ◌∙◌, ap, subst}
use Rattle.std.proofs.lemmas.Bool.{eq-eqb}
use Rattle.std.proofs.lemmas.List.Elements.{All-append}
use Rattle.bincode_spec.specs.Fault.{Fault, UnexpectedVariant, Allowed}
use Rattle.bincode_base.specs.Setting.{Setting}
use Rattle.bincode_spec.specs.Charge.{Step}
use Rattle.bincode_spec.specs.Format.{Format, fail, ◌>>=◌, map_format}
use Rattle.bincode_spec.specs.Layers.Laws.{IsLawful, IsBalanced, AllLawful, AllBalanced}
use Rattle.bincode_lemmas.specs.FormatLaws.{fail-lawful, turn-lawful, map-lawful}
use Rattle.bincode_lemmas.specs.Balance.{fail-holds, turn-holds, map-balanced}
use Rattle.bincode_spec.specs.Meaning.{Meaning, Number, Choice, IsNumber}
use Rattle.bincode_spec.specs.Words.{natural_number, Variant, if_picked, part, after_tag, tag_then_part}
use Rattle.bincode_spec.specs.Allowed.{AllowedWord, SomeWord, WrittenAlike, OneLength, NoneShorter, IsShortest}
use Rattle.bincode_lemmas.specs.Sequences.{Both}
use Rattle.bincode_lemmas.specs.AllowedLaws.{map-written, written-map, natural-allows, allowed-natural, same-one_length, both-one_length}
use Rattle.bincode_lemmas.specs.SpelledLaws.{word-from_result, from_result-word, parts-no_longer}
use Rattle.bincode_spec.specs.Cells.{HasWord}
use Rattle.bincode_lemmas.specs.CellLaws.{held-word, word-held}
use Rattle.bincode_spec.specs.Choices.{IsChoice}

-- what holds of each part holds of the selected one
by_pick : (P : Format Meaning → Type 0) (picked : Bool) {F G : Format Meaning} → P F → P G → P (if_picked picked F G)
by_pick P true f g = f
by_pick P false f g = g

module _ (s : Setting) (allowed : Allowed) (found : ℕ) where
  part_lawful : (variants : List Variant) → AllLawful s variants → IsLawful (part s variants allowed found)
  part_lawful [] h = fail-lawful (UnexpectedVariant allowed found) (λ h. h)
  part_lawful (variant ∷ others) h = by_pick IsLawful (found == variant.0) (map-lawful (Choice found) (variant.1 s) h.0) (part_lawful others h.1)

  part_balanced : (variants : List Variant) → AllBalanced s variants → IsBalanced (part s variants allowed found)
  part_balanced [] h = fail-holds 0 0 (UnexpectedVariant allowed found)
  part_balanced (variant ∷ others) h = by_pick IsBalanced (found == variant.0) (map-balanced (Choice found) (variant.1 s) h.0) (part_balanced others h.1)

  -- whatever the part, its meaning has the tag
  part_written : (variants : List Variant) (bytes : List ℕ) (m : Meaning) → (part s variants allowed found).Written bytes m → (n : Meaning) × (m ≡ Choice found n)
  unfolding fail
  part_written [] bytes m = λ w. absurd w
  part_written (variant ∷ others) bytes m =
      by_pick (λ F. F.Written bytes m → (n : Meaning) × (m ≡ Choice found n)) (found == variant.0)
      (λ w. let p = written-map (Choice found) (variant.1 s) bytes m w in (p.0, p.1)) (part_written others bytes m)

  part_word : (variants : List Variant) (bytes : List ℕ) (m : Meaning) (steps : List Step) → (part s variants allowed found).Word bytes m steps → (n : Meaning) × (m ≡ Choice found n)
  unfolding fail
  part_word [] bytes m steps = λ u. absurd u
  part_word (variant ∷ others) bytes m steps =
      by_pick (λ F. F.Word bytes m steps → (n : Meaning) × (m ≡ Choice found n)) (found == variant.0)
      (λ u. let p = word-from_result (λ k. Ok (Choice found k)) (variant.1 s) bytes m steps u in (p.0, cc)) (part_word others bytes m steps)

-- a tag selects its variant
pub part-here : (s : Setting) (allowed : Allowed) (tag : ℕ) (F : Setting → Format Meaning) (others : List Variant) → part s ((tag, F) ∷ others) allowed tag ≡ map_format (Choice tag) (F s)
part-here s allowed tag F others = rw (eq-eqb tag tag refl) refl

-- another tag selects one of the others
pub part-there : (s : Setting) (allowed : Allowed) (found tag : ℕ) (F : Setting → Format Meaning) (others : List Variant) → (found == tag) ≡ false →
    part s ((tag, F) ∷ others) allowed found ≡ part s others allowed found
part-there s allowed found tag F others h = rw h refl

-- equal formats are written alike
pub same-alike : {F G : Format Meaning} → G ≡ F → WrittenAlike F G
same-alike e = (λ bytes m w. subst (λ H. H.Written bytes m) (sym e) w, λ bytes m w. subst (λ H. H.Written bytes m) e w)

module _ (tags : Setting → Format ℕ) (variants : List Variant) (s : Setting) where
  -- a tag and the part that it selects are lawful
  pub chosen-lawful : IsLawful (tags s) → AllLawful s variants → IsLawful (tag_then_part tags variants s)
  unfolding tag_then_part
  chosen-lawful t h = turn-lawful (tags s) (after_tag variants s) t (λ found. part_lawful s _ found variants h)

  pub chosen-balanced : IsBalanced (tags s) → AllBalanced s variants → IsBalanced (tag_then_part tags variants s)
  unfolding tag_then_part
  chosen-balanced t h = turn-holds 0 0 0 (tags s) (after_tag variants s) t (λ found. part_balanced s _ found variants h)

  -- the tag `found` selects what F writes
  module _ (found : ℕ) (F : Format Meaning) (alike : WrittenAlike (map_format (Choice found) F) (after_tag variants s found)) (P : Meaning → Type 0) where
    -- a choice allows what is written for its tag, then what its part allows
    pub choice-allows : (bytes : List ℕ) → Both (AllowedWord (IsNumber (pos found)) (natural_number (tags s))) (AllowedWord P F) bytes → AllowedWord (IsChoice found P) (tag_then_part tags variants s) bytes
    unfolding tag_then_part ◌>>=◌
    choice-allows bytes b = record {
      meaning = Choice found b.4.meaning;
      is_meant = record { part = b.4.meaning; meaning_is = refl; is_part = b.4.is_meant };
      is_written = record {
        first = b.0;
        second = b.1;
        head = found;
        bytes_are = b.2;
        first_written = allowed-natural (tags s) b.0 found b.3;
        second_written = alike.0 b.1 (Choice found b.4.meaning) (map-written (Choice found) F b.1 b.4.meaning b.4.is_written);
      };
    }

    pub allowed-choice : (bytes : List ℕ) → AllowedWord (IsChoice found P) (tag_then_part tags variants s) bytes → Both (AllowedWord (IsNumber (pos found)) (natural_number (tags s))) (AllowedWord P F) bytes
    unfolding tag_then_part ◌>>=◌
    allowed-choice bytes w =
        let u = w.is_written in
        let m = w.is_meant in
        let p = part_written s _ u.head variants u.second w.meaning u.second_written in
        let e : Choice u.head p.0 ≡ Choice found m.part = sym p.1 ∙ m.meaning_is in
        let h : u.head ≡ found = cc in
        let v : (after_tag variants s found).Written u.second w.meaning = subst (λ k. (after_tag variants s k).Written u.second w.meaning) h u.second_written in
        let q = written-map (Choice found) F u.second w.meaning (alike.1 u.second w.meaning v) in
        let i : Choice found m.part ≡ Choice found q.0 = sym m.meaning_is ∙ q.1 in
        let j : m.part ≡ q.0 = cc in
        let a : AllowedWord P F u.second = record { meaning = q.0; is_meant = subst P j m.is_part; is_written = q.2 } in
        (u.first, u.second, u.bytes_are, natural-allows (tags s) u.first found (subst (λ k. (tags s).Written u.first k) h u.first_written), a)

    -- it has a word, if its tag and its part have
    pub choice-has_word : SomeWord (AllowedWord (IsNumber (pos found)) (natural_number (tags s))) → SomeWord (AllowedWord P F) → SomeWord (AllowedWord (IsChoice found P) (tag_then_part tags variants s))
    choice-has_word t p = record {
      bytes = t.bytes ++ p.bytes;
      are_bytes = All-append (λ b. b < 256) t.bytes p.bytes t.are_bytes p.are_bytes;
      is_allowed = choice-allows (t.bytes ++ p.bytes) (t.bytes, p.bytes, refl, t.is_allowed, p.is_allowed);
    }

    -- its words have one length, if those of the tag and of the part have
    pub choice-one_length : OneLength (AllowedWord (IsNumber (pos found)) (natural_number (tags s))) → OneLength (AllowedWord P F) → OneLength (AllowedWord (IsChoice found P) (tag_then_part tags variants s))
    choice-one_length t p = same-one_length _ _ allowed-choice (both-one_length _ _ t p)

  -- the tag `found` selects the format F
  module _ (found : ℕ) (F : Format Meaning) (at : after_tag variants s found ≡ map_format (Choice found) F) (P P' : Meaning → Type 0) where
    -- no word of it is shorter, if none of the tag is and none of the part
    choice_none_shorter : NoneShorter (IsNumber (pos found)) (IsNumber (pos found)) (natural_number (tags s)) → NoneShorter P P' F →
        NoneShorter (IsChoice found P) (IsChoice found P') (tag_then_part tags variants s)
    unfolding tag_then_part ◌>>=◌
    choice_none_shorter t f written bytes m steps w h u e =
        let b = allowed-choice found F (same-alike at) P written w in
        let p = part_word s _ u.head variants u.second m u.second_steps u.second_word in
        let c : Choice u.head p.0 ≡ Choice found e.part = sym p.1 ∙ e.meaning_is in
        let k : u.head ≡ found = cc in
        let v : (after_tag variants s found).Word u.second m u.second_steps = subst (λ k. (after_tag variants s k).Word u.second m u.second_steps) k u.second_word in
        let q = word-from_result (λ n. Ok (Choice found n)) F u.second m u.second_steps (subst (λ G. G.Word u.second m u.second_steps) at v) in
        let i : ◌≡◌ {A = Result Meaning Fault} (Ok (Choice found q.0)) (Ok (Choice found e.part)) = q.2 ∙ ap Ok e.meaning_is in
        let j : e.part ≡ q.0 = cc in
        let x : (natural_number (tags s)).Word u.first (Number (pos found)) u.first_steps =
        from_result-word (λ n. Ok (Number (pos n))) (tags s) u.first found (Number (pos found)) u.first_steps refl (subst (λ n. (tags s).Word u.first n u.first_steps) k u.first_word) in
        parts-no_longer written bytes b.0 b.1 u.first u.second b.2 u.bytes_are h
        (λ below. t b.0 u.first (Number (pos found)) u.first_steps b.3 below x refl)
        (λ below. f b.1 u.second q.0 q.1 b.4 below q.3 (subst P' j e.is_part))

  -- and none that decodes to what it decodes to
  module _ (found other : ℕ) (F : Format Meaning) (at : after_tag variants s found ≡ map_format (Choice found) F) (P P' : Meaning → Type 0) where
    pub choice-shortest : NoneShorter (IsNumber (pos found)) (IsNumber (pos found)) (natural_number (tags s)) → (found ≡ other → IsShortest P P' F) →
        IsShortest (IsChoice found P) (IsChoice other P') (tag_then_part tags variants s)
    choice-shortest t f written bytes m steps w h u e =
        let p = w.is_meant.0 in
        let q = w.is_meant.1 in
        let c : Choice found p.part ≡ Choice other q.part = sym p.meaning_is ∙ q.meaning_is in
        let k : found ≡ other = cc in
        let j : q.part ≡ p.part = cc in
        let x : AllowedWord (IsChoice found (λ n. P n × P' n)) (tag_then_part tags variants s) written = record {
          meaning = w.meaning;
          is_meant = record { part = p.part; meaning_is = p.meaning_is; is_part = (p.is_part, subst P' j q.is_part) };
          is_written = w.is_written;
        } in
        choice_none_shorter found F at (λ n. P n × P' n) P' t (f k) written bytes m steps x h u (subst (λ z. IsChoice z P' m) (sym k) e)

  -- it has a word, if the tag and the part that it selects have
  pub choice-some_word : (found : ℕ) (F : Format Meaning) → after_tag variants s found ≡ map_format (Choice found) F → IsLawful (tags s) →
      SomeWord (AllowedWord (IsNumber (pos found)) (natural_number (tags s))) → HasWord F → HasWord (tag_then_part tags variants s)
  unfolding tag_then_part ◌>>=◌
  choice-some_word found F at f t x =
      let a = f.written_is_word t.bytes found (allowed-natural (tags s) t.bytes found t.is_allowed) in
      let b = held-word F x in
      let c : (after_tag variants s found).Word x.bytes (Choice found b.0) b.1 =
      subst (λ G. G.Word x.bytes (Choice found b.0) b.1) (sym at) (from_result-word (λ n. Ok (Choice found n)) F x.bytes b.0 (Choice found b.0) b.1 refl b.2) in
      word-held (tag_then_part tags variants s) (t.bytes ++ x.bytes) (Choice found b.0) (a.0 ++ b.1) (All-append (λ b. b < 256) t.bytes x.bytes t.are_bytes x.are_bytes) (record {
        first = t.bytes;
        second = x.bytes;
        head = found;
        first_steps = a.0;
        second_steps = b.1;
        bytes_are = refl;
        steps_are = refl;
        first_word = a.1;
        second_word = c;
      })

-- choices of one meaning have one tag, and are equal if their parts are
pub choice-same : {P Q : Meaning → Type 0} {first second : ℕ} {equal : Bool} → ((n : Meaning) → first ≡ second → P n → Q n → equal ≡ true) →
    (m : Meaning) → IsChoice first P m → IsChoice second Q m → equal ≡ true
choice-same {P} {Q} {first} {second} f m p q =
    let e : Choice first p.part ≡ Choice second q.part = sym p.meaning_is ∙ q.meaning_is in
    let a : first ≡ second = cc in
    let b : p.part ≡ q.part = cc in
    f q.part a (subst P b p.is_part) q.is_part

-- two tags that differ are not one
pub tags-differ : (first second : ℕ) → (second == first) ≡ false → first ≡ second → ⊥
tags-differ first second h e = let b = eq-eqb second first (sym e) in cc
