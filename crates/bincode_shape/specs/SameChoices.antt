-- Equality of choices.
use Rattle.std.specs.Prelude.{◌≡◌, ℕ, ◌==◌, Bool, true, false, List, [], ◌∷◌, refl}
use Rattle.std.proofs.Common.{subst, sym}
use Rattle.bincode_base.specs.Setting.{Setting}
use Rattle.bincode_spec.specs.Fault.{Allowed, UnexpectedVariant}
use Rattle.bincode_spec.specs.Format.{Format, Took, then_read, pure, fail, ◌>>=◌, map_format}
use Rattle.bincode_spec.specs.Meaning.{Meaning, Choice}
use Rattle.bincode_spec.specs.Words.{Variant, variant_tags, allowed_tags, if_picked, part, after_tag, tag_then_part}
use Rattle.bincode_lemmas.specs.AllowedLaws.{map-written, written-map}
use Rattle.bincode_shape.specs.Same.{SameWords, same-itself}

map-read : (f : Meaning → Meaning) (F G : Format Meaning) → F.read ≡ G.read → (map_format f F).read ≡ (map_format f G).read
unfolding ◌>>=◌ pure
map-read f F G e = λ i input. then_read (e i input) (λ m rest. Took (f m) rest [])

map-alike : (f : Meaning → Meaning) (F G : Format Meaning) → ((bytes : List ℕ) (m : Meaning) → F.Written bytes m → G.Written bytes m) →
    (bytes : List ℕ) (m : Meaning) → (map_format f F).Written bytes m → (map_format f G).Written bytes m
map-alike f F G h bytes m w = let t = written-map f F bytes m w in subst (λ z. (map_format f G).Written bytes z) (sym t.1) (map-written f G bytes t.0 (h bytes t.0 t.2))

map-same : (f : Meaning → Meaning) {F G : Format Meaning} → SameWords F G → SameWords (map_format f F) (map_format f G)
map-same f {F} {G} h = record { read = map-read f F G h.read; written = (map-alike f F G h.written.0, map-alike f G F h.written.1) }

-- the variants have equal tags and equal formats
abbrev pub SameVariants : Setting → List Variant → List Variant → Type 0
SameVariants s [] [] = Unit {0}
SameVariants s [] (w ∷ ws) = ⊥
SameVariants s (v ∷ vs) [] = ⊥
SameVariants s (v ∷ vs) (w ∷ ws) = (v.0 ≡ w.0) × SameWords (v.1 s) (w.1 s) × SameVariants s vs ws

same-tags : (s : Setting) (vs ws : List Variant) → SameVariants s vs ws → variant_tags vs ≡ variant_tags ws
same-tags s [] [] h = refl
same-tags s [] (w ∷ ws) h = absurd h
same-tags s (v ∷ vs) [] h = absurd h
same-tags s (v ∷ vs) (w ∷ ws) h = rw (h.0, same-tags s vs ws h.2) refl

picked-same : (b : Bool) {F F' G G' : Format Meaning} → SameWords F F' → SameWords G G' → SameWords (if_picked b F G) (if_picked b F' G')
picked-same true f g = f
picked-same false f g = g

part-same : (s : Setting) (allowed : Allowed) (n : ℕ) (vs ws : List Variant) → SameVariants s vs ws → SameWords (part s vs allowed n) (part s ws allowed n)
part-same s allowed n [] [] h = same-itself (fail (UnexpectedVariant allowed n))
part-same s allowed n [] (w ∷ ws) h = absurd h
part-same s allowed n (v ∷ vs) [] h = absurd h
part-same s allowed n (v ∷ vs) (w ∷ ws) h = rw h.0 (picked-same (n == w.0) (map-same (Choice n) h.1) (part-same s allowed n vs ws h.2))

after-same : (s : Setting) (n : ℕ) (vs ws : List Variant) → SameVariants s vs ws → SameWords (after_tag vs s n) (after_tag ws s n)
after-same s n vs ws h = rw (same-tags s vs ws h) (part-same s (allowed_tags (variant_tags ws)) n vs ws h)

chosen-read : (tags : Setting → Format ℕ) (s : Setting) (vs ws : List Variant) → ((n : ℕ) → (after_tag vs s n).read ≡ (after_tag ws s n).read) → (tag_then_part tags vs s).read ≡ (tag_then_part tags ws s).read
unfolding tag_then_part ◌>>=◌
chosen-read tags s vs ws h = λ i input. then_read ((tags s).read input) (λ n rest. h n i rest)

chosen-written : (tags : Setting → Format ℕ) (s : Setting) (vs ws : List Variant) →
    ((n : ℕ) (bytes : List ℕ) (m : Meaning) → (after_tag vs s n).Written bytes m → (after_tag ws s n).Written bytes m) →
    (bytes : List ℕ) (m : Meaning) → (tag_then_part tags vs s).Written bytes m → (tag_then_part tags ws s).Written bytes m
unfolding tag_then_part ◌>>=◌
chosen-written tags s vs ws h bytes m w =
    record { first = w.first; second = w.second; head = w.head; bytes_are = w.bytes_are; first_written = w.first_written; second_written = h w.head w.second m w.second_written }

pub chosen-same : (tags : Setting → Format ℕ) (s : Setting) (vs ws : List Variant) → SameVariants s vs ws → SameWords (tag_then_part tags vs s) (tag_then_part tags ws s)
chosen-same tags s vs ws h = record {
  read = chosen-read tags s vs ws (λ n. (after-same s n vs ws h).read);
  written = (chosen-written tags s vs ws (λ n. (after-same s n vs ws h).written.0), chosen-written tags s ws vs (λ n. (after-same s n vs ws h).written.1));
}
