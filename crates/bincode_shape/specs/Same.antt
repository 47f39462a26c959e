-- Equality of formats.
use Rattle.std.specs.Prelude.{◌≡◌, ℕ, zero, suc, List, [], ◌∷◌, refl}
use Rattle.std.proofs.Common.{subst, sym}
use Rattle.bincode_base.specs.Setting.{Setting}
use Rattle.bincode_spec.specs.Charge.{Reserve, Release}
use Rattle.bincode_spec.specs.Format.{Format, Took, then_read, reading_without_count, pure, step, ◌>>=◌, without_count, map_format, elements, sequence}
use Rattle.bincode_spec.specs.Meaning.{Meaning, Then, list_meaning}
use Rattle.bincode_spec.specs.Words.{len, first_and, array, list}
use Rattle.bincode_spec.specs.Allowed.{WrittenAlike}
use Rattle.bincode_lemmas.specs.AllowedLaws.{map-written, written-map}

-- the formats have equal words, meanings, steps and faults, and write equal words
pub record SameWords (F G : Format Meaning) : Type 0 where
  pub read : F.read ≡ G.read
  pub written : WrittenAlike F G

pub same-itself : (F : Format Meaning) → SameWords F F
same-itself F = record { read = refl; written = (λ bytes m w. w, λ bytes m w. w) }

-- parts in order
first_and-read : (F G others rest : Format Meaning) → F.read ≡ G.read → others.read ≡ rest.read → (first_and F others).read ≡ (first_and G rest).read
unfolding first_and ◌>>=◌ pure
first_and-read F G others rest e f = λ i input. then_read (e i input) (λ m next. then_read (f i next) (λ n end. Took (Then m n) end []))

first_and-written : (F G others rest : Format Meaning) → ((bytes : List ℕ) (m : Meaning) → F.Written bytes m → G.Written bytes m) →
    ((bytes : List ℕ) (m : Meaning) → others.Written bytes m → rest.Written bytes m) → (bytes : List ℕ) (m : Meaning) → (first_and F others).Written bytes m → (first_and G rest).Written bytes m
unfolding first_and ◌>>=◌
first_and-written F G others rest f g bytes m w =
    let t = written-map (Then w.head) others w.second m w.second_written in
    record {
      first = w.first;
      second = w.second;
      head = w.head;
      bytes_are = w.bytes_are;
      first_written = f w.first w.head w.first_written;
      second_written = subst (λ z. (map_format (Then w.head) rest).Written w.second z) (sym t.1) (map-written (Then w.head) rest w.second t.0 (g w.second t.0 t.2));
    }

pub first_and-same : {F G others rest : Format Meaning} → SameWords F G → SameWords others rest → SameWords (first_and F others) (first_and G rest)
first_and-same {F} {G} {others} {rest} f g = record {
  read = first_and-read F G others rest f.read g.read;
  written = (first_and-written F G others rest f.written.0 g.written.0, first_and-written G F rest others f.written.1 g.written.1);
}

-- elements
elements-read : (n share : ℕ) (F G : Format Meaning) → F.read ≡ G.read → (elements n share F).read ≡ (elements n share G).read
unfolding step ◌>>=◌ without_count pure
elements-read zero share F G e = refl
elements-read (suc n) share F G e =
    let h = elements-read n share F G e in
    λ i input. then_read (Took (tt {0}) input (Release share ∷ [])) (λ _ rest. then_read (reading_without_count (e i rest)) (λ a next. then_read (h i next) (λ others end. Took (a ∷ others) end [])))

elements-written : (n share : ℕ) (F G : Format Meaning) → ((bytes : List ℕ) (m : Meaning) → F.Written bytes m → G.Written bytes m) →
    (bytes : List ℕ) (ms : List Meaning) → (elements n share F).Written bytes ms → (elements n share G).Written bytes ms
unfolding step ◌>>=◌ without_count pure
elements-written zero share F G f bytes ms w = w
elements-written (suc n) share F G f bytes ms w =
    let u = w.second_written in
    let t = written-map (λ others. u.head ∷ others) (elements n share F) u.second ms u.second_written in
    record {
      first = w.first;
      second = w.second;
      head = w.head;
      bytes_are = w.bytes_are;
      first_written = w.first_written;
      second_written = record {
        first = u.first;
        second = u.second;
        head = u.head;
        bytes_are = u.bytes_are;
        first_written = f u.first u.head u.first_written;
        second_written = subst (λ z. (map_format (λ others. u.head ∷ others) (elements n share G)).Written u.second z) (sym t.1)
            (map-written (λ others. u.head ∷ others) (elements n share G) u.second t.0 (elements-written n share F G f u.second t.0 t.2));
      };
    }

array-read : (n share : ℕ) (F G : Format Meaning) → F.read ≡ G.read → (array n share F).read ≡ (array n share G).read
unfolding step ◌>>=◌ pure
array-read n share F G e =
    let h = elements-read n share F G e in
    λ i input. then_read (then_read (Took (tt {0}) input (Reserve n share ∷ [])) (λ _ rest. h i rest)) (λ ms end. Took (list_meaning ms) end [])

array-written : (n share : ℕ) (F G : Format Meaning) → ((bytes : List ℕ) (m : Meaning) → F.Written bytes m → G.Written bytes m) →
    (bytes : List ℕ) (m : Meaning) → (array n share F).Written bytes m → (array n share G).Written bytes m
unfolding step ◌>>=◌
array-written n share F G f bytes m w =
    let t = written-map list_meaning (sequence n share F) bytes m w in
    let u = t.2 in
    subst (λ z. (array n share G).Written bytes z) (sym t.1) (map-written list_meaning (sequence n share G) bytes t.0 (record {
      first = u.first;
      second = u.second;
      head = u.head;
      bytes_are = u.bytes_are;
      first_written = u.first_written;
      second_written = elements-written n share F G f u.second t.0 u.second_written;
    }))

pub array-same : (n share : ℕ) {F G : Format Meaning} → SameWords F G → SameWords (array n share F) (array n share G)
array-same n share {F} {G} f = record {
  read = array-read n share F G f.read;
  written = (array-written n share F G f.written.0, array-written n share G F f.written.1);
}

list-read : (s : Setting) (share : ℕ) (F G : Format Meaning) → F.read ≡ G.read → (list s share F).read ≡ (list s share G).read
unfolding ◌>>=◌
list-read s share F G e = λ i input. then_read ((len s).read input) (λ n rest. array-read n share F G e i rest)

list-written : (s : Setting) (share : ℕ) (F G : Format Meaning) → ((bytes : List ℕ) (m : Meaning) → F.Written bytes m → G.Written bytes m) →
    (bytes : List ℕ) (m : Meaning) → (list s share F).Written bytes m → (list s share G).Written bytes m
unfolding ◌>>=◌
list-written s share F G f bytes m w = record {
  first = w.first;
  second = w.second;
  head = w.head;
  bytes_are = w.bytes_are;
  first_written = w.first_written;
  second_written = array-written w.head share F G f w.second m w.second_written;
}

pub list-same : (s : Setting) (share : ℕ) {F G : Format Meaning} → SameWords F G → SameWords (list s share F) (list s share G)
list-same s share {F} {G} f = record {
  read = list-read s share F G f.read;
  written = (list-written s share F G f.written.0, list-written s share G F f.written.1);
}
