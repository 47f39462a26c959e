-- Octets are lawful. They allow themselves alone.
use Rattle.std.specs.Prelude.{◌≡◌, ℕ, ◌<◌, List, [], ◌++◌, length, replicate, refl}
use Rattle.std.specs.List.{All}
use Rattle.std.proofs.Common.{sym, ◌∙◌, ap, arith}
use Rattle.std.proofs.lemmas.List.{append-nil, length-replicate}
use Rattle.std.proofs.lemmas.List.Elements.{All-replicate}
use Rattle.bincode_spec.specs.Charge.{Step}
use Rattle.bincode_spec.specs.Format.{pure, fixed_bytes, step, ◌>>=◌, charge_then}
use Rattle.bincode_spec.specs.Layers.Laws.{IsLawful, IsBalanced, Costs}
use Rattle.bincode_spec.specs.Meaning.{Meaning, Bytes, IsBytes}
use Rattle.bincode_spec.specs.Octets.{octets}
use Rattle.bincode_spec.specs.Allowed.{AllowedWord, SomeWord, OneLength, IsShortest}
use Rattle.bincode_spec.specs.Cells.{HasWord}
use Rattle.bincode_lemmas.specs.FormatLaws.{fixed_bytes-lawful, charge_then-lawful, map-lawful}
use Rattle.bincode_lemmas.specs.Balance.{fixed_bytes-holds, charge_then-balanced, map-balanced}
use Rattle.bincode_lemmas.specs.AllowedLaws.{map-written, written-map}
use Rattle.bincode_lemmas.specs.CellLaws.{cell-has_word}
use Rattle.bincode_lemmas.specs.CostLaws.{fixed_bytes-costs, charge_then-costs, map-costs}
use Rattle.bincode_lemmas.specs.IntegerLaws.{word-charged}

module _ (n : ℕ) where
  pub octets-lawful : IsLawful (octets n)
  octets-lawful = map-lawful Bytes (charge_then n (fixed_bytes n)) (charge_then-lawful n (fixed_bytes n) (fixed_bytes-lawful n))

  pub octets-balanced : IsBalanced (octets n)
  octets-balanced = map-balanced Bytes (charge_then n (fixed_bytes n)) (charge_then-balanced n (fixed_bytes n) (fixed_bytes-holds 0 n))

  -- they are charged one by one
  pub octets-costs : Costs n n (octets n)
  octets-costs = map-costs n n Bytes (charge_then n (fixed_bytes n)) (charge_then-costs n (fixed_bytes n) (fixed_bytes-costs n))

  charged_octets : (bytes : List ℕ) → length bytes ≡ n → (charge_then n (fixed_bytes n)).Written bytes bytes
  unfolding ◌>>=◌ step fixed_bytes
  charged_octets bytes e = record { first = []; second = bytes; head = tt; bytes_are = refl; first_written = refl; second_written = (e, refl) }

  -- n bytes allow themselves
  pub octets-allow : (bytes : List ℕ) → length bytes ≡ n → AllowedWord (IsBytes bytes) (octets n) bytes
  octets-allow bytes e = record { meaning = Bytes bytes; is_meant = refl; is_written = map-written Bytes (charge_then n (fixed_bytes n)) bytes bytes (charged_octets bytes e) }

  written_octets : (word : List ℕ) (m : Meaning) → (octets n).Written word m → length word ≡ n
  unfolding ◌>>=◌ step fixed_bytes
  written_octets word m w =
      let u = (written-map Bytes (charge_then n (fixed_bytes n)) word m w).2 in
      ap length (u.bytes_are ∙ ap (λ z. z ++ u.second) u.first_written) ∙ u.second_written.0

  word_octets : (word : List ℕ) (m : Meaning) (steps : List Step) → (octets n).Word word m steps → length word ≡ n
  unfolding ◌>>=◌ fixed_bytes pure
  word_octets word m steps w =
      let e : word ≡ w.first = w.bytes_are ∙ ap (λ z. w.first ++ z) w.second_word.0 ∙ append-nil w.first in
      ap length e ∙ (word-charged n (fixed_bytes n) w.first w.head w.first_steps w.first_word).1.0

  pub octets-has_word : (bytes : List ℕ) → length bytes ≡ n → All (λ b. b < 256) bytes → SomeWord (AllowedWord (IsBytes bytes) (octets n))
  octets-has_word bytes e below = record { bytes = bytes; are_bytes = below; is_allowed = octets-allow bytes e }

  -- there are some: zeros
  pub octets-some_word : HasWord (octets n)
  octets-some_word =
      cell-has_word (octets n) octets-lawful (IsBytes (replicate n 0)) (octets-has_word (replicate n 0) (length-replicate n 0) (All-replicate (λ b. b < 256) n 0 (omega arith)))

  pub octets-one_length : (bytes : List ℕ) → OneLength (AllowedWord (IsBytes bytes) (octets n))
  octets-one_length bytes x y a b = written_octets x a.meaning a.is_written ∙ sym (written_octets y b.meaning b.is_written)

  pub octets-shortest : (bytes other : List ℕ) → IsShortest (IsBytes bytes) (IsBytes other) (octets n)
  octets-shortest bytes other written word m steps w below u g = omega (arith, written_octets written w.meaning w.is_written, word_octets word m steps u)
