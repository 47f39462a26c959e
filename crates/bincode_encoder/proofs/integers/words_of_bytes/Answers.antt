use Rattle.std.specs.Prelude.{ℕ, pos, List, [], ◌∷◌, length, refl}
use Rattle.std.specs.List.{All}
use Rattle.std.proofs.lemmas.List.Elements.{All-nil, All-cons}
use Rattle.bincode_spec.specs.Integers.{unsigned_byte}
use Rattle.bincode_spec.specs.Meaning.{IsNumber}
use Rattle.bincode_spec.specs.Words.{natural_number, array}
use Rattle.bincode_spec.specs.Allowed.{AllowedWord}
use Rattle.bincode_lemmas.specs.AllowedLaws.{byte-allows}
use Rattle.bincode_spec.specs.Run.{IsListOf}
use Rattle.bincode_lemmas.specs.Sequences.{AllowsEach}
use Rattle.bincode_lemmas.specs.RunAllowedLaws.{array-allows}
use Rattle.bincode_encoder.proofs.integers.words_of_bytes.Goals as goal

each-allows : (bytes : List ℕ) → AllowsEach (λ v. AllowedWord (IsNumber (pos v)) (natural_number unsigned_byte)) bytes bytes
each-allows [] = refl
each-allows (b ∷ bytes) = (b ∷ [], bytes, refl, byte-allows b, each-allows bytes)

run-allows : (bytes : List ℕ) → AllowedWord (IsListOf (λ v. IsNumber (pos v)) bytes) (array (length bytes) 1 (natural_number unsigned_byte)) bytes
run-allows bytes = array-allows (λ v. IsNumber (pos v)) 1 (natural_number unsigned_byte) (length bytes) bytes bytes refl (each-allows bytes)

all-ready : (bytes : List ℕ) → All (λ v. Unit {0}) bytes
all-ready [] = All-nil (λ v. Unit {0})
all-ready (b ∷ bytes) = All-cons (λ v. Unit {0}) b bytes tt (all-ready bytes)

pub returns : goal.returns
returns c = record { is_writable = all-ready c.args.values.now; is_allowed = run-allows c.args.values.now }
