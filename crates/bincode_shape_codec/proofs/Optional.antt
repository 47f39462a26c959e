-- Decoding an option: its byte, then its part.
use Rattle.std.specs.Prelude.{◌≡◌, ℕ, List, [], Option, Ok, Err, refl}
use Rattle.std.specs.Borrow.{GName}
use Rattle.std.proofs.Common.{arith}
use Rattle.std.proofs.lemmas.Bool.{ne_eqb}
use Rattle.bincode_base.specs.Setting.{Setting}
use Rattle.bincode_base.specs.declared.error.DecodeError.{DecodeError}
use Rattle.bincode_spec.specs.Decoding.{by_fault}
use Rattle.bincode_spec.specs.Device.{DeviceErrors}
use Rattle.bincode_spec.specs.Fault.{UnexpectedVariant, Between, Tells}
use Rattle.bincode_spec.specs.Integers.{unsigned_byte}
use Rattle.bincode_spec.specs.Meaning.{Meaning, Nothing, Choice}
use Rattle.bincode_spec.specs.Layers.Values.{Reads}
use Rattle.bincode_spec.specs.Words.{nothing, after_tag, tag_then_part}
use Rattle.bincode_lemmas.specs.AnswerLaws.{answer-fail}
use Rattle.bincode_lemmas.specs.DecodingLaws.{map-gave}
use Rattle.bincode_lemmas.specs.IntegerLaws.{unsigned_byte-lawful}
use Rattle.bincode_decoder.proofs.PartAnswers.{first-stops, next-reads}
use Rattle.bincode_shape.specs.declared.shape.Shape.{Shape}
use Rattle.bincode_shape.specs.Shapes.{format_of, byte_tag, option_variants}
use Rattle.bincode_shape_codec.proofs.Parts.{nothing-gives}
use Rattle.bincode_shape_codec.proofs.Renamed.{map-reads, map-reads_none}

module _ {D T : Type 0} {is_known : D → Type 0} {remaining : D → List ℕ} {charge failures : D → ℕ} {loans : D → List GName} {limit : Option ℕ}
    {end_error : ℕ → DecodeError → Type 0} {device : DeviceErrors} {may_allocate : Type 0} {whole : Meaning → T → Type 0} {start : ℕ} (s : Setting) (part : Shape) where
  pub byte-stops : {e : DecodeError} {old new : D} →
      Reads is_known remaining charge failures loans limit end_error device ⊥ unsigned_byte (λ (n v : ℕ). n ≡ v) start (Err e) old new →
      Reads is_known remaining charge failures loans limit end_error device may_allocate (tag_then_part byte_tag (option_variants (format_of part)) s) whole start (Err e) old new
  unfolding tag_then_part
  byte-stops read = first-stops (byte_tag s) (after_tag (option_variants (format_of part)) s) (λ none. absurd none) read

  pub none-reads : {b : ℕ} {w : T} {old new : D} → b ≡ 0 → whole (Choice 0 Nothing) w →
      Reads is_known remaining charge failures loans limit end_error device ⊥ unsigned_byte (λ n v. n ≡ v) start (Ok b) old new →
      Reads is_known remaining charge failures loans limit end_error device may_allocate (tag_then_part byte_tag (option_variants (format_of part)) s) whole start (Ok w) old new
  unfolding tag_then_part
  none-reads zero gives read = next-reads (byte_tag s) (after_tag (option_variants (format_of part)) s) unsigned_byte-lawful read (rw zero (record {
    ok = λ known. record { meaning = Choice 0 Nothing; answer_is = map-gave (Choice 0) limit nothing _ _ Nothing _ _ (nothing-gives limit _ _); is_decoded = gives };
    err = λ known. tt;
    failures_monotone = omega arith;
    tells = λ known. known;
    charge_kept = omega arith;
    within = λ a. a;
    same_loans = refl;
  }))

  module _ {U : Type 0} {decodes_to : Meaning → U → Type 0} where
    pub some-reads : {b : ℕ} {v : U} {w : T} {old middle new : D} → b ≡ 1 → ((m : Meaning) → decodes_to m v → whole (Choice 1 m) w) →
        Reads is_known remaining charge failures loans limit end_error device ⊥ unsigned_byte (λ n v. n ≡ v) start (Ok b) old middle →
        Reads is_known remaining charge failures loans limit end_error device may_allocate (format_of part s) decodes_to (charge middle) (Ok v) middle new →
        Reads is_known remaining charge failures loans limit end_error device may_allocate (tag_then_part byte_tag (option_variants (format_of part)) s) whole start (Ok w) old new
    unfolding tag_then_part
    some-reads one gives first read = next-reads (byte_tag s) (after_tag (option_variants (format_of part)) s) unsigned_byte-lawful first (rw one (map-reads (Choice 1) gives read))

    pub some-stops : {b : ℕ} {e : DecodeError} {old middle new : D} → b ≡ 1 →
        Reads is_known remaining charge failures loans limit end_error device ⊥ unsigned_byte (λ n v. n ≡ v) start (Ok b) old middle →
        Reads is_known remaining charge failures loans limit end_error device may_allocate (format_of part s) decodes_to (charge middle) (Err e) middle new →
        Reads is_known remaining charge failures loans limit end_error device may_allocate (tag_then_part byte_tag (option_variants (format_of part)) s) whole start (Err e) old new
    unfolding tag_then_part
    some-stops one first read = next-reads (byte_tag s) (after_tag (option_variants (format_of part)) s) unsigned_byte-lawful first (rw one (map-reads_none (Choice 1) read))

  pub tag-stops : {b : ℕ} {e : DecodeError} {old new : D} → (b ≡ 0 → ⊥) → (b ≡ 1 → ⊥) → Tells end_error (UnexpectedVariant (Between 0 1) b) e →
      Reads is_known remaining charge failures loans limit end_error device ⊥ unsigned_byte (λ n v. n ≡ v) start (Ok b) old new →
      Reads is_known remaining charge failures loans limit end_error device may_allocate (tag_then_part byte_tag (option_variants (format_of part)) s) whole start (Err e) old new
  unfolding tag_then_part
  tag-stops {b = b} zero one tells first = next-reads (byte_tag s) (after_tag (option_variants (format_of part)) s) unsigned_byte-lawful first
      (rw (ne_eqb b 0 zero, ne_eqb b 1 one) (record {
        ok = λ known. tt;
        err = λ known. by_fault (UnexpectedVariant (Between 0 1) b) (answer-fail _ _ _ _) tells ([], refl);
        failures_monotone = omega arith;
        tells = λ known. known;
        charge_kept = omega arith;
        within = λ _. tt;
        same_loans = refl;
      }))
