-- Decoding a choice: its tag, then the part that it selects.
use Rattle.std.specs.Prelude.{◌≡◌, ℕ, ◌+◌, ◌<◌, ◌≤◌, List, [], length, get_or, Box, Option, Ok, Err, refl}
use Rattle.std.specs.Borrow.{GName}
use Rattle.std.specs.declared.alloc.Global.{Global}
use Rattle.std.proofs.Common.{◌∙◌, ap, arith}
use Rattle.bincode_base.specs.Setting.{Setting}
use Rattle.bincode_base.specs.declared.error.DecodeError.{DecodeError}
use Rattle.bincode_base.specs.declared.error.IntegerType.TheVariants as integers
use Rattle.bincode_spec.specs.Decoding.{by_fault}
use Rattle.bincode_spec.specs.Device.{DeviceErrors}
use Rattle.bincode_spec.specs.Fault.{EmptyEnum, UnexpectedVariant, Between, Tells}
use Rattle.bincode_spec.specs.Integers.{Four}
use Rattle.bincode_spec.specs.Meaning.{Meaning, Choice}
use Rattle.bincode_spec.specs.Layers.Values.{Reads}
use Rattle.bincode_spec.specs.Words.{tag, after_tag, tag_then_part}
use Rattle.bincode_lemmas.specs.AnswerLaws.{answer-fail}
use Rattle.bincode_lemmas.specs.IntegerLaws.{unsigned-lawful}
use Rattle.bincode_decoder.proofs.PartAnswers.{first-stops, next-reads}
use Rattle.bincode_decoder.proofs.ReadAnswers.{read-as, made-of}
use Rattle.std.specs.declared.vec.Vec.{Vec}
use Rattle.bincode_shape.specs.declared.shape.Shape as shapes
use Rattle.bincode_shape.specs.declared.shape.Value as values
use Rattle.bincode_shape.specs.declared.shape.Shape.{Shape}
use Rattle.bincode_shape.specs.declared.shape.Value.{Value}
use Rattle.bincode_shape.specs.Shapes.{format_of, numbered_variants, one_of, IsImage}
use Rattle.bincode_shape.specs.Rows.{formats, formats_of-vec, tests_of-vec}
use Rattle.bincode_shape.proofs.Fitting.{picked-at}
use Rattle.bincode_shape_codec.specs.Held.{IsChosen}
use Rattle.bincode_shape_codec.proofs.Picked.{one_of-some, no-parts, picked, unpicked}
use Rattle.bincode_shape_codec.proofs.Renamed.{map-reads, map-reads_none}

-- the image of a part is one of the choice
pub chosen-image : (ps : List Shape) (found : ℕ) (p : Shape) (held : Box Value Global) → found < length ps → p ≡ get_or ps found p →
    (m : Meaning) → IsImage p m held.value → IsChosen ps (Choice found m) (found, held)
chosen-image ps found p held h e m k = (picked-at ps found p held.value h e ∙ k.0, ap (Choice found) k.1)

module _ {D T : Type 0} {is_known : D → Type 0} {remaining : D → List ℕ} {charge failures : D → ℕ} {loans : D → List GName} {limit : Option ℕ}
    {end_error : ℕ → DecodeError → Type 0} {device : DeviceErrors} {may_allocate : Type 0} {whole : Meaning → T → Type 0} (s : Setting) (ps : List Shape) where
  pub none-stops : {e : DecodeError} {old : D} → length ps ≡ 0 → Tells end_error EmptyEnum e →
      Reads is_known remaining charge failures loans limit end_error device may_allocate (one_of (numbered_variants 0 (formats ps)) s) whole (charge old) (Err e) old old
  none-stops none tells = rw (no-parts ps none) (record {
    ok = λ known. tt;
    err = λ known. by_fault EmptyEnum (answer-fail _ _ _ _) tells ([], refl);
    failures_monotone = omega arith;
    tells = λ known. known;
    charge_kept = omega arith;
    within = λ _. tt;
    same_loans = refl;
  })

  module _ {start : ℕ} (some : 0 < length ps) where
    pub tag-stops : {e : DecodeError} {old new : D} →
        Reads is_known remaining charge failures loans limit end_error device ⊥ (tag s) (λ (n v : ℕ). n ≡ v) start (Err e) old new →
        Reads is_known remaining charge failures loans limit end_error device may_allocate (one_of (numbered_variants 0 (formats ps)) s) whole start (Err e) old new
    unfolding tag_then_part
    tag-stops read = rw (one_of-some ps s some) (first-stops (tag s) (after_tag (numbered_variants 0 (formats ps)) s) (λ none. absurd none) read)

    module _ {U : Type 0} {decodes_to : Meaning → U → Type 0} where
      pub held-reads : {found : ℕ} {p : Shape} {v : U} {w : T} {old middle new : D} → found < length ps → p ≡ get_or ps found p →
          ((m : Meaning) → decodes_to m v → whole (Choice found m) w) →
          Reads is_known remaining charge failures loans limit end_error device ⊥ (tag s) (λ n v. n ≡ v) start (Ok found) old middle →
          Reads is_known remaining charge failures loans limit end_error device may_allocate (format_of p s) decodes_to (charge middle) (Ok v) middle new →
          Reads is_known remaining charge failures loans limit end_error device may_allocate (one_of (numbered_variants 0 (formats ps)) s) whole start (Ok w) old new
      unfolding tag_then_part
      held-reads {found = found} {p = p} h e gives first read =
          rw (one_of-some ps s some) (next-reads (tag s) (after_tag (numbered_variants 0 (formats ps)) s) (unsigned-lawful integers.U32 4 s (Four refl)) first
          (rw (picked s ps found p h e) (map-reads (Choice found) gives read)))

      pub held-stops : {found : ℕ} {p : Shape} {e : DecodeError} {old middle new : D} → found < length ps → p ≡ get_or ps found p →
          Reads is_known remaining charge failures loans limit end_error device ⊥ (tag s) (λ n v. n ≡ v) start (Ok found) old middle →
          Reads is_known remaining charge failures loans limit end_error device may_allocate (format_of p s) decodes_to (charge middle) (Err e) middle new →
          Reads is_known remaining charge failures loans limit end_error device may_allocate (one_of (numbered_variants 0 (formats ps)) s) whole start (Err e) old new
      unfolding tag_then_part
      held-stops {found = found} {p = p} h e first read =
          rw (one_of-some ps s some) (next-reads (tag s) (after_tag (numbered_variants 0 (formats ps)) s) (unsigned-lawful integers.U32 4 s (Four refl)) first
          (rw (picked s ps found p h e) (map-reads_none (Choice found) read)))

    pub unpicked-stops : {found last : ℕ} {e : DecodeError} {old new : D} → length ps ≡ last + 1 → length ps ≤ found → Tells end_error (UnexpectedVariant (Between 0 last) found) e →
        Reads is_known remaining charge failures loans limit end_error device ⊥ (tag s) (λ n v. n ≡ v) start (Ok found) old new →
        Reads is_known remaining charge failures loans limit end_error device may_allocate (one_of (numbered_variants 0 (formats ps)) s) whole start (Err e) old new
    unfolding tag_then_part
    unpicked-stops {found = found} {last = last} n h tells first =
        rw (one_of-some ps s some) (next-reads (tag s) (after_tag (numbered_variants 0 (formats ps)) s) (unsigned-lawful integers.U32 4 s (Four refl)) first
        (rw (unpicked s ps found last n h) (record {
          ok = λ known. tt;
          err = λ known. by_fault (UnexpectedVariant (Between 0 last) found) (answer-fail _ _ _ _) tells ([], refl);
          failures_monotone = omega arith;
          tells = λ known. known;
          charge_kept = omega arith;
          within = λ _. tt;
          same_loans = refl;
        })))

module _ {D : Type 0} {is_known : D → Type 0} {remaining : D → List ℕ} {charge failures : D → ℕ} {loans : D → List GName} {limit : Option ℕ}
    {end_error : ℕ → DecodeError → Type 0} {device : DeviceErrors} {start : ℕ} {old new : D} {may_allocate : Type 0} (s : Setting) (parts : Vec Shape Global) where
  pub choice-reads : (n : ℕ) (held : Box Value Global) →
      Reads is_known remaining charge failures loans limit end_error device may_allocate (one_of (numbered_variants 0 (formats parts.items)) s) (IsChosen parts.items) start (Ok (n, held)) old new →
      Reads is_known remaining charge failures loans limit end_error device may_allocate (format_of (shapes.Choice parts) s) (IsImage (shapes.Choice parts)) start (Ok (values.Choice n held)) old new
  choice-reads n held read = rw (formats_of-vec parts) (read-as (λ known. made-of (λ m h. rw (tests_of-vec parts) h) (read.ok known)) (λ known. tt) read.within read)

  pub choice-stops : {e : DecodeError} →
      Reads is_known remaining charge failures loans limit end_error device may_allocate (one_of (numbered_variants 0 (formats parts.items)) s) (IsChosen parts.items) start (Err e) old new →
      Reads is_known remaining charge failures loans limit end_error device may_allocate (format_of (shapes.Choice parts) s) (IsImage (shapes.Choice parts)) start (Err e) old new
  choice-stops read = rw (formats_of-vec parts) (read-as (λ known. tt) read.err (λ _. tt) read)
