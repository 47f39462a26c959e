-- What was decoded of a shape, from what was decoded of its parts.
use Rattle.bincode_spec.specs.Number.{FitsIn}
use Rattle.bincode_lemmas.specs.DecodingLaws.{stops-besides, nothing-decodes}
use Rattle.std.specs.Prelude.{◌≡◌, ℕ, ◌*◌, ◌^◌, ℤ, pos, negsuc, true, List, [], ◌∷◌, map, length, Option, Ok, Err, Box, refl}
use Rattle.std.specs.List.{list_all}
use Rattle.std.specs.Borrow.{GName}
use Rattle.std.specs.declared.alloc.Global.{Global}
use Rattle.std.specs.declared.vec.Vec.{Vec}
use Rattle.std.proofs.Common.{◌∙◌, arith}
use Rattle.std.proofs.lemmas.Bool.{eq-eqb, lt-ltb}
use Rattle.bincode_base.specs.Setting.{Setting}
use Rattle.bincode_base.specs.declared.error.DecodeError.{DecodeError}
use Rattle.bincode_spec.specs.Device.{DeviceErrors}
use Rattle.bincode_spec.specs.Format.{Format}
use Rattle.bincode_spec.specs.Meaning.{Meaning, list_meaning}
use Rattle.bincode_spec.specs.Run.{IsListOf}
use Rattle.bincode_spec.specs.Layers.Values.{Reads}
use Rattle.bincode_spec.specs.Words.{array, list, tuple}
use Rattle.bincode_decoder.proofs.ReadAnswers.{read-as, made-of}
use Rattle.bincode_shape.specs.declared.shape.Shape as shapes
use Rattle.bincode_shape.specs.declared.shape.Shape.{Shape}
use Rattle.bincode_shape.specs.declared.shape.Value as values
use Rattle.bincode_shape.specs.declared.shape.Value.{Value, items_hidden-the_row-Value-0}
use Rattle.bincode_shape.specs.Shapes.{format_of, fits, has_sign_bit, share, at, meaning, IsImage}
use Rattle.bincode_shape.specs.Rows.{formats, AreImages, formats_of-vec, tests_of-vec, meanings_of-vec}

-- the images of elements, one by one
pub images-of : (element : Shape) (vs : List Value) (m : Meaning) → IsListOf (λ x n. IsImage element n x) vs m → (list_all (fits element) vs ≡ true) × (m ≡ list_meaning (map meaning vs))
images-of element [] m h = (refl, h)
images-of element (v ∷ vs) m h =
    let remaining = images-of element vs h.others h.are_others in
    (rw (h.is_first.0, remaining.0) refl, h.meaning_is ∙ rw (h.is_first.1, remaining.1) refl)

-- a fault of a part is one of the whole
module _ {D A T U : Type 0} {is_known : D → Type 0} {remaining : D → List ℕ} {charge failures : D → ℕ} {loans : D → List GName} {limit : Option ℕ}
    {end_error : ℕ → DecodeError → Type 0} {device : DeviceErrors} {start : ℕ} {old new : D} {G H : Type 0} {F : Format A} {decodes_to : A → T → Type 0} {whole : A → U → Type 0} where
  pub stops-alike : {e : DecodeError} → (G → H) →
      Reads is_known remaining charge failures loans limit end_error device G F decodes_to start (Err e) old new → Reads is_known remaining charge failures loans limit end_error device H F whole start (Err e) old new
  stops-alike {e = e} widen read = read-as (λ known. tt) (λ known. stops-besides end_error device G H widen _ _ _ _ _ e (read.err known)) (λ _. tt) read

module _ {D : Type 0} {is_known : D → Type 0} {remaining : D → List ℕ} {charge failures : D → ℕ} {loans : D → List GName} {limit : Option ℕ}
    {end_error : ℕ → DecodeError → Type 0} {device : DeviceErrors} {start : ℕ} {old new : D} where
  -- a list
  pub seq-reads : (s : Setting) (claim : ℕ) (b : Box Shape Global) (items : Vec Value Global) {may_allocate : Type 0} →
      Reads is_known remaining charge failures loans limit end_error device may_allocate (list s (share claim) (format_of b.value s)) (λ m (v : Vec Value Global). IsListOf (λ x n. IsImage b.value n x) v.items m) start (Ok items) old new →
      Reads is_known remaining charge failures loans limit end_error device may_allocate (format_of (shapes.Seq claim b) s) (IsImage (shapes.Seq claim b)) start (Ok (values.List items)) old new
  seq-reads s claim b items read =
      read-as (λ known. made-of (λ m h. let p = images-of b.value items.items m h in rw (items_hidden-the_row-Value-0 items, meanings_of-vec items) p) (read.ok known)) (λ known. tt) read.within read

  -- an array
  pub array-reads : (s : Setting) (len claim : ℕ) (b : Box Shape Global) (items : Vec Value Global) {may_allocate : Type 0} → length items.items ≡ len →
      Reads is_known remaining charge failures loans limit end_error device may_allocate (array len (share claim) (format_of b.value s)) (λ m (v : Vec Value Global). IsListOf (λ x n. IsImage b.value n x) v.items m) start (Ok items) old new →
      Reads is_known remaining charge failures loans limit end_error device may_allocate (format_of (shapes.Array len claim b) s) (IsImage (shapes.Array len claim b)) start (Ok (values.List items)) old new
  array-reads s len claim b items many read =
      read-as
      (λ known. made-of (λ m h.
      let p = images-of b.value items.items m h in
      rw (items_hidden-the_row-Value-0 items, meanings_of-vec items, eq-eqb (length items.items) len many) p) (read.ok known)) (λ known. tt) read.within read

  -- a tuple
  pub tuple-reads : (s : Setting) (parts : Vec Shape Global) (items : Vec Value Global) {may_allocate : Type 0} →
      Reads is_known remaining charge failures loans limit end_error device may_allocate (tuple (at s (formats parts.items))) (λ m (v : Vec Value Global). AreImages parts.items m v.items) start (Ok items) old new →
      Reads is_known remaining charge failures loans limit end_error device may_allocate (format_of (shapes.Tuple parts) s) (IsImage (shapes.Tuple parts)) start (Ok (values.List items)) old new
  tuple-reads s parts items read =
      rw (formats_of-vec parts)
      (read-as (λ known. made-of (λ m h. rw (tests_of-vec parts, items_hidden-the_row-Value-0 items, meanings_of-vec items) h) (read.ok known)) (λ known. tt) read.within read)

  pub tuple-stops : (s : Setting) (parts : Vec Shape Global) {T : Type 0} {may_allocate : Type 0} {decodes_to : Meaning → T → Type 0} {e : DecodeError} →
      Reads is_known remaining charge failures loans limit end_error device may_allocate (tuple (at s (formats parts.items))) decodes_to start (Err e) old new →
      Reads is_known remaining charge failures loans limit end_error device may_allocate (format_of (shapes.Tuple parts) s) (IsImage (shapes.Tuple parts)) start (Err e) old new
  tuple-stops s parts read = rw (formats_of-vec parts) (stops-alike (λ h. h) read)

-- a signed number that fits its bytes
pub sign-fits : (width : ℕ) (z : ℤ) → FitsIn width z → has_sign_bit width z ≡ true
sign-fits width (pos n) h = lt-ltb (2 * n) (256 ^ width) h
sign-fits width (negsuc n) h = lt-ltb (2 * n) (256 ^ width) h

-- the one value of no parts
pub unit-reads :
    {D : Type 0} {is_known : D → Type 0} {remaining : D → List ℕ} {charge failures : D → ℕ} {loans : D → List GName} {limit : Option ℕ}
    {end_error : ℕ → DecodeError → Type 0} {device : DeviceErrors} {may_allocate : Type 0} (s : Setting) (old : D) →
    Reads is_known remaining charge failures loans limit end_error device may_allocate (format_of shapes.Unit s) (IsImage shapes.Unit) (charge old) (Ok values.Unit) old old
unit-reads {remaining = remaining} {charge = charge} {limit = limit} s old = record {
  ok = λ known. made-of (λ m h. (refl, h)) (nothing-decodes limit (remaining old) (charge old));
  err = λ known. tt;
  failures_monotone = omega arith;
  tells = λ known. known;
  charge_kept = omega arith;
  within = λ a. a;
  same_loans = refl;
}
