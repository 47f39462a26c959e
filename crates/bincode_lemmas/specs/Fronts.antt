-- What an encoding that failed leaves of a value that can be written: for callers with `Writable` types.
use Rattle.std.specs.Prelude.{◌⊎◌, ℕ, List}
use Rattle.std.proofs.Common.{inl, inr}
use Rattle.bincode_base.specs.declared.error.EncodeError.{EncodeError}
use Rattle.bincode_spec.specs.Encoding.{IsReady, Begins, IsOwn}
use Rattle.bincode_spec.specs.Slice.{FrontWritten}

module _ (Writable : Type 0) (Allowed : List ℕ → Type 0) (w : Writable) where
  begins : (front : List ℕ) → Begins (IsReady Writable Allowed) front → Begins Allowed front
  begins front b some h = let m = b some (record { is_writable = w; is_allowed = h }) in (m.0, m.1.is_allowed)

  begins_or : (front : List ℕ) (e : EncodeError) → IsOwn e ⊎ Begins (IsReady Writable Allowed) front → IsOwn e ⊎ Begins Allowed front
  begins_or front e (inl o) = inl o
  begins_or front e (inr b) = inr (begins front b)

  -- a prefix of a word that is ready is one of an allowed word
  pub front-written : (old new : List ℕ) (e : EncodeError) → FrontWritten (IsReady Writable Allowed) old new e → FrontWritten Allowed old new e
  front-written old new e f = record { front = f.front; fills = f.fills; begins = begins_or f.front e f.begins }
