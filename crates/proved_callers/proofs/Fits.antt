-- When a plain value fits a room.
use Rattle.std.specs.Prelude.{ℕ, List, Option, Result, OnOk, IfErr}
use Rattle.bincode_base.specs.declared.error.EncodeError.{EncodeError}
use Rattle.bincode_spec.specs.Allowed.{OneLength}
use Rattle.bincode_spec.specs.Device.{WithinRoom}
use Rattle.bincode_spec.specs.Encoding.{IsReady, FitsRoom}

pub exact-fit : (R : Type 0) (A : List ℕ → Type 0) (N Fails : EncodeError → Type 0) (room : Option ℕ) → OneLength A → ((e : EncodeError) → N e → ⊥) → R →
    (result : Result (Unit {0}) EncodeError) → FitsRoom (IsReady R A) N Fails room result → (word : List ℕ) → A word →
    OnOk result (WithinRoom room word) × (WithinRoom room word → IfErr result Fails)
exact-fit R A N Fails room one none r result fits word a =
    fits.exact (λ v w p q. one v w p.is_allowed q.is_allowed) none word (record { is_writable = r; is_allowed = a })
