-- Why encoding to a writer fails, from the writer's room.
use Rattle.std.specs.Prelude.{◌⊎◌, ◌≤◌, ◌++◌, ℕ, List, Option, Result, Ok, Err}
use Rattle.std.proofs.Common.{inl, inr, arith}
use Rattle.std.specs.Borrow.{GName}
use Rattle.bincode_base.specs.declared.error.EncodeError.{EncodeError}
use Rattle.bincode_spec.specs.Allowed.{OneLength}
use Rattle.bincode_spec.specs.Device.{CountRises, TooLong, WithinRoom, WriterFails}
use Rattle.bincode_spec.specs.Layers.Pieces.{TakesRoom}
use Rattle.bincode_spec.specs.Encoding.{Adds, Refuses, IsReady, Begins, EncodeFailure, by_writer, by_name, Encodes, FitsRoom}
use Rattle.bincode_io.specs.RoomLaws.{too_long-after, not-within, within-same}

-- the failures of a part of the call are failures of the call
rose-after : (before middle after : ℕ) → before ≤ middle → CountRises middle after → CountRises before after
rose-after before middle after h (inl r) = inl (omega arith)
rose-after before middle after h (inr r) = inr r

fails-after : (device : EncodeError → Type 0) (before middle after : ℕ) (e : EncodeError) → before ≤ middle → WriterFails device middle after e → WriterFails device before after e
fails-after device before middle after e h (inl memory) = inl memory
fails-after device before middle after e h (inr (inl d)) = inr (inl d)
fails-after device before middle after e h (inr (inr r)) = inr (inr (rose-after before middle after h r))

module _ {W : Type 0} (adds : Adds W) (refuses : Refuses W) (room : W → Option ℕ) (failures : W → ℕ) (device : EncodeError → Type 0)
    (adds_room : (a b : W) (piece : List ℕ) → adds a piece b → TakesRoom (room a) piece (room b))
    (adds_count : (a b : W) (piece : List ℕ) → adds a piece b → failures a ≤ failures b)
    (refuses_why : (a b : W) (piece : List ℕ) (e : EncodeError) → refuses a piece e b → TooLong (room a) piece ⊎ WriterFails device (failures a) (failures b) e)
    (R : Type 0) (A : List ℕ → Type 0) (N : EncodeError → Type 0) (before after : W) where
  abbrev Why : EncodeError → Type 0
  Why e = N e ⊎ (WriterFails device (failures before) (failures after) e ⊎ ((front : List ℕ) × Begins (IsReady R A) front × TooLong (room before) front))

  refused-why : (front piece : List ℕ) (middle : W) (e : EncodeError) → adds before front middle → Begins (IsReady R A) (front ++ piece) →
      TooLong (room middle) piece ⊎ WriterFails device (failures middle) (failures after) e → Why e
  refused-why front piece middle e h b (inl long) = inr (inr (front ++ piece, b, too_long-after (room before) (room middle) front piece (adds_room before middle front h) long))
  refused-why front piece middle e h b (inr fails) = inr (inl (fails-after device (failures before) (failures middle) (failures after) e (adds_count before middle front h) fails))

  halted-why : (e : EncodeError) → EncodeFailure adds refuses (IsReady R A) N before after e → Why e
  halted-why e (by_writer front piece middle h r b) = refused-why front piece middle e h b (refuses_why middle after piece e r)
  halted-why e (by_name front h n b) = inl n

  -- within the room only the errors of memory and device are left
  within-fails : (e : EncodeError) → OneLength (IsReady R A) → ((d : EncodeError) → ¬ (N d)) → (word : List ℕ) → IsReady R A word → WithinRoom (room before) word → Why e →
      WriterFails device (failures before) (failures after) e
  within-fails e one none word a fits (inl n) = absurd (none e n)
  within-fails e one none word a fits (inr (inl fails)) = fails
  within-fails e one none word a fits (inr (inr t)) =
      let m = t.1 word a in absurd (not-within (room before) t.0 m.0 word (one word (t.0 ++ m.0) a m.1) t.2 fits)

  pub fits-room : (loans : W → List GName) (result : Result (Unit {0}) EncodeError) → Encodes adds refuses (λ w. w) loans R A N result before after →
      FitsRoom (IsReady R A) N (WriterFails device (failures before) (failures after)) (room before) result
  fits-room loans (Ok v) h =
      let w = h.ok in record {
        short = tt;
        exact = λ one none word a. (
          within-same (room before) w.word word (one word w.word a (record { is_writable = a.is_writable; is_allowed = w.is_allowed })) (adds_room before after w.word w.added).within,
          λ fits. tt,
        );
      }
  fits-room loans (Err e) h =
      let why = halted-why e h.err in record { short = why; exact = λ one none word a. (tt, λ fits. within-fails e one none word a fits why) }
