-- A value whose words are all empty is refused no room.
use Rattle.std.specs.Prelude.{◌≡◌, ◌<◌, ◌∷◌, ◌++◌, ℕ, List, [], length, refl, true, false}
use Rattle.std.proofs.Common.{◌∙◌, ap, arith, length-append}
use Rattle.bincode_base.specs.declared.error.EncodeError.{EncodeError}
use Rattle.bincode_io.specs.declared.room_counter.RoomCounter.{RoomCounter}
use Rattle.bincode_io.specs.declared.room_writer.RoomWriter.{RoomWriter}
use Rattle.bincode_io.specs.Rooms.{refused_by, RoomAdds, RoomRefuses}
use Rattle.bincode_spec.specs.Allowed.{OneLength}
use Rattle.bincode_spec.specs.Encoding.{IsReady, Writes, Begins, EncodeFailure, by_writer, by_name}
use Rattle.bincode.proofs.Counted.{Counted}

module _ (A : List ℕ → Type 0) (one : OneLength A) (empty : A []) where
  -- no piece with a byte in it begins a word
  none-begins : (front piece : List ℕ) → Begins A (front ++ piece) → 0 < length piece → ⊥
  none-begins front piece b some =
      let m = b [] empty in
      let same : length ((front ++ piece) ++ m.0) ≡ 0 = one ((front ++ piece) ++ m.0) [] m.1 empty in
      let whole = length-append (front ++ piece) m.0 in
      let both = length-append front piece in
      omega arith

  -- so a room writer refuses nothing
  pub room-empty : (N : EncodeError → Type 0) (before after : RoomWriter) (e : EncodeError) → EncodeFailure RoomAdds RoomRefuses A N before after e →
      refused_by before ≡ false → refused_by after ≡ true → ⊥
  room-empty N before after e (by_writer front piece middle h r b) start full = none-begins front piece b r.3
  room-empty N before after e (by_name front h n b) start full = absurd (cc)

-- a list of no items is empty
of-none : (xs : List ℕ) → length xs ≡ 0 → xs ≡ []
of-none [] e = refl
of-none (x ∷ xs) e = absurd (cc)

-- and nothing is counted
pub counted-empty : (R : Type 0) (A : List ℕ → Type 0) (before after : RoomCounter) → before.bytes_written ≡ 0 → Writes Counted A before after →
    OneLength (IsReady R A) → IsReady R A [] → after.bytes_written ≡ 0
counted-empty R A before after start w one empty =
    let same : length w.word ≡ 0 = one w.word [] (record { is_writable = empty.is_writable; is_allowed = w.is_allowed }) empty in
    ap (λ c. c.bytes_written) (w.added (of-none w.word same)) ∙ start
