-- What a reader does with a buffer, and a writer with a piece.
use Rattle.std.specs.Prelude.{◌≡◌, ◌-◌, ◌<◌, ◌⊎◌, ℕ, List, [], ◌∷◌, ◌++◌, ◌≤◌, length, drop, Option, Some, None, Result, OnOk, IfErr}
use Rattle.std.specs.Borrow.{GName}
use Rattle.bincode_base.specs.declared.error.DecodeError.{DecodeError}
use Rattle.bincode_base.specs.declared.error.StreamError.{StreamError}
use Rattle.bincode_base.specs.declared.error.DecodeError.TheVariants.{UnexpectedEnd, Io}
use Rattle.bincode_base.specs.declared.error.EncodeError.{EncodeError}
use Rattle.bincode_spec.specs.Device.{DeviceErrors, CountRises, Takes, WithinRoom}

-- a reader without a device
abbrev pub no_device : DeviceErrors
no_device = record { is_counted = λ _. ⊥; is_uncounted = λ _. ⊥ }

-- the error for this many missing bytes
abbrev pub IsEndError : ℕ → DecodeError → Type 0
IsEndError missing e = (e ≡ UnexpectedEnd missing) ⊎ ((inner : StreamError) × (e ≡ Io inner missing))

-- a call left the failures and the references as they were, and what remains if it is known
abbrev pub LeavesState : Type 0 → Type 0 → List ℕ → List ℕ → ℕ → ℕ → List GName → List GName → Type 0
LeavesState is_known is_known' remaining remaining' failures failures' loans loans' = (is_known → is_known' × (remaining' ≡ remaining)) × (failures' ≡ failures) × (loans' ≡ loans)

-- a read of `wanted` bytes has too few: `end_error` has the error for the number that is missing
abbrev pub FallsShort : (ℕ → DecodeError → Type 0) → List ℕ → ℕ → DecodeError → Type 0
FallsShort end_error remaining wanted e = (length remaining < wanted) × end_error (wanted - length remaining) e

-- A reader (`old` before, `new` after) was asked to fill a buffer. It holds the next bytes; or too few are left, or the
-- device failed, and then a prefix of what was left is taken, unless the device does not count the error. What remains
-- stays known, failures don't fall, and the references are unchanged.
pub record FillsBuffer {R : Type 0} (is_known : R → Type 0) (remaining : R → List ℕ) (failures : R → ℕ) (loans : R → List GName)
    (end_error : ℕ → DecodeError → Type 0) (device : DeviceErrors) (before after : List ℕ) (result : Result (Unit {0}) DecodeError) (old new : R) : Type 0 where
  pub next : is_known old → OnOk result (remaining old ≡ after ++ remaining new)
  pub why : is_known old → IfErr result (λ e. FallsShort end_error (remaining old) (length before) e ⊎ (device.is_uncounted e ⊎ (device.is_counted e × CountRises (failures old) (failures new))))
  pub left : is_known old → IfErr result (λ e. device.is_uncounted e ⊎ Takes (remaining old) (remaining new))
  pub failures_monotone : failures old ≤ failures new
  pub tells : is_known old → is_known new
  pub same_loans : loans new ≡ loans old

-- it was asked to consume bytes of a peek
pub record TakesShown {R : Type 0} (is_known : R → Type 0) (remaining : R → List ℕ) (failures : R → ℕ) (loans : R → List GName) (n : ℕ) (old new : R) : Type 0 where
  pub taken : is_known old → remaining new ≡ drop n (remaining old)
  pub same_failures : failures new ≡ failures old
  pub tells : is_known old → is_known new
  pub same_loans : loans new ≡ loans old

-- A writer (`old` before, `new` after) was given a piece: it was added, or it was refused and the error tells why.
-- Failures don't fall, and the references are unchanged.
pub record TakesPiece {W : Type 0} (adds : W → List ℕ → W → Type 0) (refuses : W → List ℕ → EncodeError → W → Type 0) (failures : W → ℕ)
    (loans : W → List GName) (piece : List ℕ) (result : Result (Unit {0}) EncodeError) (old new : W) : Type 0 where
  pub ok : OnOk result (adds old piece new)
  pub err : IfErr result (λ e. refuses old piece e new)
  pub failures_monotone : failures old ≤ failures new
  pub same_loans : loans new ≡ loans old

-- the room that is left after a piece
abbrev pub room_after : Option ℕ → List ℕ → Option ℕ
room_after None piece = None
room_after (Some room) piece = Some (room - length piece)

-- a piece that was added did fit, and takes its length off the room
pub record TakesRoom (before : Option ℕ) (piece : List ℕ) (after : Option ℕ) : Type 0 where
  pub within : WithinRoom before piece
  pub left : after ≡ room_after before piece

-- the concatenation of pieces
abbrev pub concat_pieces : List (List ℕ) → List ℕ
concat_pieces [] = []
concat_pieces (piece ∷ pieces) = piece ++ concat_pieces pieces

-- some of the pieces were added, and the writer refused the next
pub record StopsAmong {W : Type 0} (adds : W → List ℕ → W → Type 0) (refuses : W → List ℕ → EncodeError → W → Type 0) (pieces : List (List ℕ)) (before : W) (e : EncodeError) (after : W) : Type 0 where
  pub written : List (List ℕ)
  pub piece : List ℕ
  pub others : List (List ℕ)
  pub pieces_are : pieces ≡ written ++ piece ∷ others
  pub middle : W
  pub added : adds before (concat_pieces written) middle
  pub refusal : refuses middle piece e after

-- A writer (`old` before, `new` after) was given the pieces of a word in order: all were added, or it refused one and
-- the error tells why. The references are unchanged.
pub record TakesPieces {W : Type 0} (adds : W → List ℕ → W → Type 0) (refuses : W → List ℕ → EncodeError → W → Type 0) (loans : W → List GName)
    (word : List ℕ) (pieces : List (List ℕ)) (result : Result (Unit {0}) EncodeError) (old new : W) : Type 0 where
  pub ok : OnOk result (adds old word new)
  pub err : IfErr result (λ e. StopsAmong adds refuses pieces old e new)
  pub same_loans : loans new ≡ loans old
