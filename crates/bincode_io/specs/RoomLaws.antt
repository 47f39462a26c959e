-- How pieces use up a room.
use Rattle.std.specs.Prelude.{◌≡◌, ◌+◌, ◌-◌, ◌≤◌, ℕ, List, [], ◌∷◌, ◌++◌, length, Option, Some, None, refl}
use Rattle.std.proofs.Common.{ap, subst, arith, length-append}
use Rattle.bincode_spec.specs.Device.{TooLong, WithinRoom}
use Rattle.bincode_spec.specs.Layers.Pieces.{TakesRoom}

-- if a concatenation is empty, both parts are
pub first-empty : (x y : List ℕ) → x ++ y ≡ [] → x ≡ []
first-empty [] y e = refl
first-empty (b ∷ x) y e = absurd (cc)

pub second-empty : (x y : List ℕ) → x ++ y ≡ [] → y ≡ []
second-empty [] y e = e
second-empty (b ∷ x) y e = absurd (cc)

-- a prefix is no longer than the whole
pub front-within : (front rest whole : ℕ) → front + rest ≡ whole → front ≤ whole
front-within front rest whole e = omega arith

-- the room of a slice: its length stays while the count goes up
pub room-taken : (size at size' at' : ℕ) (piece : List ℕ) → at' ≡ at + length piece → size' ≡ size → at' ≤ size' →
    TakesRoom (Some (size - at)) piece (Some (size' - at'))
room-taken size at size' at' piece e s within =
    let left : size' - at' ≡ (size - at) - length piece = omega arith in
    record { within = omega arith; left = ap Some left }

-- a piece that is too long after a prefix is too long with the prefix before it
pub too_long-after : (room after : Option ℕ) (front piece : List ℕ) → TakesRoom room front after → TooLong after piece →
    TooLong room (front ++ piece)
too_long-after None after front piece h long = let P : Option ℕ → Type 0 = λ r. TooLong r piece in subst P h.left long
too_long-after (Some room) after front piece h long =
    let P : Option ℕ → Type 0 = λ r. TooLong r piece in
    let behind = subst P h.left long in
    let both = length-append front piece in
    let within = h.within in
    omega arith

-- a word that begins with what is too long does not fit
pub not-within : (room : Option ℕ) (front more word : List ℕ) → length word ≡ length (front ++ more) → TooLong room front →
    WithinRoom room word → ⊥
not-within None front more word e long within = long
not-within (Some room) front more word e long within = let both = length-append front more in omega arith

-- words of one length fit the same rooms
pub within-same : (room : Option ℕ) (x y : List ℕ) → length y ≡ length x → WithinRoom room x → WithinRoom room y
within-same None x y e h = tt
within-same (Some room) x y e h = omega arith
