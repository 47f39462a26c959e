-- Requests in the bytes that a server received.
use Rattle.std.specs.Prelude.{◌≡◌, ◌+◌, ◌≤◌, ℕ, List, [], ◌∷◌, drop, Option}
use Rattle.bincode.specs.Format.{Format}
use Rattle.bincode.specs.Limited.{WordBounded}
use Rattle.bincode.specs.Meaning.{Meaning}
use Rattle.bincode.specs.Slice.{IsDecoded}
use Rattle.own_types.specs.declared.requests.Request.{Request}

-- at its start is a word of the request's length, which the limit bounds
abbrev pub IsBounded : {A : Type 0} → Format Meaning → ℕ → List ℕ → Request A → Type 0
IsBounded F limit received request = WordBounded F limit (drop request.start received) request.size

-- at its start is a word of the request's length within the limit, and its value is one that the word decodes to
abbrev pub IsRead : {A : Type 0} → Format Meaning → Option ℕ → (Meaning → A → Type 0) → List ℕ → Request A → Type 0
IsRead F limit DecodesTo received request = IsDecoded F limit (drop request.start received) (λ m. DecodesTo m request.value) request.size

-- its length is at most `most`
abbrev pub IsWithin : {A : Type 0} → ℕ → Request A → Type 0
IsWithin most request = request.size ≤ most

-- the first request begins at `start`, and each other one where the one before it ends
abbrev pub FollowOn : {A : Type 0} → ℕ → List (Request A) → ℕ → Type 0
FollowOn start [] end = start ≡ end
FollowOn start (request ∷ requests) end = (request.start ≡ start) × FollowOn (start + request.size) requests end
