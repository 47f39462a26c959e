-- Decoding a request after others.
use Rattle.std.specs.Prelude.{◌≡◌, ℕ, ◌+◌, ◌≤◌, ◌<◌, ◌++◌, List, [], ◌∷◌, length, take, drop, ◌-◌, Option, Some}
use Rattle.std.specs.List.{All}
use Rattle.std.proofs.Common.{◌∙◌, sym, ap, subst, arith, length-append}
use Rattle.std.proofs.lemmas.List.{length-drop, take_all}
use Rattle.std.proofs.lemmas.List.Elements.{All-push}
use Rattle.bincode.specs.ChargedLaws.{ChargesEnough}
use Rattle.bincode.specs.Format.{Format}
use Rattle.bincode.specs.Laws.{IsLawful, IsBalanced}
use Rattle.bincode.specs.Limited.{WordBounded}
use Rattle.bincode.specs.LimitedLaws.{decoded-bounded}
use Rattle.bincode.specs.Meaning.{Meaning}
use Rattle.bincode.specs.Slice.{IsDecoded}
use Rattle.own_types.specs.Requests.{FollowOn, IsBounded, IsRead}
use Rattle.own_types.specs.declared.requests.Request.{Request}

-- what is left after a request
abbrev left : List ℕ → ℕ → List ℕ
left received start = take (length received - start) (drop start received)

left_is : (received : List ℕ) (start : ℕ) → left received start ≡ drop start received
left_is received start = let l = length-drop start received in take_all (length received - start) (drop start received) (omega (arith, l))

-- an answer to it
pub answer-left : (P : List ℕ → Type 0) (received : List ℕ) (start : ℕ) → P (left received start) → P (drop start received)
answer-left P received start p = subst P (left_is received start) p

follows : {A : Type 0} (requests : List (Request A)) (start end : ℕ) (request : Request A) → FollowOn start requests end → request.start ≡ end → FollowOn start (requests ++ request ∷ []) (end + request.size)
follows [] start end request e f = (f ∙ sym e, ap (λ n. n + request.size) e)
follows (first ∷ others) start end request h f = (h.0, follows others (start + first.size) end request h.1 f)

module _ {A : Type 0} (F : Format Meaning) (f : IsLawful F) (b : IsBalanced F) (h : ChargesEnough F) (DecodesTo : Meaning → A → Type 0) (bound : Option ℕ) (received : List ℕ) (requests : List (Request A)) (request : Request A) where
  bounded : (limit : ℕ) → bound ≡ Some limit → IsRead F bound DecodesTo received request → All (IsBounded F limit received) requests → All (IsBounded F limit received) (requests ++ request ∷ [])
  bounded limit e d all = All-push (IsBounded F limit received) requests request all (decoded-bounded F f b h (drop request.start received) (λ m. DecodesTo m request.value) request.size bound d limit e)

  pub read-on : (most : ℕ) → request.start ≤ length received → length requests < most → IsDecoded F bound (left received request.start) (λ m. DecodesTo m request.value) request.size →
      ((limit : ℕ) → bound ≡ Some limit → All (IsBounded F limit received) requests) → FollowOn 0 requests request.start → All (IsRead F bound DecodesTo received) requests →
      (length (requests ++ request ∷ []) ≤ most) × (request.start + request.size ≤ length received)
      × ((limit : ℕ) → bound ≡ Some limit → All (IsBounded F limit received) (requests ++ request ∷ [])) × FollowOn 0 (requests ++ request ∷ []) (request.start + request.size)
      × All (IsRead F bound DecodesTo received) (requests ++ request ∷ [])
  read-on most within fewer decoded all follow words =
      let d = answer-left (λ bytes. IsDecoded F bound bytes (λ m. DecodesTo m request.value) request.size) received request.start decoded in
      let size = d.count in
      let rest = length-drop request.start received in
      let parts = ap length d.input_is ∙ length-append d.word d.remaining in
      let one = length-append requests (request ∷ []) in (
        omega (arith, one, fewer),
        omega (arith, within, size, rest, parts),
        λ limit e. bounded limit e d (all limit e),
        follows requests 0 request.start request follow (λ i. request.start),
        All-push (IsRead F bound DecodesTo received) requests request words d,
      )

-- a word that a limit of 65536 bounds
pub half-again : (F : Format Meaning) (input : List ℕ) (n : ℕ) → WordBounded F 65536 input n → n ≤ 98304
half-again F input n w = let count = w.count in let most = w.bounded.bytes in omega (arith, count, most)
