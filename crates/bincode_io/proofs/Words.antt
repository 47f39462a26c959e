-- Reading and writing the words of numbers, part by part.
use Rattle.std.specs.Prelude.{◌≡◌, ◌⊎◌, ℕ, ℤ, pos, negsuc, FitsSigned, Result, Err, IfErr, ◌-◌, ◌<◌, ◌≤◌, ◌^◌}
use Rattle.std.specs.Prelude.{◌==◌, ◌&&◌, ◌≢◌, nat_le, true, false, List, [], ◌∷◌, ◌++◌, length, Some, refl, slice_index}
use Rattle.std.proofs.Common.{sym, ◌∙◌, inl, inr, ap, arith, append-nil, append_assoc, rules}
use Rattle.std.proofs.Math.Nat.{pow-le-pow_right}
use Rattle.std.specs.Int.{Width, w8, w16, w32, w64, w128}
use Rattle.std.proofs.lemmas.Int.{to_z-of_z, ints}
use Rattle.std.specs.Borrow.{GName}
use Rattle.std.proofs.lemmas.Result.{IfErr-weaker, on_ok_weaker}
use Rattle.std.proofs.lemmas.Bool.{le-leb, lt-leb, cases_lt}
use Rattle.std.proofs.lemmas.Bool.Decides.{nat_tests}
use Rattle.bincode_base.specs.declared.config.Endianness.{Endianness}
use Rattle.bincode_base.specs.declared.error.IntegerType.{IntegerType}
use Rattle.bincode_base.specs.declared.error.EncodeError.{EncodeError}
use Rattle.bincode_base.specs.declared.error.DecodeError.{DecodeError}
use Rattle.bincode_base.specs.declared.error.DecodeError.TheVariants.{InvalidIntegerType}
use Rattle.bincode_spec.specs.Number.{number_of, digits_of, two_complement, from_two_complement, FitsIn}
use Rattle.bincode_spec.specs.Fault.{Fault, End, InvalidInteger}
use Rattle.bincode_spec.specs.Format.{Format, Reading, Took, Failed, after_steps, fixed_bytes, pure, fail, ◌>>=◌, written_as, map_format}
use Rattle.bincode_lemmas.specs.FormatLaws.{fixed_bytes-lawful}
use Rattle.bincode_lemmas.specs.IntegerLaws.{byte-lawful, shortest-1, shortest-3, shortest-5, shortest-9, shortest-17}
use Rattle.bincode_base.specs.declared.config.IntEncoding.{IntEncoding}
use Rattle.bincode_base.specs.declared.config.IntEncoding.TheVariants.{Fixed}
use Rattle.bincode_spec.specs.Integers.{shortest_word, spelling, number_for, byte, digits, first_of, varint, first_byte, Itself, Before, TooWide, number_after, width_in_bytes}
use Rattle.bincode_spec.specs.Layers.Spelling.{shortest_pieces, spelling_pieces}
use Rattle.bincode_spec.specs.Device.{DeviceErrors, CountRises, Takes}
use Rattle.bincode_spec.specs.Layers.Pieces.{FallsShort, StopsAmong, TakesPiece, TakesPieces}
use mir.Val.{to_z, of_z, Fits}
use Rattle.bincode_spec.specs.Layers.Reads.{ReadFailure, by_fault, by_device, by_failure}

-- n bytes are there
pub fixed_bytes-read : (bytes remaining : List ℕ) (n : ℕ) → length bytes ≡ n → (fixed_bytes n).read (bytes ++ remaining) ≡ Took bytes remaining []
unfolding fixed_bytes
fixed_bytes-read bytes remaining n e = (fixed_bytes-lawful n).word_read bytes remaining bytes [] (e, refl, refl)

-- fewer than n bytes are there
raw_too_short : (input : List ℕ) (n : ℕ) → length input < n → (fixed_bytes n).read input ≡ Failed (End (Some (n - length input))) []
unfolding fixed_bytes
raw_too_short input n h = (fixed_bytes-lawful n).fault_read input (End (Some (n - length input))) [] (h, refl, refl)

-- the first byte of a list
first_of_index : (bytes : List ℕ) → first_of bytes ≡ slice_index bytes 0
first_of_index [] = refl
first_of_index (b ∷ bytes) = refl

pub byte-took : (input bytes remaining : List ℕ) → (fixed_bytes 1).read input ≡ Took bytes remaining [] → byte.read input ≡ Took (slice_index bytes 0) remaining []
unfolding byte ◌>>=◌ pure
byte-took input bytes remaining e = rw (e, first_of_index bytes) refl

pub byte-failed : (input : List ℕ) (why : Fault) → (fixed_bytes 1).read input ≡ Failed why [] → byte.read input ≡ Failed why []
unfolding byte ◌>>=◌
byte-failed input why e = rw e refl

pub digits-took : (order : Endianness) (n : ℕ) (input bytes remaining : List ℕ) → (fixed_bytes n).read input ≡ Took bytes remaining [] → (digits order n).read input ≡ Took (number_of order bytes) remaining []
unfolding digits written_as ◌>>=◌ pure
digits-took order n input bytes remaining e = rw e refl

pub digits-failed : (order : Endianness) (n : ℕ) (input : List ℕ) (why : Fault) → (fixed_bytes n).read input ≡ Failed why [] → (digits order n).read input ≡ Failed why []
unfolding digits written_as ◌>>=◌
digits-failed order n input why e = rw e refl

-- a format with its meanings mapped
pub map-took : {A B : Type 0} (f : A → B) (F : Format A) (input remaining : List ℕ) (a : A) (b : B) → b ≡ f a → F.read input ≡ Took a remaining [] → (map_format f F).read input ≡ Took b remaining []
unfolding ◌>>=◌ pure
map-took f F input remaining a b same e = rw (e, same) refl

pub map-failed : {A B : Type 0} (f : A → B) (F : Format A) (input : List ℕ) (why : Fault) → F.read input ≡ Failed why [] → (map_format f F).read input ≡ Failed why []
unfolding ◌>>=◌
map-failed f F input why e = rw e refl

-- why a read of n bytes failed
pub fixed_bytes-misreads : (end_error : ℕ → DecodeError → Type 0) (device : DeviceErrors) (remaining remaining' : List ℕ) (n before after : ℕ) (e : DecodeError) →
    FallsShort end_error remaining n e ⊎ (device.is_uncounted e ⊎ (device.is_counted e × CountRises before after)) → device.is_uncounted e ⊎ Takes remaining remaining' →
    ReadFailure end_error device ((fixed_bytes n).read remaining) before after remaining remaining' e
fixed_bytes-misreads end_error device remaining remaining' n before after e why (inl d) = by_device d
fixed_bytes-misreads end_error device remaining remaining' n before after e (inl h) (inr t) = by_fault (End (Some (n - length remaining))) (raw_too_short remaining n h.0) h.1 t
fixed_bytes-misreads end_error device remaining remaining' n before after e (inr (inl h)) (inr t) = by_device h
fixed_bytes-misreads end_error device remaining remaining' n before after e (inr (inr h)) (inr t) = by_failure h.0 h.1 t

-- the fault of a part is that of the whole
pub misreads-more : {A B : Type 0} (end_error : ℕ → DecodeError → Type 0) (device : DeviceErrors) (part : Reading A) (whole : Reading B) (before after : ℕ) (remaining remaining' : List ℕ) (e : DecodeError) →
    ((why : Fault) → part ≡ Failed why [] → whole ≡ Failed why []) → ReadFailure end_error device part before after remaining remaining' e → ReadFailure end_error device whole before after remaining remaining' e
misreads-more end_error device part whole before after remaining remaining' e same (by_fault why h t k) = by_fault why (same why h) t k
misreads-more end_error device part whole before after remaining remaining' e same (by_failure d h k) = by_failure d h k
misreads-more end_error device part whole before after remaining remaining' e same (by_device h) = by_device h

-- what was consumed before, then more
takes-then : (remaining middle remaining' : List ℕ) → Takes remaining middle → Takes middle remaining' → Takes remaining remaining'
takes-then remaining middle remaining' (a, e) (b, f) = (a ++ b, e ∙ ap (λ z. a ++ z) f ∙ sym (append_assoc a b remaining'))

rose-then : (a b c : ℕ) → a ≤ b → CountRises b c → CountRises a c
rose-then a b c h (inl r) = inl (omega arith)
rose-then a b c h (inr r) = inr r

-- what the first byte asks for
no_steps : {A : Type 0} (r : Reading A) → after_steps [] r ≡ r
no_steps (Took a remaining steps) = refl
no_steps (Failed why steps) = refl

module _ (tags : ℕ → IntegerType) (name : IntegerType) (order : Endianness) (width : ℕ) (input remaining : List ℕ) where
  varint_then : (first : ℕ) → byte.read input ≡ Took first remaining [] →
      (varint tags name order width).read input ≡ (number_after order (InvalidInteger name (tags first)) first (first_byte width first)).read remaining
  unfolding varint written_as ◌>>=◌
  varint_then first e = rw e (no_steps ((number_after order (InvalidInteger name (tags first)) first (first_byte width first)).read remaining))

  pub varint-none : (why : Fault) → byte.read input ≡ Failed why [] → (varint tags name order width).read input ≡ Failed why []
  unfolding varint written_as ◌>>=◌
  varint-none why e = rw e refl

  -- a first byte that is the number itself
  pub varint-itself : (first n : ℕ) → byte.read input ≡ Took first remaining [] → first_byte width first ≡ Itself → n ≡ first → (varint tags name order width).read input ≡ Took n remaining []
  unfolding pure
  varint-itself first n e row same = varint_then first e ∙ rw (row, same) refl

  -- a tag, then the digits
  pub varint-digits : (first k : ℕ) → byte.read input ≡ Took first remaining [] → first_byte width first ≡ Before k → (varint tags name order width).read input ≡ (digits order k).read remaining
  varint-digits first k e row = varint_then first e ∙ rw row refl

  module _ (end_error : ℕ → DecodeError → Type 0) (device : DeviceErrors) where
    -- a tag that is too wide for the type
    pub varint-too_wide : (first before after : ℕ) (e : DecodeError) → byte.read input ≡ Took first remaining [] → first_byte width first ≡ TooWide →
        e ≡ InvalidIntegerType name (tags first) → ReadFailure end_error device ((varint tags name order width).read input) before after input remaining e
    unfolding fail
    varint-too_wide first before after e b row same =
        let p = byte-lawful.read_word input remaining first [] b in
        by_fault (InvalidInteger name (tags first)) (varint_then first b ∙ rw row refl) same (p.word, p.input_is)

    -- digits are missing
    pub varint-misreads : (first k before between after : ℕ) (remaining' : List ℕ) (e : DecodeError) → byte.read input ≡ Took first remaining [] → first_byte width first ≡ Before k → before ≤ between →
        ReadFailure end_error device ((digits order k).read remaining) between after remaining remaining' e → ReadFailure end_error device ((varint tags name order width).read input) before after input remaining' e
    varint-misreads first k before between after remaining' e b row le (by_fault why h t f) =
        let p = byte-lawful.read_word input remaining first [] b in
        by_fault why (varint-digits first k b row ∙ h) t (takes-then input remaining remaining' (p.word, p.input_is) f)
    varint-misreads first k before between after remaining' e b row le (by_failure d h f) =
        let p = byte-lawful.read_word input remaining first [] b in
        by_failure d (rose-then before between after le h) (takes-then input remaining remaining' (p.word, p.input_is) f)
    varint-misreads first k before between after remaining' e b row le (by_device h) = by_device h

-- what a first byte stands for
pub small-itself : (width first : ℕ) → first ≤ 250 → first_byte width first ≡ Itself
small-itself width first h = let a : nat_le first 250 ≡ true = le-leb first 250 h in rw a refl

-- a tag that the width does not have
pub tag-too_wide : (width first : ℕ) → 250 < first → first ≢ 251 → first ≢ 252 ⊎ (width < 4) → first ≢ 253 ⊎ (width < 8) → first ≢ 254 ⊎ (width < 16) → first_byte width first ≡ TooWide
tag-too_wide width first h a b c d =
    let p : nat_le first 250 ≡ false = lt-leb first 250 h in
    let q : (first == 251) ≡ false = grind (arith, nat_tests) in
    let r : ((first == 252) && nat_le 4 width) ≡ false = grind (arith, nat_tests) in
    let s : ((first == 253) && nat_le 8 width) ≡ false = grind (arith, nat_tests) in
    let t : ((first == 254) && nat_le 16 width) ≡ false = grind (arith, nat_tests) in
    rw (p, q, r, s, t) refl

-- a number of fewer bytes fits more bytes
pub below-wider : (n fewer width : ℕ) → n < 256 ^ fewer → fewer ≤ width → n < 256 ^ width
below-wider n fewer width h i =
    let k : 256 ^ fewer ≤ 256 ^ width = pow-le-pow_right {n = 256} (omega arith) i in
    omega (arith, h, k)

module _ {W : Type 0} (adds : W → List ℕ → W → Type 0) (refuses : W → List ℕ → EncodeError → W → Type 0) where
  -- the writer refused the first piece
  pub stops-first : ((w : W) → adds w [] w) → (piece : List ℕ) (others : List (List ℕ)) (before after : W) (e : EncodeError) →
      refuses before piece e after → StopsAmong adds refuses (piece ∷ others) before e after
  stops-first none piece others before after e h = record { written = []; piece = piece; others = others; pieces_are = refl; middle = before; added = none before; refusal = h }

  -- the writer refused the second piece
  pub stops-second : (first piece : List ℕ) (others : List (List ℕ)) (before middle after : W) (e : EncodeError) → adds before first middle →
      refuses middle piece e after → StopsAmong adds refuses (first ∷ piece ∷ others) before e after
  stops-second first piece others before middle after e h k = record {
    written = first ∷ [];
    piece = piece;
    others = others;
    pieces_are = refl;
    middle = middle;
    added = rw (append-nil first) h;
    refusal = k;
  }

-- an integer that is read as a number
module _ {A B : Type 0} (f : A → B) (F : Format A) where
  pub mapped-misreads : {T : Type 0} (end_error : ℕ → DecodeError → Type 0) (device : DeviceErrors) (before after : ℕ) (input remaining : List ℕ) (r : Result T DecodeError) →
      IfErr r (ReadFailure end_error device (F.read input) before after input remaining) → IfErr r (ReadFailure end_error device ((map_format f F).read input) before after input remaining)
  mapped-misreads end_error device before after input remaining r h = IfErr-weaker r _ _ (λ e k. misreads-more end_error device _ _ before after input remaining e (map-failed f F input) k) h

pub signed-took : (w : Width) (f : ℕ → ℤ) (F : Format ℕ) (input remaining : List ℕ) (n : ℕ) (z : ℤ) → FitsSigned w z → z ≡ f n →
    F.read input ≡ Took n remaining [] → (map_format f F).read input ≡ Took (to_z w (of_z w z)) remaining []
signed-took w f F input remaining n z fits e h = map-took f F input remaining n _ (to_z-of_z w z fits ∙ e) h

-- an integer that fits its width: read as a wider one, then as one of its own width
signed_fits : (w : Width) (z : ℤ) → FitsIn (width_in_bytes w) z → FitsSigned w z
signed_fits w8 (pos n) h = omega arith
signed_fits w8 (negsuc n) h = omega arith
signed_fits w16 (pos n) h = omega arith
signed_fits w16 (negsuc n) h = omega arith
signed_fits w32 (pos n) h = omega arith
signed_fits w32 (negsuc n) h = omega arith
signed_fits w64 (pos n) h = omega arith
signed_fits w64 (negsuc n) h = omega arith
signed_fits w128 (pos n) h = omega arith
signed_fits w128 (negsuc n) h = omega arith

widest_fits : (w : Width) (z : ℤ) → FitsIn (width_in_bytes w) z → FitsSigned w128 z
widest_fits w8 (pos n) h = omega arith
widest_fits w8 (negsuc n) h = omega arith
widest_fits w16 (pos n) h = omega arith
widest_fits w16 (negsuc n) h = omega arith
widest_fits w32 (pos n) h = omega arith
widest_fits w32 (negsuc n) h = omega arith
widest_fits w64 (pos n) h = omega arith
widest_fits w64 (negsuc n) h = omega arith
widest_fits w128 (pos n) h = omega arith
widest_fits w128 (negsuc n) h = omega arith

pub narrow-fits : (w : Width) (z : ℤ) → FitsIn (width_in_bytes w) z → FitsSigned w (to_z w128 (of_z w128 z))
narrow-fits w z h = rw (to_z-of_z w128 z (widest_fits w z h)) (signed_fits w z h)

pub narrow-same : (w : Width) (z : ℤ) → FitsIn (width_in_bytes w) z → to_z w (of_z w (to_z w128 (of_z w128 z))) ≡ z
narrow-same w z h = rw (to_z-of_z w128 z (widest_fits w z h)) (to_z-of_z w z (signed_fits w z h))

-- an integer from its bits
pub to_z-two_complement : (w : Width) (n : ℕ) → to_z w n ≡ from_two_complement (width_in_bytes w) n
to_z-two_complement w8 n = search (ints, rules)
to_z-two_complement w16 n = search (ints, rules)
to_z-two_complement w32 n = search (ints, rules)
to_z-two_complement w64 n = search (ints, rules)
to_z-two_complement w128 n = search (ints, rules)

-- a number fits its bits
pub fits-bits : (w : Width) (n : ℕ) → n < 256 ^ width_in_bytes w → Fits w n
fits-bits w8 n h = search rules
fits-bits w16 n h = search rules
fits-bits w32 n h = search rules
fits-bits w64 n h = search rules
fits-bits w128 n h = search rules

-- words that are written in pieces
module _ {W : Type 0} {adds : W → List ℕ → W → Type 0} {refuses : W → List ℕ → EncodeError → W → Type 0} {loans : W → List GName} {failures : W → ℕ} {before after : W} where
  -- the writer refused the first piece
  pub pieces-first : {word piece : List ℕ} {others : List (List ℕ)} {e : EncodeError} → ((w : W) → adds w [] w) →
      TakesPiece adds refuses failures loans piece (Err e) before after → TakesPieces adds refuses loans word (piece ∷ others) (Err e) before after
  pieces-first {piece = piece} {others = others} {e = e} none h = record { ok = tt; err = stops-first adds refuses none piece others before after e h.err; same_loans = h.same_loans }

  -- a word of one piece
  pub pieces-one : {word piece : List ℕ} {pieces : List (List ℕ)} {r : Result (Unit {0}) EncodeError} → ((w : W) → adds w [] w) → word ≡ piece → pieces ≡ piece ∷ [] →
      TakesPiece adds refuses failures loans piece r before after → TakesPieces adds refuses loans word pieces r before after
  pieces-one {piece = piece} {r = r} none e p h = record {
    ok = rw e h.ok;
    err = rw p (IfErr-weaker r _ _ (λ d k. stops-first adds refuses none piece [] before after d k) h.err);
    same_loans = h.same_loans;
  }

  -- a word of two pieces, of which the first was added
  pub pieces-two : {first piece : List ℕ} {middle : W} {r : Result (Unit {0}) EncodeError} → ((a b c : W) (x y : List ℕ) → adds a x b → adds b y c → adds a (x ++ y) c) →
      adds before first middle → loans middle ≡ loans before → TakesPiece adds refuses failures loans piece r middle after →
      TakesPieces adds refuses loans (first ++ piece) (first ∷ piece ∷ []) r before after
  pieces-two {first = first} {piece = piece} {middle = middle} {r = r} join added same h = record {
    ok = on_ok_weaker _ (λ k. join before middle after first piece added k) h.ok;
    err = IfErr-weaker r _ _ (λ d k. stops-second adds refuses first piece [] before middle after d added k) h.err;
    same_loans = h.same_loans ∙ same;
  }

  -- a fixed-width number is one piece
  module _ {r : Result (Unit {0}) EncodeError} {piece : List ℕ} {encoding : IntEncoding} (none : (w : W) → adds w [] w) (e : encoding ≡ Fixed) (order : Endianness) (width : ℕ) where
    pub pieces-fixed : (n : ℕ) → piece ≡ digits_of order width n → TakesPiece adds refuses failures loans piece r before after →
        TakesPieces adds refuses loans (spelling encoding order width n) (spelling_pieces encoding order width n) r before after
    pieces-fixed n p h = rw e (pieces-one none (sym p) (ap (λ z. z ∷ []) (sym p)) h)

    pub pieces-fixed_signed : (w : Width) (z : ℤ) → FitsSigned w z → piece ≡ digits_of order width (two_complement width (to_z w (of_z w z))) →
        TakesPiece adds refuses failures loans piece r before after →
        TakesPieces adds refuses loans (spelling encoding order width (number_for width encoding z)) (spelling_pieces encoding order width (number_for width encoding z)) r before after
    pieces-fixed_signed w z fits p h =
        let q = p ∙ ap (λ y. digits_of order width (two_complement width y)) (to_z-of_z w z fits) in
        rw e (pieces-one none (sym q) (ap (λ y. y ∷ []) (sym q)) h)

-- the first piece of the shortest spelling is its first byte
begins_by : (order : Endianness) (n : ℕ) → (250 < n) ⊎ (n ≤ 250) → (n < 65536) ⊎ (65536 ≤ n) → (n < 4294967296) ⊎ (4294967296 ≤ n) → (n < 18446744073709551616) ⊎ (18446744073709551616 ≤ n) →
    (others : List (List ℕ)) × (shortest_pieces order n ≡ (first_of (shortest_word order n) ∷ []) ∷ others)
begins_by order n (inr a) b c d = let e = shortest-1 order n a in ([], rw (e.0, e.1) refl)
begins_by order n (inl a) (inl b) c d = let e = shortest-3 order n a b in (digits_of order 2 n ∷ [], rw (e.0, e.1) refl)
begins_by order n (inl a) (inr b) (inl c) d = let e = shortest-5 order n b c in (digits_of order 4 n ∷ [], rw (e.0, e.1) refl)
begins_by order n (inl a) (inr b) (inr c) (inl d) = let e = shortest-9 order n c d in (digits_of order 8 n ∷ [], rw (e.0, e.1) refl)
begins_by order n (inl a) (inr b) (inr c) (inr d) = let e = shortest-17 order n d in (digits_of order 16 n ∷ [], rw (e.0, e.1) refl)

pub pieces-begin : (order : Endianness) (n : ℕ) → (others : List (List ℕ)) × (shortest_pieces order n ≡ (first_of (shortest_word order n) ∷ []) ∷ others)
pieces-begin order n = begins_by order n (cases_lt 250 n) (cases_lt n 65536) (cases_lt n 4294967296) (cases_lt n 18446744073709551616)

-- for the proofs of numbers
pub ruleset by_number = (mapped-misreads, signed-took)
