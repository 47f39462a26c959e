-- A part of a window is a part of the stream's bytes.
use Rattle.std.specs.Prelude.{◌≡◌, ◌≤◌, ◌+◌, ◌-◌, ◌++◌, ℕ, List, length, take, drop, slice_range, Option, Some, None, IfSome}
use Rattle.std.proofs.Common.{◌∙◌, ap, sym, arith, refl}
use Rattle.std.proofs.KnownBytes.{starts_with_rest}
use Rattle.std.proofs.lemmas.List.{take-append-drop, take-append-le, drop-append-le, length-drop, length-take-le}
use Rattle.std.proofs.lemmas.List.Folds.{drop_split}
use Rattle.std.proofs.Math.Seq.{take-append_seam}
use Rattle.std.proofs.lemmas.Option.{none-some}
use Rattle.std.specs.Io.{StartsWith}
use Rattle.std.specs.Io.KnownBytes.{Keeps}
use Rattle.std.specs.Io.BufRead.{DropsConsumable}
use Rattle.bincode_io.specs.Stream.{TellsBytes, known_bytes}
use Rattle.bincode.proofs.Known.{within-most}
use Rattle.bincode.specs.Window.{ShowsNext}

-- a part of the front of a list
front-part : (front rest : List ℕ) (at end : ℕ) → at ≤ end → end ≤ length front → slice_range (front ++ rest) at end ≡ slice_range front at end
front-part front rest at end ordered within =
    let few : end - at ≤ length (drop at front) = let l = length-drop at front in omega arith in
    ap (take (end - at)) (drop-append-le at front rest (omega arith)) ∙ take-append-le (end - at) (drop at front) rest few

-- the bytes that follow begin with a part of the window
shown-part : (xs window : List ℕ) (len at end : ℕ) → StartsWith xs (take len window) → len ≤ length window → at ≤ end → end ≤ len → drop at xs ≡ slice_range window at end ++ drop end xs
shown-part xs window len at end starts whole ordered within =
    let front = take len window in
    let inside : end ≤ length front = let l = length-take-le len window whole in omega arith in
    let of_stream = ap (λ l. slice_range l at end) (starts_with_rest xs front starts) ∙ front-part front _ at end ordered inside in
    let of_window = ap (λ l. slice_range l at end) (sym (take-append-drop len window)) ∙ front-part front _ at end ordered inside in
    drop_split xs at end ordered ∙ ap (λ l. l ++ drop end xs) (of_stream ∙ sym of_window)

-- k bytes of the window are what the stream gives next
pub window-part : (stream : Option (List ℕ)) (most : Option ℕ) (window bytes : List ℕ) (len at k end : ℕ) → ShowsNext stream most len window → len ≤ length window → end ≡ at + k → end ≤ len →
    bytes ≡ take k (drop at window) → drop at (known_bytes stream) ≡ bytes ++ drop end (known_bytes stream)
window-part None most window bytes len at k end shows whole ends within same = absurd shows
window-part (Some xs) most window bytes len at k end shows whole ends within same =
    let count : k ≡ end - at = omega arith in
    shown-part xs window len at end shows.0 whole (omega arith) within ∙ ap (λ l. l ++ drop end xs) (sym (same ∙ ap (λ n. take n (drop at window)) count))

-- the front of a window into which the front of a list was copied
pub front-copied : (copied rest shown : List ℕ) (len : ℕ) → copied ≡ take len shown → len ≤ length shown → take len (copied ++ rest) ≡ take len shown
front-copied copied rest shown len same few =
    let count : length copied ≡ len = ap length same ∙ length-take-le len shown few in
    ap (λ n. take n (copied ++ rest)) (sym count) ∙ take-append_seam copied rest ∙ same

-- what is consumed of a window is gone from the stream
pub window-consumed : (before after : Option (List ℕ)) (most : Option ℕ) (window : List ℕ) (len taken : ℕ) → taken ≤ len → DropsConsumable before after most taken → ShowsNext before most len window →
    TellsBytes after × (known_bytes after ≡ drop taken (known_bytes before))
window-consumed None after most window len taken within drops shows = absurd shows
window-consumed (Some xs) None most window len taken within drops shows = absurd (none-some _ (drops (within-most most taken len within shows.1)))
window-consumed (Some xs) (Some ys) most window len taken within drops shows = (tt, ap known_bytes (drops (within-most most taken len within shows.1)))

-- the front of what a buffer shows is in the window
pub window-filled : (before after : Option (List ℕ)) (most : Option ℕ) (shown window : List ℕ) (len : ℕ) → IfSome before (λ xs. StartsWith xs shown) → Keeps before after →
    IfSome before (λ _. IfSome most (λ k. length shown ≤ k)) → len ≤ length shown → take len window ≡ take len shown → TellsBytes before → ShowsNext after most len window
window-filled None after most shown window len front kept fits few same tells = absurd tells
window-filled (Some xs) None most shown window len front kept fits few same tells = absurd kept
window-filled (Some xs) (Some ys) most shown window len front kept fits few same tells =
    let first : take len xs ≡ take len shown = ap (take len) (starts_with_rest xs shown front) ∙ take-append-le len shown _ few in
    let count : length (take len window) ≡ len = ap length same ∙ length-take-le len shown few in
    (ap (λ n. take n ys) count ∙ ap (take len) kept ∙ first ∙ sym same, within-most most len (length shown) few fits)

-- a window of which nothing was taken, and that holds nothing
pub window-empty : (stream lent : Option (List ℕ)) (most : Option ℕ) (window : List ℕ) (taken len : ℕ) → stream ≡ lent → taken ≡ 0 → len ≡ 0 → TellsBytes lent →
    ShowsNext stream most len window × (drop taken (known_bytes stream) ≡ known_bytes lent)
window-empty None None most window taken len s t l tells = absurd tells
window-empty (Some xs) None most window taken len s t l tells = absurd tells
window-empty None (Some ys) most window taken len s t l tells = absurd (none-some _ s)
window-empty (Some xs) (Some ys) None window taken len s t l tells = rw t (rw l ((refl, tt), ap known_bytes s))
window-empty (Some xs) (Some ys) (Some k) window taken len s t l tells = rw t (rw l ((refl, omega arith), ap known_bytes s))
