-- Stepping over the frames of a store.
use Rattle.std.specs.Prelude.{◌≡◌, ◌+◌, ◌-◌, ◌≤◌, ◌++◌, ℕ, List, [], ◌∷◌, length, take, drop, Bool, true, false, refl}
use Rattle.std.proofs.Common.{◌∙◌, ap, sym, subst, arith}
use Rattle.std.proofs.lemmas.List.{length-drop, length-take-le, drop-drop, take_all, take-append-drop}
use Rattle.frames.specs.Frames.{named_length}
use Rattle.framed_store.specs.declared.ending.Ending.{Ending}
use Rattle.framed_store.specs.declared.ending.Ending.TheVariants as endings
use Rattle.framed_store.specs.Steps.{IsWhole, IsDamaged, EndsAt}
use Rattle.framed_store.specs.Surveys.{frame_size, FramesTo, fitting, unfit, IsSurvey}
use Rattle.framed_store.proofs.Fronts.{frames-alone}

-- slicing from an offset on is dropping what is before it
abbrev pub sliced : List ℕ → ℕ → List ℕ
sliced store at = take (length store - at) (drop at store)

pub slice-rest : (store : List ℕ) (at : ℕ) → sliced store at ≡ drop at store
slice-rest store at = let left = length-drop at store in take_all (length store - at) (drop at store) (omega (arith, left))

-- frames up to this rest, of which so many fit their checks
pub record Counted (most : ℕ) (store : List ℕ) (whole damaged : ℕ) (remaining : List ℕ) : Type 0 where
  pub fits : List Bool
  pub frames : FramesTo most store fits remaining
  pub whole_is : whole ≡ fitting fits
  pub damaged_is : damaged ≡ unfit fits

-- before the first frame
pub none-yet : (most : ℕ) (store : List ℕ) → Counted most store 0 0 (drop 0 store)
none-yet most store = record { fits = []; frames = refl; whole_is = refl; damaged_is = refl }

-- one more frame after those that were counted
pub frames-whole : (most : ℕ) (bytes : List ℕ) (fits : List Bool) (remaining : List ℕ) → FramesTo most bytes fits remaining → IsWhole most remaining (frame_size remaining) →
    FramesTo most bytes (fits ++ true ∷ []) (drop (frame_size remaining) remaining)
frames-whole most bytes [] remaining same w = (subst (λ z. IsWhole most z (frame_size z)) same w, ap (λ z. drop (frame_size z) z) same)
frames-whole most bytes (true ∷ fits) remaining f w = (f.0, frames-whole most (drop (frame_size bytes) bytes) fits remaining f.1 w)
frames-whole most bytes (false ∷ fits) remaining f w = (f.0, frames-whole most (drop (frame_size bytes) bytes) fits remaining f.1 w)

pub frames-damaged : (most : ℕ) (bytes : List ℕ) (fits : List Bool) (remaining : List ℕ) → FramesTo most bytes fits remaining → IsDamaged most remaining (frame_size remaining) →
    FramesTo most bytes (fits ++ false ∷ []) (drop (frame_size remaining) remaining)
frames-damaged most bytes [] remaining same w = (subst (λ z. IsDamaged most z (frame_size z)) same w, ap (λ z. drop (frame_size z) z) same)
frames-damaged most bytes (true ∷ fits) remaining f w = (f.0, frames-damaged most (drop (frame_size bytes) bytes) fits remaining f.1 w)
frames-damaged most bytes (false ∷ fits) remaining f w = (f.0, frames-damaged most (drop (frame_size bytes) bytes) fits remaining f.1 w)

fitting-more : (fits : List Bool) → fitting (fits ++ true ∷ []) ≡ fitting fits + 1
fitting-more [] = omega arith
fitting-more (true ∷ fits) = let more = fitting-more fits in omega (arith, more)
fitting-more (false ∷ fits) = fitting-more fits

fitting-same : (fits : List Bool) → fitting (fits ++ false ∷ []) ≡ fitting fits
fitting-same [] = refl
fitting-same (true ∷ fits) = ap (λ n. 1 + n) (fitting-same fits)
fitting-same (false ∷ fits) = fitting-same fits

unfit-more : (fits : List Bool) → unfit (fits ++ false ∷ []) ≡ unfit fits + 1
unfit-more [] = omega arith
unfit-more (false ∷ fits) = let more = unfit-more fits in omega (arith, more)
unfit-more (true ∷ fits) = unfit-more fits

unfit-same : (fits : List Bool) → unfit (fits ++ true ∷ []) ≡ unfit fits
unfit-same [] = refl
unfit-same (false ∷ fits) = ap (λ n. 1 + n) (unfit-same fits)
unfit-same (true ∷ fits) = unfit-same fits

-- the bytes of the frame that begins a slice are there
pub frame-within : (most : ℕ) (store : List ℕ) (at size : ℕ) → at ≤ length store → size ≡ frame_size (sliced store at) → 8 + named_length (sliced store at) ≤ length (sliced store at) →
    (at + size ≤ length store) × (8 ≤ size)
frame-within most store at size h same there =
    let left = length-drop at store in
    let all = ap length (slice-rest store at) in (omega (arith, h, same, there, left, all), omega (arith, same))

pub counted-whole-on : (most : ℕ) (store remaining : List ℕ) (whole damaged size : ℕ) → IsWhole most remaining size → Counted most store whole damaged remaining →
    Counted most store (whole + 1) damaged (drop size remaining)
counted-whole-on most store remaining whole damaged size w c =
    let there = subst (λ n. IsWhole most remaining n) w.1 w in
    let next = frames-whole most store c.fits remaining c.frames there in record {
      fits = c.fits ++ true ∷ [];
      frames = subst (λ n. FramesTo most store (c.fits ++ true ∷ []) (drop n remaining)) (sym w.1) next;
      whole_is = ap (λ n. n + 1) c.whole_is ∙ sym (fitting-more c.fits);
      damaged_is = c.damaged_is ∙ sym (unfit-same c.fits);
    }

pub counted-damaged-on : (most : ℕ) (store remaining : List ℕ) (whole damaged size : ℕ) → IsDamaged most remaining size → Counted most store whole damaged remaining →
    Counted most store whole (damaged + 1) (drop size remaining)
counted-damaged-on most store remaining whole damaged size w c =
    let there = subst (λ n. IsDamaged most remaining n) w.1 w in
    let next = frames-damaged most store c.fits remaining c.frames there in record {
      fits = c.fits ++ false ∷ [];
      frames = subst (λ n. FramesTo most store (c.fits ++ false ∷ []) (drop n remaining)) (sym w.1) next;
      whole_is = c.whole_is ∙ sym (fitting-same c.fits);
      damaged_is = ap (λ n. n + 1) c.damaged_is ∙ sym (unfit-more c.fits);
    }

pub counted-whole : (most : ℕ) (store : List ℕ) (at whole damaged size : ℕ) → IsWhole most (sliced store at) size → Counted most store whole damaged (drop at store) →
    Counted most store (whole + 1) damaged (drop (at + size) store)
counted-whole most store at whole damaged size w c =
    subst (Counted most store (whole + 1) damaged) (drop-drop size at store)
    (counted-whole-on most store (drop at store) whole damaged size (subst (λ z. IsWhole most z size) (slice-rest store at) w) c)

pub counted-damaged : (most : ℕ) (store : List ℕ) (at whole damaged size : ℕ) → IsDamaged most (sliced store at) size → Counted most store whole damaged (drop at store) →
    Counted most store whole (damaged + 1) (drop (at + size) store)
counted-damaged most store at whole damaged size w c =
    subst (Counted most store whole (damaged + 1)) (drop-drop size at store)
    (counted-damaged-on most store (drop at store) whole damaged size (subst (λ z. IsDamaged most z size) (slice-rest store at) w) c)

-- what was counted up to an offset is the survey of a store that ends there
pub surveyed : (most : ℕ) (store : List ℕ) (at whole damaged : ℕ) (ending : Ending) → at ≤ length store → Counted most store whole damaged (drop at store) → EndsAt most at (drop at store) ending →
    IsSurvey most store (record { whole = whole; damaged = damaged; length = at; ending = ending })
surveyed most store at whole damaged ending h c ends = record {
  fits = c.fits;
  remaining = drop at store;
  frames = c.frames;
  whole = c.whole_is;
  damaged = c.damaged_is;
  up_to = let left = length-drop at store in omega (arith, left, h);
  ends = ends;
}

-- and cut there it is whole
pub cut-whole : (most : ℕ) (store : List ℕ) (at whole damaged : ℕ) → at ≤ length store → Counted most store whole damaged (drop at store) →
    IsSurvey most (take at store) (record { whole = whole; damaged = damaged; length = at; ending = endings.Whole })
cut-whole most store at whole damaged h c = record {
  fits = c.fits;
  remaining = [];
  frames = frames-alone most (take at store) (drop at store) c.fits (subst (λ z. FramesTo most z c.fits (drop at store)) (sym (take-append-drop at store)) c.frames);
  whole = c.whole_is;
  damaged = c.damaged_is;
  up_to = let all = length-take-le at store h in omega (arith, all);
  ends = refl;
}
