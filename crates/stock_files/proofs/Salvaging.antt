-- Keeping the whole frames of a store, part by part.
use Rattle.std.specs.Prelude.{◌≡◌, ◌↔◌, ◌++◌, ◌<◌, ◌≤◌, ℕ, List, [], ◌∷◌, length, take, drop, Bool, false, Option, Some, None, IfSome, IsTrue, refl}
use Rattle.std.specs.Io.KnownBytes.{Appends}
use Rattle.std.proofs.Common.{◌∙◌, ap, sym, subst, arith, inl, inr, suc, zero, append_assoc, append-nil}
use Rattle.std.proofs.KnownBytes.{Appends-nil, Appends-trans}
use Rattle.std.proofs.lemmas.List.{length-drop}
use Rattle.framed_store.specs.Searches.{StandsAt}
use Rattle.framed_store.specs.Steps.{IsWhole, IsDamaged}
use Rattle.stock_files.specs.Repairs.{HasNoFrame, GoesOn, EndsWithFrame, IsPassed, Part, Keep, Skip, PartsTo, kept_of, Salvages}

-- nothing stands in no bytes
pub none-in-none : (most : ℕ) → HasNoFrame most []
none-in-none most k stands =
    let nothing : List ℕ = [] in
    let there = stands.0.1 in
    let left = length-drop k nothing in omega (arith, there, left)

-- up to where a frame stands, bytes that begin with none are passed over
pub passed-to-frame : (most : ℕ) (bytes : List ℕ) (r : Option ℕ) → ¬ StandsAt most bytes 0 → IfSome r (StandsAt most bytes) → IfSome r (λ n. (k : ℕ) → k < n → ¬ StandsAt most bytes k) →
    IfSome r (λ n. (0 < n) × (n ≤ length bytes) × IsPassed most bytes n)
passed-to-frame most bytes None none found first = tt
passed-to-frame most bytes (Some zero) none found first = absurd (none found)
passed-to-frame most bytes (Some (suc n)) none found first =
    let there = found.0.1 in
    let left = length-drop (suc n) bytes in
    let within : suc n ≤ length bytes = omega (arith, there, left) in (omega arith, within, inr first)

-- a damaged frame is passed over whose length leads on, if no whole one ends there
pub passed-frame : (most : ℕ) (bytes front back : List ℕ) (size : ℕ) (ends : Bool) → IsDamaged most bytes size → front ≡ take size bytes → back ≡ drop size bytes → GoesOn most back →
    (IsTrue ends ↔ EndsWithFrame most front) → ends ≡ false → (0 < size) × (size ≤ length bytes) × IsPassed most bytes size
passed-frame most bytes front back size ends d f b g e n =
    let is = d.1 in
    let fits = d.0.1 in
    (omega (arith, is), omega (arith, is, fits), inl (d, subst (GoesOn most) b g, λ h. let t = e.1 (subst (EndsWithFrame most) (sym f) h) in absurd (cc)))

parts-kept : (most : ℕ) (bytes : List ℕ) (parts : List Part) (rest : List ℕ) (n : ℕ) → PartsTo most bytes parts rest → IsWhole most rest n → PartsTo most bytes (parts ++ Keep n ∷ []) (drop n rest)
parts-kept most bytes [] rest n to is = (subst (λ z. IsWhole most z n) to is, ap (drop n) to)
parts-kept most bytes (Keep m ∷ parts) rest n to is = (to.0, parts-kept most (drop m bytes) parts rest n to.1 is)
parts-kept most bytes (Skip m ∷ parts) rest n to is = (to.0, parts-kept most (drop m bytes) parts rest n to.1 is)

parts-passed : (most : ℕ) (bytes : List ℕ) (parts : List Part) (rest : List ℕ) (n : ℕ) → PartsTo most bytes parts rest → IsPassed most rest n → PartsTo most bytes (parts ++ Skip n ∷ []) (drop n rest)
parts-passed most bytes [] rest n to is = (subst (λ z. IsPassed most z n) to is, ap (drop n) to)
parts-passed most bytes (Keep m ∷ parts) rest n to is = (to.0, parts-passed most (drop m bytes) parts rest n to.1 is)
parts-passed most bytes (Skip m ∷ parts) rest n to is = (to.0, parts-passed most (drop m bytes) parts rest n to.1 is)

kept-more : (most : ℕ) (bytes : List ℕ) (parts : List Part) (rest : List ℕ) (n : ℕ) → PartsTo most bytes parts rest → kept_of (parts ++ Keep n ∷ []) bytes ≡ kept_of parts bytes ++ take n rest
kept-more most bytes [] rest n to = append-nil (take n bytes) ∙ sym (ap (take n) to)
kept-more most bytes (Keep m ∷ parts) rest n to =
    ap (λ z. take m bytes ++ z) (kept-more most (drop m bytes) parts rest n to.1) ∙ sym (append_assoc (take m bytes) (kept_of parts (drop m bytes)) (take n rest))
kept-more most bytes (Skip m ∷ parts) rest n to = kept-more most (drop m bytes) parts rest n to.1

kept-same : (bytes : List ℕ) (parts : List Part) (n : ℕ) → kept_of (parts ++ Skip n ∷ []) bytes ≡ kept_of parts bytes
kept-same bytes [] n = refl
kept-same bytes (Keep m ∷ parts) n = ap (λ z. take m bytes ++ z) (kept-same (drop m bytes) parts n)
kept-same bytes (Skip m ∷ parts) n = kept-same (drop m bytes) parts n

-- what was kept up to this rest was written
pub record SalvagedTo (most : ℕ) (store rest : List ℕ) (old new : Option (List ℕ)) : Type 0 where
  pub parts : List Part
  pub parts_to : PartsTo most store parts rest
  pub appended : Appends old new (kept_of parts store)

pub salvaged-nothing : (most : ℕ) (store : List ℕ) (known : Option (List ℕ)) → SalvagedTo most store store known known
salvaged-nothing most store known = record { parts = []; parts_to = refl; appended = Appends-nil known }

pub salvaged-kept : (most : ℕ) (store rest : List ℕ) (n : ℕ) (old now new : Option (List ℕ)) → SalvagedTo most store rest old now → IsWhole most rest n → Appends now new (take n rest) →
    SalvagedTo most store (drop n rest) old new
salvaged-kept most store rest n old now new so_far is added = record {
  parts = so_far.parts ++ Keep n ∷ [];
  parts_to = parts-kept most store so_far.parts rest n so_far.parts_to is;
  appended = subst (Appends old new) (sym (kept-more most store so_far.parts rest n so_far.parts_to)) (Appends-trans old now new (kept_of so_far.parts store) (take n rest) so_far.appended added);
}

pub salvaged-passed : (most : ℕ) (store rest : List ℕ) (n : ℕ) (old new : Option (List ℕ)) → SalvagedTo most store rest old new → IsPassed most rest n → SalvagedTo most store (drop n rest) old new
salvaged-passed most store rest n old new so_far is = record {
  parts = so_far.parts ++ Skip n ∷ [];
  parts_to = parts-passed most store so_far.parts rest n so_far.parts_to is;
  appended = subst (Appends old new) (sym (kept-same store so_far.parts n)) so_far.appended;
}

pub salvaged-all : (most : ℕ) (store rest : List ℕ) (old new : Option (List ℕ)) → SalvagedTo most store rest old new → HasNoFrame most rest → Salvages most store old new
salvaged-all most store rest old new so_far none = record { parts = so_far.parts; rest = rest; parts_to = so_far.parts_to; none_left = none; appended = so_far.appended }
