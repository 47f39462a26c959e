-- What is done to a store that is repaired.
use Rattle.std.specs.Prelude.{◌≡◌, ◌≢◌, ◌⊎◌, ◌<◌, ◌+◌, ◌-◌, ◌++◌, ℕ, List, [], ◌∷◌, length, take, drop, Option, IsTrue}
use Rattle.std.specs.Io.KnownBytes.{Appends}
use Rattle.framed_store.specs.Searches.{StandsAt}
use Rattle.framed_store.specs.Steps.{IsWhole, IsDamaged}
use Rattle.framed_store.specs.Surveys.{frame_size}
use Rattle.framed_store.specs.declared.ending.Ending.TheVariants as endings
use Rattle.framed_store.specs.declared.surveying.Survey.{Survey}
use Rattle.stock_files.specs.declared.repairing.Plan.{Plan}
use Rattle.stock_files.specs.declared.repairing.Plan.TheVariants as plans
use Rattle.stock_files.specs.declared.repairing.Repair.{Repair}

-- no whole frame stands anywhere in the bytes
abbrev pub HasNoFrame : ℕ → List ℕ → Type 0
HasNoFrame most bytes = (k : ℕ) → ¬ StandsAt most bytes k

-- the bytes begin with a whole frame of more than so many bytes
abbrev pub BeginsWithLonger : ℕ → List ℕ → ℕ → Type 0
BeginsWithLonger most bytes count = IsWhole most bytes (frame_size bytes) × (count < frame_size bytes)

-- a whole frame begins at byte k, and ends after the first `kept` bytes
abbrev pub EndsAfter : ℕ → List ℕ → ℕ → ℕ → Type 0
EndsAfter most bytes kept k = BeginsWithLonger most (drop k bytes) (kept - k)

-- none does
abbrev pub NoneEndsAfter : ℕ → List ℕ → ℕ → Type 0
NoneEndsAfter most bytes kept = (k : ℕ) → ¬ EndsAfter most bytes kept k

-- no damaged frame is to be dropped, and no whole frame after the last one to be kept
abbrev pub HasNothingToDrop : ℕ → Survey → List ℕ → ℕ → Repair → Type 0
HasNothingToDrop most found end kept repair = IsTrue repair.drops_damaged → (found.damaged ≡ 0) × NoneEndsAfter most end kept

-- A store whose last bytes are `end`, of which a cut keeps the first `kept`, is left as it is only if it ends after a
-- frame; it is cut off only if no whole frame ends after the cut, or if that is asked for; it is written anew only if
-- that was asked for, and drops a damaged frame or keeps a whole one; and it is refused because of the first whole frame
-- that ends after the cut, unless a cut was asked for.
abbrev pub IsPlan : ℕ → Survey → List ℕ → ℕ → Repair → Plan → Type 0
IsPlan most found end kept repair plans.Leave = (found.ending ≡ endings.Whole) × HasNothingToDrop most found end kept repair
IsPlan most found end kept repair plans.Cut = (found.ending ≢ endings.Whole) × HasNothingToDrop most found end kept repair × (NoneEndsAfter most end kept ⊎ IsTrue repair.cuts)
IsPlan most found end kept repair plans.Rewrite = IsTrue repair.drops_damaged × ((0 < found.damaged) ⊎ ((k : ℕ) × EndsAfter most end kept k))
IsPlan most found end kept repair (plans.Refuse after) = (found.ending ≢ endings.Whole) × (IsTrue repair.cuts → ⊥) × (IsTrue repair.drops_damaged → ⊥)
    × EndsAfter most end kept after × ((k : ℕ) → k < after → ¬ EndsAfter most end kept k)

-- the plan for the last bytes of a file, from this offset on, as one for the file
abbrev pub of_file : ℕ → Plan → Plan
of_file start plans.Leave = plans.Leave
of_file start plans.Cut = plans.Cut
of_file start plans.Rewrite = plans.Rewrite
of_file start (plans.Refuse after) = plans.Refuse (start + after)

-- a store of these frames is whole once this was done
abbrev pub LeavesWhole : Survey → Plan → Type 0
LeavesWhole found plans.Leave = found.damaged ≡ 0
LeavesWhole found plans.Cut = found.damaged ≡ 0
LeavesWhole found plans.Rewrite = Unit {0}
LeavesWhole found (plans.Refuse _) = ⊥

-- the bytes are none, or begin with a whole frame
abbrev pub GoesOn : ℕ → List ℕ → Type 0
GoesOn most bytes = (bytes ≡ []) ⊎ StandsAt most bytes 0

-- the bytes are a whole frame
abbrev pub IsFrame : ℕ → List ℕ → Type 0
IsFrame most bytes = IsWhole most bytes (length bytes)

-- their last ones are
abbrev pub EndsWithFrame : ℕ → List ℕ → Type 0
EndsWithFrame most bytes = (k : ℕ) × (k < length bytes) × IsFrame most (drop k bytes)

-- a damaged frame is passed over whose length leads to a whole one or to the end, and over no whole one that ends there
abbrev pub IsPassedFrame : ℕ → List ℕ → ℕ → Type 0
IsPassedFrame most bytes n = IsDamaged most bytes n × GoesOn most (drop n bytes) × ¬ EndsWithFrame most (take n bytes)

-- these are passed over: such a frame, or bytes at which no whole frame stands
abbrev pub IsPassed : ℕ → List ℕ → ℕ → Type 0
IsPassed most bytes n = IsPassedFrame most bytes n ⊎ ((k : ℕ) → k < n → ¬ StandsAt most bytes k)

-- a frame that is kept, or bytes that are passed over
pub data Part : Type 0 where
  Keep : ℕ → Part
  Skip : ℕ → Part

-- these parts follow one another from the first byte on; after them is the rest
abbrev pub PartsTo : ℕ → List ℕ → List Part → List ℕ → Type 0
PartsTo most bytes [] rest = rest ≡ bytes
PartsTo most bytes (Keep n ∷ parts) rest = IsWhole most bytes n × PartsTo most (drop n bytes) parts rest
PartsTo most bytes (Skip n ∷ parts) rest = IsPassed most bytes n × PartsTo most (drop n bytes) parts rest

-- the bytes of those that are kept
abbrev pub kept_of : List Part → List ℕ → List ℕ
kept_of [] bytes = []
kept_of (Keep n ∷ parts) bytes = take n bytes ++ kept_of parts (drop n bytes)
kept_of (Skip n ∷ parts) bytes = kept_of parts (drop n bytes)

-- the frames that are kept of a store were written after what was held, up to where no whole frame follows
pub record Salvages (most : ℕ) (store : List ℕ) (old new : Option (List ℕ)) : Type 0 where
  pub parts : List Part
  pub rest : List ℕ
  pub parts_to : PartsTo most store parts rest
  pub none_left : HasNoFrame most rest
  pub appended : Appends old new (kept_of parts store)
