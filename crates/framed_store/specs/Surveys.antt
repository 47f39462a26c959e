-- The frames of a store, by whether their checks fit.
use Rattle.std.specs.Prelude.{◌≡◌, ◌+◌, ℕ, List, [], ◌∷◌, length, take, drop, Bool, true, false}
use Rattle.frames.specs.Frames.{named_length}
use Rattle.framed_store.specs.declared.ending.Ending.{Ending}
use Rattle.framed_store.specs.declared.ending.Ending.TheVariants as endings
use Rattle.framed_store.specs.declared.surveying.Survey.{Survey}
use Rattle.framed_store.specs.Steps.{IsWhole, IsDamaged, EndsAt}

-- the number of bytes of the frame that the bytes begin with
abbrev pub frame_size : List ℕ → ℕ
frame_size bytes = 8 + named_length bytes

-- frames follow one another from the first byte on, of which some fit their checks; after them is the rest
abbrev pub FramesTo : ℕ → List ℕ → List Bool → List ℕ → Type 0
FramesTo most bytes [] remaining = remaining ≡ bytes
FramesTo most bytes (true ∷ fits) remaining = IsWhole most bytes (frame_size bytes) × FramesTo most (drop (frame_size bytes) bytes) fits remaining
FramesTo most bytes (false ∷ fits) remaining = IsDamaged most bytes (frame_size bytes) × FramesTo most (drop (frame_size bytes) bytes) fits remaining

-- how many fit, and how many do not
abbrev pub fitting : List Bool → ℕ
fitting [] = 0
fitting (true ∷ fits) = 1 + fitting fits
fitting (false ∷ fits) = fitting fits

abbrev pub unfit : List Bool → ℕ
unfit [] = 0
unfit (true ∷ fits) = unfit fits
unfit (false ∷ fits) = 1 + unfit fits

-- the frames of the store are counted, up to its end or to the first bytes that begin with none
pub record IsSurvey (most : ℕ) (store : List ℕ) (survey : Survey) : Type 0 where
  pub fits : List Bool
  pub remaining : List ℕ
  pub frames : FramesTo most store fits remaining
  pub whole : survey.whole ≡ fitting fits
  pub damaged : survey.damaged ≡ unfit fits
  pub up_to : length store ≡ survey.length + length remaining
  pub ends : EndsAt most survey.length remaining survey.ending

-- cut to the end of its last frame, the store has the same frames, and is whole
abbrev pub CutsWhole : ℕ → List ℕ → Survey → Type 0
CutsWhole most store survey = IsSurvey most (take survey.length store) (record survey { ending = endings.Whole })

-- its frames, whatever their checks, have n bytes up to where it ends
pub record StepsOver (most : ℕ) (store : List ℕ) (n : ℕ) (ending : Ending) : Type 0 where
  pub fits : List Bool
  pub remaining : List ℕ
  pub frames : FramesTo most store fits remaining
  pub up_to : length store ≡ n + length remaining
  pub ends : EndsAt most n remaining ending
