-- Decoding under a limit, for an input whose need is known, and how much it can return.
use Rattle.std.specs.Prelude.{◌≡◌, ◌⊎◌, ◌<◌, ◌≤◌, ◌++◌, ℕ, List, length, None, Result, IfErr, IsErrAnd}
use Rattle.bincode_base.specs.declared.error.DecodeError.{DecodeError}
use Rattle.bincode_base.specs.declared.error.DecodeError.TheVariants.{LimitExceeded}
use Rattle.bincode_spec.specs.Charge.{Step}
use Rattle.bincode_spec.specs.Format.{Format}
use Rattle.bincode_spec.specs.Meaning.{Meaning}
use Rattle.bincode_spec.specs.Decoding.{AcceptsAll, ReportsFault}
use Rattle.bincode_spec.specs.Room.{IsWithinBounds}

-- `LimitExceeded` comes exactly if the input needs more than the limit; else the answer is that without a limit: each
-- word is accepted and each fault is reported. All that unless the call is excused.
pub record LimitedBy {A : Type 0} (end_error : ℕ → DecodeError → Type 0) (F : Format Meaning) (need : List ℕ → ℕ) (limit : ℕ) (Excused : DecodeError → Type 0) (input : List ℕ) (result : Result A DecodeError) : Type 0 where
  pub passed : limit < need input → IsErrAnd result (λ e. (e ≡ LimitExceeded) ⊎ Excused e)
  pub kept : need input ≤ limit → IfErr result (λ e. e ≡ LimitExceeded → Excused e)
  pub words : need input ≤ limit → AcceptsAll F None Excused input result
  pub faults : need input ≤ limit → ReportsFault end_error F None Excused input result

-- the first n bytes are a word that the limit bounds
pub record WordBounded (F : Format Meaning) (limit : ℕ) (input : List ℕ) (n : ℕ) : Type 0 where
  pub word : List ℕ
  pub remaining : List ℕ
  pub meaning : Meaning
  pub steps : List Step
  pub input_is : input ≡ word ++ remaining
  pub is_word : F.Word word meaning steps
  pub count : n ≡ length word
  pub bounded : IsWithinBounds limit word steps
