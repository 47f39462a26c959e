-- Why no next word is found.
use Rattle.std.specs.Prelude.{◌≡◌, ◌≢◌, ◌++◌, ℕ, List, [], Option, IfSome}
use Rattle.bincode_base.specs.declared.error.DecodeError.{DecodeError}
use Rattle.bincode_base.specs.declared.error.DecodeError.TheVariants.{LimitExceeded}
use Rattle.bincode_spec.specs.Answer.{StepsOf}
use Rattle.bincode_spec.specs.Charge.{Step, StaysWithin, Passes}
use Rattle.bincode_spec.specs.Fault.{Fault, Tells}
use Rattle.bincode_spec.specs.Format.{Format}
use Rattle.bincode_spec.specs.Meaning.{Meaning}
use Rattle.bincode_spec.specs.Slice.{EndsSlice}
use Rattle.shape_text.specs.declared.next.NextError.{NextError}
use Rattle.shape_text.specs.declared.next.NextError.TheVariants.{NoWord, Read}

-- no word within the limit begins the bytes, and the error tells why
pub record IsRefusedFor (F : Format Meaning) (limit : Option ℕ) (bytes : List ℕ) (why : DecodeError) : Type 0 where
  pub no_word : (word behind : List ℕ) (meaning : Meaning) (steps : List Step) → bytes ≡ word ++ behind → F.Word word meaning steps → StaysWithin limit 0 steps → ⊥
  pub tells : (fault : Fault) (steps : List Step) → F.Faults bytes fault steps → StaysWithin limit 0 steps → Tells EndsSlice fault why
  pub keeps : (steps : List Step) → StepsOf F bytes steps → Passes limit 0 steps → why ≡ LimitExceeded

-- bytes are left, if they are known, and begin with no word
abbrev pub AreRefused : Format Meaning → Option ℕ → Option (List ℕ) → DecodeError → Type 0
AreRefused F limit left why = IfSome left (λ bytes. (bytes ≢ []) × IsRefusedFor F limit bytes why)

-- what an error says of the bytes that are left
abbrev pub Refuses : Format Meaning → Option ℕ → Option (List ℕ) → NextError → Type 0
Refuses F limit left (NoWord why) = AreRefused F limit left why
Refuses F limit left (Read cause) = Unit {0}
