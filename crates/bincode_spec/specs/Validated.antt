-- Values that passed a test: the words of another type, save those whose meaning fails.
use Rattle.std.specs.Prelude.{Bool, if◌then◌else◌, Result, Ok, Err}
use Rattle.bincode_base.specs.declared.error.DecodeError.{DecodeError}
use Rattle.bincode_spec.specs.Fault.{Fault, Tells}
use Rattle.bincode_spec.specs.Format.{Format, ◌>>=◌, from_result}
use Rattle.bincode_spec.specs.Meaning.{Meaning}

-- a meaning that passes stays, another one is refused with the fault
abbrev pub passed_of : (Meaning → Bool) → Fault → Meaning → Result Meaning Fault
passed_of passes why m = if passes m then Ok m else Err why

-- the format with the meaning of each word tested
abbrev pub with_test : (Meaning → Bool) → Fault → Format Meaning → Format Meaning
with_test passes why F = F >>= λ m. from_result (passed_of passes why m)

-- the error tells a fault that is not the end of the input
abbrev pub TellsOwn : Fault → DecodeError → Type 0
TellsOwn why e = Tells (λ missing e. ⊥) why e
