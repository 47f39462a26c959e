-- What is answered to a frame that holds no request.
use Rattle.bincode_base.specs.declared.error.DecodeError.{DecodeError}
use Rattle.bincode_base.specs.declared.error.DecodeError.TheVariants as decoding
use Rattle.calls.specs.declared.refusal.Fault.{Fault}
use Rattle.calls.specs.declared.refusal.Fault.TheVariants as faults

-- what each error of decoding is told as
abbrev pub fault_of : DecodeError → Fault
fault_of decoding.LimitExceeded = faults.LimitExceeded
fault_of (decoding.UnexpectedEnd additional) = faults.UnexpectedEnd additional
fault_of (decoding.UnexpectedVariant _ found _ _) = faults.UnexpectedVariant found
fault_of (decoding.UnlistedVariant _ found _) = faults.UnexpectedVariant found
fault_of (decoding.InvalidIntegerType _ _) = faults.InvalidIntegerType
fault_of (decoding.NonZeroTypeIsZero _) = faults.NonZeroTypeIsZero
fault_of (decoding.InvalidBooleanValue byte) = faults.InvalidBooleanValue byte
fault_of (decoding.InvalidCharEncoding _) = faults.InvalidCharEncoding
fault_of (decoding.Utf8 _) = faults.Utf8
fault_of (decoding.InvalidDuration _ _) = faults.InvalidDuration
fault_of (decoding.CStringNulError position) = faults.CStringNulError position
fault_of _ = faults.Other
