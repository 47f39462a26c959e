-- The names of signed types in errors.
use Rattle.bincode_base.specs.declared.error.IntegerType.{IntegerType}
use Rattle.bincode_base.specs.declared.error.IntegerType.TheVariants.{U8, U16, U32, U64, U128, Usize, I8, I16, I32, I64, I128, Isize}
use Rattle.bincode_base.specs.declared.error.DecodeError.{DecodeError}
use Rattle.bincode_base.specs.declared.error.DecodeError.TheVariants as errors

-- the signed type of this width
abbrev pub signed_name : IntegerType → IntegerType
signed_name U8 = I8
signed_name U16 = I16
signed_name U32 = I32
signed_name U64 = I64
signed_name U128 = I128
signed_name Usize = Isize
signed_name name = name

-- the error with signed names
abbrev pub signed_error : DecodeError → DecodeError
signed_error (errors.InvalidIntegerType expected found) = errors.InvalidIntegerType (signed_name expected) (signed_name found)
signed_error e = e
