-- The parts of a C string, and of the error of making one.
use Rattle.std.specs.Prelude.{ℕ, List}
use Rattle.std.specs.declared.vec.Vec.{Vec}
use Rattle.std.specs.declared.alloc.Global.{Global}
use Rattle.bincode_types.specs.declared.own.ffi.CStr.{CStr}
use Rattle.bincode_types.specs.declared.own.ffi.CString.{CString}
use Rattle.bincode_types.specs.declared.own.ffi.NulError.{NulError}

-- the vector that holds the bytes
abbrev pub c_string_vec : CString → Vec ℕ Global
c_string_vec s = s.bytes

-- the bytes of an owned C string
abbrev pub c_string_bytes : CString → List ℕ
c_string_bytes s = (c_string_vec s).items

-- the bytes of a borrowed one
abbrev pub c_str_bytes : CStr → List ℕ
c_str_bytes s = s.bytes.now

-- the index of the first zero byte
abbrev pub nul_place : NulError → ℕ
nul_place e = e.position

-- the vector that was refused
abbrev pub nul_vec : NulError → Vec ℕ Global
nul_vec e = e.bytes
