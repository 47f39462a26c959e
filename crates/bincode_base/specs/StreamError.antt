-- What is known of the error of a stream.
use Rattle.std.specs.Prelude.{ℤ, Option}
use Rattle.std.specs.declared.io.ErrorKind.{ErrorKind}
use Rattle.bincode_base.specs.declared.error.StreamError.{StreamError}

-- the kind of its error
abbrev pub kind_of : StreamError → ErrorKind
kind_of e = e.kind

-- its error number
abbrev pub code_of : StreamError → Option ℤ
code_of e = e.code
