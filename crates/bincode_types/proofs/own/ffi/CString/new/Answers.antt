use Rattle.std.proofs.Common.{rules}
use Rattle.bincode_types.proofs.own.ffi.CString.new.Goals as goal

pub returns-in-Some : goal.returns-in-Some
returns-in-Some c = search rules
