-- What a slice reader has left, and what a slice writer has written.
use Rattle.std.specs.Prelude.{ℕ, List, drop}
use Rattle.std.specs.Borrow.{GName}
use Rattle.bincode_io.specs.declared.read.SliceReader.{SliceReader}
use Rattle.bincode_io.specs.declared.write.SliceWriter.{SliceWriter}

-- the remaining bytes
abbrev pub left_of : SliceReader → List ℕ
left_of r = drop r.taken r.slice.now

-- all bytes of the slice
abbrev pub bytes_of : SliceWriter → List ℕ
bytes_of w = w.slice.now

-- the number of bytes written
abbrev pub written_by : SliceWriter → ℕ
written_by w = w.written

-- the borrow that it writes through
abbrev pub loan_of : SliceWriter → GName
loan_of w = w.slice.ghost_name
