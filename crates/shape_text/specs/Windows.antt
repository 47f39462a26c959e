-- What a window over a stream shows, and what is left of it and the stream.
use Rattle.std.specs.Prelude.{◌⊎◌, ◌*◌, ◌≤◌, ℕ, List, length, drop, Option}
use Rattle.std.specs.Io.KnownBytes.{IsAtEnd, prepend_known}
use Rattle.shape_text.specs.declared.window.Window.{Window}

-- the bytes that were read and not yet consumed
abbrev pub shown_bytes : {R : Type 0} → Window R → List ℕ
shown_bytes w = drop w.start w.bytes.items

-- the stream that it reads
abbrev pub source_of : {R : Type 0} → Window R → R
source_of w = w.stream

-- the bytes that are shown, and then those that are left of the stream, if they are known
abbrev pub bytes_left : {R : Type 0} → (R → Option (List ℕ)) → Window R → Option (List ℕ)
bytes_left remaining w = prepend_known (shown_bytes w) (remaining (source_of w))

-- a window that showed so many bytes shows twice as many, or the stream that it reads is at its end
abbrev pub DoublesFrom : ℕ → List ℕ → List ℕ → Option (List ℕ) → Type 0
DoublesFrom long old new left = long ≤ length old → (2 * length old ≤ length new) ⊎ IsAtEnd left
