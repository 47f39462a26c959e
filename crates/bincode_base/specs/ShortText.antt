-- What a short text holds.
use Rattle.std.specs.Prelude.{ℕ, List, [], take, nat_lt, codes, if◌then◌else◌}
use Rattle.std.specs.Str.{is_utf8}
use Rattle.bincode_base.specs.declared.short_text.Text.{Text}

-- the bytes that are held inline
abbrev pub held_bytes : {room : ℕ} → Text room → List ℕ
held_bytes t = take t.length t.bytes

-- the bytes of the text, which are UTF-8; other bytes show as the empty text. A length above the room stands for a
-- longer text.
abbrev pub text_bytes : {room : ℕ} → Text room → List ℕ
text_bytes {room} t = if nat_lt room t.length then codes "value does not fit the shape" else if is_utf8 (take t.length t.bytes) then take t.length t.bytes else []
