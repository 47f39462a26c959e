-- What a stream gave, if its bytes are known.
use Rattle.std.specs.Prelude.{◌≡◌, ℕ, ◌≤◌, List, ◌++◌, length, take, drop, Bool, true, false, if◌then◌else◌, Option, Some, None}
use Rattle.std.proofs.Common.{sym, ap, ◌∙◌}
use Rattle.std.proofs.lemmas.List.{take-append-drop, take-append-le}
use Rattle.std.specs.Io.BufRead.{DropsConsumable}
use Rattle.std.specs.Io.KnownBytes.{Consumes, prepend_known}
use Rattle.bincode_io.specs.Stream.{TellsBytes, known_bytes}

pub given : (before after : Option (List ℕ)) (bytes : List ℕ) → Consumes before after bytes → TellsBytes before →
    known_bytes before ≡ bytes ++ known_bytes after
given None after bytes h tells = absurd tells
given (Some xs) None bytes h tells = absurd h
given (Some xs) (Some ys) bytes h tells = h

-- bytes that a buffer showed were copied, and then consumed
pub copied : (none : Bool) (shown bytes : List ℕ) (n : ℕ) (inner after : Option (List ℕ)) → n ≤ length shown → bytes ≡ take n shown →
    DropsConsumable (if none then None else prepend_known shown inner) after (Some (length shown)) n →
    TellsBytes (if none then None else prepend_known shown inner) →
    TellsBytes after × (known_bytes (if none then None else prepend_known shown inner) ≡ bytes ++ known_bytes after)
copied true shown bytes n inner after fits same drops tells = absurd tells
copied false shown bytes n None after fits same drops tells = absurd tells
copied false shown bytes n (Some xs) after fits same drops tells =
    let all = shown ++ xs in
    let front = same ∙ sym (take-append-le n shown xs fits) in
    rw (drops fits) (tt, sym (take-append-drop n all) ∙ ap (λ l. l ++ drop n all) (sym front))
