-- What is known of a stream whose bytes are kept, and of which few are consumed.
use Rattle.std.specs.Prelude.{◌≡◌, ◌≤◌, ℕ, List, Option, Some, None, IfSome}
use Rattle.std.proofs.Common.{sym, arith}
use Rattle.std.specs.Io.KnownBytes.{Keeps}
use Rattle.bincode_io.specs.Stream.{TellsBytes, known_bytes}

-- what may be consumed of more bytes may be of fewer
pub within-most : (most : Option ℕ) (n shown : ℕ) → n ≤ shown → IfSome most (λ k. shown ≤ k) → IfSome most (λ k. n ≤ k)
within-most None n shown w fits = tt
within-most (Some k) n shown w fits = omega arith

-- known bytes that were kept are known, and the same
pub kept-known : (before now : Option (List ℕ)) → Keeps before now → TellsBytes before → TellsBytes now × (known_bytes before ≡ known_bytes now)
kept-known None now kept tells = absurd tells
kept-known (Some xs) None kept tells = absurd kept
kept-known (Some xs) (Some ys) kept tells = (tt, sym kept)
