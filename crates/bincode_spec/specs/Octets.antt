-- The octets of addresses.
use Rattle.std.specs.Prelude.{ℕ}
use Rattle.bincode_spec.specs.Format.{Format, fixed_bytes, charge_then, map_format}
use Rattle.bincode_spec.specs.Meaning.{Meaning, Bytes}

-- n bytes, which mean themselves in every setting: all are charged, then read
abbrev pub octets : ℕ → Format Meaning
octets n = map_format Bytes (charge_then n (fixed_bytes n))
