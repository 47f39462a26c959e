-- A setting is a byte order and an integer encoding. The words of a type depend on it alone.
use Rattle.bincode_base.specs.declared.config.Endianness.{Endianness}
use Rattle.bincode_base.specs.declared.config.IntEncoding.{IntEncoding}

pub record Setting : Type 0 where
  pub order : Endianness
  pub encoding : IntEncoding
