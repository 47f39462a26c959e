-- What example inputs need, computed.
use Rattle.std.specs.Prelude.{◌≡◌, ℕ, ◌==◌, refl, List, [], ◌∷◌}
use Rattle.bincode_base.specs.Setting.{Setting}
use Rattle.bincode_base.specs.declared.config.Endianness.TheVariants.{Little}
use Rattle.bincode_base.specs.declared.config.IntEncoding.TheVariants.{Variable}
use Rattle.bincode_base.specs.declared.error.IntegerType.TheVariants.{U16}
use Rattle.bincode_spec.specs.Format.{Format, fixed_bytes, pure, fail, step, without_count, written_as, ◌>>=◌}
use Rattle.bincode_spec.specs.Integers.{unsigned_integer, unsigned_byte, varint, digits, byte}
use Rattle.bincode_spec.specs.Meaning.{Meaning}
use Rattle.bincode_spec.specs.Layers.Needs.{then_needs, list_needs, text_needs, picked_needs}
use Rattle.bincode_spec.specs.Words.{natural_number, list}

abbrev standard : Setting
standard = record { order = Little; encoding = Variable }

abbrev bytes_need : List ℕ → ℕ
bytes_need = list_needs standard 1 (natural_number unsigned_byte) (λ _. 1)

abbrev bytes : Format Meaning
bytes = list standard 1 (natural_number unsigned_byte)

two_lists : list_needs standard 24 bytes bytes_need (2 ∷ 1 ∷ 9 ∷ 1 ∷ []) ≡ 56
unfolding unsigned_integer unsigned_byte varint digits byte fixed_bytes pure fail step without_count written_as ◌>>=◌
two_lists = refl

three_deep : list_needs standard 24 (list standard 24 bytes) (list_needs standard 24 bytes bytes_need) (1 ∷ 1 ∷ 0 ∷ []) ≡ 40
unfolding unsigned_integer unsigned_byte varint digits byte fixed_bytes pure fail step without_count written_as ◌>>=◌
three_deep = refl

numbers : list_needs standard 2 (natural_number (unsigned_integer U16 2 standard)) (λ _. 2) (2 ∷ 251 ∷ 0 ∷ 1 ∷ 251 ∷ 0 ∷ 1 ∷ []) ≡ 12
unfolding unsigned_integer unsigned_byte varint digits byte fixed_bytes pure fail step without_count written_as ◌>>=◌
numbers = refl

choices : list_needs standard 2 (natural_number unsigned_byte) (then_needs unsigned_byte (λ _. 1) (λ found. picked_needs (found == 0) (λ _. 0) (picked_needs (found == 1) (λ _. 1) (λ _. 0)))) (2 ∷ 0 ∷ 2 ∷ []) ≡ 12
unfolding unsigned_integer unsigned_byte varint digits byte fixed_bytes pure fail step without_count written_as ◌>>=◌
choices = refl

texts : text_needs standard (2 ∷ 195 ∷ []) ≡ 10
unfolding unsigned_integer unsigned_byte varint digits byte fixed_bytes pure fail step without_count written_as ◌>>=◌
texts = refl
