-- A cell is decoded as what it holds.
use Rattle.std.specs.Prelude.{◌≡◌, ℕ, List, Option}
use Rattle.bincode_spec.specs.Format.{Format, of_cell}
use Rattle.bincode_spec.specs.Meaning.{Meaning}
use Rattle.bincode_spec.specs.Answer.{answer}
use Rattle.bincode_spec.specs.Decoding.{Decodes}
use Rattle.bincode_spec.specs.Cells.{IsAny}
use Rattle.bincode_decoder.proofs.WrittenAs.{rewritten-answer}

module _ (F : Format Meaning) (limit : Option ℕ) (input : List ℕ) (c : ℕ) where
  -- a cell has the answers of the inner format
  pub cell-answer : answer limit (of_cell F) input c ≡ answer limit F input c
  cell-answer = rewritten-answer _ F limit input c

  -- and its value is any, whatever the meaning
  pub cell-decodes : (P : Meaning → Type 0) (remaining : List ℕ) (d : ℕ) → Decodes P (answer limit F input c) remaining d → Decodes IsAny (answer limit (of_cell F) input c) remaining d
  cell-decodes P remaining d h = rw cell-answer (record { meaning = h.meaning; answer_is = h.answer_is; is_decoded = tt })
