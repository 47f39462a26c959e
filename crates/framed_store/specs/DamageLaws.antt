-- What is told of a frame that was changed in one place.
use Rattle.std.specs.Prelude.{◌≡◌, ◌+◌, ◌*◌, ◌^◌, ◌<◌, ◌≤◌, ◌++◌, ℕ, List, [], length, bit_xor, refl}
use Rattle.std.specs.Int.{w32, to_le_bytes}
use Rattle.std.specs.List.{All}
use Rattle.std.proofs.Common.{sym, subst, arith, append-nil, length-append}
use Rattle.crc32c.specs.Bursts.{number}
use Rattle.frames.specs.FrameLaws.{burst-told}
use Rattle.frames.specs.Frames.{Reads, frame, check_of, framed_word, named_length}
use Rattle.frames.specs.declared.Frame.TheVariants as frames
use Rattle.framed_store.specs.Steps.{IsDamaged}

-- A change of at most 32 bits in a row, from any bit of a frame on, which leaves the length as it was, makes a frame
-- that is told as damaged: a changed piece of a store.
pub burst-damages : (most : ℕ) (word changed : List ℕ) → All (λ b. b < 256) word → All (λ b. b < 256) changed → length word ≤ most → length changed ≡ length (frame word) →
    named_length changed ≡ length word → (i e : ℕ) → 0 < e → e < 2 ^ 32 → bit_xor (number (frame word)) (number changed) ≡ e * 2 ^ i → IsDamaged most changed (length changed)
burst-damages most word changed bytes others fits size named i e some small differ =
    let inner = length-append word (to_le_bytes w32 (check_of word)) in
    let all : length changed ≡ 8 + named_length changed = omega (arith, inner, size, named) in
    let there : (named_length changed ≤ most) × (8 + named_length changed ≤ length changed) = (omega (arith, named, fits), omega (arith, all)) in
    let whole : List ℕ = changed ++ [] in
    let same : whole ≡ changed = append-nil changed in (
      there,
      all,
      λ fit.
          burst-told most word changed [] (record { ref_ptr = (0, 0); now = framed_word changed }) (length changed) bytes (subst (All (λ b. b < 256)) (sym same) others) size named i e some small differ
          (subst (λ z. Reads most z (frames.Whole (record { ref_ptr = (0, 0); now = framed_word changed }) (length changed))) (sym same) (there, all, fit, refl)),
    )
