-- The laws of readers and writers of streams: what a buffer before a stream shows is left, and pieces add up.
use Rattle.std.specs.Prelude.{◌≡◌, ℕ, ◌+◌, ◌-◌, ◌^◌, ◌≤◌, ◌⊎◌, Bool, true, false, if◌then◌else◌, ◌==◌, List, [], ◌++◌, length, Option, Some, None}
use Rattle.std.proofs.Common.{inl, inr, arith, ap, refl, zero-le, ◌∙◌, length-append}
use Rattle.std.proofs.lemmas.Grind.{common_steps}
use Rattle.std.specs.Io.Buffered.{reader_buffer, reader_capacity, reader_inner, reader_remaining}
use Rattle.std.specs.Io.KnownBytes.{prepend_known}
use Rattle.std.proofs.KnownBytes.{Appends-nil, Appends-trans}
use Rattle.std.specs.declared.io.buffered.BufReader.{BufReader}
use Rattle.bincode_base.specs.declared.error.EncodeError.{EncodeError}
use Rattle.bincode_base.specs.declared.error.EncodeError.TheVariants.{Memory}
use Rattle.bincode_spec.specs.Device.{TooLong, CountRises}
use Rattle.bincode_spec.specs.Layers.Pieces.{TakesRoom}
use Rattle.bincode_io.specs.declared.io_write.IoWriter.{IoWriter}
use Rattle.bincode_io.specs.RoomLaws.{first-empty, second-empty}
use Rattle.bincode_io.specs.Stream.{TellsBytes, known_bytes, buffered_count, target_of, written_through, IsWriteIo, StreamAdds, StreamRefuses}

length-front : (bs xs : List ℕ) → length bs ≤ length (bs ++ xs)
length-front bs xs = grind (arith, common_steps)

shown-left : (none : Bool) (bs : List ℕ) (known_inner : Option (List ℕ)) → TellsBytes (if none then None else prepend_known bs known_inner) →
    length bs ≤ length (known_bytes (if none then None else prepend_known bs known_inner))
shown-left true bs inner tells = absurd tells
shown-left false bs None tells = absurd tells
shown-left false bs (Some xs) tells = length-front bs xs

pub buffered-left : {R A : Type 0} (remaining : R → Option (List ℕ)) (r : BufReader R A) → TellsBytes (reader_remaining remaining r) →
    buffered_count r ≤ length (known_bytes (reader_remaining remaining r))
buffered-left remaining r = shown-left (reader_capacity r == 0) (reader_buffer r) (remaining (reader_inner r))

pub adds-none : {W : Type 0} (contents : W → Option (List ℕ)) (w : IoWriter W) → StreamAdds contents w [] w
adds-none contents w = record { appended = Appends-nil (contents (target_of w)); count_rises = grind (arith, common_steps); within = zero-le; nothing = λ e. refl }

counts : (x y : List ℕ) (k m n : ℕ) → m ≡ k + length x → n ≡ m + length y → n ≡ k + length (x ++ y)
counts x y k m n p q = grind (arith, common_steps)

fits : (x y : List ℕ) (k m : ℕ) → m ≡ k + length x → length x ≤ 2 ^ 64 - 1 - k → length y ≤ 2 ^ 64 - 1 - m → length (x ++ y) ≤ 2 ^ 64 - 1 - k
fits x y k m p q r = let l = length-append x y in omega arith

pub adds-join : {W : Type 0} (contents : W → Option (List ℕ)) (a b c : IoWriter W) (x y : List ℕ) → StreamAdds contents a x b → StreamAdds contents b y c → StreamAdds contents a (x ++ y) c
adds-join contents a b c x y p q = record {
  appended = Appends-trans _ _ _ x y p.appended q.appended;
  count_rises = counts x y _ _ _ p.count_rises q.count_rises;
  within = fits x y _ _ p.count_rises p.within q.within;
  nothing = λ e. q.nothing (second-empty x y e) ∙ p.nothing (first-empty x y e);
}

pub refuses-why : {W : Type 0} (contents : W → Option (List ℕ)) (a b : IoWriter W) (piece : List ℕ) (e : EncodeError) → StreamRefuses contents a piece e b →
    TooLong (Some (2 ^ 64 - 1 - written_through a)) piece ⊎ ((e ≡ Memory) ⊎ (((written : ℕ) × IsWriteIo written e) ⊎ CountRises 0 0))
refuses-why contents a b piece e (inl h) = inl h.1
refuses-why contents a b piece e (inr h) = inr (inr (inl (_, h.0)))

pub adds-room : {W : Type 0} (contents : W → Option (List ℕ)) (a b : IoWriter W) (piece : List ℕ) → StreamAdds contents a piece b →
    TakesRoom (Some (2 ^ 64 - 1 - written_through a)) piece (Some (2 ^ 64 - 1 - written_through b))
adds-room contents a b piece h = let c = h.count_rises in record { within = h.within; left = ap Some (omega arith) }
