-- The laws of a writer that gathers bytes in a block: pieces add up.
use Rattle.std.specs.Prelude.{◌≡◌, ℕ, ◌+◌, ◌-◌, ◌^◌, ◌≤◌, ◌⊎◌, List, [], ◌++◌, length, Option, Some, None}
use Rattle.std.proofs.Common.{inl, inr, arith, ap, refl, sym, zero-le, ◌∙◌, length-append, append_assoc}
use Rattle.std.proofs.lemmas.Grind.{common_steps}
use Rattle.std.proofs.lemmas.List.{append-nil}
use Rattle.std.proofs.KnownBytes.{Appends-nil, Appends-trans}
use Rattle.bincode_base.specs.declared.error.EncodeError.{EncodeError}
use Rattle.bincode_base.specs.declared.error.EncodeError.TheVariants.{Memory, UnexpectedEnd}
use Rattle.bincode_spec.specs.Device.{TooLong, CountRises}
use Rattle.bincode_spec.specs.Layers.Pieces.{TakesRoom}
use Rattle.bincode_io.specs.RoomLaws.{first-empty, second-empty}
use Rattle.bincode_blocks.specs.declared.block_writer.BlockWriter.{BlockWriter}
use Rattle.bincode_blocks.specs.Blocks.{stream_behind, held_by, count_of, BlockAdds, BlockRefuses}

pub adds-none : {W : Type 0} (contents : W → Option (List ℕ)) (w : BlockWriter W) → BlockAdds contents w [] w
adds-none contents w = record { out = []; appended = Appends-nil (contents (stream_behind w)); joined = append-nil (held_by w); count_rises = grind (arith, common_steps); within = zero-le; handed = grind (arith, common_steps); same_failure = refl; healthy = inl refl; nothing = λ e. refl }

counts : (x y : List ℕ) (k m n : ℕ) → m ≡ k + length x → n ≡ m + length y → n ≡ k + length (x ++ y)
counts x y k m n p q = grind (arith, common_steps)

fits : (x y : List ℕ) (k m : ℕ) → m ≡ k + length x → length x ≤ 2 ^ 64 - 1 - k → length y ≤ 2 ^ 64 - 1 - m → length (x ++ y) ≤ 2 ^ 64 - 1 - k
fits x y k m p q r = let l = length-append x y in omega arith

-- what is held passes from one write to the next
joins : (held between after x y first second : List ℕ) → held ++ x ≡ first ++ between → between ++ y ≡ second ++ after → held ++ (x ++ y) ≡ (first ++ second) ++ after
joins held between after x y first second p q =
    sym (append_assoc held x y) ∙ ap (λ l. l ++ y) p ∙ append_assoc first between y ∙ ap (λ l. first ++ l) q ∙ sym (append_assoc first second after)

out-longer : (x y : List ℕ) (k m n : ℕ) → m ≡ k + length x → n ≡ m + length y → n ≡ k + length (x ++ y)
out-longer x y k m n p q = let l = length-append x y in omega arith

-- a writer that takes two pieces had not failed, unless both are empty
both-healthy : {A : Type 0} (x y : List ℕ) (before between : Option A) → between ≡ before → (x ≡ []) ⊎ (before ≡ None) → (y ≡ []) ⊎ (between ≡ None) → (x ++ y ≡ []) ⊎ (before ≡ None)
both-healthy x y before between same (inr whole) q = inr whole
both-healthy x y before between same (inl none) (inr whole) = inr (sym same ∙ whole)
both-healthy x y before between same (inl none) (inl empty) = inl (ap (λ l. l ++ y) none ∙ empty)

pub adds-join : {W : Type 0} (contents : W → Option (List ℕ)) (a b c : BlockWriter W) (x y : List ℕ) → BlockAdds contents a x b → BlockAdds contents b y c → BlockAdds contents a (x ++ y) c
adds-join contents a b c x y p q = record {
  out = p.out ++ q.out;
  appended = Appends-trans _ _ _ p.out q.out p.appended q.appended;
  joined = joins (held_by a) (held_by b) (held_by c) x y p.out q.out p.joined q.joined;
  count_rises = counts x y _ _ _ p.count_rises q.count_rises;
  within = fits x y _ _ p.count_rises p.within q.within;
  handed = out-longer p.out q.out _ _ _ p.handed q.handed;
  same_failure = q.same_failure ∙ p.same_failure;
  healthy = both-healthy x y _ _ p.same_failure p.healthy q.healthy;
  nothing = λ e. q.nothing (second-empty x y e) ∙ p.nothing (first-empty x y e);
}

pub refuses-why : {W : Type 0} (contents : W → Option (List ℕ)) (a b : BlockWriter W) (piece : List ℕ) (e : EncodeError) → BlockRefuses contents a piece e b →
    TooLong (Some (2 ^ 64 - 1 - count_of a)) piece ⊎ ((e ≡ Memory) ⊎ ((e ≡ UnexpectedEnd) ⊎ CountRises 0 0))
refuses-why contents a b piece e h = inr (inr (inl h.0))

pub adds-room : {W : Type 0} (contents : W → Option (List ℕ)) (a b : BlockWriter W) (piece : List ℕ) → BlockAdds contents a piece b →
    TakesRoom (Some (2 ^ 64 - 1 - count_of a)) piece (Some (2 ^ 64 - 1 - count_of b))
adds-room contents a b piece h = let c = h.count_rises in record { within = h.within; left = ap Some (omega arith) }
