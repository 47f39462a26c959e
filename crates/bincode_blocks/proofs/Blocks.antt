-- What a writer that gathers bytes in a block does with a piece.
use Rattle.std.specs.Prelude.{◌≡◌, ◌⊎◌, ◌+◌, ◌-◌, ◌^◌, ◌<◌, ◌≤◌, ◌++◌, ℕ, List, [], length, take, Option, Some, None, IsSome}
use Rattle.std.proofs.Common.{◌∙◌, inl, inr, ap, sym, refl, subst, arith, append_assoc, length-append}
use Rattle.std.proofs.lemmas.List.{append-nil}
use Rattle.std.proofs.lemmas.Slice.{take-put_mid}
use Rattle.std.specs.Io.KnownBytes.{Appends}
use Rattle.std.proofs.KnownBytes.{Appends-trans}
use borrow.Rule.Slice.PartMut.{put_mid}
use Rattle.bincode_base.specs.declared.error.EncodeError.TheVariants.{UnexpectedEnd}
use Rattle.bincode_io.specs.Stream.{FrontOut}
use Rattle.bincode_blocks.specs.declared.block_writer.BlockWriter.{BlockWriter}
use Rattle.bincode_blocks.specs.Blocks.{stream_behind, held_by, count_of, handed_on, failure_of, BlockAdds, BlockRefuses, FrontOnly, HandsOn, Clears, HasRoom}

-- a writer of which nothing is held
none-held : (n : ℕ) (block : List ℕ) → n ≡ 0 → take n block ≡ []
none-held n block none = ap (λ k. take k block) none

-- a failure that there is, and that there is none
both-ways : {A : Type 0} (o : Option A) → IsSome o → o ≡ None → ⊥
both-ways o some none = absurd (cc)

-- where there is room for a byte no failure is noted
whole-with-room : {A : Type 0} (o : Option A) (room held n : ℕ) → (IsSome o → room ≡ 0) → n ≤ room - held → 0 < n → o ≡ None
whole-with-room None room held n shut fits some = refl
whole-with-room (Some x) room held n shut fits some = let none : room ≡ 0 = shut refl in absurd (omega arith)

-- the piece stands behind what was held
pub held-grows : (at room n : ℕ) (block part piece : List ℕ) → part ≡ piece → n ≡ at + length piece → at ≤ length block → take n (put_mid at room block part) ≡ take at block ++ piece
held-grows at room n block part piece is count within = take-put_mid at room block part n (count ∙ ap (λ l. at + length l) (sym is)) within ∙ ap (λ l. take at block ++ l) is

module _ {W : Type 0} (contents : W → Option (List ℕ)) (a b : BlockWriter W) (piece : List ℕ) where
  -- what was handed on is a front of what was held and the piece
  after-front : HandsOn contents a b → b.held ≡ 0 → FrontOnly contents a piece b
  after-front h none = record {
    out = h.out;
    lost = held_by b ++ piece;
    appended = h.appended;
    joined = ap (λ l. l ++ piece) h.joined ∙ append_assoc h.out (held_by b) piece;
    empty = none-held b.held b.block none;
    rises = let handed = h.handed in omega arith;
    handed = let handed = h.handed in omega arith;
  }

  -- and so where the stream failed in it
  after-stop : FrontOnly contents a [] b → FrontOnly contents a piece b
  after-stop f = record {
    out = f.out;
    lost = f.lost ++ piece;
    appended = f.appended;
    joined = ap (λ l. l ++ piece) (sym (append-nil (held_by a)) ∙ f.joined) ∙ append_assoc f.out f.lost piece;
    empty = f.empty;
    rises = f.rises;
    handed = f.handed;
  }

  -- a piece of at most a block for which there is no room
  pub no-room : (n : ℕ) → HasRoom contents n a b → b.room - b.held < length piece → length piece ≤ n → length piece ≤ length b.block → BlockRefuses contents a piece UnexpectedEnd b
  no-room n (inl (h, inl fits)) short within inside = absurd (omega arith)
  no-room n (inl (h, inr cleared)) short within inside = let same = h.same_count in (refl, after-front h cleared.0, inr (omega (arith, cleared.0, cleared.1)))
  no-room n (inr s) short within inside = (refl, after-stop s.front, inl s.failed)

  -- a longer one, where the stream failed before it or 64 bits count no more bytes
  pub long-refused : Clears contents a b → IsSome (failure_of b) ⊎ (2 ^ 64 - 1 - b.written < length piece) → BlockRefuses contents a piece UnexpectedEnd b
  long-refused (inl h) (inl some) = absurd (both-ways _ some h.1)
  long-refused (inl h) (inr long) = let same = h.0.same_count in (refl, after-front h.0 h.2.0, inr (omega (arith, h.2.0)))
  long-refused (inr s) why = (refl, after-stop s.front, inl s.failed)

module _ {W : Type 0} (contents : W → Option (List ℕ)) (a m b : BlockWriter W) (piece : List ℕ) where
  -- a piece that had room is held
  pub adds-held : (n : ℕ) → HasRoom contents n a m → length piece ≤ m.room - m.held → (piece ≡ [] → ⊥) → 0 < length piece → stream_behind b ≡ stream_behind m → held_by b ≡ held_by m ++ piece →
      count_of b ≡ count_of m + length piece → failure_of b ≡ failure_of m → m.written + m.room ≤ 2 ^ 64 - 1 → m.held ≤ m.room → handed_on b ≡ handed_on m → BlockAdds contents a piece b
  adds-held n (inl h) fits some longer stream held count failure counts within out = let same = h.0.same_count in record {
    out = h.0.out;
    appended = subst (λ s. Appends (contents (stream_behind a)) (contents s) h.0.out) (sym stream) h.0.appended;
    joined = ap (λ l. l ++ piece) h.0.joined ∙ append_assoc h.0.out (held_by m) piece ∙ ap (λ l. h.0.out ++ l) (sym held);
    count_rises = omega arith;
    within = omega arith;
    handed = out ∙ h.0.handed;
    same_failure = failure ∙ h.0.same_failure;
    healthy = inr (sym h.0.same_failure ∙ whole-with-room (failure_of m) m.room m.held (length piece) m.closed fits longer);
    nothing = λ e. absurd (some e);
  }
  adds-held n (inr s) fits some longer stream held count failure counts within out = let shut = s.shut in absurd (omega arith)

  -- a longer one went out after what was held
  pub adds-long : Clears contents a m → failure_of m ≡ None → (piece ≡ [] → ⊥) → length piece ≤ 2 ^ 64 - 1 - m.written → Appends (contents (stream_behind m)) (contents (stream_behind b)) piece →
      b.held ≡ 0 → b.written ≡ m.written + length piece → failure_of b ≡ failure_of m → BlockAdds contents a piece b
  adds-long (inl h) whole some within q empty count failure = let same = h.0.same_count in let none = h.2.0 in record {
    out = held_by a ++ piece;
    appended = Appends-trans _ _ _ (held_by a) piece (subst (Appends (contents (stream_behind a)) (contents (stream_behind m))) (sym (h.0.joined ∙ ap (λ l. h.0.out ++ l) (none-held m.held m.block none) ∙ append-nil h.0.out)) h.0.appended) q;
    joined = sym (append-nil (held_by a ++ piece)) ∙ ap (λ l. (held_by a ++ piece) ++ l) (sym (none-held b.held b.block empty));
    count_rises = omega arith;
    within = omega arith;
    handed = let handed = h.0.handed in let all = ap length h.0.joined in let parts = length-append (held_by a) piece in let front = length-append h.0.out (held_by m) in let gone = ap length (none-held m.held m.block none) in omega arith;
    same_failure = failure ∙ h.0.same_failure;
    healthy = inr (sym h.0.same_failure ∙ whole);
    nothing = λ e. absurd (some e);
  }
  adds-long (inr s) whole some within q empty count failure = absurd (both-ways _ s.failed whole)

  -- the stream failed within it
  pub long-cut : Clears contents a m → failure_of m ≡ None → FrontOut contents (stream_behind m) piece (stream_behind b) → held_by b ≡ [] → IsSome (failure_of b) → handed_on b ≡ handed_on m → BlockRefuses contents a piece UnexpectedEnd b
  long-cut (inl h) whole f empty failed out = (
    refl,
    record {
      out = h.0.out ++ f.front;
      lost = f.back;
      appended = Appends-trans _ _ _ h.0.out f.front h.0.appended f.appended;
      joined = ap (λ l. l ++ piece) (h.0.joined ∙ ap (λ l. h.0.out ++ l) (none-held m.held m.block h.2.0) ∙ append-nil h.0.out) ∙ ap (λ l. h.0.out ++ l) f.piece_is ∙ sym (append_assoc h.0.out f.front f.back);
      empty = empty;
      rises = let handed = h.0.handed in omega arith;
      handed = let handed = h.0.handed in let front = length-append h.0.out f.front in omega arith;
    },
    inl failed,
  )
  long-cut (inr s) whole f empty failed out = absurd (both-ways _ s.failed whole)
