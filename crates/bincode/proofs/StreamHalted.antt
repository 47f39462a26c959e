-- What an encoding that stops leaves of a stream that it is written to through a block.
use Rattle.std.specs.Prelude.{◌≡◌, ◌⊎◌, ◌+◌, ◌-◌, ◌^◌, ◌<◌, ◌≤◌, ◌++◌, ◌∷◌, ℕ, List, [], Option, Some, None, MatchOption, length, take, drop}
use Rattle.std.proofs.Common.{inl, inr, arith, ap, refl, sym, ◌∙◌, subst, append_assoc, length-append, zero-add}
use Rattle.std.proofs.lemmas.List.{append-nil, take-append-drop, length-take-le}
use Rattle.std.proofs.lemmas.Option.{none-some}
use Rattle.std.specs.Io.KnownBytes.{Appends}
use Rattle.std.proofs.KnownBytes.{Appends-trans}
use Rattle.bincode_base.specs.declared.error.EncodeError.{EncodeError}
use Rattle.bincode_base.specs.declared.error.StreamError.{StreamError}
use Rattle.bincode_spec.specs.Encoding.{EncodeFailure, Begins, IsReady, Writes, IsOwn, by_writer, by_name}
use Rattle.bincode_io.specs.Stream.{IsWriteIo, FrontOut, StreamHalts}
use Rattle.bincode.specs.Streamed.{CountsWrites}
use Rattle.bincode_blocks.specs.declared.block_writer.BlockWriter.{BlockWriter}
use Rattle.bincode_blocks.specs.Blocks.{stream_behind, held_by, count_of, handed_on, failure_of, BlockAdds, BlockRefuses}

-- a prefix of what begins a word begins it
pub begins-front : (Allowed : List ℕ → Type 0) (front back : List ℕ) → Begins Allowed (front ++ back) → Begins Allowed front
begins-front Allowed front back b = λ some a. let h = b some a in (back ++ h.0, subst Allowed (append_assoc front back h.0) h.1)

-- what is too long for the count after a front is so with it
pub too-long : (front piece : List ℕ) (start count : ℕ) → start ≡ 0 → count ≡ start + length front → 2 ^ 64 - 1 - count < length piece → 2 ^ 64 - 1 < length (front ++ piece)
too-long front piece start count z k h = let l = length-append front piece in omega arith

-- what was written, where nothing was held at first
written-all : (none front out held : List ℕ) → none ≡ [] → none ++ front ≡ out ++ held → front ≡ out ++ held
written-all none front out held e joined = ap (λ l. l ++ front) (sym e) ∙ joined

-- what went out in two steps begins what was written
out-twice : (front out held : List ℕ) (piece more lost : List ℕ) → front ≡ out ++ held → held ++ piece ≡ more ++ lost → front ++ piece ≡ (out ++ more) ++ lost
out-twice front out held piece more lost f h = ap (λ l. l ++ piece) f ∙ append_assoc out held piece ∙ ap (λ l. out ++ l) h ∙ sym (append_assoc out more lost)

-- a front of nothing is nothing
no-front : (held front back : List ℕ) → held ≡ [] → held ≡ front ++ back → front ≡ []
no-front held [] back e f = refl
no-front held (x ∷ front) back e f = absurd (cc)

module _ {W : Type 0} (contents : W → Option (List ℕ)) (a m b : BlockWriter W) (empty : held_by a ≡ []) where
  -- a front of it is
  pub stream-cut : (Writable : Type 0) (Allowed : List ℕ → Type 0) (OwnErrors : EncodeError → Type 0) (e : EncodeError) → Writes (BlockAdds contents) Allowed a m → FrontOut contents (stream_behind m) (held_by m) (stream_behind b) →
      IsWriteIo (handed_on b) e → StreamHalts contents (IsReady Writable Allowed) OwnErrors (stream_behind a) (stream_behind b) e
  stream-cut Writable Allowed OwnErrors e w out io =
      let all = written-all _ w.word w.added.out _ empty w.added.joined ∙ ap (λ l. w.added.out ++ l) out.piece_is ∙ sym (append_assoc w.added.out out.front out.back) in
      record {
        front = w.added.out ++ out.front;
        appended = Appends-trans _ _ _ w.added.out out.front w.added.appended out.appended;
        begins = inr (λ some ready. (out.back, record { is_writable = ready.is_writable; is_allowed = subst Allowed all w.is_allowed }));
        why = inr (inl (_, io));
      }

  module _ (Allowed : List ℕ → Type 0) (OwnErrors : EncodeError → Type 0) (start : count_of a ≡ 0) (whole : failure_of a ≡ None) (e told : EncodeError) where
    -- writing stopped, and then what was held went out, unless the stream had failed
    pub stream-halts : (failure : Option StreamError) → failure_of m ≡ failure →
        MatchOption failure ((told ≡ e) × FrontOut contents (stream_behind m) (held_by m) (stream_behind b)) (λ _. (stream_behind b ≡ stream_behind m) × IsWriteIo (handed_on m) told) →
        EncodeFailure (BlockAdds contents) (BlockRefuses contents) Allowed OwnErrors a m e → StreamHalts contents Allowed OwnErrors (stream_behind a) (stream_behind b) told
    stream-halts (Some inner) is ended (by_writer front piece middle added (last, out, why) begins) =
        let all = out-twice front added.out _ piece out.out out.lost (written-all _ front added.out _ empty added.joined) out.joined in
        record {
          front = added.out ++ out.out;
          appended = subst (λ s. Appends (contents (stream_behind a)) (contents s) (added.out ++ out.out)) (sym ended.0) (Appends-trans _ _ _ added.out out.out added.appended out.appended);
          begins = inr (begins-front Allowed (added.out ++ out.out) out.lost (subst (Begins Allowed) all begins));
          why = inr (inl (_, ended.1));
        }
    stream-halts (Some inner) is ended (by_name front added names begins) = absurd (none-some _ (sym (added.same_failure ∙ whole) ∙ is))
    stream-halts None is ended (by_writer front piece middle added (last, out, inl failed) begins) = absurd (cc)
    stream-halts None is ended (by_writer front piece middle added (last, out, inr long) begins) =
        let all = out-twice front added.out _ piece out.out out.lost (written-all _ front added.out _ empty added.joined) out.joined in
        let none = no-front _ ended.1.front ended.1.back out.empty ended.1.piece_is in
        let gone = added.out ++ out.out in
        record {
          front = gone ++ ended.1.front;
          appended = Appends-trans _ _ _ gone ended.1.front (Appends-trans _ _ _ added.out out.out added.appended out.appended) ended.1.appended;
          begins = inr (subst (Begins Allowed) (sym (append-nil gone) ∙ ap (λ l. gone ++ l) (sym none)) (begins-front Allowed gone out.lost (subst (Begins Allowed) all begins)));
          why = inr (inr (ended.0 ∙ last, (front ++ piece, begins, too-long front piece _ _ start added.count_rises long)));
        }
    stream-halts None is ended (by_name front added names begins) =
        let all = written-all _ front added.out _ empty added.joined ∙ ap (λ l. added.out ++ l) ended.1.piece_is ∙ sym (append_assoc added.out ended.1.front ended.1.back) in
        record {
          front = added.out ++ ended.1.front;
          appended = Appends-trans _ _ _ added.out ended.1.front added.appended ended.1.appended;
          begins = subst (λ r. IsOwn r ⊎ Begins Allowed (added.out ++ ended.1.front)) (sym ended.0) (begin-so front (added.out ++ ended.1.front) ended.1.back all begins);
          why = inl (subst OwnErrors (sym ended.0) names);
        }
      where
        begin-so : (front out back : List ℕ) → front ≡ out ++ back → IsOwn e ⊎ Begins Allowed front → IsOwn e ⊎ Begins Allowed out
        begin-so front out back all (inl own) = inl own
        begin-so front out back all (inr begins) = inr (begins-front Allowed out back (subst (Begins Allowed) all begins))

-- a list in two parts, of which the first has n elements
cut-at : (n : ℕ) (all : List ℕ) → n ≤ length all → (take n all ++ drop n all ≡ all) × (n ≡ length (take n all))
cut-at n all few = (take-append-drop n all, sym (length-take-le n all few))

module _ {W : Type 0} (contents : W → Option (List ℕ)) (OwnErrors : EncodeError → Type 0) (a m b : BlockWriter W) (fresh : handed_on a ≡ 0) where
  -- the blocks before the one that failed are out, where what was left was handed on
  pub cut-index : {Allowed : List ℕ → Type 0} (e : EncodeError) → Writes (BlockAdds contents) Allowed a m → FrontOut contents (stream_behind m) (held_by m) (stream_behind b) →
      handed_on b ≡ handed_on m → IsWriteIo (handed_on b) e → CountsWrites contents OwnErrors (stream_behind a) (stream_behind b) e
  cut-index e w out same io = record {
    whole = w.added.out;
    cut = out.front;
    appended = Appends-trans _ _ _ w.added.out out.front w.added.appended out.appended;
    index = inr (inl (subst (λ n. IsWriteIo n e) (same ∙ w.added.handed ∙ ap (λ n. n + length w.added.out) fresh ∙ zero-add (length w.added.out)) io));
  }

  module _ {Allowed : List ℕ → Type 0} (whole : failure_of a ≡ None) (e told : EncodeError) where
    -- and where writing had stopped
    pub stop-index : (failure : Option StreamError) → failure_of m ≡ failure →
        MatchOption failure ((told ≡ e) × FrontOut contents (stream_behind m) (held_by m) (stream_behind b)) (λ _. (stream_behind b ≡ stream_behind m) × IsWriteIo (handed_on m) told) →
        EncodeFailure (BlockAdds contents) (BlockRefuses contents) Allowed OwnErrors a m e → CountsWrites contents OwnErrors (stream_behind a) (stream_behind b) told
    stop-index (Some inner) is ended (by_writer front piece middle added (last, out, why) begins) =
        let handed = added.handed in
        let most = out.handed in
        let parts = length-append added.out out.out in
        let at = cut-at (handed_on m) (added.out ++ out.out) (omega arith) in
        record {
          whole = take (handed_on m) (added.out ++ out.out);
          cut = drop (handed_on m) (added.out ++ out.out);
          appended = subst (Appends (contents (stream_behind a)) (contents (stream_behind b))) (sym at.0)
              (subst (λ s. Appends (contents (stream_behind a)) (contents s) (added.out ++ out.out)) (sym ended.0) (Appends-trans _ _ _ added.out out.out added.appended out.appended));
          index = inr (inl (subst (λ n. IsWriteIo n told) at.1 ended.1));
        }
    stop-index (Some inner) is ended (by_name front added names begins) = absurd (none-some _ (sym (added.same_failure ∙ whole) ∙ is))
    stop-index None is ended (by_writer front piece middle added (last, out, why) begins) = record {
      whole = [];
      cut = (added.out ++ out.out) ++ ended.1.front;
      appended = Appends-trans _ _ _ (added.out ++ out.out) ended.1.front (Appends-trans _ _ _ added.out out.out added.appended out.appended) ended.1.appended;
      index = inr (inr (ended.0 ∙ last));
    }
    stop-index None is ended (by_name front added names begins) = record {
      whole = [];
      cut = added.out ++ ended.1.front;
      appended = Appends-trans _ _ _ added.out ended.1.front added.appended ended.1.appended;
      index = inl (subst OwnErrors (sym ended.0) names);
    }
