-- What an encoding that stops leaves of a stream that it is written to piece by piece.
use Rattle.std.specs.Prelude.{◌≡◌, ◌+◌, ◌-◌, ◌^◌, ◌<◌, ◌++◌, ℕ, List, [], Option, length}
use Rattle.std.proofs.Common.{inl, inr, arith, ap, sym, ◌∙◌, subst, append_assoc, length-append}
use Rattle.std.specs.Io.KnownBytes.{Appends}
use Rattle.std.proofs.KnownBytes.{Appends-trans}
use Rattle.bincode_base.specs.declared.error.EncodeError.{EncodeError}
use Rattle.bincode_spec.specs.Encoding.{EncodeFailure, Begins, by_writer, by_name}
use Rattle.bincode_io.specs.declared.io_write.IoWriter.{IoWriter}
use Rattle.bincode_io.specs.Stream.{IsWriteIo, target_of, written_through, StreamAdds, StreamRefuses, StreamHalts}
use Rattle.bincode.specs.Streamed.{CountsWrites}
use Rattle.bincode.proofs.StreamHalted.{begins-front, too-long}

module _ {W : Type 0} (contents : W → Option (List ℕ)) (Allowed : List ℕ → Type 0) (OwnErrors : EncodeError → Type 0) (a b : IoWriter W) (start : written_through a ≡ 0) (e : EncodeError) where
  -- a prefix of an allowed encoding is out
  refused : (front piece : List ℕ) (middle : IoWriter W) → StreamAdds contents a front middle → StreamRefuses contents middle piece e b → Begins Allowed (front ++ piece) →
      StreamHalts contents Allowed OwnErrors (target_of a) (target_of b) e
  refused front piece middle added (inl h) begins = record {
    front = front;
    appended = subst (λ z. Appends (contents (target_of a)) (contents (target_of z)) front) (sym h.2) added.appended;
    begins = inr (begins-front Allowed front piece begins);
    why = inr (inr (h.0, (front ++ piece, begins, too-long front piece _ _ start added.count_rises h.1)));
  }
  refused front piece middle added (inr h) begins =
      let out = h.2 in
      record {
        front = front ++ out.front;
        appended = Appends-trans _ _ _ front out.front added.appended out.appended;
        begins = inr (begins-front Allowed (front ++ out.front) out.back (subst (Begins Allowed) (ap (λ z. front ++ z) out.piece_is ∙ sym (append_assoc front out.front out.back)) begins));
        why = inr (inl (_, h.0));
      }

  pub pieces-halt : EncodeFailure (StreamAdds contents) (StreamRefuses contents) Allowed OwnErrors a b e → StreamHalts contents Allowed OwnErrors (target_of a) (target_of b) e
  pieces-halt (by_writer front piece middle added refuses begins) = refused front piece middle added refuses begins
  pieces-halt (by_name front added names begins) = record { front = front; appended = added.appended; begins = begins; why = inl names }

  counted : (front : List ℕ) (middle : IoWriter W) → StreamAdds contents a front middle → written_through middle ≡ length front
  counted front middle added = let rises = added.count_rises in omega arith

  -- the pieces before the one that failed are out
  refused-index : (front piece : List ℕ) (middle : IoWriter W) → StreamAdds contents a front middle → StreamRefuses contents middle piece e b →
      CountsWrites contents OwnErrors (target_of a) (target_of b) e
  refused-index front piece middle added (inl h) = record {
    whole = [];
    cut = front;
    appended = subst (λ z. Appends (contents (target_of a)) (contents (target_of z)) front) (sym h.2) added.appended;
    index = inr (inr h.0);
  }
  refused-index front piece middle added (inr h) = record {
    whole = front;
    cut = h.2.front;
    appended = Appends-trans _ _ _ front h.2.front added.appended h.2.appended;
    index = inr (inl (subst (λ n. IsWriteIo n e) (counted front middle added) h.0));
  }

  pub pieces-index : EncodeFailure (StreamAdds contents) (StreamRefuses contents) Allowed OwnErrors a b e → CountsWrites contents OwnErrors (target_of a) (target_of b) e
  pieces-index (by_writer front piece middle added refuses begins) = refused-index front piece middle added refuses
  pieces-index (by_name front added names begins) = record { whole = []; cut = front; appended = added.appended; index = inl names }
