-- Frames of commands, and what a crash leaves of one more.
use Rattle.std.specs.Prelude.{◌≡◌, ◌⊎◌, ◌<◌, ◌++◌, ℕ, List, [], ◌∷◌, length, take, drop, Option, refl}
use Rattle.std.specs.List.{All}
use Rattle.std.proofs.Common.{◌∙◌, ap, sym, subst, arith, inl, inr, ⊎_elim, append_assoc, append-nil, length-append, take-append-drop}
use Rattle.std.proofs.lemmas.List.{length-take, take_all}
use Rattle.std.proofs.lemmas.List.Elements.{All-append, All-take}
use mathlib.Core.Logic.{dite}
use native.Mathlib.Decide.{dec_le}
use Rattle.bincode_base.specs.Setting.{Setting}
use Rattle.bincode_types.specs.TypeWords.{Words}
use Rattle.frames.specs.Frames.{frame}
use Rattle.framed_store.specs.Appended.{IsFitting}
use Rattle.framed_store.specs.Pieces.{Piece, FrameOf, Damage, bytes_of, bytes_of_all, ArePieces}
use Rattle.framed_store.specs.PieceLaws.{with_kept}
use Rattle.crash_device.specs.Files.{Files, AppendsPart}
use Rattle.durable_log.specs.Standing.{AreKept, IsLogOf, StandsFor, IsBeforeOrAfter}

pub bytes_of_all-append : {A : Type 0} (xs ys : List (Piece A)) → bytes_of_all (xs ++ ys) ≡ bytes_of_all xs ++ bytes_of_all ys
bytes_of_all-append [] ys = refl
bytes_of_all-append (x ∷ xs) ys = ap (λ z. bytes_of x ++ z) (bytes_of_all-append xs ys) ∙ sym (append_assoc (bytes_of x) (bytes_of_all xs) (bytes_of_all ys))

kept-more : {A : Type 0} (pieces : List (Piece A)) (value : A) (word : List ℕ) → AreKept pieces → AreKept (with_kept pieces value word)
kept-more [] value word are = tt
kept-more (FrameOf v w ∷ pieces) value word are = kept-more pieces value word are
kept-more (Damage bytes ∷ pieces) value word are = absurd are

module _ {A : Type 0} (W : Words A) (s : Setting) (limit : Option ℕ) (most : ℕ) where
  are-append : (xs ys : List (Piece A)) → ArePieces W s limit most xs → ArePieces W s limit most ys → ArePieces W s limit most (xs ++ ys)
  are-append [] ys are more = more
  are-append (x ∷ xs) ys are more = (are.0, are-append xs ys are.1 more)

  -- the log with one more frame
  pub adds-one : (pieces : List (Piece A)) (value : A) (word log : List ℕ) → IsLogOf W s limit most pieces log → IsFitting W s limit most value word → All (λ b. b < 256) (frame word) →
      IsLogOf W s limit most (with_kept pieces value word) (log ++ frame word)
  adds-one pieces value word log is fits bytes =
      let one = FrameOf value word ∷ [] in record {
        are_pieces = are-append pieces one is.are_pieces (fits, tt);
        are_kept = kept-more pieces value word is.are_kept;
        bytes_are = bytes_of_all-append pieces one ∙ (ap (λ z. z ++ (frame word ++ [])) is.bytes_are ∙ ap (λ z. log ++ z) (append-nil (frame word)));
        are_bytes = All-append (λ b. b < 256) log (frame word) is.are_bytes bytes;
      }

  -- a whole log
  pub stands-whole : (pieces : List (Piece A)) (log : List ℕ) → IsLogOf W s limit most pieces log → StandsFor W s limit most pieces log
  stands-whole pieces log is =
      let long : length (bytes_of_all pieces) ≡ length log = ap length is.bytes_are in record {
        next = [];
        lost = [];
        are_pieces = subst (ArePieces W s limit most) (sym (append-nil pieces)) is.are_pieces;
        are_kept = is.are_kept;
        bytes_are = ap bytes_of_all (append-nil pieces) ∙ (is.bytes_are ∙ sym (append-nil log));
        stand_whole = omega (arith, long);
        lacks_room = tt;
        are_bytes = is.are_bytes;
      }

  module _ (pieces : List (Piece A)) (value : A) (word log : List ℕ) (is : IsLogOf W s limit most pieces log) (fits : IsFitting W s limit most value word) (bytes : All (λ b. b < 256) (frame word)) where
    abbrev added : IsLogOf W s limit most (with_kept pieces value word) (log ++ frame word)
    added = adds-one pieces value word log is fits bytes

    -- a part of the frame stands
    stands-before : (n : ℕ) → n < length (frame word) → StandsFor W s limit most pieces (log ++ take n (frame word))
    stands-before n short =
        let long : length (bytes_of_all pieces) ≡ length log = ap length is.bytes_are in
        let all = length-append log (take n (frame word)) in
        let taken = length-take n (frame word) in record {
          next = FrameOf value word ∷ [];
          lost = drop n (frame word);
          are_pieces = added.are_pieces;
          are_kept = is.are_kept;
          bytes_are = added.bytes_are ∙ (ap (λ z. log ++ z) (sym (take-append-drop n (frame word))) ∙ sym (append_assoc log (take n (frame word)) (drop n (frame word))));
          stand_whole = omega (arith, long, all);
          lacks_room = omega (arith, long, all, taken, short);
          are_bytes = All-append (λ b. b < 256) log (take n (frame word)) is.are_bytes (All-take (λ b. b < 256) n (frame word) bytes);
        }

    -- wherever a crash cuts the frame
    stands-before-or-after : (n : ℕ) →
        StandsFor W s limit most pieces (log ++ take n (frame word)) ⊎ StandsFor W s limit most (with_kept pieces value word) (log ++ take n (frame word))
    stands-before-or-after n = dite (dec_le (length (frame word)) n)
        (λ long. inr (subst (λ z. StandsFor W s limit most (with_kept pieces value word) (log ++ z)) (sym (take_all n (frame word) long)) (stands-whole (with_kept pieces value word) (log ++ frame word) added)))
        (λ not_long. inl (stands-before n (omega (arith, not_long))))

    -- what a crash leaves while these bytes, the frame, are appended
    pub part-before-or-after : (files : Files) → log ≡ files.log → (sent : List ℕ) → sent ≡ frame word → (c : Files) → AppendsPart sent files c → IsBeforeOrAfter W s limit most pieces value files c
    part-before-or-after files same sent is_frame c part =
        let n = part.0 in
        let is_part : c ≡ record files { log = log ++ take n (frame word) } = part.1 ∙ (λ i. record files { log = (sym same) i ++ take n (is_frame i) }) in
        subst (IsBeforeOrAfter W s limit most pieces value files) (sym is_part)
        (refl, ⊎_elim (λ before. inl before) (λ after. inr (word, after)) (stands-before-or-after n))
