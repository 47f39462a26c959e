-- What is recovered of a log, and what is left of it meanwhile.
use Rattle.std.specs.Prelude.{◌≡◌, ◌-◌, ◌<◌, ◌≤◌, ◌++◌, ℕ, List, [], ◌∷◌, length, take, drop, Option, Bool, Result, Ok, Err, IfOk, IfErr, refl}
use Rattle.std.specs.List.{All}
use Rattle.std.proofs.Common.{◌∙◌, ap, sym, subst, arith, append_assoc, length-append, take-append-drop}
use Rattle.std.proofs.lemmas.List.{length-take, take-append-le}
use Rattle.std.proofs.lemmas.List.Elements.{All-take}
use Rattle.std.proofs.Math.Seq.{take-append_seam}
use Rattle.bincode_base.specs.Setting.{Setting}
use Rattle.bincode_types.specs.TypeWords.{Words}
use Rattle.framed_store.specs.Pieces.{Piece, ArePieces, bytes_of, bytes_of_all, LacksRoom}
use Rattle.replay.specs.declared.replay.Replayed.{Replayed}
use Rattle.replay.specs.Recovered.{EqualTo, Recovers}
use Rattle.replay.specs.Replays.{IsReplay}
use Rattle.crash_device.specs.Files.{Files, CutsPart}
use Rattle.durable_log.specs.Recovering.{IsRecovered}
use Rattle.durable_log.specs.Standing.{IsLogOf, StandsFor}
use Rattle.durable_log.proofs.Fronts.{bytes_of_all-append}

-- two facts of a value that was returned
pub both : {X Y : Type 0} (r : Result X Y) (P Q R : X → Type 0) → ((x : X) → P x → Q x → R x) → IfOk r P → IfOk r Q → IfOk r R
both (Ok x) P Q R f p q = f x p q
both (Err e) P Q R f p q = p

-- less of an error
pub IfErr-weaker : {X Y : Type 0} (r : Result X Y) (P Q : Y → Type 0) → ((e : Y) → P e → Q e) → IfErr r P → IfErr r Q
IfErr-weaker (Ok x) P Q f p = p
IfErr-weaker (Err e) P Q f p = f e p

-- a smaller number has no more room
pub less-room : {A : Type 0} (m n : ℕ) (pieces : List (Piece A)) → m ≤ n → LacksRoom n pieces → LacksRoom m pieces
less-room m n [] le lacks = lacks
less-room m n (p ∷ pieces) le lacks = omega (arith, le, lacks)

-- as many as have room are those
same-front : {A : Type 0} (n : ℕ) (pieces next kept lost : List (Piece A)) → pieces ++ next ≡ kept ++ lost → length (bytes_of_all pieces) ≤ n → LacksRoom (n - length (bytes_of_all pieces)) next →
    length (bytes_of_all kept) ≤ n → LacksRoom (n - length (bytes_of_all kept)) lost → kept ≡ pieces
same-front n [] next [] lost e fits lacks fits_kept lacks_kept = refl
same-front n [] next (q ∷ kept) lost e fits lacks fits_kept lacks_kept =
    let none : n - 0 < length (bytes_of q) = subst (LacksRoom (n - 0)) e lacks in
    let all = length-append (bytes_of q) (bytes_of_all kept) in absurd (omega (arith, none, all, fits_kept))
same-front n (p ∷ pieces) next [] lost e fits lacks fits_kept lacks_kept =
    let none : n - 0 < length (bytes_of p) = subst (LacksRoom (n - 0)) (sym e) lacks_kept in
    let all = length-append (bytes_of p) (bytes_of_all pieces) in absurd (omega (arith, none, all, fits))
same-front n (p ∷ pieces) next (q ∷ kept) lost e fits lacks fits_kept lacks_kept =
    let first : p ≡ q = cc in
    let others : pieces ++ next ≡ kept ++ lost = cc in
    let size = length (bytes_of p) in
    let one : length (bytes_of q) ≡ size = ap (λ z. length (bytes_of z)) (sym first) in
    let all = length-append (bytes_of p) (bytes_of_all pieces) in
    let all_kept = length-append (bytes_of q) (bytes_of_all kept) in
    let same = same-front (n - size) pieces next kept lost others (omega (arith, all, fits)) (less-room _ _ next (omega (arith, all, fits)) lacks) (omega (arith, one, all_kept, fits_kept))
    (less-room _ _ lost (omega (arith, one, all_kept, fits_kept)) lacks_kept) in
    (λ i. (sym first) i ∷ same i)

module _ {A : Type 0} (W : Words A) (s : Setting) (limit : Option ℕ) (most : ℕ) (pieces : List (Piece A)) (log : List ℕ) (stands : StandsFor W s limit most pieces log) where
  -- the whole frames
  take-whole : take (length (bytes_of_all pieces)) log ≡ bytes_of_all pieces
  take-whole =
      let n = length (bytes_of_all pieces) in
      let fits = stands.stand_whole in
      sym (take-append-le n log stands.lost fits) ∙ (ap (take n) (sym stands.bytes_are) ∙ (ap (take n) (bytes_of_all-append pieces stands.next) ∙ take-append_seam (bytes_of_all pieces) (bytes_of_all stands.next)))

  -- the log of them alone
  pub log-of-whole : (whole : List ℕ) → take (length (bytes_of_all pieces)) log ≡ whole → IsLogOf W s limit most pieces whole
  log-of-whole whole is = record {
    are_pieces = are-front pieces stands.next stands.are_pieces;
    are_kept = stands.are_kept;
    bytes_are = sym take-whole ∙ is;
    are_bytes = subst (All (λ b. b < 256)) is (All-take (λ b. b < 256) (length (bytes_of_all pieces)) log stands.are_bytes);
  }
    where
      are-front : (xs ys : List (Piece A)) → ArePieces W s limit most (xs ++ ys) → ArePieces W s limit most xs
      are-front [] ys are = tt
      are-front (x ∷ xs) ys are = (are.0, are-front xs ys are.1)

  -- a cut behind them
  pub cut-stands : (kept : ℕ) → length (bytes_of_all pieces) ≤ kept → StandsFor W s limit most pieces (take kept log)
  cut-stands kept enough =
      let taken = length-take kept log in
      let fits = stands.stand_whole in record {
        next = stands.next;
        lost = drop kept log ++ stands.lost;
        are_pieces = stands.are_pieces;
        are_kept = stands.are_kept;
        bytes_are = stands.bytes_are ∙ (ap (λ z. z ++ stands.lost) (sym (take-append-drop kept log)) ∙ append_assoc (take kept log) (drop kept log) stands.lost);
        stand_whole = omega (arith, taken, fits, enough);
        lacks_room = less-room _ _ stands.next (omega (arith, taken)) stands.lacks_room;
        are_bytes = All-take (λ b. b < 256) kept log stands.are_bytes;
      }

  -- what a crash leaves while the log is cut behind them
  pub cuts-stand : (files : Files) → log ≡ files.log → (n : ℕ) → n ≡ length (bytes_of_all pieces) → (c : Files) → CutsPart n files c → (c.snapshot ≡ files.snapshot) × StandsFor W s limit most pieces c.log
  cuts-stand files same n is c part =
      let kept = part.0 in
      let enough = part.1 in
      let log_is : c.log ≡ take kept log = ap (λ (f : Files). f.log) part.2 ∙ ap (take kept) (sym same) in (
        ap (λ (f : Files). f.snapshot) part.2,
        subst (StandsFor W s limit most pieces) (sym log_is) (cut-stands kept (omega (arith, is, enough))),
      )

  -- those that stand whole are replayed
  pub recovers-standing : {S : Type 0} (eq : A → A → Bool) (applies : S → A → S → Type 0) (old new : S) (replayed : Replayed) → IsReplay applies (W.format s) limit W.decodes_to most log old new replayed →
      Recovers eq applies (pieces ++ stands.next) (length log) old new replayed → IsRecovered eq applies pieces old new replayed × (replayed.length ≡ length (bytes_of_all pieces))
  recovers-standing eq applies old new replayed is r =
      let up_to = is.before.up_to in
      let end = r.end in
      let same = same-front (length log) pieces stands.next r.kept r.lost r.pieces_are stands.stand_whole stands.lacks_room (omega (arith, up_to, end)) r.lacks_room in (
        record { commands = r.commands; equal = subst (λ z. EqualTo eq z r.commands) same r.equal; run = r.run; count = r.count ∙ ap length same },
        end ∙ ap (λ z. length (bytes_of_all z)) same,
      )
