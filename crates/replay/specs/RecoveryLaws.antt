-- What comes back from a log that was appended to and cut.
use Rattle.std.specs.Prelude.{◌≡◌, ◌+◌, ◌^◌, ◌<◌, ◌++◌, ℕ, List, [], ◌∷◌, length, drop, Option, Bool, true, false, refl}
use Rattle.std.specs.List.{All}
use Rattle.std.proofs.Common.{◌∙◌, ap, sym, subst, arith}
use Rattle.std.proofs.lemmas.List.{length-drop}
use Rattle.bincode_base.specs.Setting.{Setting}
use Rattle.bincode_spec.specs.Format.{Format}
use Rattle.bincode_spec.specs.Meaning.{Meaning}
use Rattle.bincode_types.specs.TypeLaws.{ExactWords}
use Rattle.bincode_types.specs.TypeWords.{Words}
use Rattle.framed_store.specs.declared.ending.Ending.{Ending}
use Rattle.framed_store.specs.declared.ending.Ending.TheVariants as endings
use Rattle.framed_store.specs.declared.listing.Record.{Record}
use Rattle.framed_store.specs.declared.records.Content.TheVariants as contents
use Rattle.frames.specs.Frames.{frame}
use Rattle.framed_store.specs.Pieces.{Piece, FrameOf, Damage, bytes_of_all, ArePieces, IsToldAs, ToldFor, EndsAfter}
use Rattle.framed_store.specs.Steps.{EndsAt}
use Rattle.framed_store.specs.Told.{ReadFrom, Lists}
use Rattle.framed_store.proofs.Listings.{lists-front}
use Rattle.replay.specs.declared.replay.Replayed.{Replayed}
use Rattle.replay.specs.Recovered.{EqualTo, Recovers}
use Rattle.replay.specs.Replays.{FramesOf, EndsLog, IsReplay}

-- the records hold these commands
abbrev Hold : {A : Type 0} → List (Record A) → List A → Type 0
Hold [] [] = Unit {0}
Hold (r ∷ records) (command ∷ commands) = (r.content ≡ contents.Value command) × Hold records commands
Hold [] (_ ∷ _) = ⊥
Hold (_ ∷ _) [] = ⊥

-- frames that are told so hold equal commands
equal-told : {A : Type 0} (eq : A → A → Bool) (at : ℕ) (pieces : List (Piece A)) (records : List (Record A)) (commands : List A) → ToldFor eq at pieces records → Hold records commands →
    EqualTo eq pieces commands × (length pieces ≡ length commands)
equal-told eq at [] [] [] told hold = (tt, refl)
equal-told eq at (FrameOf value word ∷ pieces) (r ∷ records) (command ∷ commands) told hold =
    let more = equal-told eq (at + length (frame word)) pieces records commands told.3 hold.1 in
    let equally_many = more.1 in ((subst (IsToldAs eq (FrameOf value word)) hold.0 told.0, more.0), omega (arith, equally_many))
equal-told eq at (Damage bytes ∷ pieces) (r ∷ records) (command ∷ commands) told hold = let other : contents.Value command ≡ contents.Damaged = sym hold.0 ∙ told.0 in cc
equal-told eq at [] (r ∷ records) commands told hold = absurd told
equal-told eq at (p ∷ pieces) [] commands told hold = absurd told
equal-told eq at [] [] (command ∷ commands) told hold = absurd hold
equal-told eq at (p ∷ pieces) (r ∷ records) [] told hold = absurd hold

module _ {A : Type 0} (F : Format Meaning) (limit : Option ℕ) (decodes_to : Meaning → A → Type 0) (most : ℕ) where
  -- the records of commands
  record Listed (at : ℕ) (log : List ℕ) (commands : List A) (rest : List ℕ) : Type 0 where
    records : List (Record A)
    end : ℕ
    read : ReadFrom F limit decodes_to most at log records end rest
    hold : Hold records commands
    up_to : at + length log ≡ end + length rest

  listed : (at : ℕ) (log : List ℕ) (commands : List A) (rest : List ℕ) → FramesOf F limit decodes_to most log commands rest → Listed at log commands rest
  listed at log [] rest f = record { records = []; end = at; read = (refl, f); hold = tt; up_to = ap (λ z. at + length z) (sym f) }
  listed at log (command ∷ commands) rest f =
      let size = f.0 in
      let next = listed (at + size) (drop size log) commands rest f.2 in
      let there = f.1.0.0.1 in
      let is_size = f.1.0.1 in
      let left = length-drop size log in
      let up_to = next.up_to in record {
        records = (record { offset = at; size = size; content = contents.Value command }) ∷ next.records;
        end = next.end;
        read = (f.1, refl, next.read);
        hold = (refl, next.hold);
        up_to = omega (arith, there, is_size, left, up_to);
      }

  -- how their store ends
  abbrev ending_of : Bool → ℕ → Ending
  ending_of false end = endings.Whole
  ending_of true end = endings.Torn end

  ends-store : (is_torn : Bool) (end : ℕ) (rest : List ℕ) → EndsLog most rest is_torn → EndsAt most end rest (ending_of is_torn end)
  ends-store false end rest h = h
  ends-store true end rest h = (refl, h)

  -- it ends where the last of the whole frames does
  same-end : (is_torn : Bool) (end at n : ℕ) (rest : List ℕ) → EndsLog most rest is_torn → n ≡ end + length rest → EndsAfter at n (ending_of is_torn end) → end ≡ at
  same-end false end at n rest h up_to after = let none : length rest ≡ 0 = ap length h in omega (arith, none, up_to, after)
  same-end true end at n rest h up_to after = after.0

-- Of a log of appended commands, cut anywhere, those that stand whole are replayed.
pub replayed-recovers : {S A : Type 0} (W : Words A) (s : Setting) (limit : Option ℕ) (most : ℕ) → most < 2 ^ 32 → (eq : A → A → Bool) → ExactWords W eq → (applies : S → A → S → Type 0) (log : List ℕ) →
    All (λ b. b < 256) log → (pieces : List (Piece A)) (lost : List ℕ) → ArePieces W s limit most pieces → bytes_of_all pieces ≡ log ++ lost → (old new : S) (replayed : Replayed) →
    IsReplay applies (W.format s) limit W.decodes_to most log old new replayed → Recovers eq applies pieces (length log) old new replayed
replayed-recovers W s limit most small eq exact applies log bytes pieces lost are e old new replayed r =
    let F = W.format s in
    let before = r.before in
    let l = listed F limit W.decodes_to most 0 log before.commands r.rest before.frames in
    let ending = ending_of F limit W.decodes_to most replayed.is_torn l.end in
    let lists : Lists F limit W.decodes_to most log l.records ending = record {
      end = l.end;
      remaining = r.rest;
      frames = l.read;
      ends = ends-store F limit W.decodes_to most replayed.is_torn l.end r.rest r.ends;
    } in
    let front = lists-front W s limit most small eq exact log bytes l.records ending lists pieces lost are e in
    let told = equal-told eq 0 front.kept l.records before.commands front.for_kept l.hold in
    let to_end = l.up_to in
    let up_to = before.up_to in
    let same = same-end F limit W.decodes_to most replayed.is_torn l.end (length (bytes_of_all front.kept)) (length log) r.rest r.ends (omega (arith, to_end)) front.ends in
    let counted = before.count in
    let equally_many = told.1 in record {
      kept = front.kept;
      lost = front.lost;
      commands = before.commands;
      pieces_are = front.pieces_are;
      lacks_room = front.lacks_room;
      equal = told.0;
      run = before.run;
      count = omega (arith, counted, equally_many);
      end = omega (arith, to_end, up_to, same);
    }
