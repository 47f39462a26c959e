-- A log that stands for commands is not told as damaged.
use Rattle.std.specs.Prelude.{◌≡◌, ◌⊎◌, ◌+◌, ◌-◌, ◌^◌, ◌<◌, ◌≤◌, ◌++◌, ℕ, List, [], ◌∷◌, length, take, drop, Option, Bool, refl}
use Rattle.std.specs.List.{All}
use Rattle.std.proofs.Common.{◌∙◌, ap, sym, subst, arith, inl, inr, append_assoc, length-append, take-append-drop}
use Rattle.std.proofs.lemmas.List.{append_cancel_right, length-drop, length-take, drop_all, drop-append-le}
use Rattle.std.proofs.lemmas.List.Elements.{All-take}
use Rattle.std.proofs.Math.Seq.{take-append_seam}
use Rattle.bincode_base.specs.Setting.{Setting}
use Rattle.bincode_spec.specs.Format.{Format}
use Rattle.bincode_spec.specs.Meaning.{Meaning}
use Rattle.bincode_types.specs.TypeLaws.{ExactWords}
use Rattle.bincode_types.specs.TypeWords.{Words}
use Rattle.frames.specs.Frames.{Reads, framed_word}
use Rattle.frames.specs.declared.Frame.TheVariants as frames
use Rattle.framed_store.specs.declared.ending.Ending.TheVariants as endings
use Rattle.framed_store.specs.declared.listing.Record.{Record}
use Rattle.framed_store.specs.declared.records.Content.{Content}
use Rattle.framed_store.specs.declared.records.Content.TheVariants as contents
use Rattle.framed_store.specs.Pieces.{Piece, FrameOf, Damage, bytes_of, bytes_of_all, IsToldAs, ToldFor, LacksRoom}
use Rattle.framed_store.specs.Steps.{IsWhole}
use Rattle.framed_store.specs.Told.{IsContent, IsRecord, ReadFrom, Lists}
use Rattle.framed_store.proofs.Fronts.{same-word, damaged-front, whole-front}
use Rattle.framed_store.proofs.Listings.{record-there, lists-front}
use Rattle.replay.specs.declared.replay.Failure.{Failure}
use Rattle.replay.specs.declared.replay.Failure.TheVariants as failures
use Rattle.replay.specs.declared.replay.ReplayError.{ReplayError}
use Rattle.replay.specs.Replays.{FramesOf, IsStop, StopsBefore}
use Rattle.durable_log.specs.Recovering.{IsOutside}
use Rattle.durable_log.specs.Standing.{StandsFor, AreKept}
use Rattle.durable_log.proofs.Recoveries.{less-room}

module _ {A : Type 0} (F : Format Meaning) (limit : Option ℕ) (decodes_to : Meaning → A → Type 0) (most : ℕ) where
  abbrev Told : List ℕ → ℕ → Content A → Type 0
  Told = IsRecord F limit decodes_to most

  -- a frame is told alike without what follows it
  word-front : (bytes rest : List ℕ) (size : ℕ) → size ≤ length bytes → IsWhole most (bytes ++ rest) size → (P : List ℕ → Type 0) → P (framed_word (bytes ++ rest)) → IsWhole most bytes size × P (framed_word bytes)
  word-front bytes rest size le w P p =
      let front = whole-front most bytes rest size le w in
      let there = front.0.1 in
      (front, subst P (same-word bytes rest (omega (arith, there)) there) p)

  told-front : (bytes rest : List ℕ) (size : ℕ) (content : Content A) → size ≤ length bytes → Told (bytes ++ rest) size content → Told bytes size content
  told-front bytes rest size (contents.Value v) le h = word-front bytes rest size le h.0 (λ w. IsContent F limit decodes_to w (contents.Value v)) h.1
  told-front bytes rest size contents.Damaged le h = damaged-front most bytes rest size le h
  told-front bytes rest size (contents.Undecodable why) le h = word-front bytes rest size le h.0 (λ w. IsContent F limit decodes_to w (contents.Undecodable why)) h.1
  told-front bytes rest size (contents.Longer taken) le h = word-front bytes rest size le h.0 (λ w. IsContent F limit decodes_to w (contents.Longer taken)) h.1

  frames-length : (log : List ℕ) (commands : List A) (rest : List ℕ) → FramesOf F limit decodes_to most log commands rest → length rest ≤ length log
  frames-length log [] rest f = let same : length rest ≡ length log = ap length f in omega (arith, same)
  frames-length log (command ∷ commands) rest f =
      let more = frames-length (drop f.0 log) commands rest f.2 in
      let left = length-drop f.0 log in omega (arith, more, left)

  -- what is left is the log's end
  frames-suffix : (log : List ℕ) (commands : List A) (rest : List ℕ) → FramesOf F limit decodes_to most log commands rest → (front : List ℕ) × (log ≡ front ++ rest)
  frames-suffix log [] rest f = ([], sym f)
  frames-suffix log (command ∷ commands) rest f =
      let more = frames-suffix (drop f.0 log) commands rest f.2 in
      (take f.0 log ++ more.0, sym (take-append-drop f.0 log) ∙ (ap (λ z. take f.0 log ++ z) more.1 ∙ sym (append_assoc (take f.0 log) more.0 rest)))

  -- frames are told alike without what follows them
  frames-front : (commands : List A) (front back rest : List ℕ) → FramesOf F limit decodes_to most (front ++ back) commands (rest ++ back) → FramesOf F limit decodes_to most front commands rest
  frames-front [] front back rest f = append_cancel_right rest front back f
  frames-front (command ∷ commands) front back rest f =
      let size = f.0 in
      let there = record-there F limit decodes_to most (front ++ back) size (contents.Value command) f.1 in
      let within = there.0.1 in
      let is_size = there.1 in
      let long = frames-length (drop size (front ++ back)) commands (rest ++ back) f.2 in
      let left = length-drop size (front ++ back) in
      let all = length-append front back in
      let behind = length-append rest back in
      let le : size ≤ length front = omega (arith, within, is_size, long, left, all, behind) in (
        size,
        told-front front back size (contents.Value command) le f.1,
        frames-front commands (drop size front) back rest (subst (λ z. FramesOf F limit decodes_to most z commands (rest ++ back)) (drop-append-le size front back le) f.2),
      )

  -- the records of commands
  record Listed (at : ℕ) (log rest : List ℕ) : Type 0 where
    records : List (Record A)
    end : ℕ
    read : ReadFrom F limit decodes_to most at log records end rest

  listed : (at : ℕ) (commands : List A) (log rest : List ℕ) → FramesOf F limit decodes_to most log commands rest → Listed at log rest
  listed at [] log rest f = record { records = []; end = at; read = (refl, f) }
  listed at (command ∷ commands) log rest f =
      let next = listed (at + f.0) commands (drop f.0 log) rest f.2 in record {
        records = (record { offset = at; size = f.0; content = contents.Value command }) ∷ next.records;
        end = next.end;
        read = (f.1, refl, next.read);
      }

  -- one of the records has this content
  abbrev Tells : List (Record A) → Content A → Type 0
  Tells [] content = ⊥
  Tells (r ∷ records) content = (r.content ≡ content) ⊎ Tells records content

  -- the records of commands, and of one frame more
  record Stopped (at : ℕ) (log : List ℕ) (content : Content A) : Type 0 where
    records : List (Record A)
    end : ℕ
    read : ReadFrom F limit decodes_to most at log records end []
    tells : Tells records content

  stopped : (at : ℕ) (commands : List A) (log rest : List ℕ) (size : ℕ) (content : Content A) → FramesOf F limit decodes_to most log commands rest → Told rest size content → drop size rest ≡ [] → Stopped at log content
  stopped at [] log rest size content f told none = record {
    records = (record { offset = at; size = size; content = content }) ∷ [];
    end = at + size;
    read = (subst (λ z. Told z size content) f told, refl, (refl, sym (ap (drop size) (sym f) ∙ none)));
    tells = inl refl;
  }
  stopped at (command ∷ commands) log rest size content f told none =
      let next = stopped (at + f.0) commands (drop f.0 log) rest size content f.2 told none in record {
        records = (record { offset = at; size = f.0; content = contents.Value command }) ∷ next.records;
        end = next.end;
        read = (f.1, refl, next.read);
        tells = inr next.tells;
      }

  -- the log up to the end of that frame
  record Cut (log : List ℕ) (content : Content A) : Type 0 where
    front : List ℕ
    back : List ℕ
    log_is : log ≡ front ++ back
    stop : Stopped 0 front content

  cut : (log : List ℕ) (commands : List A) (rest : List ℕ) (size : ℕ) (content : Content A) → FramesOf F limit decodes_to most log commands rest → Told rest size content → Cut log content
  cut log commands rest size content f told =
      let suffix = frames-suffix log commands rest f in
      let last = take size rest in
      let back = drop size rest in
      let there = record-there F limit decodes_to most rest size content told in
      let within = there.0.1 in
      let is_size = there.1 in
      let taken = length-take size rest in
      let long : size ≤ length last = omega (arith, taken, within, is_size) in
      let parts : rest ≡ last ++ back = sym (take-append-drop size rest) in
      let log_is : log ≡ (suffix.0 ++ last) ++ back = suffix.1 ∙ (ap (λ z. suffix.0 ++ z) parts ∙ sym (append_assoc suffix.0 last back)) in
      let frames : FramesOf F limit decodes_to most ((suffix.0 ++ last) ++ back) commands (last ++ back) =
      subst (λ z. FramesOf F limit decodes_to most z commands (last ++ back)) log_is (subst (λ z. FramesOf F limit decodes_to most log commands z) parts f) in
      let ends : drop size last ≡ [] = drop_all size last (omega (arith, taken)) in record {
        front = suffix.0 ++ last;
        back = back;
        log_is = log_is;
        stop = stopped 0 commands (suffix.0 ++ last) last size content (frames-front commands (suffix.0 ++ last) back last frames)
            (told-front last back size content long (subst (λ z. Told z size content) parts told)) ends;
      }

-- of pieces that have room, those that were not changed are not changed
kept-within : {A : Type 0} (n : ℕ) (pieces next kept lost : List (Piece A)) → pieces ++ next ≡ kept ++ lost → length (bytes_of_all pieces) ≤ n → LacksRoom (n - length (bytes_of_all pieces)) next →
    length (bytes_of_all kept) ≤ n → AreKept pieces → AreKept kept
kept-within n pieces next [] lost e fits lacks fits_kept are = tt
kept-within n [] next (q ∷ kept) lost e fits lacks fits_kept are =
    let none : n - 0 < length (bytes_of q) = subst (LacksRoom (n - 0)) e lacks in
    let all = length-append (bytes_of q) (bytes_of_all kept) in absurd (omega (arith, none, all, fits_kept))
kept-within n (Damage bytes ∷ pieces) next (q ∷ kept) lost e fits lacks fits_kept are = absurd are
kept-within {A} n (FrameOf value word ∷ pieces) next (q ∷ kept) lost e fits lacks fits_kept are =
    let p : Piece A = FrameOf value word in
    let first : p ≡ q = cc in
    let others : pieces ++ next ≡ kept ++ lost = cc in
    let size = length (bytes_of p) in
    let one : length (bytes_of q) ≡ size = ap (λ z. length (bytes_of z)) (sym first) in
    let all = length-append (bytes_of p) (bytes_of_all pieces) in
    let all_kept = length-append (bytes_of q) (bytes_of_all kept) in
    let more = kept-within (n - size) pieces next kept lost others (omega (arith, all, fits)) (less-room _ _ next (omega (arith, all, fits)) lacks) (omega (arith, one, all_kept, fits_kept)) are in
    subst (λ z. AreKept (z ∷ kept)) first more

-- what is told of such pieces is a value
told-kept : {A : Type 0} (eq : A → A → Bool) (F : Format Meaning) (limit : Option ℕ) (decodes_to : Meaning → A → Type 0) (most at : ℕ) (kept : List (Piece A)) (records : List (Record A)) (content : Content A) → AreKept kept →
    ToldFor eq at kept records → Tells F limit decodes_to most records content → (value : A) × (word : List ℕ) × IsToldAs eq (FrameOf value word) content
told-kept eq F limit decodes_to most at [] [] content are told tells = absurd tells
told-kept eq F limit decodes_to most at [] (r ∷ records) content are told tells = absurd told
told-kept eq F limit decodes_to most at (p ∷ kept) [] content are told tells = absurd tells
told-kept eq F limit decodes_to most at (Damage bytes ∷ kept) (r ∷ records) content are told tells = absurd are
told-kept eq F limit decodes_to most at (FrameOf value word ∷ kept) (r ∷ records) content are told (inl here) = (value, word, subst (IsToldAs eq (FrameOf value word)) here told.0)
told-kept eq F limit decodes_to most at (FrameOf value word ∷ kept) (r ∷ records) content are told (inr there) =
    told-kept eq F limit decodes_to most (at + length (bytes_of (FrameOf value word))) kept records content are told.3 there

module _ {A : Type 0} (W : Words A) (s : Setting) (limit : Option ℕ) (most : ℕ) (small : most < 2 ^ 32) (eq : A → A → Bool) (exact : ExactWords W eq) (pieces : List (Piece A)) (log : List ℕ)
    (stands : StandsFor W s limit most pieces log) where
  -- each frame that a replay comes to holds a value
  pub no-other : (commands : List A) (rest : List ℕ) (size : ℕ) (content : Content A) → FramesOf (W.format s) limit W.decodes_to most log commands rest → IsRecord (W.format s) limit W.decodes_to most rest size content →
      (value : A) × (word : List ℕ) × IsToldAs eq (FrameOf value word) content
  no-other commands rest size content f told =
      let c = cut (W.format s) limit W.decodes_to most log commands rest size content f told in
      let lists : Lists (W.format s) limit W.decodes_to most c.front c.stop.records endings.Whole = record { end = c.stop.end; remaining = []; frames = c.stop.read; ends = refl } in
      let bytes : All (λ b. b < 256) c.front = subst (All (λ b. b < 256)) (ap (take (length c.front)) c.log_is ∙ take-append_seam c.front c.back) (All-take (λ b. b < 256) (length c.front) log stands.are_bytes) in
      let parts : bytes_of_all (pieces ++ stands.next) ≡ c.front ++ (c.back ++ stands.lost) = stands.bytes_are ∙ (ap (λ z. z ++ stands.lost) c.log_is ∙ append_assoc c.front c.back stands.lost) in
      let t = lists-front W s limit most small eq exact c.front bytes c.stop.records endings.Whole lists (pieces ++ stands.next) (c.back ++ stands.lost) stands.are_pieces parts in
      let whole = t.ends in
      let all : length log ≡ length c.front + length c.back = ap length c.log_is ∙ length-append c.front c.back in
      let kept = kept-within (length log) pieces stands.next t.kept t.lost t.pieces_are stands.stand_whole stands.lacks_room (omega (arith, whole, all)) stands.are_kept in
      told-kept eq (W.format s) limit W.decodes_to most 0 t.kept c.stop.records content kept t.for_kept c.stop.tells

  -- nor does it come to a length that the log does not take
  pub no-length : (commands : List A) (rest : List ℕ) (n : ℕ) → FramesOf (W.format s) limit W.decodes_to most log commands rest → Reads most rest (frames.TooLong n) → ⊥
  no-length commands rest n f reads =
      let l = listed (W.format s) limit W.decodes_to most 0 commands log rest f in
      let lists : Lists (W.format s) limit W.decodes_to most log l.records (endings.TooLong l.end n) = record { end = l.end; remaining = rest; frames = l.read; ends = (refl, reads) } in
      (lists-front W s limit most small eq exact log stands.are_bytes l.records (endings.TooLong l.end n) lists (pieces ++ stands.next) stands.lost stands.are_pieces stands.bytes_are).ends

  -- so a replay stops only for a reason from outside
  pub stops-outside : {S E : Type 0} (applies : S → A → S → Type 0) (refuses : S → A → E → Type 0) (old new : S) (error : ReplayError E) →
      IsStop applies refuses (W.format s) limit W.decodes_to most log old new error → IsOutside error.why
  stops-outside {E = E} applies refuses old new error stop = outside error.why stop.why
    where
      outside : (why : Failure E) → StopsBefore refuses (W.format s) limit W.decodes_to most stop.rest new why → IsOutside why
      outside (failures.Refused e) h = tt
      outside (failures.Read e) h = tt
      outside (failures.Memory e) h = tt
      outside failures.Damaged h = (no-other stop.before.commands stop.rest h.0 contents.Damaged stop.before.frames h.1).2
      outside (failures.Undecodable e) h = (no-other stop.before.commands stop.rest h.0 (contents.Undecodable e) stop.before.frames h.1).2
      outside (failures.Longer taken) h = (no-other stop.before.commands stop.rest h.0 (contents.Longer taken) stop.before.frames h.1).2
      outside (failures.TooLong n) h = no-length stop.before.commands stop.rest n stop.before.frames h
