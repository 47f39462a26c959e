-- What files that stand for commands come to, and what is left of them when a snapshot takes the place of a log.
use Rattle.std.specs.Prelude.{◌≡◌, ◌+◌, ◌-◌, ◌<◌, ◌≤◌, ◌^◌, ◌++◌, ℕ, List, [], ◌∷◌, length, take, drop, Option, Bool, true, refl}
use Rattle.std.proofs.Common.{◌∙◌, ap, sym, subst, arith, inl, inr, append_assoc, append-nil, length-append, take-append-drop}
use Rattle.std.proofs.lemmas.List.{length-take}
use Rattle.std.proofs.lemmas.List.Elements.{All-nil, All-take}
use mathlib.Core.Logic.{dite}
use native.Mathlib.Decide.{dec_le}
use Rattle.bincode_base.specs.Setting.{Setting}
use Rattle.bincode_types.specs.TypeWords.{Words}
use Rattle.framed_store.specs.Pieces.{Piece, FrameOf, Damage, bytes_of, bytes_of_all, ArePieces, LacksRoom}
use Rattle.framed_store.specs.PieceLaws.{with_kept}
use Rattle.replay.specs.Recovered.{EqualTo}
use Rattle.replay.specs.Replays.{Run}
use Rattle.replay.specs.RunLaws.{runs-join}
use Rattle.replay.specs.declared.replay.Replayed.{Replayed}
use Rattle.snapshots.specs.Numbers.{AppliesNext}
use Rattle.snapshots.specs.Resuming.{HoldBelow, HoldFrom, held_by}
use Rattle.snapshots.specs.RowLaws.{below-more, row-below, below-join, row-more, held-more}
use Rattle.snapshots.specs.Saved.{IsSavedAs}
use Rattle.crash_device.specs.Files.{Files, CompactsPart}
use Rattle.durable_log.specs.Machines.{AreOrEqual, HasCome, FilesHold, FilesStandFor, FilesBeforeOrAfter}
use Rattle.durable_log.specs.Recovering.{IsRecovered}
use Rattle.durable_log.specs.Standing.{AreKept, IsLogOf, StandsFor, IsAfter, IsBeforeOrAfter}
use Rattle.durable_log.proofs.Recoveries.{less-room}

below-front : {A : Type 0} (n : ℕ) (first second : List (Piece (ℕ × A))) → HoldBelow n (first ++ second) → HoldBelow n first
below-front n [] second h = tt
below-front n (FrameOf command word ∷ first) second h = (h.0, below-front n first second h.1)
below-front n (Damage bytes ∷ first) second h = absurd h

kept-front : {A : Type 0} (first second : List (Piece A)) → AreKept (first ++ second) → AreKept first
kept-front [] second are = tt
kept-front (FrameOf value word ∷ first) second are = kept-front first second are
kept-front (Damage bytes ∷ first) second are = absurd are

-- the frames that stand whole in so many bytes
record Fitting {A : Type 0} (n : ℕ) (pieces : List (Piece A)) : Type 0 where
  kept : List (Piece A)
  cut : List (Piece A)
  pieces_are : pieces ≡ kept ++ cut
  fits : length (bytes_of_all kept) ≤ n
  lacks_room : LacksRoom (n - length (bytes_of_all kept)) cut

fitting : {A : Type 0} (n : ℕ) (pieces : List (Piece A)) → Fitting n pieces
fitting n [] = record { kept = []; cut = []; pieces_are = refl; fits = omega arith; lacks_room = tt }
fitting n (p ∷ pieces) = dite (dec_le (length (bytes_of p)) n)
    (λ has_room.
    let more = fitting (n - length (bytes_of p)) pieces in
    let fits = more.fits in
    let all = length-append (bytes_of p) (bytes_of_all more.kept) in record {
      kept = p ∷ more.kept;
      cut = more.cut;
      pieces_are = ap (λ z. p ∷ z) more.pieces_are;
      fits = omega (arith, has_room, fits, all);
      lacks_room = less-room _ _ more.cut (omega (arith, all)) more.lacks_room;
    })
    (λ no_room. record { kept = []; cut = p ∷ pieces; pieces_are = refl; fits = omega arith; lacks_room = omega (arith, no_room) })

-- behind them the first frame has no room
lacks-behind : {A : Type 0} (m n : ℕ) (pieces kept cut next : List (Piece A)) → pieces ≡ kept ++ cut → m ≤ n → LacksRoom (m - length (bytes_of_all kept)) cut → LacksRoom (n - length (bytes_of_all pieces)) next →
    LacksRoom (m - length (bytes_of_all kept)) (cut ++ next)
lacks-behind m n pieces kept [] next are le lacks more =
    let same : length (bytes_of_all pieces) ≡ length (bytes_of_all kept) = ap (λ z. length (bytes_of_all z)) (are ∙ append-nil kept) in
    less-room _ _ next (omega (arith, same, le)) more
lacks-behind m n pieces kept (p ∷ cut) next are le lacks more = lacks

module _ {A : Type 0} (W : Words A) (s : Setting) (limit : Option ℕ) (most : ℕ) where
  -- a front of a log stands for the frames that are whole in it
  record FrontStands (pieces : List (Piece A)) (front : List ℕ) : Type 0 where
    kept : List (Piece A)
    cut : List (Piece A)
    pieces_are : pieces ≡ kept ++ cut
    stands : StandsFor W s limit most kept front

  front-stands : (pieces : List (Piece A)) (log : List ℕ) → StandsFor W s limit most pieces log → (n : ℕ) → FrontStands pieces (take n log)
  front-stands pieces log stands n =
      let front = take n log in
      let taken = length-take n log in
      let f = fitting (length front) pieces in
      let are = f.pieces_are in
      let next = stands.next in
      let joined : pieces ++ next ≡ f.kept ++ (f.cut ++ next) = ap (λ z. z ++ next) are ∙ append_assoc f.kept f.cut next in record {
        kept = f.kept;
        cut = f.cut;
        pieces_are = are;
        stands = record {
          next = f.cut ++ next;
          lost = drop n log ++ stands.lost;
          are_pieces = subst (ArePieces W s limit most) joined stands.are_pieces;
          are_kept = kept-front f.kept f.cut (subst AreKept are stands.are_kept);
          bytes_are = ap bytes_of_all (sym joined) ∙ (stands.bytes_are ∙ (ap (λ z. z ++ stands.lost) (sym (take-append-drop n log)) ∙ append_assoc front (drop n log) stands.lost));
          stand_whole = f.fits;
          lacks_room = lacks-behind (length front) (length log) pieces f.kept f.cut next are (omega (arith, taken)) f.lacks_room stands.lacks_room;
          are_bytes = All-take (λ b. b < 256) n log stands.are_bytes;
        };
      }

module _ {S A : Type 0} (eq : A → A → Bool) (both_eq : ℕ × A → ℕ × A → Bool) (parts : (a b : ℕ × A) → both_eq a b ≡ true → (a.0 ≡ b.0) × (eq a.1 b.1 ≡ true)) (applies : S → A → S → Type 0) where
  -- commands that equal those of these frames lead from one state to another
  record Led (others : List (Piece (ℕ × A))) (old new : ℕ × S) : Type 0 where
    commands : List A
    equal : AreOrEqual eq (held_by others) commands
    run : Run applies old.1 commands new.1
    count : new.0 ≡ old.0 + length (held_by others)

  -- those that are numbered in a row from the state's number on
  led-on : (others : List (Piece (ℕ × A))) (commands : List (ℕ × A)) (old new : ℕ × S) → HoldFrom old.0 others → EqualTo both_eq others commands → Run (AppliesNext applies) old commands new → Led others old new
  led-on [] [] old new h e r = let same : new.0 ≡ old.0 = ap (λ z. z.0) r in record { commands = []; equal = tt; run = ap (λ z. z.1) r; count = omega (arith, same) }
  led-on (FrameOf held word ∷ others) (command ∷ commands) old new h e (mid, inl below, r) =
      let number = (parts held command e.0).0 in
      let is_next = h.0 in
      let less = below.0 in
      absurd (omega (arith, number, is_next, less))
  led-on (FrameOf held word ∷ others) (command ∷ commands) old new h e (mid, inr applied, r) =
      let next = applied.1 in
      let then = led-on others commands mid new (subst (λ z. HoldFrom z others) (omega (arith, next)) h.1) e.1 r in
      let count = then.count in record {
        commands = command.1 ∷ then.commands;
        equal = (inr (parts held command e.0).1, then.equal);
        run = (mid.1, applied.2, then.run);
        count = omega (arith, next, count);
      }
  led-on (Damage bytes ∷ others) commands old new h e r = absurd h
  led-on [] (command ∷ commands) old new h e r = absurd e
  led-on (FrameOf held word ∷ others) [] old new h e r = absurd e

  -- after frames that are passed over
  led-past : (passed others : List (Piece (ℕ × A))) (commands : List (ℕ × A)) (old new : ℕ × S) → HoldBelow old.0 passed → HoldFrom old.0 others → EqualTo both_eq (passed ++ others) commands →
      Run (AppliesNext applies) old commands new → Led others old new
  led-past [] others commands old new below row e r = led-on others commands old new row e r
  led-past (FrameOf held word ∷ passed) others [] old new below row e r = absurd e
  led-past (FrameOf held word ∷ passed) others (command ∷ commands) old new below row e (mid, step, r) =
      let number = (parts held command e.0).0 in
      let less = below.0 in
      let stays : mid ≡ old = elim step [ inl past ↦ past.1 | inr applied ↦ (let is_next = applied.0 in absurd (omega (arith, number, is_next, less))) ] in
      led-past passed others commands old new below.1 row e.1 (subst (λ z. Run (AppliesNext applies) z commands new) stays r)
  led-past (Damage bytes ∷ passed) others commands old new below row e r = absurd below

are-on : {A : Type 0} (eq : A → A → Bool) (first second led more : List A) → AreOrEqual eq first led → AreOrEqual eq second more → AreOrEqual eq (first ++ second) (led ++ more)
are-on eq [] second [] more are next = next
are-on eq [] second (l ∷ led) more are next = absurd are
are-on eq (c ∷ first) second [] more are next = absurd are
are-on eq (c ∷ first) second (l ∷ led) more are next = (are.0, are-on eq first second led more are.1 next)

-- and then the next command
pub come-on : {S A : Type 0} (eq : A → A → Bool) (applies : S → A → S → Type 0) (first : S) (commands : List A) (now new : ℕ × S) (command : ℕ × A) → HasCome eq applies first commands now → command.0 ≡ now.0 →
    AppliesNext applies now command new → HasCome eq applies first (commands ++ command.1 ∷ []) new
come-on eq applies first commands now new command come same (inl past) = let less = past.0 in absurd (omega (arith, less, same))
come-on eq applies first commands now new command come same (inr applied) =
    let next = applied.1 in
    let count = come.count in
    let sizes = length-append commands (command.1 ∷ []) in record {
      led = come.led ++ command.1 ∷ [];
      equal = are-on eq commands (command.1 ∷ []) come.led (command.1 ∷ []) come.equal (inl refl, tt);
      run = runs-join applies come.led (command.1 ∷ []) first now.1 new.1 come.run (new.1, applied.2, refl);
      count = omega (arith, next, count, sizes);
    }

module _ {A M S B : Type 0} (stands_for : A → M → Type 0) (V : Words A) (state : M → S) (eq : B → B → Bool) (applies : S → B → S → Type 0) (s : Setting) (limit : Option ℕ) (first : S) (commands : List B) where
  -- with another log of the same frames
  pub with-log : (OfLog OfOther : List (Piece (ℕ × B)) → List ℕ → Type 0) (files other : Files) (hold : FilesHold stands_for V state eq applies s limit OfLog first commands files) → other.snapshot ≡ files.snapshot →
      OfOther (hold.passed ++ hold.others) other.log → FilesHold stands_for V state eq applies s limit OfOther first commands other
  with-log OfLog OfOther files other hold same of_log = record {
    earlier = hold.earlier;
    saved = hold.saved;
    has_come = hold.has_come;
    is_number = hold.is_number;
    is_saved = subst (IsSavedAs stands_for V s limit (length hold.earlier) hold.saved) (sym same) hold.is_saved;
    passed = hold.passed;
    others = hold.others;
    hold_below = hold.hold_below;
    hold_from = hold.hold_from;
    of_log = of_log;
    commands_are = hold.commands_are;
  }

  -- files that are the same
  pub same-files : (OfLog : List (Piece (ℕ × B)) → List ℕ → Type 0) (files other : Files) → other ≡ files → FilesHold stands_for V state eq applies s limit OfLog first commands files →
      FilesHold stands_for V state eq applies s limit OfLog first commands other
  same-files OfLog files other same hold = subst (FilesHold stands_for V state eq applies s limit OfLog first commands) (sym same) hold

  -- the frames of the log that is read
  pub stands-in : (W : Words (ℕ × B)) (most : ℕ) (files read : Files) (hold : FilesHold stands_for V state eq applies s limit (StandsFor W s limit most) first commands files) → read ≡ files →
      StandsFor W s limit most (hold.passed ++ hold.others) read.log
  stands-in W most files read hold same = subst (λ (f : Files). StandsFor W s limit most (hold.passed ++ hold.others) f.log) (sym same) hold.of_log

  -- with one more frame in the log
  one-more : (OfLog : List (Piece (ℕ × B)) → List ℕ → Type 0) (files other : Files) (OfOld : List (Piece (ℕ × B)) → List ℕ → Type 0) (hold : FilesHold stands_for V state eq applies s limit OfOld first commands files)
      (number : ℕ) (command : B) (word : List ℕ) → number ≡ length commands → other.snapshot ≡ files.snapshot → OfLog (with_kept (hold.passed ++ hold.others) (number, command) word) other.log →
      FilesHold stands_for V state eq applies s limit OfLog first (commands ++ command ∷ []) other
  one-more OfLog files other OfOld hold number command word next same of_log =
      let sizes = ap length hold.commands_are in
      let parts_are = length-append hold.earlier (held_by hold.others) in record {
        earlier = hold.earlier;
        saved = hold.saved;
        has_come = hold.has_come;
        is_number = hold.is_number;
        is_saved = subst (IsSavedAs stands_for V s limit (length hold.earlier) hold.saved) (sym same) hold.is_saved;
        passed = hold.passed;
        others = with_kept hold.others (number, command) word;
        hold_below = hold.hold_below;
        hold_from = row-more (length hold.earlier) number hold.others command word hold.hold_from (omega (arith, next, sizes, parts_are));
        of_log = subst (λ z. OfLog z other.log) (append_assoc hold.passed hold.others (FrameOf (number, command) word ∷ [])) of_log;
        commands_are = ap (λ z. z ++ command ∷ []) hold.commands_are
            ∙ (append_assoc hold.earlier (held_by hold.others) (command ∷ []) ∙ ap (λ z. hold.earlier ++ z) (sym (held-more number hold.others command word)));
      }

  module _ (W : Words (ℕ × B)) (most : ℕ) (files : Files) (hold : FilesHold stands_for V state eq applies s limit (IsLogOf W s limit most) first commands files) (number : ℕ) (command : B) (next : number ≡ length commands) where
    pub one-after : (other : Files) → other.snapshot ≡ files.snapshot → IsAfter W s limit most (hold.passed ++ hold.others) (number, command) other.log →
        FilesHold stands_for V state eq applies s limit (IsLogOf W s limit most) first (commands ++ command ∷ []) other
    one-after other same after = one-more (IsLogOf W s limit most) files other (IsLogOf W s limit most) hold number command after.0 next same after.1

    pub before-or-after : (c : Files) → IsBeforeOrAfter W s limit most (hold.passed ++ hold.others) (number, command) files c → FilesBeforeOrAfter stands_for V state eq applies W s limit most first commands command c
    before-or-after c (same, inl before) = inl (with-log (IsLogOf W s limit most) (StandsFor W s limit most) files c hold same before)
    before-or-after c (same, inr after) = inr (one-more (StandsFor W s limit most) files c (IsLogOf W s limit most) hold number command after.0 next same after.1)

  -- what is replayed of the log leads on from the snapshot
  pub has-come : (OfLog : List (Piece (ℕ × B)) → List ℕ → Type 0) (files : Files) (hold : FilesHold stands_for V state eq applies s limit OfLog first commands files)
      (both_eq : ℕ × B → ℕ × B → Bool) → ((a b : ℕ × B) → both_eq a b ≡ true → (a.0 ≡ b.0) × (eq a.1 b.1 ≡ true)) → (old new : ℕ × S) (replayed : Replayed) →
      old.0 ≡ length hold.earlier → old.1 ≡ state hold.saved → IsRecovered both_eq (AppliesNext applies) (hold.passed ++ hold.others) old new replayed → HasCome eq applies first commands new
  has-come OfLog files hold both_eq parts old new replayed is_number is_state recovered =
      let led = led-past eq both_eq parts applies hold.passed hold.others recovered.commands old new (subst (λ z. HoldBelow z hold.passed) (sym is_number) hold.hold_below)
      (subst (λ z. HoldFrom z hold.others) (sym is_number) hold.hold_from) recovered.equal recovered.run in
      let has_come = hold.has_come in
      let count = led.count in
      let sizes = ap length hold.commands_are in
      let parts_are = length-append hold.earlier (held_by hold.others) in record {
        led = has_come.led ++ led.commands;
        equal = subst (λ z. AreOrEqual eq z (has_come.led ++ led.commands)) (sym hold.commands_are) (are-on eq hold.earlier (held_by hold.others) has_come.led led.commands has_come.equal led.equal);
        run = runs-join applies has_come.led led.commands first (state hold.saved) new.1 has_come.run (subst (λ z. Run applies z led.commands new.1) is_state led.run);
        count = omega (arith, count, sizes, parts_are, is_number);
      }

  module _ (number : ℕ) (machine : M) (small : number < 2 ^ 64) (come : HasCome eq applies first commands (number, state machine)) (bytes : List ℕ) (is_saved : IsSavedAs stands_for V s limit number machine bytes) where
    -- the machine's snapshot, and a log of earlier commands
    pub saved-before : (OfLog : List (Piece (ℕ × B)) → List ℕ → Type 0) (kept : List (Piece (ℕ × B))) (log : List ℕ) → HoldBelow (length commands) kept → OfLog kept log →
        FilesHold stands_for V state eq applies s limit OfLog first commands (record { snapshot = bytes; log = log })
    saved-before OfLog kept log below of_log =
        let count = come.count in record {
          earlier = commands;
          saved = machine;
          has_come = record { led = come.led; equal = come.equal; run = come.run; count = refl };
          is_number = omega (arith, count, small);
          is_saved = subst (λ z. IsSavedAs stands_for V s limit z machine bytes) count is_saved;
          passed = kept;
          others = [];
          hold_below = below;
          hold_from = tt;
          of_log = subst (λ z. OfLog z log) (sym (append-nil kept)) of_log;
          commands_are = sym (append-nil commands);
        }

    -- an empty log has no commands
    pub saved-alone : (W : Words (ℕ × B)) (most : ℕ) (files : Files) → files ≡ record { snapshot = bytes; log = [] } → FilesHold stands_for V state eq applies s limit (IsLogOf W s limit most) first commands files
    saved-alone W most files are = subst (FilesHold stands_for V state eq applies s limit (IsLogOf W s limit most) first commands) (sym are)
        (saved-before (IsLogOf W s limit most) [] [] tt (record { are_pieces = tt; are_kept = tt; bytes_are = refl; are_bytes = All-nil (λ b. b < 256) }))

    -- what a crash leaves while the snapshot takes the place of the log
    pub compacts : (W : Words (ℕ × B)) (most : ℕ) (files c : Files) → FilesStandFor stands_for V state eq applies W s limit most first commands files → CompactsPart bytes files c →
        FilesStandFor stands_for V state eq applies W s limit most first commands c
    compacts W most files c hold (inl same) = subst (FilesStandFor stands_for V state eq applies W s limit most first commands) (sym same) hold
    compacts W most files c hold (inr (n, are)) =
        let front = front-stands W s limit most (hold.passed ++ hold.others) files.log hold.of_log n in
        let sizes = ap length hold.commands_are in
        let parts_are = length-append hold.earlier (held_by hold.others) in
        let below = below-join (length commands) hold.passed hold.others (below-more (length hold.earlier) (length commands) hold.passed (omega (arith, sizes, parts_are)) hold.hold_below)
        (row-below (length hold.earlier) (length commands) hold.others (omega (arith, sizes, parts_are)) hold.hold_from) in
        subst (FilesStandFor stands_for V state eq applies W s limit most first commands) (sym are)
        (saved-before (StandsFor W s limit most) front.kept (take n files.log) (below-front (length commands) front.kept front.cut (subst (HoldBelow (length commands)) front.pieces_are below)) front.stands)
