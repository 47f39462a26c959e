-- What numbered commands come to, from a state that knows how many commands came before it.
use Rattle.std.specs.Prelude.{◌≡◌, ◌+◌, ◌++◌, ℕ, List, [], ◌∷◌, length, Option}
use Rattle.std.proofs.Common.{ap, subst, arith, inl, inr, length-append}
use Rattle.bincode_spec.specs.Format.{Format}
use Rattle.bincode_spec.specs.Meaning.{Meaning}
use Rattle.replay.specs.Replays.{Run, IsReplay}
use Rattle.replay.specs.RunLaws.{runs-join}
use Rattle.replay.specs.declared.replay.Replayed.{Replayed}
use Rattle.snapshots.specs.Numbers.{AppliesNext, NumberedBelow, NumberedFrom, without_numbers}
use Rattle.snapshots.specs.Resumed.{Advances, IsWhole, Continues}

module _ {S A : Type 0} (applies : S → A → S → Type 0) where
  -- commands of earlier numbers change nothing
  passed-over : (passed others : List (ℕ × A)) (old new : ℕ × S) → NumberedBelow old.0 passed → Run (AppliesNext applies) old (passed ++ others) new → Run (AppliesNext applies) old others new
  passed-over [] others old new h r = r
  passed-over (command ∷ passed) others old new h (mid, inl below, r) = passed-over passed others old new h.1 (subst (λ z. Run (AppliesNext applies) z (passed ++ others) new) below.1 r)
  passed-over (command ∷ passed) others old new h (mid, inr applied, r) = let below = h.0 in let same = applied.0 in absurd (omega (arith, below, same))

  -- those that are numbered in a row from the state's number on are applied, one after another
  applied-all : (commands : List (ℕ × A)) (old new : ℕ × S) → NumberedFrom old.0 commands → Run (AppliesNext applies) old commands new →
      Run applies old.1 (without_numbers commands) new.1 × (new.0 ≡ old.0 + length (without_numbers commands))
  applied-all [] old new h r = let same : new.0 ≡ old.0 = ap (λ z. z.0) r in (ap (λ z. z.1) r, omega (arith, same))
  applied-all (command ∷ commands) old new h (mid, inl below, r) = let less = below.0 in let same = h.0 in absurd (omega (arith, less, same))
  applied-all (command ∷ commands) old new h (mid, inr applied, r) =
      let next = applied.1 in
      let then = applied-all commands mid new (subst (λ z. NumberedFrom z commands) (omega (arith, next)) h.1) r in
      let count = then.1 in ((mid.1, applied.2, then.0), omega (arith, next, count))

  -- a snapshot and the commands from its number on come to the state of all commands
  pub whole-run : (commands : List (ℕ × A)) (old new : ℕ × S) → Run (AppliesNext applies) old commands new → IsWhole applies commands old new
  whole-run commands old new r first earlier led count passed others are below row =
      let all = applied-all others old new row (passed-over passed others old new below (subst (λ z. Run (AppliesNext applies) old z new) are r)) in
      let next = all.1 in
      let both = length-append earlier (without_numbers others) in
      (runs-join applies earlier (without_numbers others) first old.1 new.1 led all.0, omega (arith, next, both, count))

  -- one more command before others
  step-advances : (command : ℕ × A) (old mid new : ℕ × S) → AppliesNext applies old command mid → Advances applies mid new → Advances applies old new
  step-advances command old mid new (inl below) then = subst (λ z. Advances applies z new) below.1 then
  step-advances command old mid new (inr applied) then =
      let next = applied.1 in
      let count = then.count in record {
        commands = command.1 ∷ then.commands;
        run = (mid.1, applied.2, then.run);
        count = omega (arith, next, count);
      }

  -- whatever the commands' numbers, those that are applied lead on
  pub advances-run : (commands : List (ℕ × A)) (old new : ℕ × S) → Run (AppliesNext applies) old commands new → Advances applies old new
  advances-run [] old new r = let same : new.0 ≡ old.0 = ap (λ z. z.0) r in record { commands = []; run = ap (λ z. z.1) r; count = omega (arith, same) }
  advances-run (command ∷ commands) old new r = step-advances command old r.0 new r.1 (advances-run commands r.0 new r.2)

  -- what is replayed of numbered commands continues the state
  pub replay-continues : (F : Format Meaning) (limit : Option ℕ) (decodes_to : Meaning → ℕ × A → Type 0) (most : ℕ) (log : List ℕ) (old new : ℕ × S) (replayed : Replayed) →
      IsReplay (AppliesNext applies) F limit decodes_to most log old new replayed → Continues applies F limit decodes_to most log old new replayed
  replay-continues F limit decodes_to most log old new replayed r = let before = r.before in record {
    commands = before.commands;
    rest = r.rest;
    frames = before.frames;
    ends = r.ends;
    count = before.count;
    whole = whole-run before.commands old new before.run;
  }
