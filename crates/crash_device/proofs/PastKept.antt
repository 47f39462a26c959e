-- One more content joins those that a device has had.
use Rattle.std.proofs.Common.{◌≡◌, ◌⊎◌, inl, inr, ⊎_elim, ℕ, zero, suc, ◌≤◌, List, [], ◌∷◌, ◌++◌, length, drop, refl, sym, ◌∙◌, subst, arith, length-append}
use Rattle.crash_device.specs.declared.memory.Contents.{Contents}
use Rattle.crash_device.specs.Files.{Files}
use Rattle.crash_device.specs.Moments.{Elapses}
use Rattle.crash_device.specs.Past.{files_of, HadBeen, LeftSince}

had-before : (past : List Contents) (v : Contents) (c : Files) → HadBeen past c → HadBeen (past ++ v ∷ []) c
had-before [] v c had = absurd had
had-before (p ∷ past) v c (inl here) = inl here
had-before (p ∷ past) v c (inr there) = inr (had-before past v c there)

had-since : (past : List Contents) (v : Contents) (c : Files) → HadBeen (past ++ v ∷ []) c → HadBeen past c ⊎ (c ≡ files_of v)
had-since [] v c (inl here) = inr here
had-since [] v c (inr none) = absurd none
had-since (p ∷ past) v c (inl here) = inl (inl here)
had-since (p ∷ past) v c (inr there) = ⊎_elim (λ had. inl (inr had)) (λ new. inr new) (had-since past v c there)

had-last : (past : List Contents) (v : Contents) (c : Files) → c ≡ files_of v → HadBeen (past ++ v ∷ []) c
had-last [] v c is = inl is
had-last (p ∷ past) v c is = inr (had-last past v c is)

drop-push : (t : ℕ) (past : List Contents) (v : Contents) → t ≤ length past → drop t (past ++ v ∷ []) ≡ drop t past ++ v ∷ []
drop-push zero past v le = refl
drop-push (suc t) [] v le = absurd (omega arith)
drop-push (suc t) (p ∷ past) v le = drop-push t past v (omega arith)

elapses-push : (past : List Contents) (v : Contents) (old new : Files) → files_of v ≡ old → Elapses (length past) (length (past ++ v ∷ [])) (LeftSince past old) (LeftSince (past ++ v ∷ []) new) (λ c. c ≡ new)
elapses-push past v old new is = record {
  later = omega (arith, length-append past (v ∷ []));
  nothing_else = λ t c le left. ⊎_elim (λ now. inr now) (λ had. inl (was t c (had-since (drop t past) v c (subst (λ (l : List Contents). HadBeen l c) (drop-push t past v le) had)))) left;
  keeps = λ t c le left. inr (subst (λ (l : List Contents). HadBeen l c) (sym (drop-push t past v le)) (⊎_elim (λ now. had-last (drop t past) v c (now ∙ sym is)) (had-before (drop t past) v c) left));
}
  where
    was : (t : ℕ) (c : Files) → HadBeen (drop t past) c ⊎ (c ≡ files_of v) → LeftSince past old t c
    was t c (inl had) = inr had
    was t c (inr new) = inl (new ∙ is)

-- the old content joins the past
pub elapses-kept : (past later : List Contents) (v : Contents) (old new : Files) → files_of v ≡ old → later ≡ past ++ v ∷ [] → Elapses (length past) (length later) (LeftSince past old) (LeftSince later new) (λ c. c ≡ new)
elapses-kept past later v old new is same =
    subst (λ (l : List Contents). Elapses (length past) (length l) (LeftSince past old) (LeftSince l new) (λ c. c ≡ new)) (sym same) (elapses-push past v old new is)
