-- How a run of device calls goes on.
use Rattle.std.proofs.Common.{inl, inr, ⊎_elim, ℕ, sym, subst, arith}
use Rattle.crash_device.specs.Files.{Files}
use Rattle.crash_device.specs.Moments.{Only, Elapses, LeavesOnly}

module _ {D : Type 0} (moment : D → ℕ) (left_since : D → ℕ → Files → Type 0) where
  -- before the first call
  started : (old : D) (P : Files → Type 0) → ((c : Files) → left_since old (moment old) c → P c) → LeavesOnly moment left_since old old P
  started old P here = record { later = omega arith; each = here; before = λ t c le left. inl left }

  -- one call more, after which a crash leaves what has P
  pub goes_on : (old mid new : D) (P may_leave : Files → Type 0) → LeavesOnly moment left_since old mid P → Elapses (moment mid) (moment new) (left_since mid) (left_since new) may_leave
      → ((c : Files) → may_leave c → P c) → LeavesOnly moment left_since old new P
  goes_on old mid new P may_leave so_far time here = record {
    later = omega (arith, so_far.later, time.later);
    each = λ c left. ⊎_elim (so_far.each c) (here c) (time.nothing_else (moment old) c so_far.later left);
    before = λ t c le left. ⊎_elim (so_far.before t c le) (λ now. inr (here c now)) (time.nothing_else t c (omega (arith, le, so_far.later)) left);
  }

  -- the first call, before which a crash left these files
  pub begins : (old new : D) (files : Files) (P was may_leave : Files → Type 0) → Only files was → ((c : Files) → left_since old (moment old) c → was c) → P files
      → Elapses (moment old) (moment new) (left_since old) (left_since new) may_leave → ((c : Files) → may_leave c → P c) → LeavesOnly moment left_since old new P
  begins old new files P was may_leave only only_now at_first time here =
      goes_on old old new P may_leave (started old P (λ c left. subst P (sym (only c (only_now c left))) at_first)) time here

  -- a run of calls more
  pub continues : (old mid new : D) (P Q : Files → Type 0) → LeavesOnly moment left_since old mid P → LeavesOnly moment left_since mid new Q → ((c : Files) → Q c → P c) → LeavesOnly moment left_since old new P
  continues old mid new P Q so_far more within = record {
    later = omega (arith, so_far.later, more.later);
    each = λ c left. ⊎_elim (so_far.each c) (within c) (more.before (moment old) c so_far.later left);
    before = λ t c le left. ⊎_elim (so_far.before t c le) (λ now. inr (within c now)) (more.before t c (omega (arith, le, so_far.later)) left);
  }

  -- with less said of each outcome
  pub weaker : (old new : D) (P Q : Files → Type 0) → LeavesOnly moment left_since old new P → ((c : Files) → P c → Q c) → LeavesOnly moment left_since old new Q
  weaker old new P Q leaves within = record {
    later = leaves.later;
    each = λ c left. within c (leaves.each c left);
    before = λ t c le left. ⊎_elim (λ was. inl was) (λ now. inr (within c now)) (leaves.before t c le left);
  }

  -- no call was made
  pub stays : (old : D) (files : Files) (P was : Files → Type 0) → Only files was → ((c : Files) → left_since old (moment old) c → was c) → P files → LeavesOnly moment left_since old old P
  stays old files P was only only_now at_first = started old P (λ c left. subst P (sym (only c (only_now c left))) at_first)
