-- Each way to make a format gives a lawful one, and so every format of `Words` is lawful.
use Rattle.std.specs.Prelude.{Some, ◌≡◌, ℕ, zero, suc, ◌-◌, ◌<◌, ◌≤◌, ◌⊎◌, List, [], ◌∷◌, ◌++◌, length, take, drop, refl, Result, Ok, Err, replicate, All}
use Rattle.std.proofs.Common.{sym, ◌∙◌, ap, subst, inl, inr, append_assoc, arith, append-nil, lit<}
use Rattle.std.proofs.Math.Seq.{take-append_seam, drop-append_seam}
use Rattle.std.proofs.lemmas.List.Elements.{All-nil, All-append, All-replicate}
use Rattle.std.proofs.lemmas.Bool.{cases_lt, le-ltb, lt-ltb}
use Rattle.std.proofs.lemmas.List.{append_cancel_right, take-append-drop, length-append, length-take, length-replicate}
use Rattle.bincode_spec.specs.Fault.{Fault, End, IsEnd, InvalidInteger, Zero, UnexpectedVariant, Utf8}
use Rattle.bincode_spec.specs.Fault.{InvalidChar, InvalidBool, InvalidDuration, NulAt, Other, LengthMismatch, EmptyEnum, OutsideUsize}
use Rattle.bincode_spec.specs.Charge.{Step, Charge, Reserve, Release}
use Rattle.bincode_spec.specs.Format.{Format, Reading, Took, Failed, after_steps, then_read, pure, fail, fixed_bytes, step, ◌>>=◌, InTurn, WrittenInTurn}
use Rattle.bincode_spec.specs.Format.{FaultsLater, fault_without_count, reading_without_count, without_count, written_as, from_result, map_format, charge_then, elements, sequence}
use Rattle.bincode_spec.specs.Layers.Laws.{IsStepPrefix, BeginsWith, steps_of, IsAnswered, Completion, IsLawful}

-- what follows for every format

module _ {A : Type 0} {F : Format A} where
  -- no word is a proper front of another, and a word has one meaning and one list of steps
  pub one-word : IsLawful F → (a b x y : List ℕ) (m n : A) (s t : List Step) → F.Word a m s → F.Word b n t → a ++ x ≡ b ++ y → (a ≡ b) × (m ≡ n) × (s ≡ t)
  one-word f a b x y m n s t u v e =
      let p : Took m x s ≡ Took n y t = sym (f.word_read a x m s u) ∙ ap F.read e ∙ f.word_read b y n t v in
      let q : x ≡ y = cc in
      (append_cancel_right a b x (e ∙ ap (λ z. b ++ z) (sym q)), cc, cc)

  -- an input never begins with a word and has a fault
  pub apart : IsLawful F → (a x : List ℕ) (m : A) (s t : List Step) (fault : Fault) → F.Word a m s → F.Faults (a ++ x) fault t → ⊥
  apart f a x m s t fault u h =
      let p : Took m x s ≡ Failed fault t = sym (f.word_read a x m s u) ∙ f.fault_read (a ++ x) fault t h in
      cc

  -- an input has one fault
  pub one-fault : IsLawful F → (input : List ℕ) (p q : Fault) (s t : List Step) → F.Faults input p s → F.Faults input q t → (p ≡ q) × (s ≡ t)
  one-fault f input p q s t h k =
      let e : ◌≡◌ {A = Reading A} (Failed p s) (Failed q t) = sym (f.fault_read input p s h) ∙ f.fault_read input q t k in
      (cc, cc)

-- the formats that take no part

pub pure-lawful : {A : Type 0} (a : A) → IsLawful (pure a)
unfolding pure
pure-lawful a = record {
  word_read = λ word remaining m s u. rw (u.0, u.1, u.2) refl;
  read_word = λ input remaining m s e. record { word = []; input_is = cc; is_word = (refl, cc, cc) };
  fault_read = λ _ _ _ h. absurd h;
  read_fault = λ _ _ _ e. cc;
  stays = λ _ _ _ _ _ e. cc;
  begun = λ _ _ _ _ _ e. absurd (cc);
  mended = λ _ _ _ _ e. absurd (cc);
  written_is_word = λ _ _ w. ([], (w.0, w.1, refl));
}

-- the end of the input cannot be the fault: more bytes would have to complete the input
pub fail-lawful : {A : Type 0} (why : Fault) → ¬ (IsEnd why) → IsLawful (fail {A = A} why)
unfolding fail
fail-lawful {A} why other = record {
  word_read = λ _ _ _ _ u. absurd u;
  read_word = λ input remaining m s e. cc;
  fault_read = λ input fault s h. rw (h.0, h.1) refl;
  read_fault = λ input fault s e. (cc, cc);
  stays = λ input more fault s h e. e;
  begun = λ input more fault s h e. let p : fault ≡ why = cc in absurd (other (subst IsEnd p h));
  mended = λ input fault s h e. let p : fault ≡ why = cc in absurd (other (subst IsEnd p h));
  written_is_word = λ _ _ w. absurd w;
}

pub step-lawful : (change : Step) → IsLawful (step change)
unfolding step
step-lawful change = record {
  word_read = λ word remaining m s u. rw (u.0, u.1) refl;
  read_word = λ input remaining m s e. record { word = []; input_is = cc; is_word = (refl, cc) };
  fault_read = λ _ _ _ h. absurd h;
  read_fault = λ _ _ _ e. cc;
  stays = λ _ _ _ _ _ e. cc;
  begun = λ _ _ _ _ _ e. absurd (cc);
  mended = λ _ _ _ _ e. absurd (cc);
  written_is_word = λ _ _ w. (change ∷ [], (w, refl));
}

-- reading n bytes: there are enough, or not
fixed_bytes_enough : (n : ℕ) (input : List ℕ) → n ≤ length input → (fixed_bytes n).read input ≡ Took (take n input) (drop n input) []
unfolding fixed_bytes
fixed_bytes_enough n input h = rw (le-ltb (length input) n h) refl

fixed_bytes_short : (n : ℕ) (input : List ℕ) → length input < n → (fixed_bytes n).read input ≡ Failed (End (Some (n - length input))) []
unfolding fixed_bytes
fixed_bytes_short n input h = rw (lt-ltb (length input) n h) refl

-- from a reading of two programs to one of each
pub record TookBoth {A B : Type 0} (first : Reading A) (next : A → List ℕ → Reading B) (m : B) (remaining : List ℕ) (s : List Step) : Type 0 where
  pub head : A
  pub middle : List ℕ
  pub first_steps : List Step
  pub second_steps : List Step
  pub first_is : first ≡ Took head middle first_steps
  pub second_is : next head middle ≡ Took m remaining second_steps
  pub steps_are : s ≡ first_steps ++ second_steps

pub record FailedLater {A B : Type 0} (first : Reading A) (next : A → List ℕ → Reading B) (fault : Fault) (s : List Step) : Type 0 where
  pub head : A
  pub middle : List ℕ
  pub first_steps : List Step
  pub second_steps : List Step
  pub first_is : first ≡ Took head middle first_steps
  pub second_is : next head middle ≡ Failed fault second_steps
  pub steps_are : s ≡ first_steps ++ second_steps

took_after : {B : Type 0} (s : List Step) (second : Reading B) (m : B) (remaining : List ℕ) (t : List Step) → after_steps s second ≡ Took m remaining t →
    (others : List Step) × (second ≡ Took m remaining others) × (t ≡ s ++ others)
took_after s (Took n more u) m remaining t e = (u, cc, cc)
took_after s (Failed why u) m remaining t e = absurd (cc)

failed_after : {B : Type 0} (s : List Step) (second : Reading B) (fault : Fault) (t : List Step) → after_steps s second ≡ Failed fault t →
    (others : List Step) × (second ≡ Failed fault others) × (t ≡ s ++ others)
failed_after s (Took n more u) fault t e = absurd (cc)
failed_after s (Failed why u) fault t e = (u, cc, cc)

took_both : {A B : Type 0} (first : Reading A) (next : A → List ℕ → Reading B) (m : B) (remaining : List ℕ) (s : List Step) → then_read first next ≡ Took m remaining s → TookBoth first next m remaining s
took_both (Took head middle t) next m remaining s e =
    let p = took_after t (next head middle) m remaining s e in
    record { head = head; middle = middle; first_steps = t; second_steps = p.0; first_is = refl; second_is = p.1; steps_are = p.2 }
took_both (Failed why t) next m remaining s e = absurd (cc)

failed_either : {A B : Type 0} (first : Reading A) (next : A → List ℕ → Reading B) (fault : Fault) (s : List Step) →
    then_read first next ≡ Failed fault s → (first ≡ Failed fault s) ⊎ FailedLater first next fault s
failed_either (Took head middle t) next fault s e =
    let p = failed_after t (next head middle) fault s e in
    inr (record { head = head; middle = middle; first_steps = t; second_steps = p.0; first_is = refl; second_is = p.1; steps_are = p.2 })
failed_either (Failed why t) next fault s e = inl cc

fixed_bytes_word_read : (n : ℕ) (word remaining : List ℕ) (m : List ℕ) (s : List Step) → (fixed_bytes n).Word word m s → (fixed_bytes n).read (word ++ remaining) ≡ Took m remaining s
unfolding fixed_bytes
fixed_bytes_word_read n word remaining m s u =
    let h : n ≤ length (word ++ remaining) = rw length-append (omega (arith, u.0)) in
    let front : take n (word ++ remaining) ≡ word = rw (← u.0) (take-append_seam word remaining) in
    let back : drop n (word ++ remaining) ≡ remaining = rw (← u.0) (drop-append_seam word remaining) in
    fixed_bytes_enough n (word ++ remaining) h ∙ rw (front, back, u.1, u.2) refl

fixed_bytes_read_word : (n : ℕ) (input remaining : List ℕ) (m : List ℕ) (s : List Step) → (length input < n) ⊎ (n ≤ length input) → (fixed_bytes n).read input ≡ Took m remaining s → BeginsWith (fixed_bytes n) input m remaining s
unfolding fixed_bytes
fixed_bytes_read_word n input remaining m s (inl h) e =
    let p : ◌≡◌ {A = Reading (List ℕ)} (Failed (End (Some (n - length input))) []) (Took m remaining s) = sym (fixed_bytes_short n input h) ∙ e in absurd (cc)
fixed_bytes_read_word n input remaining m s (inr h) e =
    let p : ◌≡◌ {A = Reading (List ℕ)} (Took (take n input) (drop n input) []) (Took m remaining s) = sym (fixed_bytes_enough n input h) ∙ e in
    let q : drop n input ≡ remaining = cc in
    record { word = take n input; input_is = sym (take-append-drop n input) ∙ ap (λ z. take n input ++ z) q; is_word = (simp length-take (omega (arith, h)), cc, cc) }

fixed_bytes_read_fault : (n : ℕ) (input : List ℕ) (fault : Fault) (s : List Step) → (length input < n) ⊎ (n ≤ length input) →
    (fixed_bytes n).read input ≡ Failed fault s → (length input < n) × (fault ≡ End (Some (n - length input))) × (s ≡ [])
fixed_bytes_read_fault n input fault s (inl h) e =
    let p : ◌≡◌ {A = Reading (List ℕ)} (Failed (End (Some (n - length input))) []) (Failed fault s) = sym (fixed_bytes_short n input h) ∙ e in (h, cc, cc)
fixed_bytes_read_fault n input fault s (inr h) e =
    let p : ◌≡◌ {A = Reading (List ℕ)} (Took (take n input) (drop n input) []) (Failed fault s) = sym (fixed_bytes_enough n input h) ∙ e in absurd (cc)

fixed_bytes_mended : (n : ℕ) (input : List ℕ) → length input < n → Completion (fixed_bytes n).read input
fixed_bytes_mended n input h =
    let k : n ≤ length (input ++ replicate (n - length input) 0) = simp (length-append, length-replicate) (omega (arith, h)) in
    record {
      more = replicate (n - length input) 0;
      are_bytes = All-replicate (λ b. b < 256) (n - length input) 0 (lit< tt);
      answered = rw (fixed_bytes_enough n (input ++ replicate (n - length input) 0) k) tt;
    }

pub fixed_bytes-lawful : (n : ℕ) → IsLawful (fixed_bytes n)
unfolding fixed_bytes
fixed_bytes-lawful n = record {
  word_read = fixed_bytes_word_read n;
  read_word = λ input remaining m s e. fixed_bytes_read_word n input remaining m s (cases_lt (length input) n) e;
  fault_read = λ input fault s h. fixed_bytes_short n input h.0 ∙ rw (h.1, h.2) refl;
  read_fault = λ input fault s e. fixed_bytes_read_fault n input fault s (cases_lt (length input) n) e;
  stays = λ input more fault s other e. absurd (other (subst IsEnd (sym (fixed_bytes_read_fault n input fault s (cases_lt (length input) n) e).1) tt));
  begun = λ input more fault s h e. (steps_of ((fixed_bytes n).read (input ++ more)), rw (fixed_bytes_read_fault n input fault s (cases_lt (length input) n) e).2 refl);
  mended = λ input fault s h e. fixed_bytes_mended n input (fixed_bytes_read_fault n input fault s (cases_lt (length input) n) e).0;
  written_is_word = λ word m w. ([], (w.0, w.1, refl));
}

pub end-or-other : (fault : Fault) → IsEnd fault ⊎ ¬ (IsEnd fault)
end-or-other (End _) = inl tt
end-or-other (InvalidInteger _ _) = inr (λ h. h)
end-or-other (Zero _) = inr (λ h. h)
end-or-other (UnexpectedVariant _ _) = inr (λ h. h)
end-or-other Utf8 = inr (λ h. h)
end-or-other (InvalidChar _) = inr (λ h. h)
end-or-other (InvalidBool _) = inr (λ h. h)
end-or-other (InvalidDuration _ _) = inr (λ h. h)
end-or-other (NulAt _) = inr (λ h. h)
end-or-other (Other _) = inr (λ h. h)
end-or-other (LengthMismatch _ _) = inr (λ h. h)
end-or-other EmptyEnum = inr (λ h. h)
end-or-other (OutsideUsize _) = inr (λ h. h)

-- what is answered stays answered after more steps
answered_after : {B : Type 0} (s : List Step) (r : Reading B) → IsAnswered r → IsAnswered (after_steps s r)
answered_after s (Took _ _ _) h = tt
answered_after s (Failed _ _) h = h

begun_after : {B : Type 0} (s t : List Step) (r : Reading B) → IsStepPrefix t (steps_of r) → IsStepPrefix (s ++ t) (steps_of (after_steps s r))
begun_after s t (Took _ _ u) b = (b.0, ap (λ z. s ++ z) b.1 ∙ sym (append_assoc s t b.0))
begun_after s t (Failed _ u) b = (b.0, ap (λ z. s ++ z) b.1 ∙ sym (append_assoc s t b.0))

begun_more : {B : Type 0} (s t : List Step) (r : Reading B) → IsStepPrefix s t → IsStepPrefix s (steps_of (after_steps t r))
begun_more s t (Took _ _ u) b = (b.0 ++ u, ap (λ z. z ++ u) b.1 ∙ append_assoc s b.0 u)
begun_more s t (Failed _ u) b = (b.0 ++ u, ap (λ z. z ++ u) b.1 ∙ append_assoc s b.0 u)

module _ {A B : Type 0} (F : Format A) (G : A → Format B) (f : IsLawful F) (g : (a : A) → IsLawful (G a)) where
  turn_word_read : (word remaining : List ℕ) (m : B) (s : List Step) → InTurn F G word m s → (F >>= G).read (word ++ remaining) ≡ Took m remaining s
  unfolding ◌>>=◌
  turn_word_read word remaining m s u =
      let e : word ++ remaining ≡ u.first ++ (u.second ++ remaining) = ap (λ z. z ++ remaining) u.bytes_are ∙ append_assoc u.first u.second remaining in
      let p = f.word_read u.first (u.second ++ remaining) u.head u.first_steps u.first_word in
      let q = (g u.head).word_read u.second remaining m u.second_steps u.second_word in
      rw (e, p, q, u.steps_are) refl

  turn_read_word : (input remaining : List ℕ) (m : B) (s : List Step) → (F >>= G).read input ≡ Took m remaining s → BeginsWith (F >>= G) input m remaining s
  unfolding ◌>>=◌
  turn_read_word input remaining m s e =
      let b = took_both (F.read input) (λ head more. (G head).read more) m remaining s e in
      let p = f.read_word input b.middle b.head b.first_steps b.first_is in
      let q = (g b.head).read_word b.middle remaining m b.second_steps b.second_is in
      record {
        word = p.word ++ q.word;
        input_is = p.input_is ∙ ap (λ z. p.word ++ z) q.input_is ∙ sym (append_assoc p.word q.word remaining);
        is_word = record {
          first = p.word;
          second = q.word;
          head = b.head;
          first_steps = b.first_steps;
          second_steps = b.second_steps;
          bytes_are = refl;
          steps_are = b.steps_are;
          first_word = p.is_word;
          second_word = q.is_word;
        };
      }

  turn_fault_read : (input : List ℕ) (fault : Fault) (s : List Step) → F.Faults input fault s ⊎ FaultsLater F G input fault s → (F >>= G).read input ≡ Failed fault s
  unfolding ◌>>=◌
  turn_fault_read input fault s (inl h) = rw (f.fault_read input fault s h) refl
  turn_fault_read input fault s (inr v) =
      let p = f.word_read v.first v.remaining v.head v.first_steps v.first_word in
      let q = (g v.head).fault_read v.remaining fault v.rest_steps v.rest_faults in
      rw (v.input_is, p, q, v.steps_are) refl

  turn_later : (input : List ℕ) (fault : Fault) (s : List Step) → FailedLater (F.read input) (λ head more. (G head).read more) fault s → FaultsLater F G input fault s
  turn_later input fault s b =
      let p = f.read_word input b.middle b.head b.first_steps b.first_is in
      record {
        first = p.word;
        remaining = b.middle;
        head = b.head;
        first_steps = b.first_steps;
        rest_steps = b.second_steps;
        input_is = p.input_is;
        steps_are = b.steps_are;
        first_word = p.is_word;
        rest_faults = (g b.head).read_fault b.middle fault b.second_steps b.second_is;
      }

  turn_read_fault : (input : List ℕ) (fault : Fault) (s : List Step) →
      (F.read input ≡ Failed fault s) ⊎ FailedLater (F.read input) (λ head more. (G head).read more) fault s →
      F.Faults input fault s ⊎ FaultsLater F G input fault s
  turn_read_fault input fault s (inl h) = inl (f.read_fault input fault s h)
  turn_read_fault input fault s (inr b) = inr (turn_later input fault s b)

  -- the first word begins each longer input
  first_stands : (input more middle : List ℕ) (head : A) (s : List Step) → F.read input ≡ Took head middle s → (F >>= G).read (input ++ more) ≡ after_steps s ((G head).read (middle ++ more))
  unfolding ◌>>=◌
  first_stands input more middle head s e =
      let p = f.read_word input middle head s e in
      let q : input ++ more ≡ p.word ++ (middle ++ more) = ap (λ z. z ++ more) p.input_is ∙ append_assoc p.word middle more in
      rw (q, f.word_read p.word (middle ++ more) head s p.is_word) refl

  turn_stays : (input more : List ℕ) (fault : Fault) (s : List Step) → ¬ (IsEnd fault) →
      (F.read input ≡ Failed fault s) ⊎ FailedLater (F.read input) (λ head remaining. (G head).read remaining) fault s →
      (F >>= G).read (input ++ more) ≡ Failed fault s
  unfolding ◌>>=◌
  turn_stays input more fault s other (inl h) = rw (f.stays input more fault s other h) refl
  turn_stays input more fault s other (inr b) =
      let p = (g b.head).stays b.middle more fault b.second_steps other b.second_is in
      first_stands input more b.middle b.head b.first_steps b.first_is ∙ rw (p, b.steps_are) refl

  then_begun : (s : List Step) (r : Reading A) → IsStepPrefix s (steps_of r) → IsStepPrefix s (steps_of (then_read r (λ head remaining. (G head).read remaining)))
  then_begun s (Took head remaining t) b = begun_more s t ((G head).read remaining) b
  then_begun s (Failed why t) b = b

  turn_begun : (input more : List ℕ) (fault : Fault) (s : List Step) → IsEnd fault →
      (F.read input ≡ Failed fault s) ⊎ FailedLater (F.read input) (λ head remaining. (G head).read remaining) fault s →
      IsStepPrefix s (steps_of ((F >>= G).read (input ++ more)))
  unfolding ◌>>=◌
  turn_begun input more fault s end (inl h) = then_begun s (F.read (input ++ more)) (f.begun input more fault s end h)
  turn_begun input more fault s end (inr b) =
      let p = (g b.head).begun b.middle more fault b.second_steps end b.second_is in
      rw (first_stands input more b.middle b.head b.first_steps b.first_is, b.steps_are) (begun_after b.first_steps b.second_steps ((G b.head).read (b.middle ++ more)) p)

  -- if the second is completed, so is the whole
  later_mended : (input middle : List ℕ) (head : A) (s : List Step) → F.read input ≡ Took head middle s → Completion (G head).read middle → Completion (F >>= G).read input
  unfolding ◌>>=◌
  later_mended input middle head s e h = record {
    more = h.more;
    are_bytes = h.are_bytes;
    answered = rw (first_stands input h.more middle head s e) (answered_after s ((G head).read (middle ++ h.more)) h.answered);
  }

  failed_mended : (head : A) (middle : List ℕ) (why : Fault) (t : List Step) → IsEnd why ⊎ ¬ (IsEnd why) → (G head).read middle ≡ Failed why t → Completion (G head).read middle
  failed_mended head middle why t (inl h) e = (g head).mended middle why t h e
  failed_mended head middle why t (inr h) e = record { more = []; are_bytes = All-nil (λ b. b < 256); answered = rw (append-nil middle) (rw e h) }

  -- an input that is answered needs no more bytes, and one that ends too early is completed
  second_mended : (head : A) (middle : List ℕ) (r : Reading B) → (G head).read middle ≡ r → Completion (G head).read middle
  second_mended head middle (Took m remaining t) e = record { more = []; are_bytes = All-nil (λ b. b < 256); answered = rw (append-nil middle) (rw e tt) }
  second_mended head middle (Failed why t) e = failed_mended head middle why t (end-or-other why) e

  first_mended : (input more : List ℕ) → All (λ b. b < 256) more → (r : Reading A) → F.read (input ++ more) ≡ r → IsAnswered r → Completion (F >>= G).read input
  unfolding ◌>>=◌
  first_mended input more small (Took head middle t) e h =
      let p = later_mended (input ++ more) middle head t e (second_mended head middle ((G head).read middle) refl) in
      record {
        more = more ++ p.more;
        are_bytes = All-append (λ b. b < 256) more p.more small p.are_bytes;
        answered = subst (λ z. IsAnswered ((F >>= G).read z)) (append_assoc input more p.more) p.answered;
      }
  first_mended input more small (Failed why t) e h = record { more = more; are_bytes = small; answered = rw e h }

  turn_mended : (input : List ℕ) (fault : Fault) (s : List Step) → IsEnd fault →
      (F.read input ≡ Failed fault s) ⊎ FailedLater (F.read input) (λ head remaining. (G head).read remaining) fault s → Completion (F >>= G).read input
  unfolding ◌>>=◌
  turn_mended input fault s end (inl h) = let p = f.mended input fault s end h in first_mended input p.more p.are_bytes (F.read (input ++ p.more)) refl p.answered
  turn_mended input fault s end (inr b) = later_mended input b.middle b.head b.first_steps b.first_is ((g b.head).mended b.middle fault b.second_steps end b.second_is)

  turn_written : (word : List ℕ) (m : B) → WrittenInTurn F G word m → (s : List Step) × InTurn F G word m s
  turn_written word m w =
      let p = f.written_is_word w.first w.head w.first_written in
      let q = (g w.head).written_is_word w.second m w.second_written in
      (p.0 ++ q.0, record { first = w.first; second = w.second; head = w.head; first_steps = p.0; second_steps = q.0; bytes_are = w.bytes_are; steps_are = refl; first_word = p.1; second_word = q.1 })

  either : (input : List ℕ) (fault : Fault) (s : List Step) → (F >>= G).read input ≡ Failed fault s →
      (F.read input ≡ Failed fault s) ⊎ FailedLater (F.read input) (λ head remaining. (G head).read remaining) fault s
  unfolding ◌>>=◌
  either input fault s e = failed_either (F.read input) (λ head remaining. (G head).read remaining) fault s e

  pub turn-lawful : IsLawful (F >>= G)
  unfolding ◌>>=◌
  turn-lawful = record {
    word_read = turn_word_read;
    read_word = turn_read_word;
    fault_read = turn_fault_read;
    read_fault = λ input fault s e. turn_read_fault input fault s (either input fault s e);
    stays = λ input more fault s other e. turn_stays input more fault s other (either input fault s e);
    begun = λ input more fault s end e. turn_begun input more fault s end (either input fault s e);
    mended = λ input fault s end e. turn_mended input fault s end (either input fault s e);
    written_is_word = turn_written;
  }

-- other words may be chosen for writing
pub rewritten-lawful : {A : Type 0} (Chosen : List ℕ → A → Type 0) (F : Format A) → IsLawful F →
    ((word : List ℕ) (m : A) → Chosen word m → (s : List Step) × F.Word word m s) → IsLawful (written_as Chosen F)
unfolding written_as
rewritten-lawful Chosen F f chosen = record {
  word_read = f.word_read;
  read_word = λ input remaining m s e. let p = f.read_word input remaining m s e in record { word = p.word; input_is = p.input_is; is_word = p.is_word };
  fault_read = f.fault_read;
  read_fault = f.read_fault;
  stays = f.stays;
  begun = f.begun;
  mended = f.mended;
  written_is_word = chosen;
}

-- A fault without a count is the end of the input exactly if the fault is.
vague_end : (fault : Fault) → IsEnd (fault_without_count fault) → IsEnd fault
vague_end (End missing) h = tt
vague_end (InvalidInteger _ _) h = h
vague_end (Zero _) h = h
vague_end (UnexpectedVariant _ _) h = h
vague_end Utf8 h = h
vague_end (InvalidChar _) h = h
vague_end (InvalidBool _) h = h
vague_end (InvalidDuration _ _) h = h
vague_end (NulAt _) h = h
vague_end (Other _) h = h
vague_end (LengthMismatch _ _) h = h
vague_end EmptyEnum h = h
vague_end (OutsideUsize _) h = h

end_vague : (fault : Fault) → IsEnd fault → IsEnd (fault_without_count fault)
end_vague (End missing) h = tt
end_vague (InvalidInteger _ _) h = h
end_vague (Zero _) h = h
end_vague (UnexpectedVariant _ _) h = h
end_vague Utf8 h = h
end_vague (InvalidChar _) h = h
end_vague (InvalidBool _) h = h
end_vague (InvalidDuration _ _) h = h
end_vague (NulAt _) h = h
end_vague (Other _) h = h
end_vague (LengthMismatch _ _) h = h
end_vague EmptyEnum h = h
end_vague (OutsideUsize _) h = h

took_vaguely : {A : Type 0} (r : Reading A) (m : A) (remaining : List ℕ) (s : List Step) → reading_without_count r ≡ Took m remaining s → r ≡ Took m remaining s
took_vaguely (Took n more t) m remaining s e = e
took_vaguely (Failed why t) m remaining s e = absurd (cc)

failed_vaguely : {A : Type 0} (r : Reading A) (fault : Fault) (s : List Step) → reading_without_count r ≡ Failed fault s → (inner : Fault) × (r ≡ Failed inner s) × (fault ≡ fault_without_count inner)
failed_vaguely (Took n more t) fault s e = absurd (cc)
failed_vaguely (Failed why t) fault s e = (why, cc, cc)

answered_vaguely : {A : Type 0} (r : Reading A) → IsAnswered r → IsAnswered (reading_without_count r)
answered_vaguely (Took _ _ _) h = tt
answered_vaguely (Failed why _) h = λ k. h (vague_end why k)

steps_vaguely : {A : Type 0} (r : Reading A) → steps_of (reading_without_count r) ≡ steps_of r
steps_vaguely (Took _ _ _) = refl
steps_vaguely (Failed _ _) = refl

pub without_count-lawful : {A : Type 0} (F : Format A) → IsLawful F → IsLawful (without_count F)
unfolding without_count
without_count-lawful F f = record {
  word_read = λ word remaining m s u. rw (f.word_read word remaining m s u) refl;
  read_word = λ input remaining m s e. let p = f.read_word input remaining m s (took_vaguely (F.read input) m remaining s e) in record { word = p.word; input_is = p.input_is; is_word = p.is_word };
  fault_read = λ input fault s h. rw (f.fault_read input h.0 s h.1, h.2) refl;
  read_fault = λ input fault s e. let p = failed_vaguely (F.read input) fault s e in (p.0, f.read_fault input p.0 s p.1, p.2);
  stays = λ input more fault s other e.
      let p = failed_vaguely (F.read input) fault s e in
      let q = f.stays input more p.0 s (λ k. other (subst IsEnd (sym p.2) (end_vague p.0 k))) p.1 in
      ap reading_without_count q ∙ ap (λ z. Failed z s) (sym p.2);
  begun = λ input more fault s end e.
      let p = failed_vaguely (F.read input) fault s e in
      let q = f.begun input more p.0 s (vague_end p.0 (subst IsEnd p.2 end)) p.1 in
      rw (steps_vaguely (F.read (input ++ more))) q;
  mended = λ input fault s end e.
      let p = failed_vaguely (F.read input) fault s e in
      let q = f.mended input p.0 s (vague_end p.0 (subst IsEnd p.2 end)) p.1 in
      record { more = q.more; are_bytes = q.are_bytes; answered = answered_vaguely (F.read (input ++ q.more)) q.answered };
  written_is_word = f.written_is_word;
}

-- a test whose fault is never the end of the input
abbrev pub FailsBeforeEnd : {A : Type 0} → Result A Fault → Type 0
FailsBeforeEnd (Ok a) = Unit {0}
FailsBeforeEnd (Err why) = ¬ (IsEnd why)

abbrev pub IsSettling : {A B : Type 0} → (A → Result B Fault) → Type 0
IsSettling {A} test = (a : A) → FailsBeforeEnd (test a)

from_result_lawful : {A : Type 0} (r : Result A Fault) → FailsBeforeEnd r → IsLawful (from_result r)
from_result_lawful (Ok a) h = pure-lawful a
from_result_lawful (Err why) h = fail-lawful why h

pub test-lawful : {A B : Type 0} (F : Format A) (test : A → Result B Fault) → IsLawful F → IsSettling test → IsLawful (F >>= λ a. from_result (test a))
test-lawful F test f h = turn-lawful F (λ a. from_result (test a)) f (λ a. from_result_lawful (test a) (h a))

pub map-lawful : {A B : Type 0} (f : A → B) (F : Format A) → IsLawful F → IsLawful (map_format f F)
map-lawful f F h = turn-lawful F (λ a. pure (f a)) h (λ a. pure-lawful (f a))

pub charge_then-lawful : {A : Type 0} (n : ℕ) (F : Format A) → IsLawful F → IsLawful (charge_then n F)
charge_then-lawful n F f = turn-lawful (step (Charge n)) (λ _. F) (step-lawful (Charge n)) (λ _. f)

pub elements-lawful : {A : Type 0} (n share : ℕ) (F : Format A) → IsLawful F → IsLawful (elements n share F)
elements-lawful zero share F f = pure-lawful []
elements-lawful (suc n) share F f =
    turn-lawful (step (Release share)) (λ _. without_count F >>= λ a. map_format (λ others. a ∷ others) (elements n share F)) (step-lawful (Release share))
    (λ _. turn-lawful (without_count F) (λ a. map_format (λ others. a ∷ others) (elements n share F)) (without_count-lawful F f)
    (λ a. map-lawful (λ others. a ∷ others) (elements n share F) (elements-lawful n share F f)))

pub sequence-lawful : {A : Type 0} (n share : ℕ) (F : Format A) → IsLawful F → IsLawful (sequence n share F)
sequence-lawful n share F f = turn-lawful (step (Reserve n share)) (λ _. elements n share F) (step-lawful (Reserve n share)) (λ _. elements-lawful n share F f)
