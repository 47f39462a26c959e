-- Memory is refused only for what is not empty.
use Rattle.std.specs.Prelude.{◌≡◌, ◌<◌, ◌⊎◌, ℕ, List, Option, Some, None, Result, Ok, Err, IfErr}
use Rattle.std.specs.Borrow.{GName}
use Rattle.std.proofs.Common.{inl, inr}
use Rattle.std.proofs.lemmas.Result.{IfErr-weaker}
use Rattle.bincode_base.specs.Setting.{Setting}
use Rattle.bincode_base.specs.declared.error.DecodeError.{DecodeError}
use Rattle.bincode_base.specs.declared.error.DecodeError.TheVariants.{Memory}
use Rattle.bincode_spec.specs.Answer.{Answer, answer, Gave, weigh_reading, charge_after_steps, gave_at, refused_at}
use Rattle.bincode_spec.specs.Charge.{Step}
use Rattle.bincode_spec.specs.Decoding.{DecodeFailure, by_fault, by_limit, by_memory, by_failure, by_device}
use Rattle.bincode_spec.specs.Device.{DeviceErrors}
use Rattle.bincode_spec.specs.Fault.{Fault, Tells, End, InvalidInteger, Zero, UnexpectedVariant, Utf8, InvalidChar, InvalidBool, InvalidDuration, NulAt, Other, LengthMismatch, EmptyEnum, OutsideUsize, Between, OneOf, short, long}
use Rattle.bincode_spec.specs.Format.{Format, Reading, Took, Failed}
use Rattle.bincode_spec.specs.Layers.Values.{Reads}
use Rattle.bincode_spec.specs.Words.{len}
use Rattle.bincode_decoder.specs.Memory.{BeginsWithSome, IsOfReader, RefusedForSome}
use Rattle.bincode_decoder.proofs.ReadAnswers.{exactly}

-- no fault but the end of the input gives `Memory`
fault-memory : (end_error : ℕ → DecodeError → Type 0) (why : Fault) (e : DecodeError) → Tells end_error why e → e ≡ Memory → (missing : ℕ) × end_error missing e
fault-memory end_error (End (Some missing)) e h k = (missing, h)
fault-memory end_error (End None) e h k = h
fault-memory end_error (InvalidInteger expected found) e h k = absurd (cc)
fault-memory end_error (Zero name) e h k = absurd (cc)
fault-memory end_error (UnexpectedVariant (Between min max) found) e h k = let t = h.1 in absurd (cc)
fault-memory end_error (UnexpectedVariant (OneOf tags) found) e h k = let t = h.1.1 in absurd (cc)
fault-memory end_error Utf8 e h k = let t = h.1 in absurd (cc)
fault-memory end_error (InvalidChar bytes) e h k = absurd (cc)
fault-memory end_error (InvalidBool byte) e h k = absurd (cc)
fault-memory end_error (InvalidDuration seconds nanos) e h k = absurd (cc)
fault-memory end_error (NulAt place) e h k = absurd (cc)
fault-memory end_error (Other text) e (short t h b) k = absurd (cc)
fault-memory end_error (Other text) e (long t h b) k = absurd (cc)
fault-memory end_error (LengthMismatch required found) e h k = absurd (cc)
fault-memory end_error EmptyEnum e h k = let t = h.1 in absurd (cc)
fault-memory end_error (OutsideUsize n) e h k = absurd (cc)

-- a failure with `Memory` is a refused allocation, or an error of the reader
stops-memory : {A : Type 0} {end_error : ℕ → DecodeError → Type 0} {device : DeviceErrors} {G : Type 0} {a : Answer A} {before after : ℕ} {remaining remaining' : List ℕ} {charge : ℕ} (e : DecodeError) →
    DecodeFailure end_error device G a before after remaining remaining' charge e → e ≡ Memory → G ⊎ IsOfReader end_error device e
stops-memory {end_error = end_error} e (by_fault why a h t) k = inr (inl (fault-memory end_error why e h k))
stops-memory e (by_limit a h t) k = absurd (cc)
stops-memory e (by_memory g h t) k = inl g
stops-memory e (by_failure h r t) k = inr (inr (inl h))
stops-memory e (by_device h) k = inr (inr (inr h))

weighed-took : {A : Type 0} (limit : Option ℕ) (c : ℕ) (r : Reading A) (a : A) (remaining : List ℕ) (d : ℕ) → weigh_reading limit c r ≡ Gave a remaining d → (s : List Step) × (r ≡ Took a remaining s)
weighed-took limit c (Took b more steps) a remaining d h = took (charge_after_steps limit c steps) h
  where
    took : (o : Option ℕ) → gave_at b more o ≡ Gave a remaining d → (s : List Step) × (Took b more steps ≡ Took a remaining s)
    took (Some n) k = (steps, cc)
    took None k = absurd (cc)
weighed-took limit c (Failed why steps) a remaining d h = none (charge_after_steps limit c steps) h
  where
    none : (o : Option ℕ) → refused_at why o ≡ Gave a remaining d → (s : List Step) × (Failed why steps ≡ Took a remaining s)
    none (Some n) k = absurd (cc)
    none None k = absurd (cc)

begins : (s : Setting) (limit : Option ℕ) (input : List ℕ) (c n : ℕ) (remaining : List ℕ) (d : ℕ) → answer limit (len s) input c ≡ Gave n remaining d → 0 < n → BeginsWithSome s input
unfolding answer
begins s limit input c n remaining d h k = let t = weighed-took limit c ((len s).read input) n remaining d h in (n, remaining, t.0, t.1, k)

module _ {D T : Type 0} {is_known : D → Type 0} {remaining : D → List ℕ} {charge failures : D → ℕ} {loans : D → List GName} {limit : Option ℕ}
    {end_error : ℕ → DecodeError → Type 0} {device : DeviceErrors} (s : Setting) {start : ℕ} {old : D} where
  -- if nothing allocates, nothing is refused
  pub none-refused : {A : Type 0} {F : Format A} {decodes_to : A → T → Type 0} {e : DecodeError} {new : D} →
      Reads is_known remaining charge failures loans limit end_error device ⊥ F decodes_to start (Err e) old new →
      is_known old → e ≡ Memory → BeginsWithSome s (remaining old) ⊎ IsOfReader end_error device e
  none-refused {e = e} read known k = none (stops-memory e (read.err known) k)
    where
      none : {P Q : Type 0} → ⊥ ⊎ P → Q ⊎ P
      none (inl h) = absurd h
      none (inr h) = inr h

  -- after a length, `Memory` comes only for a length above 0
  pub some-refused : {A : Type 0} {F : Format A} {decodes_to : A → T → Type 0} {n c : ℕ} (r : Result T DecodeError) {middle new : D} →
      Reads is_known remaining charge failures loans limit end_error device ⊥ (len s) (λ m v. m ≡ v) start (Ok n) old middle →
      Reads is_known remaining charge failures loans limit end_error device (0 < n) F decodes_to c r middle new →
      RefusedForSome is_known remaining s end_error device r old
  some-refused {n = n} r {middle = middle} length read known = IfErr-weaker r _ _ (λ e h k. some (stops-memory e h k)) (read.err (length.tells known))
    where
      some : {P : Type 0} → (0 < n) ⊎ P → BeginsWithSome s (remaining old) ⊎ P
      some (inl h) = inl (begins s limit (remaining old) start n (remaining middle) (charge middle) (exactly (length.ok known)) h)
      some (inr h) = inr h
