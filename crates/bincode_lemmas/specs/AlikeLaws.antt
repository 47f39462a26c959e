-- How two readers agree that have the same bytes left, whatever each buffers.
use Rattle.std.specs.Prelude.{◌≡◌, ◌⊎◌, ℕ, List, [], Option, Result, Ok, Err, refl}
use Rattle.std.specs.Borrow.{GName}
use Rattle.std.proofs.Common.{sym, ◌∙◌, subst, inl, inr}
use Rattle.bincode_base.specs.declared.error.DecodeError.{DecodeError}
use Rattle.bincode_spec.specs.Layers.Alike.{TellAlike, DeviceFailed, ReadAlike, both_passed, both_tell}
use Rattle.bincode_spec.specs.Answer.{Answer, Gave}
use Rattle.bincode_spec.specs.Decoding.{DecodeFailure, IsExcused, by_fault, by_limit, by_memory, by_failure, by_device}
use Rattle.bincode_spec.specs.Device.{DeviceErrors}
use Rattle.bincode_spec.specs.Fault.{Tells}
use Rattle.bincode_spec.specs.Format.{Format, Reading, Took}
use Rattle.bincode_spec.specs.Layers.Reads as reads
use Rattle.bincode_spec.specs.Layers.Reads.{ReadFailure, ReadsWord}
use Rattle.bincode_spec.specs.Layers.Values.{Reads}

-- an error of the answer, or one of another cause
module _ {A : Type 0} (a : Answer A) (MayAllocate : Type 0) where
  -- an error, though the answer is a value
  excused-gave : (end_error : ℕ → DecodeError → Type 0) (device : DeviceErrors) (before after : ℕ) (remaining remaining' : List ℕ) (charge : ℕ) (e : DecodeError) (m : A) (left : List ℕ) (end : ℕ) → a ≡ Gave m left end →
      DecodeFailure end_error device MayAllocate a before after remaining remaining' charge e → IsExcused device MayAllocate before after e
  excused-gave end_error device before after remaining remaining' charge e m left end given (by_fault why stopped tells takes) = absurd (cc)
  excused-gave end_error device before after remaining remaining' charge e m left end given (by_limit stopped is takes) = absurd (cc)
  excused-gave end_error device before after remaining remaining' charge e m left end given (by_memory grows is takes) = inl (grows, is)
  excused-gave end_error device before after remaining remaining' charge e m left end given (by_failure counted rose takes) = inr (inl (counted, rose))
  excused-gave end_error device before after remaining remaining' charge e m left end given (by_device is_uncounted) = inr (inr is_uncounted)

  -- two errors
  module _ (end_error end_error' : ℕ → DecodeError → Type 0) (device device' : DeviceErrors) (before after before' after' : ℕ) (input remaining input' remaining' : List ℕ) (charge charge' : ℕ) (d e : DecodeError) where
    abbrev Said : Type 0
    Said = IsExcused device MayAllocate before after d ⊎ (IsExcused device' MayAllocate before' after' e ⊎ TellAlike end_error end_error' d e)

    both-stop : DecodeFailure end_error device MayAllocate a before after input remaining charge d → DecodeFailure end_error' device' MayAllocate a before' after' input' remaining' charge' e → Said
    both-stop (by_memory grows is takes) s = inl (inl (grows, is))
    both-stop (by_failure counted rose takes) s = inl (inr (inl (counted, rose)))
    both-stop (by_device is_uncounted) s = inl (inr (inr is_uncounted))
    both-stop (by_fault why stopped tells takes) (by_memory grows is takes') = inr (inl (inl (grows, is)))
    both-stop (by_fault why stopped tells takes) (by_failure counted rose takes') = inr (inl (inr (inl (counted, rose))))
    both-stop (by_fault why stopped tells takes) (by_device is_uncounted) = inr (inl (inr (inr is_uncounted)))
    both-stop (by_fault why stopped tells takes) (by_limit stopped' is takes') = absurd (cc)
    both-stop (by_fault why stopped tells takes) (by_fault why' stopped' tells' takes') =
        let same : why' ≡ why = cc in inr (inr (both_tell why tells (subst (λ w. Tells end_error' w e) same tells')))
    both-stop (by_limit stopped is takes) (by_memory grows is' takes') = inr (inl (inl (grows, is')))
    both-stop (by_limit stopped is takes) (by_failure counted rose takes') = inr (inl (inr (inl (counted, rose))))
    both-stop (by_limit stopped is takes) (by_device is_uncounted) = inr (inl (inr (inr is_uncounted)))
    both-stop (by_limit stopped is takes) (by_fault why stopped' tells takes') = absurd (cc)
    both-stop (by_limit stopped is takes) (by_limit stopped' is' takes') = inr (inr (both_passed is is'))

-- two decoders with the same bytes left, the same limit and the same charge, reading a value of one format
module _ {D D' A T : Type 0} {is_known : D → Type 0} {remaining : D → List ℕ} {charge failures : D → ℕ} {loans : D → List GName} {end_error : ℕ → DecodeError → Type 0} {device : DeviceErrors}
    {is_known' : D' → Type 0} {remaining' : D' → List ℕ} {charge' failures' : D' → ℕ} {loans' : D' → List GName} {end_error' : ℕ → DecodeError → Type 0} {device' : DeviceErrors}
    (limit : Option ℕ) (MayAllocate : Type 0) (F : Format A) (DecodesTo : A → T → Type 0) (charged : ℕ) {old new : D} {old' new' : D'} where
  pub read-alike : (r s : Result T DecodeError) → is_known old → is_known' old' → remaining' old' ≡ remaining old →
      Reads is_known remaining charge failures loans limit end_error device MayAllocate F DecodesTo charged r old new →
      Reads is_known' remaining' charge' failures' loans' limit end_error' device' MayAllocate F DecodesTo charged s old' new' →
      ReadAlike end_error end_error' (IsExcused device MayAllocate (failures old) (failures new)) (IsExcused device' MayAllocate (failures' old') (failures' new')) DecodesTo (remaining new) (remaining' new') (charge new) (charge' new') r s
  read-alike (Ok v) (Ok w) k k' same x y =
      let p = x.ok k in
      let q = rw same at (y.ok k') in
      let e : Gave p.meaning (remaining new) (charge new) ≡ Gave q.meaning (remaining' new') (charge' new') = sym p.answer_is ∙ q.answer_is in
      let m : q.meaning ≡ p.meaning = cc in
      record { meaning = p.meaning; first = p.is_decoded; second = subst (λ z. DecodesTo z w) m q.is_decoded; same_remaining = cc; same_charge = cc }
  read-alike (Ok v) (Err e) k k' same x y =
      let p = x.ok k in excused-gave _ MayAllocate end_error' device' _ _ _ _ _ e p.meaning _ _ p.answer_is (rw same at (y.err k'))
  read-alike (Err d) (Ok w) k k' same x y =
      let q = rw same at (y.ok k') in excused-gave _ MayAllocate end_error device _ _ _ _ _ d q.meaning _ _ q.answer_is (x.err k)
  read-alike (Err d) (Err e) k k' same x y = both-stop _ MayAllocate end_error end_error' device device' _ _ _ _ _ _ _ _ _ _ d e (x.err k) (rw same at (y.err k'))

-- two readers with the same bytes left, reading a word of one format without steps
module _ {A : Type 0} (reading : Reading A) where
  failed-took : (end_error : ℕ → DecodeError → Type 0) (device : DeviceErrors) (before after : ℕ) (remaining remaining' : List ℕ) (e : DecodeError) (m : A) (left : List ℕ) → reading ≡ Took m left [] →
      ReadFailure end_error device reading before after remaining remaining' e → DeviceFailed device before after e
  failed-took end_error device before after remaining remaining' e m left given (reads.by_fault why stopped tells takes) = absurd (cc)
  failed-took end_error device before after remaining remaining' e m left given (reads.by_failure counted rose takes) = inl (counted, rose)
  failed-took end_error device before after remaining remaining' e m left given (reads.by_device is_uncounted) = inr is_uncounted

  module _ (end_error end_error' : ℕ → DecodeError → Type 0) (device device' : DeviceErrors) (before after before' after' : ℕ) (input remaining input' remaining' : List ℕ) (d e : DecodeError) where
    both-fail : ReadFailure end_error device reading before after input remaining d → ReadFailure end_error' device' reading before' after' input' remaining' e →
        DeviceFailed device before after d ⊎ (DeviceFailed device' before' after' e ⊎ TellAlike end_error end_error' d e)
    both-fail (reads.by_failure counted rose takes) s = inl (inl (counted, rose))
    both-fail (reads.by_device is_uncounted) s = inl (inr is_uncounted)
    both-fail (reads.by_fault why stopped tells takes) (reads.by_failure counted rose takes') = inr (inl (inl (counted, rose)))
    both-fail (reads.by_fault why stopped tells takes) (reads.by_device is_uncounted) = inr (inl (inr is_uncounted))
    both-fail (reads.by_fault why stopped tells takes) (reads.by_fault why' stopped' tells' takes') =
        let same : why' ≡ why = cc in inr (inr (both_tell why tells (subst (λ w. Tells end_error' w e) same tells')))

module _ {R R' A T : Type 0} {is_known : R → Type 0} {remaining : R → List ℕ} {failures : R → ℕ} {loans : R → List GName} {end_error : ℕ → DecodeError → Type 0} {device : DeviceErrors}
    {is_known' : R' → Type 0} {remaining' : R' → List ℕ} {failures' : R' → ℕ} {loans' : R' → List GName} {end_error' : ℕ → DecodeError → Type 0} {device' : DeviceErrors}
    (F : Format A) (mean : T → A) {old new : R} {old' new' : R'} where
  pub word-alike : (r s : Result T DecodeError) → is_known old → is_known' old' → remaining' old' ≡ remaining old →
      ReadsWord is_known remaining failures loans end_error device F mean r old new → ReadsWord is_known' remaining' failures' loans' end_error' device' F mean s old' new' →
      ReadAlike end_error end_error' (DeviceFailed device (failures old) (failures new)) (DeviceFailed device' (failures' old') (failures' new')) (λ m v. mean v ≡ m) (remaining new) (remaining' new') 0 0 r s
  word-alike (Ok v) (Ok w) k k' same x y =
      let q = rw same at (y.ok k') in
      let e : Took (mean v) (remaining new) [] ≡ Took (mean w) (remaining' new') [] = sym (x.ok k) ∙ q in
      record { meaning = mean v; first = refl; second = cc; same_remaining = cc; same_charge = refl }
  word-alike (Ok v) (Err e) k k' same x y = failed-took _ end_error' device' _ _ _ _ e (mean v) _ (x.ok k) (rw same at (y.err k'))
  word-alike (Err d) (Ok w) k k' same x y = failed-took _ end_error device _ _ _ _ d (mean w) _ (rw same at (y.ok k')) (x.err k)
  word-alike (Err d) (Err e) k k' same x y = both-fail _ end_error end_error' device device' _ _ _ _ _ _ _ _ d e (x.err k) (rw same at (y.err k'))
