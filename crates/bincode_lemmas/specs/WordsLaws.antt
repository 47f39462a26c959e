-- The formats of the types are lawful and balanced.
use Rattle.std.specs.Prelude.{◌≡◌, ◌<◌, ℕ, ◌==◌, if◌then◌else◌, Bool, true, false, Result, Ok, Err, refl}
use Rattle.std.proofs.Common.{◌∙◌, ap, arith}
use Rattle.std.proofs.lemmas.Bool.{ne_eqb, eqb-true}
use Rattle.bincode_base.specs.declared.error.IntegerType.{IntegerType}
use Rattle.bincode_spec.specs.Fault.{Fault, Zero, InvalidBool}
use Rattle.bincode_spec.specs.Format.{Format, sequence}
use Rattle.bincode_spec.specs.Layers.Laws.{IsLawful, IsBalanced}
use Rattle.bincode_lemmas.specs.FormatLaws.{FailsBeforeEnd, test-lawful, map-lawful, sequence-lawful}
use Rattle.bincode_lemmas.specs.Balance.{test-balanced, map-balanced, sequence-balanced}
use Rattle.bincode_lemmas.specs.IntegerLaws.{unsigned_byte-lawful, unsigned_byte-balanced}
use Rattle.bincode_spec.specs.Integers.{unsigned_byte}
use Rattle.bincode_spec.specs.Meaning.{Meaning, Truth, list_meaning}
use Rattle.bincode_spec.specs.Words.{not_zero_of, not_zero_by, truth_of, truth_byte, truth, array}

-- what is not 0 passes the test
module _ {A : Type 0} (name : IntegerType) (size : ℕ) (a : A) where
  pub not_zero-passes : 0 < size → not_zero_of name size a ≡ Ok a
  not_zero-passes h = rw (ne_eqb size 0 (λ e. omega (arith, e, h))) refl

  passed_by : (test : Bool) (b : A) → ◌≡◌ {A = Result A Fault} (if test then Err (Zero name) else Ok a) (Ok b) → a ≡ b
  passed_by true b e = absurd (cc)
  passed_by false b e = cc

  settles_by : (test : Bool) → FailsBeforeEnd {A = A} (if test then Err (Zero name) else Ok a)
  settles_by true = λ h. h
  settles_by false = tt

  -- what passes is given unchanged
  pub not_zero-passed : (b : A) → not_zero_of name size a ≡ Ok b → a ≡ b
  not_zero-passed = passed_by (size == 0)

  not_zero_settles : FailsBeforeEnd (not_zero_of name size a)
  not_zero_settles = settles_by (size == 0)

-- `NonZero` numbers are lawful
pub not_zero-lawful : {A : Type 0} (size : A → ℕ) (name : IntegerType) (F : Format A) → IsLawful F → IsLawful (not_zero_by size name F)
not_zero-lawful size name F f = test-lawful F (λ a. not_zero_of name (size a) a) f (λ a. not_zero_settles name (size a) a)

pub not_zero-balanced : {A : Type 0} (size : A → ℕ) (name : IntegerType) (F : Format A) → IsBalanced F → IsBalanced (not_zero_by size name F)
not_zero-balanced size name F f = test-balanced F (λ a. not_zero_of name (size a) a) f

-- a truth value has its byte
pub truth_byte-passes : (v : Bool) → truth_of (truth_byte v) ≡ Ok (Truth v)
truth_byte-passes true = refl
truth_byte-passes false = refl

truth_by : (b : ℕ) (zero one v : Bool) → (zero ≡ true → b ≡ 0) → (one ≡ true → b ≡ 1) →
    ◌≡◌ {A = Result Meaning Fault} (if zero then Ok (Truth false) else if one then Ok (Truth true) else Err (InvalidBool b)) (Ok (Truth v)) →
    b ≡ truth_byte v
truth_by b true one v h k e = let p : false ≡ v = cc in h refl ∙ ap truth_byte p
truth_by b false true v h k e = let p : true ≡ v = cc in k refl ∙ ap truth_byte p
truth_by b false false v h k e = absurd (cc)

-- and no other
pub truth_byte-passed : (b : ℕ) (v : Bool) → truth_of b ≡ Ok (Truth v) → b ≡ truth_byte v
truth_byte-passed b v = truth_by b (b == 0) (b == 1) v (eqb-true b 0) (eqb-true b 1)

-- a byte above 1 is a fault
pub truth-fails : (b : ℕ) → 1 < b → truth_of b ≡ Err (InvalidBool b)
truth-fails b h = rw (ne_eqb b 0 (λ e. omega (arith, e, h)), ne_eqb b 1 (λ e. omega (arith, e, h))) refl

truth_settles_by : (b : ℕ) (zero one : Bool) → FailsBeforeEnd {A = Meaning} (if zero then Ok (Truth false) else if one then Ok (Truth true) else Err (InvalidBool b))
truth_settles_by b true one = tt
truth_settles_by b false true = tt
truth_settles_by b false false = λ h. h

-- truth values are lawful
pub truth-lawful : IsLawful truth
truth-lawful = test-lawful unsigned_byte truth_of unsigned_byte-lawful (λ b. truth_settles_by b (b == 0) (b == 1))

pub truth-balanced : IsBalanced truth
truth-balanced = test-balanced unsigned_byte truth_of unsigned_byte-balanced

pub array-lawful : (n share : ℕ) (F : Format Meaning) → IsLawful F → IsLawful (array n share F)
array-lawful n share F f = map-lawful list_meaning (sequence n share F) (sequence-lawful n share F f)

pub array-balanced : (n share : ℕ) (F : Format Meaning) → IsBalanced F → IsBalanced (array n share F)
array-balanced n share F f = map-balanced list_meaning (sequence n share F) (sequence-balanced n share F f)
