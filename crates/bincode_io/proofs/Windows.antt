-- What is decoded from a window of a slice reader.
use Rattle.std.specs.Prelude.{◌≡◌, ◌≤◌, ◌-◌, ℕ, List, [], ◌∷◌, ◌++◌, slice_index_or, length, drop, take, Some, None, Ok, Err, refl}
use Rattle.std.specs.Borrow.{GName}
use Rattle.std.proofs.Common.{sym, ap, ◌∙◌, arith, append_assoc, length-append, drop_at, take-append-drop}
use Rattle.bincode_base.specs.declared.error.DecodeError.{DecodeError}
use Rattle.bincode_base.specs.declared.error.DecodeError.TheVariants.{UnexpectedEnd, InvalidIntegerType}
use Rattle.bincode_base.specs.declared.error.IntegerType.{IntegerType}
use Rattle.bincode_spec.specs.Layers.Pieces.{no_device, LeavesState, TakesShown}
use Rattle.bincode_spec.specs.Device.{DeviceErrors}
use Rattle.bincode_lemmas.specs.ValidatedLaws.{own-tells}
use Rattle.bincode_spec.specs.Fault.{Fault, IsEnd, Tells, Between, OneOf, End, InvalidInteger, Zero, UnexpectedVariant, Utf8, InvalidChar, InvalidBool, InvalidDuration, NulAt, Other, LengthMismatch, EmptyEnum, OutsideUsize, short, long}
use Rattle.bincode_base.specs.declared.config.Endianness.{Endianness}
use Rattle.bincode_spec.specs.Format.{Format, Took, ◌>>=◌, written_as}
use Rattle.bincode_spec.specs.Integers.{FirstByte, Itself, Before, TooWide, first_byte, number_after, byte, varint}
use Rattle.bincode_lemmas.specs.FormatLaws.{pure-lawful, fail-lawful, turn-lawful}
use Rattle.bincode_lemmas.specs.IntegerLaws.{byte-lawful, digits-lawful}
use Rattle.bincode_spec.specs.Layers.Laws.{IsLawful}
use Rattle.bincode_spec.specs.Layers.Reads.{ReadsWord, ReadFailure, by_fault, by_failure, by_device}
use Rattle.bincode_io.specs.Window.{FrontIs, FrontFails}
use Rattle.bincode_io.proofs.Words.{fixed_bytes-read, byte-took}

drop-front : (word remaining : List ℕ) → drop (length word) (word ++ remaining) ≡ remaining
drop-front word remaining = drop_at word remaining (length word) refl

-- a format that reads as a lawful one
abbrev ReadsAs : {A : Type 0} → Format A → Format A → Type 0
ReadsAs F G = (input : List ℕ) → F.read input ≡ G.read input

pub front-is : {A : Type 0} (F G : Format A) → ReadsAs F G → IsLawful G → (window left : List ℕ) (m : A) (taken : ℕ) → F.read window ≡ Took m left [] →
    taken ≡ length window - length left → FrontIs F window m taken
front-is F G same l window left m taken given e =
    let read = sym (same window) ∙ given in
    let b = l.read_word window left m [] read in
    let long = ap length b.input_is ∙ length-append b.word left in
    let long_as : taken ≡ length b.word = omega (arith, long, e) in
    record {
      within = omega (arith, long, e);
      reads = λ more.
          let split : window ++ more ≡ b.word ++ (left ++ more) = ap (λ x. x ++ more) b.input_is ∙ append_assoc b.word left more in
          same (window ++ more) ∙ rw (split, long_as, drop-front b.word (left ++ more)) (l.word_read b.word (left ++ more) m [] b.is_word);
    }

-- the error of a tag is no end of the input, and every reader reports it alike
tag-told : (end_error other : ℕ → DecodeError → Type 0) (why : Fault) (x y : IntegerType) → ((n : ℕ) → end_error n (InvalidIntegerType x y) → ⊥) → Tells end_error why (InvalidIntegerType x y) →
    (¬ (IsEnd why)) × Tells other why (InvalidIntegerType x y)
tag-told end_error other (End (Some n)) x y never h = absurd (never n h)
tag-told end_error other (End None) x y never h = absurd (never h.0 h.1)
tag-told end_error other (InvalidInteger _ _) x y never h = (λ k. k, h)
tag-told end_error other (Zero _) x y never h = absurd (cc)
tag-told end_error other (UnexpectedVariant (Between a b) _) x y never h = absurd (let e = h.1 in cc)
tag-told end_error other (UnexpectedVariant (OneOf a) _) x y never h = absurd (let e = h.1.1 in cc)
tag-told end_error other Utf8 x y never h = absurd (let e = h.1 in cc)
tag-told end_error other (InvalidChar _) x y never h = absurd (cc)
tag-told end_error other (InvalidBool _) x y never h = absurd (cc)
tag-told end_error other (InvalidDuration _ _) x y never h = absurd (cc)
tag-told end_error other (NulAt _) x y never h = absurd (cc)
tag-told end_error other (Other _) x y never (short t e k) = absurd (cc)
tag-told end_error other (Other _) x y never (long t e k) = absurd (cc)
tag-told end_error other (LengthMismatch _ _) x y never h = absurd (cc)
tag-told end_error other EmptyEnum x y never h = absurd (let e = h.1 in cc)
tag-told end_error other (OutsideUsize _) x y never h = absurd (cc)

no-end : (x y : IntegerType) (n : ℕ) → InvalidIntegerType x y ≡ UnexpectedEnd n → ⊥
no-end x y n e = cc

pub front-fails : {A : Type 0} (F G : Format A) → ReadsAs F G → IsLawful G → (window left : List ℕ) (x y : IntegerType) →
    ReadFailure (λ missing d. d ≡ UnexpectedEnd missing) no_device (F.read window) 0 0 window left (InvalidIntegerType x y) → FrontFails F window (InvalidIntegerType x y)
front-fails F G same l window left x y (by_fault why given tells takes) =
    let read = sym (same window) ∙ given in
    let is_known = tag-told _ (λ _ _. ⊥) why x y (no-end x y) tells in
    record { why = why; tells = is_known.1; fails = λ more. same (window ++ more) ∙ l.stays window more why [] is_known.0 read }
front-fails F G same l window left x y (by_failure h r t) = absurd h
front-fails F G same l window left x y (by_device h) = absurd h

-- what is left of a window is no longer than it
pub left-shorter : {A : Type 0} (F G : Format A) → ReadsAs F G → IsLawful G → (window left : List ℕ) (m : A) (n : ℕ) → F.read window ≡ Took m left [] → n ≡ length left →
    n ≤ length window
left-shorter F G same l window left m n given e =
    let read = sym (same window) ∙ given in
    let b = l.read_word window left m [] read in
    let long = ap length b.input_is ∙ length-append b.word left in
    omega (arith, long, e)

-- the window, and then what follows it
split : (n : ℕ) (window input : List ℕ) → window ≡ take n input → window ++ drop n input ≡ input
split n window input shown = ap (λ x. x ++ drop n input) shown ∙ take-append-drop n input

module _ {R A T : Type 0} {is_known : R → Type 0} {remaining : R → List ℕ} {failures : R → ℕ} {loans : R → List GName} {end_error : ℕ → DecodeError → Type 0}
    {device : DeviceErrors} {F : Format A} {mean : T → A} {old middle : R} {window : List ℕ} (n : ℕ) where
  -- a refused tag in the window is not consumed
  pub window-fails : {e : DecodeError} → FrontFails F window e → (is_known old → window ≡ take n (remaining old)) →
      LeavesState (is_known old) (is_known middle) (remaining old) (remaining middle) (failures old) (failures middle) (loans old) (loans middle) →
      ReadsWord is_known remaining failures loans end_error device F mean (Err e) old middle
  window-fails {e} f shown kept = record {
    ok = λ known. tt;
    err = λ known. by_fault f.why (ap F.read (sym (split n _ _ (shown known))) ∙ f.fails (drop n (remaining old))) (own-tells end_error f.why e f.tells) ([], sym (kept.0 known).1);
    failures_monotone = let same = kept.1 in omega (arith, same);
    tells = λ known. (kept.0 known).0;
    same_loans = kept.2;
  }

  -- a word at the front of the window is read
  pub window-reads : {new : R} {v : T} {taken : ℕ} → FrontIs F window (mean v) taken → (is_known old → window ≡ take n (remaining old)) →
      LeavesState (is_known old) (is_known middle) (remaining old) (remaining middle) (failures old) (failures middle) (loans old) (loans middle) →
      TakesShown is_known remaining failures loans taken middle new → ReadsWord is_known remaining failures loans end_error device F mean (Ok v) old new
  window-reads {new} {v} {taken} f shown kept takes = record {
    ok = λ known.
        let behind : drop taken (window ++ drop n (remaining old)) ≡ remaining new =
        ap (drop taken) (split n _ _ (shown known) ∙ sym (kept.0 known).1) ∙ sym (takes.taken (kept.0 known).0) in
        ap F.read (sym (split n _ _ (shown known))) ∙ (f.reads (drop n (remaining old)) ∙ ap (λ left. Took (mean v) left []) behind);
    err = λ known. tt;
    failures_monotone = let same = kept.1 in let as_before = takes.same_failures in omega (arith, same, as_before);
    tells = λ known. takes.tells (kept.0 known).0;
    same_loans = takes.same_loans ∙ kept.2;
  }

-- a byte that is shown is read
pub byte-shown : (window : List ℕ) → length window ≡ 1 → FrontIs byte window (slice_index_or window 0 0) 1
byte-shown [] one = absurd (omega (arith, one))
byte-shown (b ∷ []) one = record { within = omega arith; reads = λ more. byte-took (b ∷ more) (b ∷ []) more (fixed_bytes-read (b ∷ []) more 1 refl) }
byte-shown (b ∷ c ∷ more) one = absurd (omega (arith, one))

-- the parts of a varint are lawful formats at every width
after-lawful : (order : Endianness) (why : Fault) (first : ℕ) (f : FirstByte) → ¬ (IsEnd why) → IsLawful (number_after order why first f)
after-lawful order why first Itself never = pure-lawful first
after-lawful order why first (Before n) never = digits-lawful order n
after-lawful order why first TooWide never = fail-lawful why never

module _ (tags : ℕ → IntegerType) (name : IntegerType) (order : Endianness) (width : ℕ) where
  abbrev pub read_by : Format ℕ
  read_by = byte >>= λ first. number_after order (InvalidInteger name (tags first)) first (first_byte width first)

  pub read_by-lawful : IsLawful read_by
  read_by-lawful =
      turn-lawful byte (λ first. number_after order (InvalidInteger name (tags first)) first (first_byte width first)) byte-lawful
      (λ first. after-lawful order (InvalidInteger name (tags first)) first (first_byte width first) (λ k. k))

  pub varint-reads : ReadsAs (varint tags name order width) read_by
  unfolding varint written_as
  varint-reads input = refl
