-- What two decoders tell of the formats.
use Rattle.std.specs.Prelude.{◌≡◌, ◌≤◌, ℕ, ◌==◌, ◌&&◌, Bool, true, false, not, List, [], ◌∷◌, ◌++◌, length, Option, Some, None, Result, Err, refl}
use Rattle.std.proofs.Common.{◌∙◌, ap, sym, subst, inl, inr, arith, append-nil, length-append}
use Rattle.std.proofs.lemmas.Bool.{cases_lt, eq-eqb}
use Rattle.bincode_base.specs.declared.error.DecodeError.{DecodeError}
use Rattle.bincode_base.specs.declared.error.DecodeError.TheVariants.{LimitExceeded, Memory}
use Rattle.bincode_spec.specs.Answer.{Allows, of_word, charge_after_steps}
use Rattle.bincode_spec.specs.Charge.{Step}
use Rattle.bincode_spec.specs.Format.{Format, Reading}
use Rattle.bincode_spec.specs.Layers.Laws.{IsLawful, IsBalanced, BeginsWith, IsBacked, Settles}
use Rattle.bincode_spec.specs.Meaning.{Meaning}
use Rattle.bincode_spec.specs.Decoding.{MayReportMemory}
use Rattle.bincode_spec.specs.Slice.{IsDecoded}
use Rattle.bincode_lemmas.specs.AnswerLaws.{after-stays, after-passes}
use Rattle.bincode_shape.specs.declared.shape.Shape.{Shape}
use Rattle.bincode_shape.specs.declared.shape.Value.{Value}
use Rattle.bincode_shape.specs.ShapeLaws.{format_of-lawful, format_of-balanced}
use Rattle.bincode_shape.specs.Shapes.{format_of, meaning, IsImage, TakesMemory}
use Rattle.bincode_shape.specs.Counts.{as_u128, count_of, values_in}
use Rattle.bincode_shape_codec.specs.Within.{IsTooMany, IsDecode, FindsFew, RefusesMany, KeepsDecodeLimit}
use Rattle.bincode_shape_codec.specs.declared.within.DecodeWithinError.{DecodeWithinError}
use Rattle.bincode_shape_codec.specs.declared.within.DecodeWithinError.TheVariants as errors
use Rattle.bincode_evolution.specs.Reading.{ReadsTo}
use Rattle.shape_difference.specs.Alike.{alike}
use Rattle.shape_difference.specs.Differing.{Shows}
use Rattle.shape_difference.proofs.Meanings.{alike_complete}
use Rattle.bincode_base.specs.Setting.{Setting}

none_left : (word remaining input : List ℕ) → input ≡ word ++ remaining → length input ≡ length word → remaining ≡ []
none_left word [] input e h = refl
none_left word (b ∷ remaining) input e h = let k = ap length e in let l = length-append word (b ∷ remaining) in absurd (omega (arith, h, k, l))

-- what is decoded is taken
pub decoded_takes : (F : Format Meaning) → IsLawful F → (limit : Option ℕ) (input : List ℕ) (DecodesTo : Meaning → Type 0) (n : ℕ) → (d : IsDecoded F limit input DecodesTo n) → ReadsTo (F.read input) d.meaning d.remaining
decoded_takes F f limit input DecodesTo n d = (d.steps, ap F.read d.input_is ∙ f.word_read d.word d.remaining d.meaning d.steps d.is_word)

-- and if it has all bytes, none are left
pub decoded_all : (F : Format Meaning) → IsLawful F → (limit : Option ℕ) (input : List ℕ) (DecodesTo : Meaning → Type 0) (n : ℕ) → (d : IsDecoded F limit input DecodesTo n) → n ≡ length input → ReadsTo (F.read input) d.meaning []
decoded_all F f limit input DecodesTo n d h =
    subst (λ z. ReadsTo (F.read input) d.meaning z) (none_left d.word d.remaining input d.input_is (sym h ∙ d.count)) (decoded_takes F f limit input DecodesTo n d)

same_taken : (r : Reading Meaning) (m n : Meaning) (remaining others : List ℕ) → ReadsTo r m remaining → ReadsTo r n others → (m ≡ n) × (remaining ≡ others)
same_taken r m n remaining others t u = let e = sym t.1 ∙ u.1 in (cc, cc)

-- what is taken whole is decoded whole
pub whole_decoded : (F : Format Meaning) → IsLawful F → (limit : Option ℕ) (input : List ℕ) (DecodesTo : Meaning → Type 0) (n : ℕ) → (d : IsDecoded F limit input DecodesTo n) → (m : Meaning) →
    ReadsTo (F.read input) m [] → (n ≡ length input) × (m ≡ d.meaning)
whole_decoded F f limit input DecodesTo n d m t =
    let same = same_taken (F.read input) d.meaning m d.remaining [] (decoded_takes F f limit input DecodesTo n d) t in
    let e : input ≡ d.word = d.input_is ∙ ap (λ z. d.word ++ z) same.1 ∙ append-nil d.word in
    (d.count ∙ ap length (sym e), sym same.0)

allows_none : (limit : Option ℕ) → Allows limit 0
allows_none None = tt
allows_none (Some limit) = omega arith

-- what a call that counts values promises where it fails to decode
record Failing (F : Format Meaning) (limit : Option ℕ) (input : List ℕ) (MayAllocate : Type 0) {T : Type 0} (count : Meaning → ℕ) (most : ℕ) (result : Result T DecodeWithinError) : Type 0 where
  found : FindsFew F limit MayAllocate count most input result
  many : RefusesMany F limit count most input result
  limited : KeepsDecodeLimit F limit input result

by_found : (MayAllocate : Type 0) (e : DecodeError) → (e ≡ Memory → ⊥) → IsDecode (MayReportMemory MayAllocate) (errors.Decode e) → ⊥
by_found MayAllocate e no_memory h = let k = h.1 in let same : e ≡ h.0 = cc in no_memory (same ∙ h.2.1)

by_limit : (e : DecodeError) → (e ≡ LimitExceeded → ⊥) → IsDecode (λ why. why ≡ LimitExceeded) (errors.Decode e) → ⊥
by_limit e no_limit h = let k = h.1 in let same : e ≡ h.0 = cc in no_limit (same ∙ h.2)

by_count : (n most : ℕ) (e : DecodeError) → IsTooMany n most (errors.Decode e) → ⊥
by_count n most e h = absurd (cc)

by_charge : (F : Format Meaning) (limit : Option ℕ) (input : List ℕ) (MayAllocate : Type 0) {T : Type 0} (count : Meaning → ℕ) (most : ℕ) (e : DecodeError) →
    Failing F limit input MayAllocate {T = T} count most (Err (errors.Decode e)) → (e ≡ Memory → ⊥) → (e ≡ LimitExceeded → ⊥) → (m : Meaning) (steps : List Step) (o : Option ℕ) →
    BeginsWith F input m [] steps → IsBacked 0 steps → charge_after_steps limit 0 steps ≡ o → ⊥
by_charge F limit input MayAllocate count most e a no_memory no_limit m steps (Some after) w backed k =
    let within = after-stays limit 0 0 steps after backed (omega arith) (allows_none limit) k in
    elim (cases_lt most (count m)) [
      | inl more ↦ by_count (as_u128 (count m)) most e (a.many w.word [] m steps w.input_is w.is_word within more)
      | inr few ↦ by_found MayAllocate e no_memory (a.found w.word [] m steps w.input_is w.is_word within few)
    ]
by_charge F limit input MayAllocate count most e a no_memory no_limit m steps None w backed k =
    by_limit e no_limit (a.limited steps (of_word w.word [] m w.is_word w.input_is) (after-passes limit 0 0 steps backed (omega arith) k))

-- an error of another kind than memory and the limit tells that no word begins the input
refused_untaken : (F : Format Meaning) → IsLawful F → IsBalanced F → (limit : Option ℕ) (input : List ℕ) (MayAllocate : Type 0) {T : Type 0} (count : Meaning → ℕ) (most : ℕ) (e : DecodeError) →
    Failing F limit input MayAllocate {T = T} count most (Err (errors.Decode e)) → (e ≡ Memory → ⊥) → (e ≡ LimitExceeded → ⊥) → (m : Meaning) → ReadsTo (F.read input) m [] → ⊥
refused_untaken F f b limit input MayAllocate count most e a no_memory no_limit m t =
    let w = f.read_word input [] m t.0 t.1 in
    let backed = (subst (λ r. Settles 0 0 r) t.1 (b.settles input)).0 in
    by_charge F limit input MayAllocate count most e a no_memory no_limit m t.0 (charge_after_steps limit 0 t.0) w backed refl

-- a value of at most so many values is decoded
abbrev pub DecodedWithin : Setting → Shape → Option ℕ → List ℕ → Value → ℕ → ℕ → Type 0
DecodedWithin s shape limit word value most taken = IsDecoded (format_of shape s) limit word (λ m. IsImage shape m value × (values_in value ≤ most)) taken

-- all bytes are a word of the old shape for a value, and none of the new shape that means the same
pub shown : (s : Setting) (new old : Shape) (limit : Option ℕ) (word : List ℕ) (value : Value) (most taken : ℕ) → DecodedWithin s old limit word value most taken → taken ≡ length word →
    (ReadsTo ((format_of new s).read word) (meaning value) [] → ⊥) → Shows (format_of new s) (format_of old s) word
shown s new old limit word value most taken d h unread = record {
  meaning = meaning value;
  is_word =
      subst (λ z. ReadsTo ((format_of old s).read word) z []) d.is_decoded.0.1
      (decoded_all (format_of old s) (format_of-lawful old s) limit word (λ m. IsImage old m value × (values_in value ≤ most)) taken d h);
  is_unread = unread;
}

-- the new shape takes fewer bytes, or means something else
pub other_read : (s : Setting) (shape : Shape) (limit : Option ℕ) (word : List ℕ) (value read : Value) (most taken : ℕ) → DecodedWithin s shape limit word read most taken →
    (taken ≡ length word → alike value read ≡ true → ⊥) → ReadsTo ((format_of shape s).read word) (meaning value) [] → ⊥
other_read s shape limit word value read most taken d h t =
    let p = whole_decoded (format_of shape s) (format_of-lawful shape s) limit word (λ m. IsImage shape m read × (values_in read ≤ most)) taken d (meaning value) t in
    h p.0 (alike_complete value read (p.1 ∙ d.is_decoded.0.1))

-- or it reads nothing
pub refused : (s : Setting) (shape : Shape) (limit : Option ℕ) (word : List ℕ) (value : Value) (T : Type 0) (most : ℕ) (failure : DecodeWithinError) (e : DecodeError) → failure ≡ errors.Decode e →
    FindsFew {A = T} (format_of shape s) limit (TakesMemory shape) (count_of shape) most word (Err failure) → RefusesMany {A = T} (format_of shape s) limit (count_of shape) most word (Err failure) →
    KeepsDecodeLimit {A = T} (format_of shape s) limit word (Err failure) → (e ≡ Memory → ⊥) → (e ≡ LimitExceeded → ⊥) → ReadsTo ((format_of shape s).read word) (meaning value) [] → ⊥
refused s shape limit word value T most failure e is found many limited no_memory no_limit t =
    let failing : Failing (format_of shape s) limit word (TakesMemory shape) {T = T} (count_of shape) most (Err failure) = record { found = found; many = many; limited = limited } in
    refused_untaken (format_of shape s) (format_of-lawful shape s) (format_of-balanced shape s) limit word (TakesMemory shape) {T = T} (count_of shape) most e
    (subst (λ w. Failing (format_of shape s) limit word (TakesMemory shape) {T = T} (count_of shape) most (Err w)) is failing) no_memory no_limit (meaning value) t

pub told : (taken len : ℕ) (is_alike result : Bool) → result ≡ not ((taken == len) && is_alike) → result ≡ true → taken ≡ len → is_alike ≡ true → ⊥
told taken len is_alike result e h whole same =
    let k : (taken == len) ≡ true = eq-eqb taken len whole in
    let q : not ((taken == len) && is_alike) ≡ false = rw (k, same) refl in
    let f : false ≡ true = sym q ∙ sym e ∙ h in
    absurd (cc)
