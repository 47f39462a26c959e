-- Elements without bytes: if one is decoded, so are all after it, since less is charged for them.
use Rattle.std.specs.Prelude.{◌≡◌, ℕ, zero, suc, ◌+◌, ◌*◌, ◌-◌, ◌<◌, ◌≤◌, ◌==◌, ◌||◌, ◌&&◌, Bool, true, false, List, [], ◌∷◌, ◌++◌, Option, Some, None, Ok, refl}
use Rattle.std.specs.Borrow.{GName}
use Rattle.std.proofs.lemmas.Bool.{ne_eqb}
use Rattle.std.proofs.Common.{sym, ◌∙◌, ap, subst, arith, append_assoc, append-nil}
use Rattle.bincode_base.specs.Setting.{Setting}
use Rattle.bincode_base.specs.declared.error.DecodeError.{DecodeError}
use Rattle.bincode_spec.specs.Answer.{Answer, Gave, answer, weigh_reading, gave_at, charge_after_steps, Allows, after_release}
use Rattle.bincode_spec.specs.Charge.{Step, Reserve, Release, charged_bytes, reserved_bytes, released_bytes, charge_after}
use Rattle.bincode_spec.specs.Layers.Claims.{MakesRelease}
use Rattle.bincode_spec.specs.Device.{DeviceErrors}
use Rattle.bincode_spec.specs.Format.{Format, Took, after_steps, then_read, reading_without_count, pure, step, ◌>>=◌, without_count, elements}
use Rattle.bincode_spec.specs.Layers.Laws.{IsLawful, IsBacked, IsBalanced}
use Rattle.bincode_spec.specs.Meaning.{Meaning, Then, list_meaning}
use Rattle.bincode_spec.specs.Run.{IsListOf}
use Rattle.bincode_spec.specs.Layers.Releases.{CanRelease, ReleasesAtMost}
use Rattle.bincode_spec.specs.Layers.Values.{Reads}
use Rattle.bincode_spec.specs.Words.{nothing, first_and, tuple, array}
use Rattle.bincode_lemmas.specs.AnswerLaws.{after-stays, stays-after}
use Rattle.bincode_lemmas.specs.Balance.{full_append}
use Rattle.bincode_lemmas.specs.RunLaws.{ReadSoFar, one-more, is_list-push}
use Rattle.bincode_decoder.proofs.Rooms.{unclaimed-within}
use Rattle.bincode_collections.proofs.Reading.{RunSoFar, none-so_far, next-so_far}
use Rattle.bincode_shape.specs.declared.shape.Shape as shapes
use Rattle.bincode_shape.specs.declared.shape.Shape.{Shape, Row_of-Shape, end_of-Shape, more_of-Shape}
use Rattle.bincode_shape.specs.Shapes.{format_of, formats_of, share, at}
use Rattle.bincode_shape.specs.Counts.{without_bytes, all_without}

-- each input begins with an empty word of one meaning, for which nothing is charged
pub record Empty {A : Type 0} (F : Format A) : Type 0 where
  pub meaning : A
  pub steps : List Step
  pub reads : (input : List ℕ) → F.read input ≡ Took meaning input steps
  pub uncharged : charged_bytes steps ≡ 0

pure-empty : {A : Type 0} (a : A) → Empty (pure a)
unfolding pure
pure-empty a = record { meaning = a; steps = []; reads = λ input. refl; uncharged = refl }

nothing-empty : Empty nothing
unfolding nothing
nothing-empty = pure-empty _

first_and-empty : {F others : Format Meaning} → Empty F → Empty others → Empty (first_and F others)
unfolding first_and ◌>>=◌ pure
first_and-empty {F} {others} f g = record {
  meaning = Then f.meaning g.meaning;
  steps = f.steps ++ (g.steps ++ []);
  reads = λ input.
      ap (λ r. then_read r (λ m next. then_read (others.read next) (λ n end. Took (Then m n) end []))) (f.reads input)
      ∙ ap (λ r. after_steps f.steps (then_read r (λ n end. Took (Then f.meaning n) end []))) (g.reads input);
  uncharged = let a = f.uncharged in let b = g.uncharged in let c = full_append f.steps (g.steps ++ []) in let d = full_append g.steps [] in omega (arith, a, b, c, d);
}

elements-empty : (n share : ℕ) {F : Format Meaning} → Empty F → Empty (elements n share F)
unfolding step ◌>>=◌ without_count pure
elements-empty zero share f = pure-empty []
elements-empty (suc n) share {F} f =
    let h = elements-empty n share f in
    record {
      meaning = f.meaning ∷ h.meaning;
      steps = Release share ∷ (f.steps ++ (h.steps ++ []));
      reads = λ input.
          ap (λ r. after_steps (Release share ∷ []) (then_read (reading_without_count r) (λ a next. then_read ((elements n share F).read next) (λ others end. Took (a ∷ others) end [])))) (f.reads input)
          ∙ ap (λ r. after_steps (Release share ∷ []) (after_steps f.steps (then_read r (λ others end. Took (f.meaning ∷ others) end [])))) (h.reads input);
      uncharged = let a = f.uncharged in let b = h.uncharged in let c = full_append f.steps (h.steps ++ []) in let d = full_append h.steps [] in omega (arith, a, b, c, d);
    }

array-empty : (n share : ℕ) (F : Format Meaning) → Empty (elements n share F) → Empty (array n share F)
unfolding step ◌>>=◌ pure
array-empty n share F h = record {
  meaning = list_meaning h.meaning;
  steps = (Reserve n share ∷ h.steps) ++ [];
  reads = λ input. ap (λ r. then_read (after_steps (Reserve n share ∷ []) r) (λ ms end. Took (list_meaning ms) end [])) (h.reads input);
  uncharged = let a = h.uncharged in let b = full_append (Reserve n share ∷ h.steps) [] in omega (arith, a, b);
}

some-empty : (n share : ℕ) (F : Format Meaning) (b : Bool) → ((n == 0) || b) ≡ true → (b ≡ true → Empty F) → Empty (elements n share F)
some-empty zero share F b h f = pure-empty []
some-empty (suc n) share F b h f = elements-empty (suc n) share (f (rw (ne_eqb (suc n) 0 (λ e. omega (arith, e))) at h))

both : (a b : Bool) → (a && b) ≡ true → (a ≡ true) × (b ≡ true)
both true b h = (refl, h)
both false b h = absurd (cc)

mutual
  -- the words of a shape without bytes are such
  pub shape-empty : (shape : Shape) (s : Setting) → without_bytes shape ≡ true → Empty (format_of shape s)
  shape-empty shapes.Unit s h = nothing-empty
  shape-empty (shapes.Array' len claim p element) s h =
      array-empty len (share claim) (format_of element s) (some-empty len (share claim) (format_of element s) (without_bytes element) h (λ k. shape-empty element s k))
  shape-empty (shapes.Tuple' v parts) s h = parts-empty parts s h
  shape-empty shape s h = absurd (cc)

  parts-empty : {m : _} → (parts : Row_of-Shape m) (s : Setting) → all_without parts ≡ true → Empty (tuple (at s (formats_of parts)))
  parts-empty end_of-Shape s h = nothing-empty
  parts-empty (more_of-Shape part others) s h =
      let p = both (without_bytes part) (all_without others) h in first_and-empty (shape-empty part s p.0) (parts-empty others s p.1)

-- steps that release what they reserve lead from each lower charge to itself
falls : (limit : Option ℕ) (c d after : ℕ) (steps : List Step) → IsBacked 0 steps → reserved_bytes steps ≡ released_bytes steps → charged_bytes steps ≡ 0 → Allows limit c → d ≤ c →
    charge_after_steps limit c steps ≡ Some after → charge_after_steps limit d steps ≡ Some d
falls None c d after steps b e f a le h = stays-after None d 0 steps b (omega arith) tt
falls (Some limit) c d after steps b e f a le h =
    let w = after-stays (Some limit) c 0 steps after b (omega arith) a h in
    let k : charge_after d steps ≡ d = omega (arith, e, f) in
    stays-after (Some limit) d 0 steps b (omega arith) (λ front back i. let q = w front back i in omega (arith, q, le)) ∙ ap (λ z. Some z) k

gave_is : {A : Type 0} (a m : A) (input remaining : List ℕ) (after : ℕ) (o : Option ℕ) → gave_at a input o ≡ Gave m remaining after → (m ≡ a) × (remaining ≡ input) × (o ≡ Some after)
gave_is a m input remaining after (Some n) e = (cc, cc, cc)
gave_is a m input remaining after None e = absurd (cc)

same_some : (a b : ℕ) → ◌≡◌ {A = Option ℕ} (Some a) (Some b) → a ≡ b
same_some a b e = cc

-- if one is decoded, so is each from a lower charge
answers-alike : {F : Format Meaning} (h : Empty F) → IsBalanced F → (limit : Option ℕ) (input remaining : List ℕ) (c after : ℕ) (m : Meaning) → Allows limit c →
    answer limit F input c ≡ Gave m remaining after → (m ≡ h.meaning) × (remaining ≡ input) × (after ≡ c) × ((d : ℕ) (i : List ℕ) → d ≤ c → answer limit F i d ≡ Gave h.meaning i d)
unfolding answer
answers-alike h b limit input remaining c after m a e =
    let p = gave_is h.meaning m input remaining after (charge_after_steps limit c h.steps) (sym (ap (weigh_reading limit c) (h.reads input)) ∙ e) in
    let q = rw (h.reads input) at (b.settles input) in
    let backed = q.0 in
    let even = q.1 in
    let back = falls limit c c after h.steps backed (omega (arith, even)) h.uncharged a (omega arith) p.2 in (
      p.0,
      p.1,
      same_some after c (sym p.2 ∙ back),
      λ d i le. ap (weigh_reading limit d) (h.reads i) ∙ ap (gave_at h.meaning i) (falls limit c d after h.steps backed (omega (arith, even)) h.uncharged a le p.2),
    )

-- n copies
abbrev pub copies : {A : Type 0} → ℕ → A → List A
copies zero a = []
copies (suc n) a = a ∷ copies n a

unclaimed-less : (limit : Option ℕ) (c n : ℕ) → after_release limit c n ≤ c
unclaimed-less None c n = omega arith
unclaimed-less (Some limit) c n = omega arith

unclaimed-none : (limit : Option ℕ) (c share : ℕ) → c ≡ after_release limit c (0 * share)
unclaimed-none None c share = refl
unclaimed-none (Some limit) c share = omega arith

unclaimed-twice : (limit : Option ℕ) (c n share : ℕ) → after_release limit (after_release limit c share) (n * share) ≡ after_release limit c (suc n * share)
unclaimed-twice None c n share = refl
unclaimed-twice (Some limit) c n share = let k : suc n * share ≡ n * share + share = omega arith in omega (arith, k)

module _ (limit : Option ℕ) (share : ℕ) (F : Format Meaning) (f : IsLawful F) (b : IsBalanced F) (all : Answer (List Meaning)) (input : List ℕ) (m : Meaning) (remaining : List ℕ) where
  -- all others are decoded
  others-alike : (n : ℕ) (ms : List Meaning) (c : ℕ) → ((d : ℕ) → d ≤ c → answer limit F remaining d ≡ Gave m remaining d) → ReadSoFar limit share F all input ms n remaining c →
      ReadSoFar limit share F all input (ms ++ copies n m) 0 remaining (after_release limit c (n * share))
  others-alike zero ms c each h =
      subst (λ z. ReadSoFar limit share F all input z 0 remaining (after_release limit c (0 * share))) (sym (append-nil ms))
      (subst (λ z. ReadSoFar limit share F all input ms 0 remaining z) (unclaimed-none limit c share) h)
  others-alike (suc n) ms c each h =
      let less = unclaimed-less limit c share in
      let next = one-more limit share F all input ms f b n remaining c m remaining (after_release limit c share) h (each (after_release limit c share) less) in
      subst (λ z. ReadSoFar limit share F all input z 0 remaining (after_release limit c (suc n * share))) (append_assoc ms (m ∷ []) (copies n m))
      (subst (λ z. ReadSoFar limit share F all input ((ms ++ m ∷ []) ++ copies n m) 0 remaining z) (unclaimed-twice limit c n share)
      (others-alike n (ms ++ m ∷ []) (after_release limit c share) (λ d le. each d (omega (arith, le, less))) next))

copies-listed : {A : Type 0} (Is : A → Meaning → Type 0) (v : A) (m : Meaning) → Is v m → (n : ℕ) (vs : List A) (ms : List Meaning) → IsListOf Is vs (list_meaning ms) →
    IsListOf Is (vs ++ copies n v) (list_meaning (ms ++ copies n m))
copies-listed Is v m is zero vs ms h = rw (append-nil vs, append-nil ms) h
copies-listed Is v m is (suc n) vs ms h =
    rw (sym (append_assoc vs (v ∷ []) (copies n v)), sym (append_assoc ms (m ∷ []) (copies n m)))
    (copies-listed Is v m is n (vs ++ v ∷ []) (ms ++ m ∷ []) (is_list-push Is vs ms v m h is))

times : (count claim : ℕ) → 0 < count → count * claim ≡ (count - 1) * claim + claim
times zero claim h = absurd (omega arith)
times (suc n) claim h =
    let e : suc n - 1 ≡ n = omega arith in
    let k : suc n * claim ≡ n * claim + claim = omega arith in
    rw e k

can-none : (limit : Option ℕ) (c claim : ℕ) → CanRelease limit c (0 * claim)
can-none None c claim = tt
can-none (Some limit) c claim = omega arith

held-alike : (limit : Option ℕ) (count claim start c : ℕ) → 0 < count → ReleasesAtMost limit (1 * claim) start c → CanRelease limit c ((count - 1) * claim) →
    ReleasesAtMost limit (count * claim) start (after_release limit c ((count - 1) * claim))
held-alike None count claim start c some h k = h
held-alike (Some limit) count claim start c some h k = let e = times count claim some in omega (arith, e, h, k)

module _ {D R C T : Type 0} {is_known : D → Type 0} {remaining : D → List ℕ} {charge failures : D → ℕ} {reader_of : D → R} {context_of : D → C} {loans : D → List GName}
    {limit : Option ℕ} {end_error : ℕ → DecodeError → Type 0} {device : DeviceErrors} {may_allocate : Type 0} {claim : ℕ} {format : Format Meaning} {decodes_to : Meaning → T → Type 0} where
  -- The first of a run was read, and the claims of the others were released: then all are read.
  pub alike-so_far : {count : ℕ} {v : T} {old middle now : D} (h : Empty format) → IsLawful format → IsBalanced format → 0 < count → Allows limit (charge old) →
      CanRelease limit (charge old) (count * claim) →
      Reads is_known remaining charge failures loans limit end_error device may_allocate format decodes_to (after_release limit (charge old) claim) (Ok v) old middle →
      MakesRelease is_known remaining charge failures reader_of context_of loans limit ((count - 1) * claim) middle now →
      RunSoFar is_known remaining charge failures loans limit claim format decodes_to count count (v ∷ copies (count - 1) v) old now
  alike-so_far {count} {v} {old} {middle} {now} h f b some allows room first release =
      let none : RunSoFar is_known remaining charge failures loans limit claim format decodes_to count 0 [] old old = none-so_far room in
      let one : RunSoFar is_known remaining charge failures loans limit claim format decodes_to count 1 (v ∷ []) old middle = next-so_far none some f b refl first in
      let all_read : count - count ≡ 0 = omega arith in
      let kept = release.kept in
      record {
        known = λ k.
            let s = one.known k in
            let p = first.ok k in
            let q = answers-alike h b limit (remaining old) (remaining middle) (after_release limit (charge old) claim) (charge middle) p.meaning (unclaimed-within limit (charge old) claim allows) p.answer_is in
            let lower : charge middle ≤ after_release limit (charge old) claim = omega (arith, q.2) in (
              kept.tells s.0,
              s.1 ++ copies (count - 1) h.meaning,
              rw (all_read, kept.same_remaining, release.released)
                  (others-alike limit claim format f b _ (remaining old) h.meaning (remaining middle) (count - 1) s.1 (charge middle) (λ d le. q.3 d (remaining middle) (omega (arith, le, lower))) s.2),
              copies-listed (λ x m. decodes_to m x) v h.meaning (rw (sym q.0) p.is_decoded) (count - 1) (v ∷ []) s.1 s.3,
            );
        reserved = rw all_read (can-none limit (charge now) claim);
        charge_kept = rw release.released (held-alike limit count claim (charge old) (charge middle) some one.charge_kept one.reserved);
        within = λ a. rw release.released (unclaimed-within limit (charge middle) ((count - 1) * claim) (one.within a));
        failures_monotone = let a = one.failures_monotone in let e = kept.same_failures in omega (arith, a, e);
        same_loans = kept.same_loans ∙ one.same_loans;
      }
