-- What shows that a variant is not read shows it of the enum.
use Rattle.std.specs.Prelude.{◌≡◌, ℕ, zero, suc, ◌+◌, true, List, [], ◌++◌, Some, None, refl}
use Rattle.std.proofs.Common.{◌∙◌, ap, sym, subst, arith}
use Rattle.std.proofs.lemmas.Bool.{ne_eqb}
use Rattle.bincode_base.specs.declared.error.IntegerType.TheVariants as integers
use Rattle.bincode_base.specs.Setting.{Setting}
use Rattle.bincode_spec.specs.Fault.{Allowed, EmptyEnum, UnexpectedVariant}
use Rattle.bincode_spec.specs.Format.{fail, map_format}
use Rattle.bincode_spec.specs.Integers.{Four}
use Rattle.bincode_spec.specs.Meaning.{Meaning, Choice}
use Rattle.bincode_spec.specs.Words.{Variant, variant_tags, allowed_tags, part, after_tag, tag_then_part, tag}
use Rattle.bincode_lemmas.specs.ChoiceLaws.{part-here, part-there}
use Rattle.bincode_lemmas.specs.IntegerLaws.{unsigned-lawful}
use Rattle.bincode_shape.specs.declared.shape.Shape as shapes
use Rattle.bincode_shape.specs.declared.shape.Shape.{Shape, Row_of-Shape, end_of-Shape, more_of-Shape, items-the_row-Shape}
use Rattle.bincode_shape.specs.ShapeLaws.{format_of-lawful}
use Rattle.bincode_shape.specs.Shapes.{format_of, formats_of, one_of, numbered_variants}
use Rattle.bincode_evolution.specs.Kinds.{nth, variant_at, is_choice}
use Rattle.bincode_evolution.specs.Reading.{ReadsTo, Differs, WordOf}
use Rattle.bincode_evolution.proofs.Taking.{TakesBoth, taken_in_turn, takes_in_turn, takes_map, taken_map, none_failed}
use Rattle.bincode_evolution.proofs.Inhabited.{spells_tag}
use Rattle.bincode_evolution.proofs.Wholes.{same_taken}

-- the part of a tag
found_part : {m : _} → (row : Row_of-Shape m) (s : Setting) (allowed : Allowed) (k n : ℕ) (a : Shape) → nth (items-the_row-Shape _ row) n ≡ Some a →
    part s (numbered_variants k (formats_of row)) allowed (k + n) ≡ map_format (Choice (k + n)) (format_of a s)
found_part end_of-Shape s allowed k n a e = absurd (cc)
found_part (more_of-Shape x others) s allowed k zero a e =
    let q : k + 0 ≡ k = omega arith in
    let h : x ≡ a = cc in
    rw q (part-here s allowed k (format_of x) (numbered_variants (k + 1) (formats_of others)) ∙ ap (λ z. map_format (Choice k) (format_of z s)) h)
found_part (more_of-Shape x others) s allowed k (suc n) a e =
    let q : k + suc n ≡ k + 1 + n = omega arith in
    rw q (part-there s allowed (k + 1 + n) k (format_of x) (numbered_variants (k + 1) (formats_of others)) (ne_eqb (k + 1 + n) k (λ z. omega (arith, z))) ∙ found_part others s allowed (k + 1) n a e)

none_part : {m : _} → (row : Row_of-Shape m) (s : Setting) (allowed : Allowed) (k n : ℕ) → nth (items-the_row-Shape _ row) n ≡ None →
    part s (numbered_variants k (formats_of row)) allowed (k + n) ≡ fail (UnexpectedVariant allowed (k + n))
none_part end_of-Shape s allowed k n e = refl
none_part (more_of-Shape x others) s allowed k zero e = absurd (cc)
none_part (more_of-Shape x others) s allowed k (suc n) e =
    let q : k + suc n ≡ k + 1 + n = omega arith in
    rw q (part-there s allowed (k + 1 + n) k (format_of x) (numbered_variants (k + 1) (formats_of others)) (ne_eqb (k + 1 + n) k (λ z. omega (arith, z))) ∙ none_part others s allowed (k + 1) n e)

tag_read : (s : Setting) (n : ℕ) → (word : List ℕ) × ((rest : List ℕ) → ReadsTo ((tag s).read (word ++ rest)) n rest)
tag_read s n =
    let w = spells_tag s n in
    let law = unsigned-lawful integers.U32 4 s (Four refl) in
    (w.0, λ rest. (w.1, law.word_read w.0 rest n w.1 w.2))

taken_choice : (s : Setting) (variants : List Variant) (input : List ℕ) (m : Meaning) (remaining : List ℕ) → ReadsTo ((tag_then_part tag variants s).read input) m remaining → TakesBoth (tag s) (after_tag variants s) input m remaining
unfolding tag_then_part
taken_choice s variants input m remaining t = taken_in_turn (tag s) (after_tag variants s) input m remaining t

takes_choice : (s : Setting) (variants : List Variant) (input : List ℕ) (m : Meaning) (remaining : List ℕ) → TakesBoth (tag s) (after_tag variants s) input m remaining → ReadsTo ((tag_then_part tag variants s).read input) m remaining
unfolding tag_then_part
takes_choice s variants input m remaining t = takes_in_turn (tag s) (after_tag variants s) input m remaining t

-- a variant, by its tag
chosen_taken : {m : _} → (row : Row_of-Shape m) (s : Setting) (n : ℕ) (a : Shape) → nth (items-the_row-Shape _ row) n ≡ Some a → (input : List ℕ) (meaning : Meaning) (remaining : List ℕ) →
    ReadsTo ((format_of a s).read input) meaning remaining → ReadsTo ((one_of (numbered_variants 0 (formats_of row)) s).read ((tag_read s n).0 ++ input)) (Choice n meaning) remaining
chosen_taken end_of-Shape s n a e input meaning remaining t = absurd (cc)
chosen_taken (more_of-Shape x others) s n a e input meaning remaining t =
    let variants = numbered_variants 0 (formats_of (more_of-Shape x others)) in
    let q : 0 + n ≡ n = omega arith in
    let here : part s variants (allowed_tags (variant_tags variants)) n ≡ map_format (Choice n) (format_of a s) =
    subst (λ z. part s variants (allowed_tags (variant_tags variants)) z ≡ map_format (Choice z) (format_of a s)) q (found_part (more_of-Shape x others) s (allowed_tags (variant_tags variants)) 0 n a e) in
    takes_choice s variants ((tag_read s n).0 ++ input) (Choice n meaning) remaining (record {
      head = n;
      middle = input;
      first = (tag_read s n).1 input;
      second = subst (λ F. ReadsTo (F.read input) (Choice n meaning) remaining) (sym here) (takes_map (Choice n) (format_of a s) input meaning remaining t);
    })

-- another enum takes it only if its own variant does
chosen_only : {m : _} → (row : Row_of-Shape m) (s : Setting) (n : ℕ) (b : Shape) → nth (items-the_row-Shape _ row) n ≡ Some b → (input : List ℕ) (meaning : Meaning) (remaining : List ℕ) →
    ReadsTo ((one_of (numbered_variants 0 (formats_of row)) s).read ((tag_read s n).0 ++ input)) (Choice n meaning) remaining → ReadsTo ((format_of b s).read input) meaning remaining
chosen_only end_of-Shape s n b e input meaning remaining t = absurd (cc)
chosen_only (more_of-Shape x others) s n b e input meaning remaining t =
    let variants = numbered_variants 0 (formats_of (more_of-Shape x others)) in
    let q : 0 + n ≡ n = omega arith in
    let here : part s variants (allowed_tags (variant_tags variants)) n ≡ map_format (Choice n) (format_of b s) =
    subst (λ z. part s variants (allowed_tags (variant_tags variants)) z ≡ map_format (Choice z) (format_of b s)) q (found_part (more_of-Shape x others) s (allowed_tags (variant_tags variants)) 0 n b e) in
    let p = taken_choice s variants ((tag_read s n).0 ++ input) (Choice n meaning) remaining t in
    let r = same_taken ((tag s).read ((tag_read s n).0 ++ input)) n p.head input p.middle ((tag_read s n).1 input) p.first in
    let u : ReadsTo ((after_tag variants s n).read input) (Choice n meaning) remaining =
    subst (λ z. ReadsTo ((after_tag variants s n).read z) (Choice n meaning) remaining) r.1 (subst (λ k. ReadsTo ((after_tag variants s k).read p.middle) (Choice n meaning) remaining) r.0 p.second) in
    let v = taken_map (Choice n) (format_of b s) input (Choice n meaning) remaining (subst (λ F. ReadsTo (F.read input) (Choice n meaning) remaining) here u) in
    let k : meaning ≡ v.0 = let w = v.1 in cc in
    subst (λ z. ReadsTo ((format_of b s).read input) z remaining) (sym k) v.2

chosen_none : {m : _} → (row : Row_of-Shape m) (s : Setting) (n : ℕ) → nth (items-the_row-Shape _ row) n ≡ None → (input : List ℕ) (meaning : Meaning) (remaining : List ℕ) →
    ReadsTo ((one_of (numbered_variants 0 (formats_of row)) s).read ((tag_read s n).0 ++ input)) meaning remaining → ⊥
chosen_none end_of-Shape s n e input meaning remaining t = (none_failed EmptyEnum).none ((tag_read s n).0 ++ input) remaining meaning t
chosen_none (more_of-Shape x others) s n e input meaning remaining t =
    let variants = numbered_variants 0 (formats_of (more_of-Shape x others)) in
    let allowed = allowed_tags (variant_tags variants) in
    let q : 0 + n ≡ n = omega arith in
    let here : part s variants allowed n ≡ fail (UnexpectedVariant allowed n) =
    subst (λ z. part s variants allowed z ≡ fail (UnexpectedVariant allowed z)) q (none_part (more_of-Shape x others) s allowed 0 n e) in
    let p = taken_choice s variants ((tag_read s n).0 ++ input) meaning remaining t in
    let r = same_taken ((tag s).read ((tag_read s n).0 ++ input)) n p.head input p.middle ((tag_read s n).1 input) p.first in
    let u = subst (λ k. ReadsTo ((after_tag variants s k).read p.middle) meaning remaining) r.0 p.second in
    (none_failed (UnexpectedVariant allowed n)).none p.middle remaining meaning (subst (λ F. ReadsTo (F.read p.middle) meaning remaining) here u)

-- Of an enum whose variant is not read, an input shows it,
pub variant-differs : (old new : Shape) (s : Setting) (n : ℕ) (a b : Shape) → variant_at old n ≡ Some a → variant_at new n ≡ Some b → is_choice new ≡ true → Differs (format_of b s) (format_of a s) → Differs (format_of new s) (format_of old s)
variant-differs (shapes.Choice' v parts) (shapes.Choice' u others) s n a b e f i d = record {
  input = (tag_read s n).0 ++ d.input;
  remaining = d.remaining;
  meaning = Choice n d.meaning;
  taken = chosen_taken parts s n a e d.input d.meaning d.remaining d.taken;
  untaken = λ t. d.untaken (chosen_only others s n b f d.input d.meaning d.remaining t);
}
variant-differs (shapes.Choice' v parts) new s n a b e f i d = absurd (cc)
variant-differs old new s n a b e f i d = absurd (cc)

-- and of one whose variant is missing
pub missing-differs : (old new : Shape) (s : Setting) (n : ℕ) (a : Shape) → variant_at old n ≡ Some a → variant_at new n ≡ None → is_choice new ≡ true → WordOf (format_of a s) → Differs (format_of new s) (format_of old s)
missing-differs (shapes.Choice' v parts) (shapes.Choice' u others) s n a e f i w =
    let t : ReadsTo ((format_of a s).read (w.word ++ [])) w.meaning [] = (w.steps, (format_of-lawful a s).word_read w.word [] w.meaning w.steps w.is_word) in
    record {
      input = (tag_read s n).0 ++ (w.word ++ []);
      remaining = [];
      meaning = Choice n w.meaning;
      taken = chosen_taken parts s n a e (w.word ++ []) w.meaning [] t;
      untaken = λ u. chosen_none others s n f (w.word ++ []) (Choice n w.meaning) [] u;
    }
missing-differs (shapes.Choice' v parts) new s n a e f i w = absurd (cc)
missing-differs old new s n a e f i w = absurd (cc)
