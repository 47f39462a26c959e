-- What a text spells after more of it was read.
use Rattle.std.specs.Prelude.{◌≡◌, ℕ, List, [], ◌∷◌, ◌++◌, Box, Result, Ok, Err, IfOk}
use Rattle.std.proofs.Common.{◌∙◌, ap, sym, subst}
use Rattle.std.specs.declared.alloc.Global.{Global}
use Rattle.std.specs.declared.vec.Vec.{Vec}
use Rattle.bincode_shape.specs.declared.shape.Shape.{Shape}
use Rattle.bincode_shape.specs.declared.shape.Shape.TheVariants as shapes
use Rattle.shape_grammar.specs.declared.nested.Nested.{Nested}
use Rattle.shape_grammar.specs.declared.text.ShapeTextError.{ShapeTextError}
use Rattle.shape_grammar.specs.Claims.{claim, as_u128}
use Rattle.shape_grammar.specs.Grammar.{Kind, Spells, Alone, Marked, Any, Variants, Barred, Parts, Length, nothing, tuple, tuple_comma, list, array, unmarked, optional, one, choice, barred_choice, variants, variant, barred, barred_variant, part, parts}
use Rattle.shape_grammar.specs.Marks.{Mark}

-- `Spells` of an equal shape, an equal rest, and equal shapes
as_shape : {k : Kind} {a b : List ℕ} {shape whole : Shape} → whole ≡ shape → Spells k a (shape ∷ []) b → Spells k a (whole ∷ []) b
as_shape {k} {a} {b} e s = subst (λ z. Spells k a (z ∷ []) b) (sym e) s

pub as_rest : {k : Kind} {a b c : List ℕ} {xs : List Shape} → c ≡ b → Spells k a xs b → Spells k a xs c
as_rest {k} {a} {b} {c} {xs} e s = subst (λ z. Spells k a xs z) (sym e) s

-- `Spells` of an equal front, of what was read, if anything was
pub as_front : (a b c : List ℕ) (r : Result Nested ShapeTextError) → b ≡ a → IfOk r (λ read. Spells Any b (read.shape ∷ []) c) → IfOk r (λ read. Spells Any a (read.shape ∷ []) c)
as_front a b c r e h = subst (λ z. IfOk r (λ read. Spells Any z (read.shape ∷ []) c)) e h

as_shapes : {k : Kind} {a b : List ℕ} {xs ys : List Shape} → ys ≡ xs → Spells k a xs b → Spells k a ys b
as_shapes {k} {a} {b} e s = subst (λ z. Spells k a z b) (sym e) s

pub unit-of : (a b c : List ℕ) (whole : Shape) → whole ≡ shapes.Unit → Mark 40 a b → Mark 41 b c → Spells Alone a (whole ∷ []) c
unit-of a b c whole e m n = as_shape e (nothing a b c m n)

pub optional-of : (a b c : List ℕ) (held : Box Shape Global) (inner whole : Shape) → held.value ≡ inner → whole ≡ shapes.Optional held →
    Spells Marked a (inner ∷ []) b → Mark 63 b c → Spells Marked a (whole ∷ []) c
optional-of a b c held inner whole e f s m = as_shape f (optional a b c held (as_shape e s) m)

pub any-of : (a b c : List ℕ) (shape : Shape) → c ≡ b → Spells Marked a (shape ∷ []) b → Spells Any a (shape ∷ []) c
any-of a b c shape e s = as_rest e (one a b shape s)

pub two-variants : (a b c d : List ℕ) (first second : Shape) (none single both : List Shape) → none ≡ [] → single ≡ none ++ first ∷ [] → both ≡ single ++ second ∷ [] →
    Spells Marked a (first ∷ []) b → Mark 124 b c → Spells Marked c (second ∷ []) d → Spells Variants a both d
two-variants a b c d first second none single both p q r s m t =
    as_shapes (r ∙ ap (λ z. z ++ second ∷ []) (q ∙ ap (λ z. z ++ first ∷ []) p)) (variants a b c d first second s m t)

pub more-variants : (a b c d : List ℕ) (others longer : List Shape) (last : Shape) → longer ≡ others ++ last ∷ [] →
    Spells Variants a others b → Mark 124 b c → Spells Marked c (last ∷ []) d → Spells Variants a longer d
more-variants a b c d others longer last e s m t = as_shapes e (variant a b c d others last s m t)

pub choice-of : (a b c : List ℕ) (v : Vec Shape Global) (r : Result Nested ShapeTextError) → IfOk r (λ read. read.shape ≡ shapes.Choice v) → c ≡ b →
    Spells Variants a v.items b → IfOk r (λ read. Spells Any a (read.shape ∷ []) c)
choice-of a b c v (Ok read) e f s = as_shape e (as_rest f (choice a b v s))
choice-of a b c v (Err why) e f s = tt

pub first-barred : (a b c : List ℕ) (first : Shape) (none single : List Shape) → none ≡ [] → single ≡ none ++ first ∷ [] → Mark 124 a b → Spells Marked b (first ∷ []) c → Spells Barred a single c
first-barred a b c first none single p q m s = as_shapes (q ∙ ap (λ z. z ++ first ∷ []) p) (barred a b c first m s)

pub more-barred : (a b c d : List ℕ) (others longer : List Shape) (last : Shape) → longer ≡ others ++ last ∷ [] →
    Spells Barred a others b → Mark 124 b c → Spells Marked c (last ∷ []) d → Spells Barred a longer d
more-barred a b c d others longer last e s m t = as_shapes e (barred_variant a b c d others last s m t)

pub barred_choice-of : (b c d : List ℕ) (v : Vec Shape Global) (r : Result Nested ShapeTextError) → IfOk r (λ read. read.shape ≡ shapes.Choice v) → d ≡ c →
    ((a : List ℕ) → Mark 124 a b → Spells Barred a v.items c) → IfOk r (λ read. (a : List ℕ) → Mark 124 a b → Spells Any a (read.shape ∷ []) d)
barred_choice-of b c d v (Ok read) e f s = λ a m. as_shape e (as_rest f (barred_choice a c v (s a m)))
barred_choice-of b c d v (Err why) e f s = tt

pub marked-of : (a b c : List ℕ) (inner : Shape) (r : Result Nested ShapeTextError) →
    IfOk r (λ read. (x : List ℕ) → Spells Marked x (inner ∷ []) b → Spells Marked x (read.shape ∷ []) c) → Spells Alone a (inner ∷ []) b →
    IfOk r (λ read. Spells Marked a (read.shape ∷ []) c)
marked-of a b c inner (Ok read) h s = h a (unmarked a b inner s)
marked-of a b c inner (Err why) h s = tt

pub first-part : (a b c : List ℕ) (first : Shape) (none single : List Shape) → none ≡ [] → single ≡ none ++ first ∷ [] → c ≡ b →
    Spells Any a (first ∷ []) b → Spells Parts a single c
first-part a b c first none single p q e s = as_shapes (q ∙ ap (λ z. z ++ first ∷ []) p) (as_rest e (part a b first s))

pub more-parts : (a b c d e : List ℕ) (others longer : List Shape) (last : Shape) → longer ≡ others ++ last ∷ [] → e ≡ c →
    Spells Parts a others b → Mark 44 b c → Spells Any e (last ∷ []) d → Spells Parts a longer d
more-parts a b c d e others longer last p q s m t = as_shapes p (parts a b c d others last s m (subst (λ z. Spells Any z (last ∷ []) d) q t))

pub tuple-of : (a b c d : List ℕ) (v : Vec Shape Global) (whole : Shape) → whole ≡ shapes.Tuple v → Mark 40 a b → Spells Parts b v.items c → Mark 41 c d → Spells Alone a (whole ∷ []) d
tuple-of a b c d v whole e m s n = as_shape e (tuple a b c d v m s n)

pub tuple_comma-of : (a b c d e : List ℕ) (v : Vec Shape Global) (whole : Shape) → whole ≡ shapes.Tuple v → Mark 40 a b → Spells Parts b v.items c → Mark 44 c d → Mark 41 d e →
    Spells Alone a (whole ∷ []) e
tuple_comma-of a b c d e v whole p m s n o = as_shape p (tuple_comma a b c d e v m s n o)

as_list : (claimed : ℕ) (element : Box Shape Global) (inner : Shape) → element.value ≡ inner → claimed ≡ as_u128 (claim inner) → claimed ≡ as_u128 (claim element.value)
as_list claimed element inner e f = f ∙ ap (λ z. as_u128 (claim z)) (sym e)

pub list-of : (a b c d e : List ℕ) (claimed : ℕ) (element : Box Shape Global) (inner whole : Shape) → element.value ≡ inner → claimed ≡ as_u128 (claim inner) →
    whole ≡ shapes.Seq claimed element → e ≡ c → Mark 91 a b → Spells Any b (inner ∷ []) c → Mark 93 e d → Spells Alone a (whole ∷ []) d
list-of a b c d e claimed element inner whole p q r f m s n =
    as_shape (r ∙ ap (λ z. shapes.Seq z element) (as_list claimed element inner p q)) (list a b e d element m (as_rest f (as_shape p s)) n)

pub array-of : (a b c d e f g : List ℕ) (len claimed : ℕ) (element : Box Shape Global) (inner whole : Shape) → element.value ≡ inner → claimed ≡ as_u128 (claim inner) →
    whole ≡ shapes.Array len claimed element → Mark 91 a b → Spells Any b (inner ∷ []) c → Mark 59 c d → Length len d e → g ≡ e → Mark 93 g f → Spells Alone a (whole ∷ []) f
array-of a b c d e f g len claimed element inner whole p q r m s n l h o =
    as_shape (r ∙ ap (λ z. shapes.Array len z element) (as_list claimed element inner p q)) (array a b c d e f len element m (as_shape p s) n l (subst (λ z. Mark 93 z f) h o))
