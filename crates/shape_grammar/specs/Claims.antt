-- What a list claims for each element of a shape, in bytes.
use Rattle.std.specs.Prelude.{◌≡◌, ℕ, ◌+◌, ◌*◌, ◌-◌, ◌^◌, max, min, List, [], ◌∷◌, refl}
use Rattle.std.proofs.Common.{◌∙◌, ap}
use Rattle.std.specs.declared.alloc.Global.{Global}
use Rattle.std.specs.declared.vec.Vec.{Vec}
use Rattle.bincode_shape.specs.declared.shape.Shape as shapes
use Rattle.bincode_shape.specs.declared.shape.Shape.{Shape, Row_of-Shape, end_of-Shape, more_of-Shape, items-the_row-Shape, items_hidden-the_row-Shape-0}
use Rattle.bincode_shape.specs.declared.shape.Shape.TheBlock.{hidden-the_row-Shape-0}

abbrev mutual
  -- the claim size of the types with this shape, at least 1
  pub claim : Shape → ℕ
  claim shapes.Unit = 1
  claim shapes.Bool = 1
  claim shapes.Char = 4
  claim shapes.Text = 24
  claim shapes.U8 = 1
  claim shapes.U16 = 2
  claim shapes.U32 = 4
  claim shapes.U64 = 8
  claim shapes.U128 = 16
  claim shapes.Usize = 8
  claim shapes.I8 = 1
  claim shapes.I16 = 2
  claim shapes.I32 = 4
  claim shapes.I64 = 8
  claim shapes.I128 = 16
  claim shapes.Isize = 8
  claim (shapes.Seq' c p element) = 24
  claim (shapes.Array' len c p element) = max (claim element * len) 1
  claim (shapes.Tuple' v parts) = max (sum_of parts) 1
  claim (shapes.Optional' p part) = claim part + 1
  claim (shapes.Choice' v parts) = greatest_of parts + 4

  pub sum_of : {m : _} → Row_of-Shape m → ℕ
  sum_of end_of-Shape = 0
  sum_of (more_of-Shape part others) = claim part + sum_of others

  pub greatest_of : {m : _} → Row_of-Shape m → ℕ
  greatest_of end_of-Shape = 0
  greatest_of (more_of-Shape part others) = max (claim part) (greatest_of others)

-- the sum over some shapes, and the greatest of them
abbrev pub claim_sum : List Shape → ℕ
claim_sum [] = 0
claim_sum (part ∷ others) = claim part + claim_sum others

abbrev pub greatest_claim : List Shape → ℕ
greatest_claim [] = 0
greatest_claim (part ∷ others) = max (claim part) (greatest_claim others)

sum_of-items : {m : _} → (row : Row_of-Shape m) → sum_of row ≡ claim_sum (items-the_row-Shape _ row)
sum_of-items end_of-Shape = refl
sum_of-items (more_of-Shape part others) = ap (λ z. claim part + z) (sum_of-items others)

pub sum_of-vec : (v : Vec Shape Global) → sum_of (hidden-the_row-Shape-0 v) ≡ claim_sum v.items
sum_of-vec v = sum_of-items (hidden-the_row-Shape-0 v) ∙ ap claim_sum (items_hidden-the_row-Shape-0 v)

greatest_of-items : {m : _} → (row : Row_of-Shape m) → greatest_of row ≡ greatest_claim (items-the_row-Shape _ row)
greatest_of-items end_of-Shape = refl
greatest_of-items (more_of-Shape part others) = ap (λ z. max (claim part) z) (greatest_of-items others)

pub greatest_of-vec : (v : Vec Shape Global) → greatest_of (hidden-the_row-Shape-0 v) ≡ greatest_claim v.items
greatest_of-vec v = greatest_of-items (hidden-the_row-Shape-0 v) ∙ ap greatest_claim (items_hidden-the_row-Shape-0 v)

-- as a `usize`, at most its maximum
abbrev pub as_u128 : ℕ → ℕ
as_u128 n = min n (2 ^ 64 - 1)
