use Rattle.std.proofs.Common.{◌≡◌, ◌+◌, ◌*◌, ◌∷◌, [], sym, ◌∙◌, arith}
use Rattle.bincode_spec.specs.Words.{code_point}
use Rattle.bincode_lemmas.specs.CharLaws.{length-encoded_1, spells-longer, spells-other, spells-found}
use Rattle.bincode_types.proofs.chars.char_of_two.Goals as goal
use Rattle.bincode_types.proofs.chars.char_of_two.Goals.{then-code-lt128-via-then-code-lt128, then-code-lt128-via-else-code-lt128+then-ne}

pub returns-then-code-lt128 : goal.returns-then-code-lt128
returns-then-code-lt128 c =
    let k : code_point (c.args.first ∷ c.args.second ∷ []) ≡ c.from.result * 64 + c.from-2.result = omega (arith, c.from.ensures, c.from-2.ensures) in
    elim c.then-code-lt128.branch [
      | then-code-lt128-via-then-code-lt128 w ↦ spells-longer c.args.first (c.args.second ∷ []) c.requires _ k 1 (length-encoded_1 _ w.if-code-lt128.true) (omega arith)
      | then-code-lt128-via-else-code-lt128+then-ne w ↦ spells-other c.args.first (c.args.second ∷ []) c.requires _ k w.two_bytes_of_char.result w.two_bytes_of_char.ensures
          (sym w.if-ne.true ∙ w.ne.ensures)
    ]

pub returns : goal.returns
returns c =
    let k : code_point (c.args.first ∷ c.args.second ∷ []) ≡ c.from.result * 64 + c.from-2.result = omega (arith, c.from.ensures, c.from-2.ensures) in
    spells-found c.args.first (c.args.second ∷ []) c.requires _ k c.from_u32.result c.two_bytes_of_char.result c.two_bytes_of_char.ensures (sym c.if-ne.false ∙ c.ne.ensures) c.from_u32.ensures.value
