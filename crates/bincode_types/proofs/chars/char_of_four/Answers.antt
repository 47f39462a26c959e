use Rattle.std.proofs.Common.{◌≡◌, ◌+◌, ◌*◌, ◌∷◌, [], sym, ◌∙◌, arith}
use Rattle.bincode_spec.specs.Words.{code_point}
use Rattle.bincode_lemmas.specs.CharLaws.{length-encoded_3, spells-longer, spells-other, spells-past, spells-found}
use Rattle.bincode_types.proofs.chars.char_of_four.Goals as goal
use Rattle.bincode_types.proofs.chars.char_of_four.Goals.{then-code-lt65536-via-then-code-lt65536}
use Rattle.bincode_types.proofs.chars.char_of_four.Goals.{then-code-lt65536-via-else-code-lt65536+then-code-ge1114112}
use Rattle.bincode_types.proofs.chars.char_of_four.Goals.{then-code-lt65536-via-else-code-lt65536+else-code-ge1114112+then-ne}

pub returns-then-code-lt65536 : goal.returns-then-code-lt65536
returns-then-code-lt65536 c =
    let k : code_point (c.args.first ∷ c.args.second ∷ c.args.third ∷ c.args.fourth ∷ []) ≡ ((c.from.result * 64 + c.from-2.result) * 64 + c.from-3.result) * 64 + c.from-4.result =
    omega (arith, c.from.ensures, c.from-2.ensures, c.from-3.ensures, c.from-4.ensures) in
    elim c.then-code-lt65536.branch [
      | then-code-lt65536-via-then-code-lt65536 w ↦ spells-longer c.args.first (c.args.second ∷ c.args.third ∷ c.args.fourth ∷ []) c.requires _ k 3
          (length-encoded_3 _ w.if-code-lt65536.true) (omega arith)
      | then-code-lt65536-via-else-code-lt65536+then-code-ge1114112 w ↦ spells-past c.args.first (c.args.second ∷ c.args.third ∷ c.args.fourth ∷ []) c.requires _ k w.if-code-ge1114112.true
      | then-code-lt65536-via-else-code-lt65536+else-code-ge1114112+then-ne w ↦ spells-other c.args.first
          (c.args.second ∷ c.args.third ∷ c.args.fourth ∷ []) c.requires _ k w.four_bytes_of_char.result w.four_bytes_of_char.ensures (sym w.if-ne.true ∙ w.ne.ensures)
    ]

pub returns : goal.returns
returns c =
    let k : code_point (c.args.first ∷ c.args.second ∷ c.args.third ∷ c.args.fourth ∷ []) ≡ ((c.from.result * 64 + c.from-2.result) * 64 + c.from-3.result) * 64 + c.from-4.result =
    omega (arith, c.from.ensures, c.from-2.ensures, c.from-3.ensures, c.from-4.ensures) in
    spells-found c.args.first (c.args.second ∷ c.args.third ∷ c.args.fourth ∷ []) c.requires _ k c.from_u32.result c.four_bytes_of_char.result c.four_bytes_of_char.ensures
    (sym c.if-ne.false ∙ c.ne.ensures) c.from_u32.ensures.value
