use Rattle.std.proofs.Common.{◌≡◌, ◌+◌, ◌*◌, ◌∷◌, [], sym, ◌∙◌, arith}
use Rattle.bincode_spec.specs.Words.{code_point}
use Rattle.bincode_lemmas.specs.CharLaws.{length-encoded_2, spells-longer, spells-other, spells-found}
use Rattle.bincode_types.proofs.chars.char_of_three.Goals as goal
use Rattle.bincode_types.proofs.chars.char_of_three.Goals.{then-code-lt2048-via-then-code-lt2048, then-code-lt2048-via-else-code-lt2048+then-ne}

pub returns-then-code-lt2048 : goal.returns-then-code-lt2048
returns-then-code-lt2048 c =
    let k : code_point (c.args.first ∷ c.args.second ∷ c.args.third ∷ []) ≡ (c.from.result * 64 + c.from-2.result) * 64 + c.from-3.result =
    omega (arith, c.from.ensures, c.from-2.ensures, c.from-3.ensures) in
    elim c.then-code-lt2048.branch [
      | then-code-lt2048-via-then-code-lt2048 w ↦ spells-longer c.args.first (c.args.second ∷ c.args.third ∷ []) c.requires _ k 2 (length-encoded_2 _ w.if-code-lt2048.true) (omega arith)
      | then-code-lt2048-via-else-code-lt2048+then-ne w ↦ spells-other c.args.first
          (c.args.second ∷ c.args.third ∷ []) c.requires _ k w.three_bytes_of_char.result w.three_bytes_of_char.ensures (sym w.if-ne.true ∙ w.ne.ensures)
    ]

pub returns : goal.returns
returns c =
    let k : code_point (c.args.first ∷ c.args.second ∷ c.args.third ∷ []) ≡ (c.from.result * 64 + c.from-2.result) * 64 + c.from-3.result =
    omega (arith, c.from.ensures, c.from-2.ensures, c.from-3.ensures) in
    spells-found c.args.first (c.args.second ∷ c.args.third ∷ []) c.requires _ k c.from_u32.result c.three_bytes_of_char.result c.three_bytes_of_char.ensures
    (sym c.if-ne.false ∙ c.ne.ensures) c.from_u32.ensures.value
