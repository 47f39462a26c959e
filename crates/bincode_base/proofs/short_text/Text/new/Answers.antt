use Rattle.std.proofs.Common.{drop, sym, ap, ◌∙◌, ◌++◌, arith}
use Rattle.bincode_base.proofs.Shown.{put-in, whole, split}
use Rattle.bincode_base.proofs.short_text.Text.new.Goals as goal

pub returns-clause-whole : goal.returns-clause-whole
returns-clause-whole g c fits =
    put-in g.row.ROOM _ _ _ (omega arith) (c.copy_from_slice.ensures.after ∙ c.as_bytes.ensures.value) c.range-kept.utf8
    ∙ c.range-kept.ensures.value ∙ whole _ _ _ c.floor_char_boundary.ensures.nearest (omega arith)

pub returns-clause-front : goal.returns-clause-front
returns-clause-front g c =
    let shown = put-in g.row.ROOM _ _ _ (omega arith) (c.copy_from_slice.ensures.after ∙ c.as_bytes.ensures.value) c.range-kept.utf8 ∙ c.range-kept.ensures.value in
    (drop c.floor_char_boundary.result c.args.text.now, split _ _ ∙ ap (λ l. l ++ drop c.floor_char_boundary.result c.args.text.now) (sym shown))
