use Rattle.std.proofs.Common.{◌≡◌, ◌+◌, ◌-◌, length, take, drop, ap, ◌∙◌, arith, rules, length-drop, take_all}
use lib.Seq.{paste}
use Rattle.std.proofs.lemmas.List.{with_items_is, places}
use Rattle.std.proofs.lemmas.List.Edits.{take-paste}
use Rattle.shape_text.proofs.window.remove_front.Goals as goal

pub returns : goal.returns
returns c =
    let all = c.as_mut_slice.result.now in
    let left = c.len-len.result - c.args.count in
    let long : length all ≡ c.len-len.result = search rules in
    let same : left ≡ 0 + left = omega arith in
    let rest : length (drop c.args.count all) ≡ left = omega (arith, length-drop c.args.count all) in
    c.truncate.ensures.items ∙ ap (take left) (with_items_is c.args.bytes.now c.copy_within.new.self (search (rules, places)) ∙ c.copy_within.ensures.after)
    ∙ ap (λ k. take k (paste all 0 (drop c.args.count all) left)) same ∙ take-paste all 0 (drop c.args.count all) left (omega arith) (omega arith)
    ∙ take_all left (drop c.args.count all) (omega arith) ∙ ap (drop c.args.count) c.as_mut_slice.ensures.value
