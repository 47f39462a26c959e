use Rattle.std.proofs.Common.{rules, sym, ◌∙◌}
use Rattle.bincode.proofs.Known.{kept-known}
use Rattle.bincode.proofs.Windowed.{window-part}
use Rattle.bincode.proofs.window.WindowReader.read_past.Goals as goal

pub returns-in-Ok-clause-ok : goal.returns-in-Ok-clause-ok
returns-in-Ok-clause-ok g c = λ shows.
    let left = c.give_back.ensures.left shows in
    let kept = kept-known _ _ c.in-Ok.ensures.kept left.0 in
    let shown = c.in-Ok.ensures.shows left.0 in
    sym left.1 ∙ kept.1 ∙ window-part _ _ c.fill_window.new.window _ c.in-Ok.len 0 _ _ shown (search rules) (search rules) (search rules) c.copy_from_slice.ensures.after
