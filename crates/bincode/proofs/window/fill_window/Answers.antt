use Rattle.std.proofs.Common.{rules, ◌≤◌, length}
use Rattle.bincode.proofs.Windowed.{window-filled, front-copied}
use Rattle.bincode.proofs.window.fill_window.Goals as goal

pub returns-clause-shows : goal.returns-clause-shows
returns-clause-shows g c =
    let kept = rw c.in-Ok.is at c.fill_buf.follows.holds-at-none in
    let few : c.min-len.result ≤ length c.in-Ok.shown.now = search rules in
    window-filled _ _ _ c.in-Ok.shown.now _ _ c.in-Ok.ensures.front kept.0 kept.1 few (front-copied _ _ c.in-Ok.shown.now _ c.copy_from_slice.ensures.after few)
