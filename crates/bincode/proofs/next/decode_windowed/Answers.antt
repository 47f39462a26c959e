use Rattle.std.proofs.Common.{rules, ◌≡◌, sym, ap}
use Rattle.bincode.proofs.Relayed.{relayed}
use Rattle.bincode.proofs.Windowed.{window-empty}
use Rattle.bincode.proofs.next.decode_windowed.Goals as goal

pub returns : goal.returns
returns g c =
    let after : c.src-1.given.0 ≡ c.drop-reader.new.self.0 = search rules in
    rw after (relayed _ _ _ _ _ _ _ _ _ _ _ _ _ _ _ c.decode_from_reader_with.ensures.answer
    (window-empty _ _ _ _ _ _ (ap g.R.Read.remaining c.new-reader.ensures.stream) c.new-reader.ensures.empty.0 c.new-reader.ensures.empty.1)
    (λ shows. let left = c.drop-reader.ensures shows in (left.0, sym left.1)))
