-- Runs of commands.
use Rattle.std.specs.Prelude.{◌++◌, List, [], ◌∷◌}
use Rattle.std.proofs.Common.{subst}
use Rattle.replay.specs.Replays.{Run}

-- one run after another
pub runs-join : {S A : Type 0} (applies : S → A → S → Type 0) (first second : List A) (old mid new : S) → Run applies old first mid → Run applies mid second new → Run applies old (first ++ second) new
runs-join applies [] second old mid new r s = subst (λ z. Run applies z second new) r s
runs-join applies (command ∷ first) second old mid new r s = (r.0, r.1, runs-join applies first second r.0 mid new r.2 s)
