use Rattle.std.proofs.Common.{refl, ap, take, ◌∙◌, arith, Bor}
use Rattle.bincode_base.proofs.Shown.{checked}
use Rattle.bincode_base.proofs.short_text.Text.as_str.Goals as goal

pub returns : goal.returns
returns g c =
    let self = c.args.self.now in
    ap (λ (s : Bor _). s.now) c.unwrap_or.ensures
    ∙ checked self _ c.from_utf8.result _ _ (omega arith) (ap (λ n. take n self.bytes) (omega arith)) refl c.from_utf8.ensures.cases
