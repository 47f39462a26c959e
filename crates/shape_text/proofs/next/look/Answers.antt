use Rattle.std.specs.Prelude.{Err}
use Rattle.std.proofs.Common.{subst}
use Rattle.bincode_shape.specs.Shapes.{format_of}
use Rattle.bincode_shape.specs.ShapeLaws.{format_of-lawful, format_of-balanced}
use Rattle.bincode_spec.specs.Slice.{FindsWords, TellsFaults, KeepsLimit}
use Rattle.shape_text.specs.Windows.{shown_bytes}
use Rattle.shape_text.proofs.Sought.{shown-refused, end-refused}
use Rattle.shape_text.proofs.next.look.Goals as goal

pub returns-then-not-is_cut-clause-refused : goal.returns-then-not-is_cut-clause-refused
returns-then-not-is_cut-clause-refused g c =
    let shape = c.args.shape.now in
    let F = format_of shape g.C.Config.setting in
    let limit = g.C.Config.bound in
    let why = c.in-Err.why in
    let same = c.bytes.ensures in
    shown-refused F (format_of-lawful shape _) (format_of-balanced shape _) limit (shown_bytes c.args.window.now) why c.requires
    (subst (λ z. FindsWords {A = Unit {0}} F limit ⊥ z (Err why)) same c.in-Err.ensures.found)
    (subst (λ z. TellsFaults {A = Unit {0}} F limit ⊥ z (Err why)) same c.in-Err.ensures.fault)
    (subst (λ z. KeepsLimit {A = Unit {0}} F limit ⊥ z (Err why)) same c.in-Err.ensures.limit)
    _ (λ h. let t = c.is_cut.ensures.1 h in absurd (cc))

pub returns-in-Ok-false-clause-refused : goal.returns-in-Ok-false-clause-refused
returns-in-Ok-false-clause-refused g c =
    let shape = c.args.shape.now in
    let F = format_of shape g.C.Config.setting in
    let limit = g.C.Config.bound in
    let why = c.in-Err.why in
    let same = c.bytes.ensures in
    let read = c.in-Ok-false.ensures in
    let end = read.end c.in-Ok-false.field-0-test in
    end-refused F (format_of-lawful shape _) (format_of-balanced shape _) limit (shown_bytes c.args.window.now) why c.requires
    (subst (λ z. FindsWords {A = Unit {0}} F limit ⊥ z (Err why)) same c.in-Err.ensures.found)
    (subst (λ z. TellsFaults {A = Unit {0}} F limit ⊥ z (Err why)) same c.in-Err.ensures.fault)
    (subst (λ z. KeepsLimit {A = Unit {0}} F limit ⊥ z (Err why)) same c.in-Err.ensures.limit)
    _ _ _ read.kept end.0 end.1
