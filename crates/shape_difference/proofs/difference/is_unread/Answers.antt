use Rattle.std.proofs.Common.{ℕ, length}
use Rattle.bincode_shape.specs.declared.shape.Value.{Value}
use Rattle.shape_difference.specs.Alike.{alike}
use Rattle.shape_difference.proofs.Shown.{other_read, refused, told}
use Rattle.shape_difference.proofs.difference.is_unread.Goals as goal

pub returns-in-Ok : goal.returns-in-Ok
returns-in-Ok g c =
    λ h.
    other_read g.C.Config.setting c.args.shape.now g.C.Config.bound c.args.word.now c.args.value.now c.in-Ok.read 262144 c.in-Ok.taken c.in-Ok.ensures.word
    (λ e a. told c.in-Ok.taken (length c.args.word.now) (alike c.args.value.now c.in-Ok.read) c.is_other.result c.is_other.ensures h e a)

pub returns-in-Err-Decode : goal.returns-in-Err-Decode
returns-in-Err-Decode g c =
    λ h.
    let q = c.is_fault.ensures h in
    refused g.C.Config.setting c.args.shape.now g.C.Config.bound c.args.word.now c.args.value.now (Value × ℕ) 262144 c.in-Err-Decode.field-0 c.in-Err-Decode.error c.in-Err-Decode.field-0-is c.in-Err-Decode.ensures.found c.in-Err-Decode.ensures.many c.in-Err-Decode.ensures.limit q.0 q.1
