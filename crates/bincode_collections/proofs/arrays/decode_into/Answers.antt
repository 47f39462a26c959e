use Rattle.std.proofs.Common.{◌≡◌, ◌∙◌, length, rules}
use Rattle.std.proofs.lemmas.Result.{err_from_is_err_and}
use Rattle.bincode_base.proofs.Taken.{all-filled, values-same}
use Rattle.bincode_collections.proofs.Reading.{read-besides, read-of}
use Rattle.bincode_collections.proofs.arrays.decode_into.Goals as goal

pub unwrap_all-requires : goal.unwrap_all-requires
unwrap_all-requires g c =
    let f = c.in_ok-decode_slots.ensures in
    (search rules, (search rules, all-filled f.0 _ _ (search rules) f.1))

pub returns-in_err-decode_slots : goal.returns-in_err-decode_slots
returns-in_err-decode_slots g c =
    let p = err_from_is_err_and c.from_residual.result c.from_residual.ensures.1 in
    let e : length c.args.slots ≡ g.row.N = search rules in
    rw (p.1, p.2) (read-besides e (λ k. k) c.in_err-decode_slots.ensures.2)

pub returns : goal.returns
returns g c =
    let f = c.in_ok-decode_slots.ensures in
    let e : length c.args.slots ≡ g.row.N = search rules in
    read-of e (values-same _ _ (c.unwrap_all.ensures ∙ f.1)) f.2
