use Rattle.std.proofs.Common.{◌+◌, ◌∷◌, [], length, refl, ap, ◌∙◌, arith}
use Rattle.std.proofs.lemmas.List.{length-append}
use Rattle.std.proofs.lemmas.Result.{err_from_is_err_and}
use Rattle.bincode_spec.specs.Decoding.{by_memory}
use Rattle.bincode_decoder.proofs.Rooms.{held-still, refused-some}
use Rattle.bincode_collections.proofs.Reading.{none-so_far, next-releases, next-so_far, stops-so_far, all-so_far}
use Rattle.bincode_collections.proofs.runs.decode_by_pushes.Goals as goal

pub loop-init : goal.loop-init
loop-init g c = (rw c.in-Ok.ensures.items (none-so_far c.requires), rw c.in-Ok.ensures.items refl, c.in-Ok.ensures.len, c.in-Ok.ensures.exact)

pub decode_next-requires : goal.decode_next-requires
decode_next-requires g c = next-releases c.loop.invariant.0 (omega arith)

pub returns-in_err-decode_next-clause-read : goal.returns-in_err-decode_next-clause-read
returns-in_err-decode_next-clause-read g c =
    let p = err_from_is_err_and c.from_residual.result c.from_residual.ensures.1 in
    rw (p.1, p.2) (stops-so_far c.loop.invariant.0 (omega arith) (λ _. omega arith) c.in_err-decode_next.ensures)

pub loop-preserved : goal.loop-preserved
loop-preserved g c =
    let h = c.loop.invariant in
    let v = c.in_ok-decode_next.field-0 in (
      next-so_far h.0 (omega arith) (g.V.Value.Wire.words.lawful _) (g.V.Value.Wire.words.balanced _) c.push_reserved.ensures.items c.in_ok-decode_next.ensures,
      ap length c.push_reserved.ensures.items ∙ length-append c.loop.values.items (v ∷ []) ∙ ap (λ z. z + 1) h.1,
      c.push_reserved.ensures.len ∙ ap (λ z. z + 1) h.2,
      c.push_reserved.ensures.capacity ∙ h.3,
    )

pub returns-clause-read : goal.returns-clause-read
returns-clause-read g c = all-so_far c.loop.invariant.0 (omega arith) refl

pub returns-in_default-clause-read : goal.returns-in_default-clause-read
returns-in_default-clause-read g c = record {
  ok = λ known. tt;
  err = λ known. by_memory (refused-some c.args.len c.in_default.ensures.succeeds) refl ([], refl);
  failures_monotone = omega arith;
  tells = λ known. known;
  charge_kept = held-still _ _ _;
  within = λ _. tt;
  same_loans = refl;
}
