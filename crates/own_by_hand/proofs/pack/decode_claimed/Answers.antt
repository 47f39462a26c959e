use Rattle.std.proofs.Common.{◌+◌, [], refl, ap, ◌∙◌, arith}
use Rattle.std.proofs.lemmas.Result.{err_from_is_err_and}
use Rattle.bincode_spec.specs.Decoding.{by_memory}
use Rattle.bincode_decoder.proofs.Rooms.{held-still}
use Rattle.bincode_collections.proofs.Reading.{none-so_far, next-releases, next-so_far, stops-so_far, all-so_far}
use Rattle.own_by_hand.proofs.LengthReads.{item-read}
use Rattle.own_by_hand.proofs.pack.decode_claimed.Goals as goal

pub loop-init : goal.loop-init
loop-init g c = (rw c.in-Ok.ensures.items (none-so_far c.requires), c.in-Ok.ensures.len, c.in-Ok.ensures.capacity)

pub unclaim_bytes_read-requires : goal.unclaim_bytes_read-requires
unclaim_bytes_read-requires g c = rw c.claim_size.ensures (next-releases c.loop.invariant.0 (omega arith))

pub returns-in_err-decode : goal.returns-in_err-decode
returns-in_err-decode g c =
    let p = err_from_is_err_and c.from_residual.result c.from_residual.ensures.1 in
    rw (p.1, p.2) (stops-so_far c.loop.invariant.0 (omega arith) (λ _. tt) (item-read c.unclaim_bytes_read.ensures c.claim_size.ensures c.in_err-decode.ensures))

pub push_reserved-requires : goal.push_reserved-requires
push_reserved-requires g c = let h = c.loop.invariant in omega (arith, h.1, h.2)

pub loop-preserved : goal.loop-preserved
loop-preserved g c =
    let h = c.loop.invariant in (
      next-so_far h.0 (omega arith) (g.T.Wire.words.lawful _) (g.T.Wire.words.balanced _) c.push_reserved.ensures.items
          (item-read c.unclaim_bytes_read.ensures c.claim_size.ensures c.in_ok-decode.ensures),
      c.push_reserved.ensures.len ∙ ap (λ z. z + 1) h.1,
      rw c.push_reserved.ensures.capacity h.2,
    )

pub returns : goal.returns
returns g c = all-so_far c.loop.invariant.0 (omega arith) refl

pub returns-in_default : goal.returns-in_default
returns-in_default g c = record {
  ok = λ known. tt;
  err = λ known. by_memory tt refl ([], refl);
  failures_monotone = omega arith;
  tells = λ known. known;
  charge_kept = held-still _ _ _;
  within = λ _. tt;
  same_loans = refl;
}
