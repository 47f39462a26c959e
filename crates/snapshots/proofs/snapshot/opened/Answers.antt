use Rattle.std.proofs.Common.{◌∙◌, ap, arith, sym}
use Rattle.std.specs.Prelude.{drop, take, refl}
use Rattle.sha2.specs.Sha256.{sha256}
use Rattle.snapshots.proofs.SnapshotLaws.{holds-state}
use Rattle.snapshots.proofs.snapshot.opened.Goals as goal

pub returns-clause-opened : goal.returns-clause-opened
returns-clause-opened c =
    let there = c.if-bytes-lt-HEADER.false in
    let split = c.split_at.ensures in
    let again = c.split_at-2.ensures in
    let fits = sym split.front ∙ c.if-not-is_digest_of.ensures.0 refl ∙ ap sha256 split.back in
    holds-state c.args.bytes.now c.number_of.result c.split_at-2.result.1.now (omega (arith, there)) fits c.number_of.type_inv
    (c.number_of.ensures ∙ again.front ∙ ap (take 8) split.back) (again.back ∙ ap (drop 8) split.back)
