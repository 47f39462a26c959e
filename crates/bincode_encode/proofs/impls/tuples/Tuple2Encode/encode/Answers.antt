use Rattle.bincode_encode.proofs.impls.tuples.Tuple2Encode.encode.Goals as goal

pub returns : goal.returns
returns g c = rw c.rebuild_result.ensures c.encode_row.ensures
