use Rattle.own_types.proofs.kind.words.KindEncode.encode.Goals as goal

-- src/kind/words.rt:133:35
pub encode_variant-requires-in-Other-clause-means :
    goal.encode_variant-requires-in-Other-clause-means
encode_variant-requires-in-Other-clause-means g c = rw c.in-Other.is (λ m h. h, λ m h. h)
