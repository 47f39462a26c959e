-- A decoder with a context of its own, and its lender.
use Rattle.std.specs.Borrow.{MutBor}
use Rattle.bincode_decoder.specs.declared.context.WithContext.{WithContext}

-- the decoder that it was lent
abbrev pub lender_of : {D Context : Type 0} → WithContext D Context → MutBor D
lender_of d = d.decoder
