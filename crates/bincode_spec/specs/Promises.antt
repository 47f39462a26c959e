-- What decoding promises of a value that is made of parts.

-- it implies what is promised of the parts, and follows from that and from what holds of the value alone
pub record Promise : Type 1 where
  pub OfValue : Type 0
  pub Promised : (OfParts : Type 0) → Type 0
  pub keeps : (OfParts : Type 0) → Promised OfParts → OfParts
  pub joins : (OfParts : Type 0) → OfValue → OfParts → Promised OfParts

-- no more than that
abbrev pub nothing_more : Promise
nothing_more = record { OfValue = Unit {0}; Promised = λ of_parts. of_parts; keeps = λ of_parts h. h; joins = λ of_parts a h. h }
