use Rattle.bincode_lemmas.specs.BagLaws.{bag-one_length}
use Rattle.bincode_lemmas.specs.PairLaws.{pair-one_length}
use Rattle.bincode_lemmas.specs.TupleLaws.{either}
use Rattle.std.proofs.lemmas.List.Elements.{All-weaker}
use Rattle.bincode_types.proofs.Pairs.{both_keep}
use Rattle.bincode_types.proofs.hashed.HashedEntriesPlain.tell_plain.Goals as goal

pub returns : goal.returns
returns g c =
    let valid = both_keep g.K.Wire.words.valid g.V.Wire.words.valid in
    record {
      always_writable = λ s v h. All-weaker valid (both_keep (g.K.Wire.words.writable s) (g.V.Wire.words.writable s))
          (λ e a. (c.tell_plain.ensures.always_writable s e.0 a.0, (c.tell_plain-2.ensures.always_writable s e.1 a.1.0, tt))) v.entries h.0.1;
      one_length = λ s v h. bag-one_length _ s _ _ valid
          (λ e a. pair-one_length s (c.tell_plain.ensures.one_length s e.0 a.0) (c.tell_plain-2.ensures.one_length s e.1 a.1.0)) v.entries h.0.1;
      names_none = λ e. either (c.tell_plain.ensures.names_none e) (either (c.tell_plain-2.ensures.names_none e) (λ h. h));
    }
