use Rattle.std.specs.Prelude.{refl}
use Rattle.std.proofs.lemmas.Result.{IfOk-weaker, IfErr-weaker}
use Rattle.bincode_spec.specs.Meaning.{Choice}
use Rattle.bincode_lemmas.specs.DecodingLaws.{map-gave, map-stops, stops-besides}
use Rattle.bincode_decoder.proofs.ReadAnswers.{read-as}
use Rattle.bincode_enums.proofs.borrow.borrow_decode_part.Goals as goal

pub returns : goal.returns
returns g c =
    let read = c.borrow_decode.ensures in
    read-as
    (λ known. IfOk-weaker c.borrow_decode.result _ _ (λ v h. rw (c.requires.same, c.requires.picks) (record {
      meaning = Choice c.args.number h.meaning;
      answer_is = map-gave (Choice c.args.number) _ _ _ _ _ _ _ h.answer_is;
      is_decoded = record { part = h.meaning; meaning_is = refl; is_part = h.is_decoded };
    })) (read.ok known))
    (λ known. IfErr-weaker c.borrow_decode.result _ _ (λ e h. rw (c.requires.same, c.requires.picks) (stops-besides _ _ _ _ c.requires.may_allocate _ _ _ _ _ e (map-stops (Choice c.args.number) _ _ _ _ _ _ _ _ _ _ e h))) (read.err known))
    read.within
    read
