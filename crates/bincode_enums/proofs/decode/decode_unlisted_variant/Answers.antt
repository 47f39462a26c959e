use Rattle.std.specs.Prelude.{[], refl}
use Rattle.std.proofs.Common.{arith, inl, inr}
use Rattle.bincode_spec.specs.Decoding.{by_fault, by_memory}
use Rattle.bincode_spec.specs.Words.{variant_tags, allowed_tags}
use Rattle.bincode_lemmas.specs.AnswerLaws.{answer-fail}
use Rattle.bincode_enums.proofs.Refusing.{none-picked}
use Rattle.bincode_enums.proofs.decode.decode_unlisted_variant.Goals as goal

pub returns : goal.returns
returns g c =
    rw (none-picked g.D.C.Config.setting (allowed_tags (variant_tags g.T.Enum.choices.variants)) c.args.tag g.T.Enum.choices.variants c.requires.differs)
    (record {
      ok = λ known. tt;
      err = λ known. elim c.unexpected_variant.ensures [
        | inl refused ↦ by_memory c.requires.may_allocate refused ([], refl)
        | inr made ↦ by_fault _ (answer-fail _ _ _ _) (c.type_name.result, rw c.requires.unordered (made.0, made.1, rw (← c.requires.listed) made.2)) ([], refl)
      ];
      failures_monotone = omega arith;
      tells = λ known. known;
      charge_kept = omega arith;
      within = λ _. tt;
      same_loans = refl;
    })
