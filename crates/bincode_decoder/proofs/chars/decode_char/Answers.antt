use Rattle.std.proofs.Common.{◌≡◌, sym, ◌∙◌, refl, Some, rules, arith}
use Rattle.std.proofs.lemmas.Result.{IfOk-weaker, IfErr-weaker, err_from_is_err_and}
use Rattle.bincode_spec.specs.Words.{char_width}
use Rattle.bincode_lemmas.specs.CharDecodingLaws.{character-stops_first, character-stops_none, character-stops_after, character-decodes}
use Rattle.bincode_decoder.proofs.ReadAnswers.{exactly}
use Rattle.bincode_decoder.proofs.chars.decode_char.Goals as goal

pub returns-in_err-first : goal.returns-in_err-first
returns-in_err-first g c =
    let p = err_from_is_err_and c.from_residual.result c.from_residual.ensures.1 in
    let first = c.in_err-first.ensures.word in
    let still = c.in_err-first.ensures.same_charge in
    rw (p.1, p.2) (record {
      ok = λ known. tt;
      err = λ known. character-stops_first _ _ _ _ _ _ _ _ _ _ still (first.err known);
      failures_monotone = first.failures_monotone;
      tells = first.tells;
      charge_kept = omega (arith, still);
      within = λ _. tt;
      same_loans = first.same_loans;
    })

pub returns-in_default : goal.returns-in_default
returns-in_default g c =
    let first = c.in_ok-first.ensures.word in
    let still = c.in_ok-first.ensures.same_charge in
    record {
      ok = λ known. tt;
      err = λ known. character-stops_none _ _ _ _ _ (first.ok known) _ _ _ _ _ _ still (search rules) refl;
      failures_monotone = first.failures_monotone;
      tells = first.tells;
      charge_kept = omega (arith, still);
      within = λ _. tt;
      same_loans = first.same_loans;
    }

pub returns : goal.returns
returns g c =
    let first = c.in_ok-first.ensures.word in
    let still = c.in_ok-first.ensures.same_charge in
    let others = c.decode_rest_of_char.ensures.reads in
    let w : char_width c.in_ok-first.first ≡ Some c.in-Some.width = sym c.width_of_char.ensures ∙ c.in-Some.is in
    record {
      ok = λ known. IfOk-weaker c.decode_rest_of_char.result _ _ (λ v r. character-decodes _ _ _ _ _ (first.ok known) _ _ v _ w (exactly r)) (rw still at (others.ok (first.tells known)));
      err = λ known. IfErr-weaker c.decode_rest_of_char.result _ _ (λ e r. character-stops_after _ _ _ _ _ (first.ok known) _ _ _ _ _ _ _ _ e w first.failures_monotone r)
          (rw still at (others.err (first.tells known)));
      failures_monotone = let a = first.failures_monotone in let b = others.failures_monotone in omega (arith, a, b);
      tells = λ known. others.tells (first.tells known);
      charge_kept = rw still at others.charge_kept;
      within = rw still at others.within;
      same_loans = others.same_loans ∙ first.same_loans;
    }
