use Rattle.std.proofs.Common.{◌≤◌, arith, refl}
use Rattle.std.proofs.lemmas.Result.{err_from_is_err_and}
use Rattle.bincode_io.proofs.WordAnswers.{word-as}
use Rattle.bincode_lemmas.specs.CharLaws.{char_width-bounds}
use Rattle.bincode_lemmas.specs.CharDecodingLaws.{fixed_bytes-took_1, fixed_bytes-took_2, fixed_bytes-took_3, rest_of_char-misread, rest_of_char-found, rest_of_char-not_found, rest_of_char-alone}
use Rattle.bincode_types.proofs.chars.read_rest_of_char.Goals as goal

pub returns-in_err-second-in-2 : goal.returns-in_err-second-in-2
returns-in_err-second-in-2 g c =
    let p = err_from_is_err_and c.from_residual.result c.from_residual.ensures.1 in
    let read = c.in_err-second-in-2.ensures in
    rw (p.1, p.2, c.in-2.is) (word-as (λ known. tt) (λ known. rest_of_char-misread _ 2 _ _ _ _ _ _ _ (read.err known)) read)

pub returns-in_ok-second-in-2 : goal.returns-in_ok-second-in-2
returns-in_ok-second-in-2 g c =
    let read = c.in_ok-second-in-2.ensures in
    let found = c.char_of_two.ensures in
    rw c.in-2.is
    (word-as
    (λ known. let r = read.ok known in rest_of_char-found _ 2 _ _ _ _ _ r (fixed_bytes-took_1 _ _ _ r) found c.char_or_fault.result c.char_or_fault.ensures.ok)
    (λ known. let r = read.ok known in rest_of_char-not_found _ 2 _ _ _ _ _ r (fixed_bytes-took_1 _ _ _ r) found _ _ _ _ c.char_or_fault.result c.char_or_fault.ensures.err)
    read)

pub returns-in_err-second-in-3 : goal.returns-in_err-second-in-3
returns-in_err-second-in-3 g c =
    let p = err_from_is_err_and c.from_residual-in_err-second-in-3.result c.from_residual-in_err-second-in-3.ensures.1 in
    let read = c.in_err-second-in-3.ensures in
    rw (p.1, p.2, c.in-3.is) (word-as (λ known. tt) (λ known. rest_of_char-misread _ 3 _ _ _ _ _ _ _ (read.err known)) read)

pub returns-in_ok-second-in-3 : goal.returns-in_ok-second-in-3
returns-in_ok-second-in-3 g c =
    let read = c.in_ok-second-in-3.ensures in
    let found = c.char_of_three.ensures in
    rw c.in-3.is
    (word-as
    (λ known. let r = read.ok known in rest_of_char-found _ 3 _ _ _ _ _ r (fixed_bytes-took_2 _ _ _ r) found c.char_or_fault-in-3.result c.char_or_fault-in-3.ensures.ok)
    (λ known. let r = read.ok known in rest_of_char-not_found _ 3 _ _ _ _ _ r (fixed_bytes-took_2 _ _ _ r) found _ _ _ _ c.char_or_fault-in-3.result c.char_or_fault-in-3.ensures.err)
    read)

pub returns-in_err-second-in-4 : goal.returns-in_err-second-in-4
returns-in_err-second-in-4 g c =
    let p = err_from_is_err_and c.from_residual-in_err-second-in-4.result c.from_residual-in_err-second-in-4.ensures.1 in
    let read = c.in_err-second-in-4.ensures in
    rw (p.1, p.2, c.in-4.is) (word-as (λ known. tt) (λ known. rest_of_char-misread _ 4 _ _ _ _ _ _ _ (read.err known)) read)

pub returns-in_ok-second-in-4 : goal.returns-in_ok-second-in-4
returns-in_ok-second-in-4 g c =
    let read = c.in_ok-second-in-4.ensures in
    let found = c.char_of_four.ensures in
    rw c.in-4.is
    (word-as
    (λ known. let r = read.ok known in rest_of_char-found _ 4 _ _ _ _ _ r (fixed_bytes-took_3 _ _ _ r) found c.char_or_fault-in-4.result c.char_or_fault-in-4.ensures.ok)
    (λ known. let r = read.ok known in rest_of_char-not_found _ 4 _ _ _ _ _ r (fixed_bytes-took_3 _ _ _ r) found _ _ _ _ c.char_or_fault-in-4.result c.char_or_fault-in-4.ensures.err)
    read)

pub returns-in_default : goal.returns-in_default
returns-in_default g c =
    let b = char_width-bounds c.args.first c.args.width c.requires in
    let l : c.args.width ≤ 1 = omega (arith, b.1) in
    record {
      ok = λ known. rw c.from.ensures (rest_of_char-alone _ _ _ c.requires l);
      err = λ known. tt;
      failures_monotone = omega arith;
      tells = λ known. known;
      same_loans = refl;
    }
