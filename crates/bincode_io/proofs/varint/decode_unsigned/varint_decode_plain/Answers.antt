use Rattle.std.proofs.Common.{[], Ok, IfOk, ◌≡◌, ◌<◌, ◌∙◌, inl, inr, arith, rules, refl}
use Rattle.std.proofs.lemmas.Result.{err_from_is_err_and, IfErr-weaker, IfOk-weaker}
use Rattle.bincode_spec.specs.Integers.{first_byte, TooWide}
use Rattle.bincode_lemmas.specs.IntegerLaws.{tag-252, tag-253, tag-254}
use Rattle.bincode_io.proofs.Words.{varint-none, varint-itself, varint-digits, varint-misreads, varint-too_wide, small-itself, tag-too_wide, below-wider}
use Rattle.bincode_io.proofs.WordAnswers.{word-as, part-fails, part-gives, after-part}
use Rattle.bincode_io.proofs.varint.decode_unsigned.varint_decode_plain.Goals.{in_default-via-in-252+else-width-ge4, in_default-via-in-253+else-width-ge8}
use Rattle.bincode_io.proofs.varint.decode_unsigned.varint_decode_plain.Goals.{in_default-via-in-254+else-width-ge16, in_default-via-in_default-1}
use Rattle.bincode_io.proofs.varint.decode_unsigned.varint_decode_plain.Goals as goal

pub returns-in_err-tag-clause-word : goal.returns-in_err-tag-clause-word
returns-in_err-tag-clause-word g c =
    let p = err_from_is_err_and c.from_residual.result c.from_residual.ensures.1 in
    rw (p.1, p.2) (part-fails (varint-none _ _ _ _ _ []) c.in_err-tag.ensures)

pub returns-then-tag-le-SINGLE_BYTE_MAX-clause-word : goal.returns-then-tag-le-SINGLE_BYTE_MAX-clause-word
returns-then-tag-le-SINGLE_BYTE_MAX-clause-word g c = part-gives (λ b. varint-itself _ _ _ _ _ _ _ _ b (small-itself _ c.in_ok-tag.tag (omega arith)) c.from.ensures) c.in_ok-tag.ensures

pub returns-then-tag-le-SINGLE_BYTE_MAX-clause-fits : goal.returns-then-tag-le-SINGLE_BYTE_MAX-clause-fits
returns-then-tag-le-SINGLE_BYTE_MAX-clause-fits g c = λ h. below-wider _ 2 _ (omega arith) h

pub returns-in_err-read_u16-in-251-clause-word : goal.returns-in_err-read_u16-in-251-clause-word
returns-in_err-read_u16-in-251-clause-word g c =
    let p = err_from_is_err_and c.from_residual-in_err-read_u16-in-251.result c.from_residual-in_err-read_u16-in-251.ensures.1 in
    let tag = c.in_ok-tag.ensures in
    let digits = c.in_err-read_u16-in-251.ensures in
    rw (p.1, p.2)
    (after-part {r = Ok c.in_ok-tag.tag} (λ known. tt)
    (λ known. varint-misreads _ _ _ _ _ _ _ _ _ 2 _ _ _ _ _ (tag.ok known) (rw c.in-251.is refl) tag.failures_monotone (digits.err (tag.tells known))) tag digits)

pub returns-in_ok-read_u16-in-251-clause-word : goal.returns-in_ok-read_u16-in-251-clause-word
returns-in_ok-read_u16-in-251-clause-word g c =
    let tag = c.in_ok-tag.ensures in
    let digits = c.in_ok-read_u16-in-251.ensures in
    after-part {r = Ok c.in_ok-tag.tag} (λ known. rw c.from-in-251.ensures (varint-digits _ _ _ _ _ _ _ 2 (tag.ok known) (rw c.in-251.is refl) ∙ digits.ok (tag.tells known))) (λ known. tt) tag digits

pub returns-in_ok-read_u16-in-251-clause-fits : goal.returns-in_ok-read_u16-in-251-clause-fits
returns-in_ok-read_u16-in-251-clause-fits g c = λ h. below-wider _ 2 _ (let t = rw c.in_ok-read_u16-in-251.was at c.read_u16.type_inv in rw c.from-in-251.ensures (omega (arith, t))) h

pub returns-in_err-read_u32-in-252-clause-word : goal.returns-in_err-read_u32-in-252-clause-word
returns-in_err-read_u32-in-252-clause-word g c =
    let p = err_from_is_err_and c.from_residual-in_err-read_u32-in-252.result c.from_residual-in_err-read_u32-in-252.ensures.1 in
    let tag = c.in_ok-tag.ensures in
    let digits = c.in_err-read_u32-in-252.ensures in
    rw (p.1, p.2)
    (after-part {r = Ok c.in_ok-tag.tag} (λ known. tt)
    (λ known. varint-misreads _ _ _ _ _ _ _ _ _ 4 _ _ _ _ _ (tag.ok known) (rw c.in-252.is (tag-252 _ c.if-width-ge4.true)) tag.failures_monotone (digits.err (tag.tells known))) tag digits)

pub returns-in_ok-read_u32-in-252-clause-word : goal.returns-in_ok-read_u32-in-252-clause-word
returns-in_ok-read_u32-in-252-clause-word g c =
    let tag = c.in_ok-tag.ensures in
    let digits = c.in_ok-read_u32-in-252.ensures in
    after-part {r = Ok c.in_ok-tag.tag}
    (λ known. rw c.from-in-252.ensures (varint-digits _ _ _ _ _ _ _ 4 (tag.ok known) (rw c.in-252.is (tag-252 _ c.if-width-ge4.true)) ∙ digits.ok (tag.tells known)))
    (λ known. tt) tag digits

pub returns-in_ok-read_u32-in-252-clause-fits : goal.returns-in_ok-read_u32-in-252-clause-fits
returns-in_ok-read_u32-in-252-clause-fits g c =
    λ h. below-wider _ 4 _ (let t = rw c.in_ok-read_u32-in-252.was at c.read_u32.type_inv in rw c.from-in-252.ensures (omega (arith, t))) c.if-width-ge4.true

pub returns-in_err-read_u64-in-253-clause-word : goal.returns-in_err-read_u64-in-253-clause-word
returns-in_err-read_u64-in-253-clause-word g c =
    let p = err_from_is_err_and c.from_residual-in_err-read_u64-in-253.result c.from_residual-in_err-read_u64-in-253.ensures.1 in
    let tag = c.in_ok-tag.ensures in
    let digits = c.in_err-read_u64-in-253.ensures in
    rw (p.1, p.2)
    (after-part {r = Ok c.in_ok-tag.tag} (λ known. tt)
    (λ known. varint-misreads _ _ _ _ _ _ _ _ _ 8 _ _ _ _ _ (tag.ok known) (rw c.in-253.is (tag-253 _ c.if-width-ge8.true)) tag.failures_monotone (digits.err (tag.tells known))) tag digits)

pub returns-in_ok-read_u64-in-253-clause-word : goal.returns-in_ok-read_u64-in-253-clause-word
returns-in_ok-read_u64-in-253-clause-word g c =
    let tag = c.in_ok-tag.ensures in
    let digits = c.in_ok-read_u64-in-253.ensures in
    after-part {r = Ok c.in_ok-tag.tag}
    (λ known. rw c.from-in-253.ensures (varint-digits _ _ _ _ _ _ _ 8 (tag.ok known) (rw c.in-253.is (tag-253 _ c.if-width-ge8.true)) ∙ digits.ok (tag.tells known)))
    (λ known. tt) tag digits

pub returns-in_ok-read_u64-in-253-clause-fits : goal.returns-in_ok-read_u64-in-253-clause-fits
returns-in_ok-read_u64-in-253-clause-fits g c =
    λ h. below-wider _ 8 _ (let t = rw c.in_ok-read_u64-in-253.was at c.read_u64.type_inv in rw c.from-in-253.ensures (omega (arith, t))) c.if-width-ge8.true

pub returns-in-254-clause-word : goal.returns-in-254-clause-word
returns-in-254-clause-word g c =
    let tag = c.in_ok-tag.ensures in
    let digits = c.read_u128.ensures in
    let row = tag-254 _ c.if-width-ge16.true in
    after-part {r = Ok c.in_ok-tag.tag}
    (λ known. IfOk-weaker c.read_u128.result _ _ (λ v h. varint-digits _ _ _ _ _ _ _ 16 (tag.ok known) (rw c.in-254.is row) ∙ h) (digits.ok (tag.tells known)))
    (λ known. IfErr-weaker c.read_u128.result _ _ (λ e h. varint-misreads _ _ _ _ _ _ _ _ _ 16 _ _ _ _ e (tag.ok known) (rw c.in-254.is row) tag.failures_monotone h) (digits.err (tag.tells known)))
    tag digits

pub returns-in-254-clause-fits : goal.returns-in-254-clause-fits
returns-in-254-clause-fits g c = λ h.
    let t : IfOk c.read_u128.result (λ v. v < 340282366920938463463374607431768211456) = search rules in
    IfOk-weaker c.read_u128.result _ _ (λ v l. below-wider v 16 _ (omega (arith, l)) c.if-width-ge16.true) t

pub returns-in_default-clause-word : goal.returns-in_default-clause-word
returns-in_default-clause-word g c =
    let tag = c.in_ok-tag.ensures in
    let t : first_byte c.args.width c.in_ok-tag.tag ≡ TooWide =
    elim c.in_default.branch [
      | in_default-via-in-252+else-width-ge4 w ↦ tag-too_wide c.args.width c.in_ok-tag.tag (omega arith) (omega arith) (inr (omega arith)) (inl (omega arith)) (inl (omega arith))
      | in_default-via-in-253+else-width-ge8 w ↦ tag-too_wide c.args.width c.in_ok-tag.tag (omega arith) (omega arith) (inl (omega arith)) (inr (omega arith)) (inl (omega arith))
      | in_default-via-in-254+else-width-ge16 w ↦ tag-too_wide c.args.width c.in_ok-tag.tag (omega arith) (omega arith) (inl (omega arith)) (inl (omega arith)) (inr (omega arith))
      | in_default-via-in_default-1 w ↦ tag-too_wide c.args.width c.in_ok-tag.tag (omega arith) (omega arith) (inl (omega arith)) (inl (omega arith)) (inl (omega arith))
    ] in
    word-as (λ known. tt) (λ known. varint-too_wide _ _ _ _ _ _ _ _ _ _ _ _ (tag.ok known) t c.invalid_tag.ensures) tag
