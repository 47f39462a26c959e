-- What a crash leaves where one set of files was all that it could leave.
use Rattle.std.proofs.Common.{ℕ, List, ◌+◌, length, take, inl, inr, ⊎_elim, sym, ◌∙◌, ap, subst, arith}
use Rattle.std.proofs.lemmas.List.{append-nil, take_all}
use Rattle.crash_device.specs.Files.{Files, Follows, IsReplaced, AppendsPart, CutsPart, ReplacesOrNot, CompactsPart}
use Rattle.crash_device.specs.Moments.{Only}

-- what a step leads to from them
pub stepped : (step : Files → Files → Type 0) (files : Files) (old new : Files → Type 0) → Only files old → Follows step old new → (c : Files) → new c → step files c
stepped step files old new only follows c left =
    let from = follows c left in subst (λ f. step f c) (only from.0 from.1) from.2

-- nothing of the bytes stands
pub appends-none : (bytes : List ℕ) (files : Files) → AppendsPart bytes files files
appends-none bytes files = (0, ap (λ l. record files { log = l }) (sym (append-nil files.log)))

-- nothing is cut away, where the cut leaves a length
pub cuts-none : (n : ℕ) (files : Files) → CutsPart n files files
cuts-none n files =
    let kept = n + length files.log in (kept, omega arith, ap (λ l. record files { log = l }) (sym (take_all kept files.log (omega arith))))

-- the log is whole while the snapshot is being replaced
pub replaced-compacts : (bytes : List ℕ) (files c : Files) → ReplacesOrNot bytes files c → CompactsPart bytes files c
replaced-compacts bytes files c replaces =
    ⊎_elim (λ same. inl same) (λ (new : IsReplaced bytes files c). inr (length files.log, new ∙ ap (λ l. record { snapshot = bytes; log = l }) (sym (take_all (length files.log) files.log (omega arith))))) replaces

-- and then it is cut
pub cut-compacts : (bytes : List ℕ) (files mid c : Files) → IsReplaced bytes files mid → CutsPart 0 mid c → CompactsPart bytes files c
cut-compacts bytes files mid c replaced cut = inr (cut.0, cut.2 ∙ ap (λ (f : Files). record f { log = take cut.0 f.log }) replaced)
