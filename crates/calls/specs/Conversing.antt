-- Requests and their replies, through frames.
use Rattle.std.specs.Prelude.{◌≡◌, ℕ, List, [], ◌∷◌, Bool, true, Option, Some}
use Rattle.bincode_base.specs.Setting.{Setting}
use Rattle.bincode_types.specs.TypeWords.{Words}
use Rattle.framed_store.specs.declared.records.Content.TheVariants as contents
use Rattle.calls.specs.Serving.{IsServed, Replies}
use Rattle.calls.specs.declared.refusal.Refusal.{Refusal}
use Rattle.calls.specs.declared.serving.Served.{Served}

-- each request is answered as the service answers one equal to it, in order, and each reply equals what was answered
abbrev pub Converses : {S Q R : Type 0} → (S → Q → R → S → Type 0) → (Refusal → R) → (R → Type 0) → (Q → Q → Bool) → (R → R → Bool) → S → List Q → List R → S → Type 0
Converses answers refuse fits eq same old [] [] new = new ≡ old
Converses {S} {Q} {R} answers refuse fits eq same old (request ∷ requests) (reply ∷ replies) new =
    (read : Q) × (sent : R) × (mid : S) × (eq request read ≡ true) × Replies answers refuse fits old (contents.Value read) sent mid × (same sent reply ≡ true) × Converses answers refuse fits eq same mid requests replies new
Converses answers refuse fits eq same old [] (_ ∷ _) new = ⊥
Converses answers refuse fits eq same old (_ ∷ _) [] new = ⊥

-- all frames of the input were answered, by these bytes
abbrev pub ServesAll : {S Q R : Type 0} → (S → Q → R → S → Type 0) → (Refusal → R) → Words Q → Words R → Setting → Option ℕ → ℕ → List ℕ → S → S → List ℕ → Type 0
ServesAll answers refuse W V s limit most input old new answered = (served : Served) × IsServed answers refuse W V s limit most input old new (Some []) (Some answered) served
