-- What was written of a piece before a stream failed.
use Rattle.std.specs.Prelude.{ℕ, List, ◌++◌, take, drop, Option, Some, None}
use Rattle.std.proofs.Common.{◌∙◌, sym, ap, append_assoc}
use Rattle.std.proofs.lemmas.List.{take-append-drop}
use Rattle.std.specs.Io.KnownBytes.{Appends, Keeps}
use Rattle.std.proofs.KnownBytes.{Appends-trans}
use Rattle.bincode_io.specs.Stream.{FrontOut}

appends-keeps : (a b c : Option (List ℕ)) (xs : List ℕ) → Appends a b xs → Keeps b c → Appends a c xs
appends-keeps None b c xs p q = tt
appends-keeps (Some x) None c xs p q = absurd p
appends-keeps (Some x) (Some y) None xs p q = absurd q
appends-keeps (Some x) (Some y) (Some z) xs p q = q ∙ p

-- the bytes that were written are a prefix
pub front-out : {W : Type 0} (contents : W → Option (List ℕ)) (a b : W) (at : ℕ) (bytes : List ℕ) → Appends (contents a) (contents b) (take at bytes) → FrontOut contents a bytes b
front-out contents a b at bytes p = record { front = take at bytes; back = drop at bytes; piece_is = sym (take-append-drop at bytes); appended = p }

-- and a write that failed adds nothing to them
pub front-kept : {W : Type 0} (contents : W → Option (List ℕ)) (a b c : W) (at : ℕ) (bytes : List ℕ) → Appends (contents a) (contents b) (take at bytes) → Keeps (contents b) (contents c) →
    FrontOut contents a bytes c
front-kept contents a b c at bytes p k = front-out contents a c at bytes (appends-keeps (contents a) (contents b) (contents c) (take at bytes) p k)

-- a prefix of what is left is written after them
pub front-then : {W : Type 0} (contents : W → Option (List ℕ)) (a b c : W) (at : ℕ) (bytes : List ℕ) → Appends (contents a) (contents b) (take at bytes) →
    FrontOut contents b (drop at bytes) c → FrontOut contents a bytes c
front-then contents a b c at bytes p f = record {
  front = take at bytes ++ f.front;
  back = f.back;
  piece_is = sym (take-append-drop at bytes) ∙ ap (λ l. take at bytes ++ l) f.piece_is ∙ sym (append_assoc (take at bytes) f.front f.back);
  appended = Appends-trans _ _ _ (take at bytes) f.front p f.appended;
}
