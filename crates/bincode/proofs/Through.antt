-- What is written through a reference to a reference.
use Rattle.std.specs.Prelude.{◌≡◌, ℕ, List, ◌∷◌, drop, Result, Ok, Err}
use Rattle.std.specs.Borrow.{GName, MutBor}
use Rattle.std.proofs.Common.{ap}
use Rattle.bincode_base.specs.declared.error.EncodeError.{EncodeError}
use Rattle.bincode_spec.specs.Encoding.{Adds, Refuses, IsReady, EncodeFailure, by_writer, by_name, Encodes}

module _ {W : Type 0} (adds : Adds W) (refuses : Refuses W) (loans : W → List GName) (Writable : Type 0) (A : List ℕ → Type 0) (N : EncodeError → Type 0) where
  -- what the reference adds and refuses
  abbrev Added : Adds (MutBor W)
  Added a piece b = adds a.now piece b.now × (b ≡ record a { now = b.now })

  abbrev Refused : Refuses (MutBor W)
  Refused a piece e b = refuses a.now piece e b.now

  halts : (old new : MutBor W) (e : EncodeError) → EncodeFailure Added Refused (IsReady Writable A) N old new e → EncodeFailure adds refuses (IsReady Writable A) N old.now new.now e
  halts old new e (by_writer front piece middle h r b) = by_writer front piece middle.now h.0 r b
  halts old new e (by_name front h n b) = by_name front h.0 n b

  -- the writer that it refers to wrote the same
  pub through : (result : Result (Unit {0}) EncodeError) (old new : MutBor W) (after : W) → after ≡ new.now →
      Encodes Added Refused (λ w. w) (λ w. w.ghost_name ∷ loans w.now) Writable A N result old new → Encodes adds refuses (λ w. w) loans Writable A N result old.now after
  through (Ok x) old new after is h = rw is (record {
    ok = record { word = h.ok.word; is_allowed = h.ok.is_allowed; added = h.ok.added.0 };
    err = h.err;
    same_loans = ap (drop 1) h.same_loans;
  })
  through (Err e) old new after is h = rw is (record { ok = h.ok; err = halts old new e h.err; same_loans = ap (drop 1) h.same_loans })
