-- What is saved of a till, and the till that it stands for.
use Rattle.std.specs.Prelude.{◌≡◌, ◌&&◌, ◌==◌, ℕ, Bool, true, false, refl}
use Rattle.std.proofs.Common.{◌∙◌, sym}
use Rattle.std.proofs.lemmas.Bool.Decides.{Decides-eqb}
use Rattle.tills.specs.contracts.saved.SavedPartialEq.TheImpl.{ghosts}
use Rattle.tills.specs.declared.saved.Saved.{Saved}
use Rattle.tills.specs.declared.saved.Saved.TheVariants as versions
use Rattle.tills.specs.declared.till.Till.{Till}

-- what is seen of a till: what it holds and takes
abbrev pub state_of : Till → ℕ × ℕ
state_of till = (till.held, till.most)

-- a till of the first version takes 1,000 at most
abbrev pub StandsFor : Saved → Till → Type 0
StandsFor (versions.First held) till = (till.held ≡ held) × (till.most ≡ 1000)
StandsFor (versions.Second held most) till = (till.held ≡ held) × (till.most ≡ most)

same-state : (a b : Till) → b.held ≡ a.held → b.most ≡ a.most → state_of b ≡ state_of a
same-state a b x y = rw (x, y) refl

-- what stands for two tills says what both hold and take
pub one-till : (saved : Saved) (a b : Till) → StandsFor saved a → StandsFor saved b → state_of b ≡ state_of a
one-till (versions.First held) a b h k = let x : b.held ≡ a.held = k.0 ∙ sym h.0 in let y : b.most ≡ a.most = k.1 ∙ sym h.1 in same-state a b x y
one-till (versions.Second held most) a b h k = let x : b.held ≡ a.held = k.0 ∙ sym h.0 in let y : b.most ≡ a.most = k.1 ∙ sym h.1 in same-state a b x y

both : (b c : Bool) → (b && c) ≡ true → (b ≡ true) × (c ≡ true)
both true c h = (refl, h)
both false c h = cc

-- of two that are equal each stands for what the other does
pub equals-stand : (a b : Saved) (till : Till) → ghosts.eq a b ≡ true → StandsFor a till → StandsFor b till
equals-stand (versions.First x) (versions.First y) till e h = (h.0 ∙ (Decides-eqb x y).0 e, h.1)
equals-stand (versions.First x) (versions.Second y q) till e h = let never : false ≡ true = e in cc
equals-stand (versions.Second x p) (versions.First y) till e h = let never : false ≡ true = e in cc
equals-stand (versions.Second x p) (versions.Second y q) till e h =
    let parts = both (x == y) (p == q) e in
    (h.0 ∙ (Decides-eqb x y).0 parts.0, h.1 ∙ (Decides-eqb p q).0 parts.1)
