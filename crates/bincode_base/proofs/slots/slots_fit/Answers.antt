use Rattle.std.proofs.Common.{arith, ◌≡◌, ◌∙◌, ℕ, zero, suc, ◌*◌, ◌^◌, ◌<◌}
use prog.Memory.{capped}
use prog.Capped.{capped_is}
use Rattle.bincode_base.proofs.slots.slots_fit.Goals as goal

-- the size as a machine number times n fits 64 bits, if the size times n is below 2^63
held_fits : (held size n : ℕ) → held ≡ capped size → n * size < 2 ^ 63 → held * n < 2 ^ 64
held_fits held size zero e h = omega arith
held_fits held size (suc n) e h =
    let small : size < 2 ^ 64 = grind (arith, h) in
    let same : held ≡ size = e ∙ capped_is size small in
    rw same (grind (arith, h))

pub returns : goal.returns
returns g c fits = c.in-None.ensures (held_fits _ _ _ c.size_of_val.ensures fits)
