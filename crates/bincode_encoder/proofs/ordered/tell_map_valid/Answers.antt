use Rattle.std.proofs.Common.{◌∙◌, arith}
use Rattle.std.specs.List.{All}
use Rattle.std.proofs.lemmas.List.Elements.{All-nil}
use Rattle.bincode_encoder.proofs.IterAnswers.{so_far-none, so_far-all, valid-more}
use Rattle.bincode_encoder.proofs.ordered.tell_map_valid.Goals as goal

pub loop-key-init : goal.loop-key-init
loop-key-init g c =
    so_far-none (All (λ e. g.K.Value.Wire.words.valid e.0 × (g.V.Value.Wire.words.valid e.1 × Unit {0}))) (c.into_iter-key-iterator.ensures.into_iter_gives ∙ c.iter-key-items.ensures.rest) (All-nil _)

pub loop-key-preserved : goal.loop-key-preserved
loop-key-preserved g c =
    valid-more (λ e. g.K.Value.Wire.words.valid e.0 × (g.V.Value.Wire.words.valid e.1 × Unit {0})) c.loop-key.invariant c.in-Some.ensures.steps
    (c.tell_valid.ensures, (c.tell_valid-in-loop-key.ensures, tt))

pub returns-clause-valid : goal.returns-clause-valid
returns-clause-valid g c =
    let fits = c.iter-key-items.ensures.fits in
    (omega (arith, fits), so_far-all (All (λ e. g.K.Value.Wire.words.valid e.0 × (g.V.Value.Wire.words.valid e.1 × Unit {0}))) c.loop-key.invariant c.in-None.ensures.steps.0)
