use Rattle.std.specs.Prelude.{◌∷◌}
use Rattle.std.proofs.Common.{ap}
use Rattle.bincode_decoder.proofs.decoder.reference.RefMutDecoder.claim_bytes_read.Goals as goal

pub returns : goal.returns
returns g c =
    let k = c.claim_bytes_read.ensures.kept in
    record {
      claimed = c.claim_bytes_read.ensures.claimed;
      kept = record {
        same_remaining = k.same_remaining;
        same_failures = k.same_failures;
        tells = k.tells;
        same_reader = k.same_reader;
        same_context = k.same_context;
        same_loans = ap (λ z. c.args.self.now.ghost_name ∷ z) k.same_loans;
      };
    }
