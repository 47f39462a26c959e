use Rattle.bincode_collections.proofs.Reading.{read-widened}
use Rattle.bincode_collections.proofs.values.BulkDecodeRunU8.decode_at_once.Goals as goal

pub returns : goal.returns
returns g c = read-widened c.decode_bytes.result (λ none. absurd none) c.decode_bytes.ensures
