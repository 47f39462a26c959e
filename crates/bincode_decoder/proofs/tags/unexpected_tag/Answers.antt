use Rattle.bincode_decoder.proofs.tags.unexpected_tag.Goals as goal

pub returns : goal.returns
returns g c = c.unexpected.ensures
