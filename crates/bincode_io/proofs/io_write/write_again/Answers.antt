use Rattle.std.proofs.Common.{◌∙◌, ap}
use Rattle.std.specs.IoError.{error_kind, raw_os_error}
use Rattle.bincode_io.proofs.io_write.write_again.Goals as goal

pub returns-then-ne-clause-error : goal.returns-then-ne-clause-error
returns-then-ne-clause-error g c other =
    let same = c.loop.invariant.1 other in
    (same.1, (c.from.ensures.0 ∙ ap error_kind same.0, c.from.ensures.1 ∙ ap raw_os_error same.0))

pub returns-clause-error : goal.returns-clause-error
returns-clause-error g c other =
    let same = c.loop.invariant.1 other in
    (same.1, (c.from-2.ensures.0 ∙ ap error_kind same.0, c.from-2.ensures.1 ∙ ap raw_os_error same.0))
