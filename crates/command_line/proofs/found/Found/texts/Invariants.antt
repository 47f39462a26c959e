use Rattle.std.proofs.Common.{◌≡◌, None, Some, if◌then◌else◌, map, take}
use Rattle.std.specs.List.{filter_map}
use Rattle.std.specs.Str.{bytes_eq}
use Rattle.command_line.proofs.found.Found.texts.Given as goal

abbrev pub invariant-loop-value : goal.invariant-loop-value
invariant-loop-value l = map (λ t. t.now) l.texts.items
    ≡ filter_map (λ v. if bytes_eq v.id.now l.fn.id then Some v.text.now else None) (take l.value-index l.value-items)
