use Rattle.std.proofs.Common.{◌≡◌, ◌&&◌, drop}
use Rattle.evolution_text.specs.Answers.{is_read_in_all}
use Rattle.evolution_text.proofs.compare.write_table.Given as goal

abbrev pub invariant-loop-setting : goal.invariant-loop-setting
invariant-loop-setting g l = is_read_in_all l.settings l.old l.new ≡ (l.are_all_read && is_read_in_all (drop l.setting-index l.settings) l.old l.new)
