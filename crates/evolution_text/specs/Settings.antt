-- Settings, as the definitions of the format have them.
use Rattle.bincode_base.specs.Setting as base
use Rattle.evolution_text.specs.declared.setting.Setting.{Setting}

abbrev pub as_setting : Setting → base.Setting
as_setting s = record { order = s.order; encoding = s.encoding }
