-- The errors of a line that is cut.
use Rattle.std.specs.Prelude.{◌≡◌}
use Rattle.bincode_base.specs.declared.short_text.Text.{Text}
use Rattle.bincode_base.specs.declared.error.DecodeError.TheVariants.{Other}
use Rattle.bincode_spec.specs.Device.{DeviceErrors}

-- a text; the error is counted
abbrev pub cut_errors : DeviceErrors
cut_errors = record { is_counted = λ e. (text : Text 22) × (e ≡ Other text); is_uncounted = λ _. ⊥ }
