-- The call in which a device in memory crashes.
use Rattle.std.specs.Prelude.{ℕ, Option, Some, None, if◌then◌else◌, ◌==◌, ◌-◌}
use Rattle.crash_device.specs.declared.memory.Crash.{Crash}

-- a call goes through before the one that crashes
abbrev pub bytes_left : Option Crash → Option ℕ
bytes_left None = None
bytes_left (Some crash) = if crash.calls == 0 then Some crash.bytes else None

-- after the crash nothing stands of any call
abbrev pub next_crash : Option Crash → Option Crash
next_crash None = None
next_crash (Some crash) = Some (if crash.calls == 0 then record { calls = 0; bytes = 0 } else record crash { calls = crash.calls - 1 })
