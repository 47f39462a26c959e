-- What is seen of a device in memory.
use Rattle.std.specs.Prelude.{List, Option}
use Rattle.crash_device.specs.declared.memory.Call.{Call}
use Rattle.crash_device.specs.declared.memory.Crash.{Crash}
use Rattle.crash_device.specs.declared.memory.Memory.{Memory}
use Rattle.crash_device.specs.Files.{Files}
use Rattle.crash_device.specs.Past.{files_of}

-- its files
abbrev pub memory_files : Memory → Files
memory_files m = files_of m.contents

-- the call in which it is to crash
abbrev pub memory_crash : Memory → Option Crash
memory_crash m = m.crash

-- the calls that failed, in order
abbrev pub memory_failures : Memory → List Call
memory_failures m = m.failures.items
