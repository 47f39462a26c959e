use Rattle.crash_device.specs.Past.{files_of}
use Rattle.crash_device.proofs.PastKept.{elapses-kept}
use Rattle.crash_device.proofs.memory.MemoryDevice.cut.Goals as goal

pub returns-in-None-stands-clause-time : goal.returns-in-None-stands-clause-time
returns-in-None-stands-clause-time c =
    let past = c.in_ok-put_log.ensures.past in
    elapses-kept c.args.self.now.past.items c.put_log.new.past.items past.0 (files_of c.args.self.now.contents) (files_of c.put_log.new.contents) past.1 past.2

pub returns-in-Some-stands-clause-time : goal.returns-in-Some-stands-clause-time
returns-in-Some-stands-clause-time c =
    let past = c.in_ok-put_log.ensures.past in
    elapses-kept c.args.self.now.past.items c.put_log.new.past.items past.0 (files_of c.args.self.now.contents) (files_of c.put_log.new.contents) past.1 past.2
