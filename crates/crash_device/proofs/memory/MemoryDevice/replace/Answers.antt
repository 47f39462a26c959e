use Rattle.crash_device.specs.Past.{files_of}
use Rattle.crash_device.proofs.PastKept.{elapses-kept}
use Rattle.crash_device.proofs.memory.MemoryDevice.replace.Goals as goal

pub returns-in-None-clause-time : goal.returns-in-None-clause-time
returns-in-None-clause-time c =
    let past = c.in_ok-put_snapshot.ensures.past in
    elapses-kept c.args.self.now.past.items c.put_snapshot.new.past.items past.0 (files_of c.args.self.now.contents) (files_of c.put_snapshot.new.contents) past.1 past.2

pub returns-in-Some-clause-time : goal.returns-in-Some-clause-time
returns-in-Some-clause-time c =
    let past = c.in_ok-put_snapshot.ensures.past in
    elapses-kept c.args.self.now.past.items c.put_snapshot.new.past.items past.0 (files_of c.args.self.now.contents) (files_of c.put_snapshot.new.contents) past.1 past.2
