use Rattle.bincode.proofs.Known.{kept-known}
use Rattle.bincode.proofs.Shown.{read-fault, read-limit}
use Rattle.bincode.proofs.next.decode_from_buf_read.Goals as goal

pub returns-in-Ok : goal.returns-in-Ok
returns-in-Ok g c = record {
  word = c.in-Ok.ensures.word;
  found = λ tells word more m s i w within. tt;
  fault = λ tells. read-fault _ (g.D.Wire.words.lawful _) (g.D.Wire.words.balanced _) _ _ _ _ (c.in-Ok.ensures.word tells);
  limit = λ tells. read-limit _ (g.D.Wire.words.lawful _) (g.D.Wire.words.balanced _) _ _ _ _ (c.in-Ok.ensures.word tells);
  left = λ tells. tt;
  tells = c.in-Ok.ensures.is_known;
}

pub returns-in-Err : goal.returns-in-Err
returns-in-Err g c =
    let read = c.decode_windowed.ensures in
    let now = kept-known _ _ c.in-Err.ensures.kept in
    record {
      word = λ tells. rw (now tells).1 (read.word (now tells).0);
      found = λ tells. rw (now tells).1 (read.found (now tells).0);
      fault = λ tells. rw (now tells).1 (read.fault (now tells).0);
      limit = λ tells. rw (now tells).1 (read.limit (now tells).0);
      left = λ tells. rw (now tells).1 (read.left (now tells).0);
      tells = λ tells. read.tells (now tells).0;
    }
