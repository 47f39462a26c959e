use Rattle.std.proofs.Common.{refl, subst, sym}
use Rattle.std.proofs.lemmas.Result.{IfOk-weaker}
use Rattle.bincode_io.specs.Stream.{known_bytes}
use Rattle.framed_store.specs.declared.ending.Ending.TheVariants as endings
use Rattle.stock_files.proofs.Judging.{JudgedTo, judged, judged-more}
use Rattle.stock_files.proofs.showing.show_frames.Goals as goal

pub returns-in-End : goal.returns-in-End
returns-in-End g c = λ tells.
    let so_far = c.loop.invariant.so_far tells in
    let next = rw c.in-End.is at c.in_ok-size.ensures.next (c.loop.invariant.is_known tells) in
    IfOk-weaker c.end.result _ _ (λ whole is. judged (g.T.Wire.words.format g.C.Config.setting) g.C.Config.bound g.T.Wire.words.decodes_to c.args.most
    (known_bytes (g.R.Read.remaining c.args.store.now)) (known_bytes (g.R.Read.remaining c.loop.store)) c.loop.seen.others endings.Whole endings.Whole whole so_far next (λ h. h, λ h. h) is) c.end.ensures

pub returns-in-Torn : goal.returns-in-Torn
returns-in-Torn g c = λ tells.
    let so_far = c.loop.invariant.so_far tells in
    let next = rw c.in-Torn.is at c.in_ok-size.ensures.next (c.loop.invariant.is_known tells) in
    IfOk-weaker c.end-in-Torn.result _ _ (λ whole is. judged (g.T.Wire.words.format g.C.Config.setting) g.C.Config.bound g.T.Wire.words.decodes_to c.args.most
    (known_bytes (g.R.Read.remaining c.args.store.now)) (known_bytes (g.R.Read.remaining c.loop.store)) c.loop.seen.others (endings.Torn so_far.end) (endings.Torn c.loop.seen.offset) whole so_far (refl, next) (λ h. cc, λ h. cc) is) c.end-in-Torn.ensures

pub returns-in-TooLong : goal.returns-in-TooLong
returns-in-TooLong g c = λ tells.
    let so_far = c.loop.invariant.so_far tells in
    let next = rw c.in-TooLong.is at c.in_ok-size.ensures.next (c.loop.invariant.is_known tells) in
    IfOk-weaker c.end-in-TooLong.result _ _ (λ whole is. judged (g.T.Wire.words.format g.C.Config.setting) g.C.Config.bound g.T.Wire.words.decodes_to c.args.most
    (known_bytes (g.R.Read.remaining c.args.store.now)) (known_bytes (g.R.Read.remaining c.loop.store)) c.loop.seen.others (endings.TooLong so_far.end c.in-TooLong.length) (endings.TooLong c.loop.seen.offset c.in-TooLong.length) whole so_far (refl, next) (λ h. cc, λ h. cc) is) c.end-in-TooLong.ensures

pub loop-preserved : goal.loop-preserved
loop-preserved g c = record {
  is_known = λ tells. c.next_from_stream.ensures.is_known (c.loop.invariant.is_known tells);
  so_far = λ tells.
      let known = c.loop.invariant.is_known tells in
      let next = rw c.in-Record.is at c.in_ok-size.ensures.next known in
      let left = rw c.in-Record.is at c.in_ok-size.ensures.left known in
      let store = known_bytes (g.R.Read.remaining c.args.store.now) in
      subst (λ z. JudgedTo (g.T.Wire.words.format g.C.Config.setting) g.C.Config.bound g.T.Wire.words.decodes_to c.args.most store z c.count.new.self.others) (sym left)
      (judged-more (g.T.Wire.words.format g.C.Config.setting) g.C.Config.bound g.T.Wire.words.decodes_to c.args.most store (known_bytes (g.R.Read.remaining c.loop.store)) c.loop.seen.others
      c.count.new.self.others c.in-Record.size c.in-Record.content (c.loop.invariant.so_far tells) next c.count.ensures);
}
