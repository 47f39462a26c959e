use Rattle.std.proofs.lemmas.Result.{IfErr-weaker, on_ok_weaker}
use Rattle.bincode_lemmas.specs.AllowedLaws.{number-allows}
use Rattle.bincode_lemmas.specs.EncodingLaws.{writes-alone, halts-among, ready_word}
use Rattle.bincode_encoder.proofs.integers.encode_integer.Goals as goal

pub returns : goal.returns
returns g c =
    let spelling = g.T.Integer.spelling in
    let laws = g.T.Integer.spelling_laws in
    let s = g.E.C.Config.setting in
    let a = number-allows spelling.integer laws.one (spelling.words s) _ c.args.val (laws.is_written s c.args.val c.requires.fits) in
    let write = rw (c.int_encoding-encoding.ensures, c.endianness-endian.ensures, c.writer.ensures.value) at c.write.ensures in
    let put = g.met.E.Encoder.put_get c.args.encoder.now c.write.new.writer in
    rw c.rebuild_result.ensures (record {
      ok = rw put (on_ok_weaker _ (writes-alone _ _ _ _ _ a) write.ok);
      err = rw put (IfErr-weaker c.write.result _ _ (λ e. halts-among _ _ _ (spelling.pieces s.order s.encoding c.args.val)
          (ready_word _ _ (rw (laws.pieces_join s.order s.encoding c.args.val) a)) _ _ _ e) write.err);
      same_loans = g.met.E.Encoder.put_loans c.args.encoder.now c.write.new.writer write.same_loans;
    })
