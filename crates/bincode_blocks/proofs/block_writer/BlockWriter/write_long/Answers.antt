use Rattle.std.proofs.Common.{◌≡◌, inl, inr, refl, sym, subst, rules, None, le_refl}
use Rattle.bincode_io.specs.Stream.{FrontOut}
use Rattle.bincode_blocks.specs.Blocks.{stream_behind, failure_of}
use Rattle.bincode_blocks.proofs.Blocks.{long-refused, adds-long, long-cut}
use Rattle.bincode_blocks.proofs.block_writer.BlockWriter.write_long.Goals.{then-is_some-via-then-is_some, then-is_some-via-else-is_some+then-self-bytes}
use Rattle.bincode_blocks.proofs.block_writer.BlockWriter.write_long.Goals as goal

pub returns-then-is_some : goal.returns-then-is_some
returns-then-is_some g c = record {
  piece = λ some. record {
    ok = tt;
    err = long-refused g.W.Write.contents _ _ c.args.bytes.now c.make_room.ensures.clears (elim c.then-is_some.branch [ then-is_some-via-then-is_some w ↦ inl (search rules) | then-is_some-via-else-is_some+then-self-bytes w ↦ inr w.if-self-bytes.true ]);
    failures_monotone = le_refl 0;
    same_loans = c.make_room.ensures.loans;
  };
}

pub returns-in-Ok : goal.returns-in-Ok
returns-in-Ok g c = record {
  piece = λ some.
      let none : failure_of c.make_room.new.self ≡ None = search rules in
      record {
        ok = adds-long g.W.Write.contents _ c.make_room.new.self _ c.args.bytes.now c.make_room.ensures.clears none some c.if-self-bytes.false c.in-Ok.ensures.ok (search rules) refl refl;
        err = tt;
        failures_monotone = le_refl 0;
        same_loans = c.make_room.ensures.loans;
      };
}

pub returns-in-Err : goal.returns-in-Err
returns-in-Err g c = record {
  piece = λ some.
      let none : failure_of c.make_room.new.self ≡ None = search rules in
      let is : stream_behind c.fail.new.self ≡ c.write_through.new.stream = search rules in
      let out = subst (FrontOut g.W.Write.contents c.make_room.new.self.stream.now c.args.bytes.now) (sym is) c.in-Err.ensures.left in
      record {
        ok = tt;
        err = long-cut g.W.Write.contents _ c.make_room.new.self _ c.args.bytes.now c.make_room.ensures.clears none out c.fail.ensures.empty (search rules) c.fail.ensures.handed;
        failures_monotone = le_refl 0;
        same_loans = search rules;
      };
}
