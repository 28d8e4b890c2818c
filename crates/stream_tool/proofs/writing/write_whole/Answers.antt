-- What was written, with a write more.
use Rattle.std.proofs.Common.{ℕ, arith, sym, subst, take}
use Rattle.std.specs.Io.KnownBytes.{Appends}
use Rattle.std.proofs.KnownBytes.{Appends-kept}
use Rattle.stream_tool.proofs.Written.{written_more}
use Rattle.stream_tool.proofs.writing.write_whole.Goals as goal
use Rattle.stream_tool.proofs.writing.write_whole.Goals.{in-Ok, in-Err+else-ne}

pub writes-preserved : goal.writes-preserved
writes-preserved g c =
    elim c.match-write.branch [
      | in-Ok w ↦ record {
        within = omega (arith, w.in-Ok.ensures.bound);
        appended = subst (λ (n : ℕ). Appends (g.W.Write.contents c.args.out.now) (g.W.Write.contents c.write.new.self) (take n c.args.bytes.now)) (sym w.written-is)
            (written_more _ _ _ c.args.bytes.now c.writes.written _ c.writes.invariant.appended w.in-Ok.ensures.bytes);
      }
      | in-Err+else-ne w ↦ record {
        within = omega arith;
        appended = subst (λ (n : ℕ). Appends (g.W.Write.contents c.args.out.now) (g.W.Write.contents c.write.new.self) (take n c.args.bytes.now)) (sym w.written-is)
            (Appends-kept _ _ _ _ c.writes.invariant.appended w.in-Err.ensures.bytes);
      }
    ]
