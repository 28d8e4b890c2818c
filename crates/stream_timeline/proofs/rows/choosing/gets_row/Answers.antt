use Rattle.std.proofs.Common.{refl, sym, ◌∙◌}
use Rattle.std.proofs.lemmas.Bool.{both_ways, le-ltb, lt-ltb}
use Rattle.stream_timeline.proofs.rows.choosing.gets_row.Goals as goal
use Rattle.stream_timeline.proofs.rows.choosing.gets_row.Goals.{then-rank-lt-SURE_ROWS, else-rank-lt-SURE_ROWS}

pub returns-else-candidate : goal.returns-else-candidate
returns-else-candidate c =
    elim c.if-rank-lt-SURE_ROWS.branch [
      | then-rank-lt-SURE_ROWS w ↦ absurd (both_ways c.if-rank-lt-SURE_ROWS.value c.if-candidate.false (w.value-is ∙ lt-ltb c.args.rank 10 w.if-rank-lt-SURE_ROWS.true))
      | else-rank-lt-SURE_ROWS w ↦
          rw (lt-ltb c.args.rank c.args.limit c.if-rank-limit.true, le-ltb c.args.rank 10 w.if-rank-lt-SURE_ROWS.false, sym w.value-is ∙ c.if-candidate.false) refl
    ]
