use Rattle.std.proofs.lemmas.Bool.{le-ltb, lt-ltb}
use Rattle.stream_panel.specs.Rows.{kind_part}
use Rattle.stream_panel.proofs.row.push_kind_part.Goals as goal

pub returns-then-lengths-lt-LONG : goal.returns-then-lengths-lt-LONG
unfolding kind_part
returns-then-lengths-lt-LONG c words had = rw (lt-ltb c.args.lengths.now.longest 1000000 c.if-lengths-lt-LONG.true) (c.push_within.ensures words had)

pub returns-else-lengths-lt-LONG : goal.returns-else-lengths-lt-LONG
unfolding kind_part
returns-else-lengths-lt-LONG c words had = rw (le-ltb c.args.lengths.now.longest 1000000 c.if-lengths-lt-LONG.false) (c.push_long_others.ensures words had)
