use Rattle.std.proofs.Common.{◌≡◌, ◌-◌, ◌<◌, ◌≤◌, Some, ap, arith}
use Rattle.std.proofs.lemmas.Bool.{le-ltb, lt-ltb}
use Rattle.term_text.specs.Columns.{columns_of}
use Rattle.stream_panel.specs.Stretches.{rendered}
use Rattle.stream_panel.specs.Rows.{padded, words_and_others}
use Rattle.stream_panel.proofs.Parts.{part_as, part_then}
use Rattle.stream_panel.proofs.others.push_words_and_others.Goals as goal

pub returns-then-left-lt-LEAST_WORDS : goal.returns-then-left-lt-LEAST_WORDS
unfolding words_and_others
returns-then-left-lt-LEAST_WORDS c words had =
    let left : c.saturating_sub-left.result ≡ c.args.room - columns_of c.args.others.now =
    omega (arith, c.saturating_sub-left.ensures, c.columns.ensures, c.ranges.room) in
    let few : c.args.room - columns_of c.args.others.now < 30 = omega (arith, left, c.if-left-lt-LEAST_WORDS.true) in
    rw (lt-ltb (c.args.room - columns_of c.args.others.now) 30 few) (c.push_within.ensures words had)

pub returns-else-left-lt-LEAST_WORDS : goal.returns-else-left-lt-LEAST_WORDS
unfolding words_and_others
returns-else-left-lt-LEAST_WORDS c words had =
    let t0 = c.args.out.now in
    let t1 = c.push_padded.new.out in
    let t2 = c.push_stretch.new.out in
    let colour = c.args.has_colour in
    let others = c.args.others.now in
    let room = c.args.room - columns_of others in
    let left : c.saturating_sub-left.result ≡ c.args.room - columns_of c.args.others.now =
    omega (arith, c.saturating_sub-left.ensures, c.columns.ensures, c.ranges.room) in
    let enough : 30 ≤ c.args.room - columns_of c.args.others.now = omega (arith, left, c.if-left-lt-LEAST_WORDS.false) in
    rw (le-ltb (c.args.room - columns_of c.args.others.now) 30 enough)
    (part_then t0 t1 t2 colour (padded room words) (rendered (Some c.args.others_as) others)
    (part_as t0 t1 colour (padded c.saturating_sub-left.result words) (padded room words) (ap (λ n. padded n words) left) (c.push_padded.ensures words had))
    (part_as t1 t2 colour _ (rendered (Some c.args.others_as) others) (ap (rendered (Some c.args.others_as)) c.characters.ensures) c.push_stretch.ensures))
