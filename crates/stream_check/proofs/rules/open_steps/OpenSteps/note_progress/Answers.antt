use Rattle.std.proofs.Common.{Some, rules, sym}
use Rattle.std.specs.BTreeMap.{get_by_text}
use Rattle.std.proofs.lemmas.Map.Text.{btree_map_updates_text}
use Rattle.stream_check.proofs.Progress.{all_stepped}
use Rattle.stream_check.proofs.rules.open_steps.OpenSteps.note_progress.Goals as goal

pub returns-in-Some : goal.returns-in-Some
returns-in-Some c =
    let a = c.args.address.now in
    let old = c.args.self.now.states in
    let w = c.note_progress.new.state in
    let new = c.get_mut.follows.lender w in
    let updates = (c.get_mut.follows.holds w).3 (search rules) in
    let stepped =
    all_stepped c.note_progress.result c.args.action c.args.seconds c.args.line a (λ b. get_by_text old b) (λ b. get_by_text new b) c.in-Some.state.now w
    (sym c.in-Some.ensures.value) c.note_progress.ensures.stepped c.note_progress.ensures.open c.note_progress.ensures.preserved (btree_map_updates_text a old new (Some w) updates) in
    record { ok = stepped.0; err = stepped.1 }
