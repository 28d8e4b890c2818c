use Rattle.std.proofs.Common.{◌<◌, None, arith, subst, sym}
use Rattle.std.proofs.lemmas.List.{get_or_read}
use Rattle.stream_record_waits.specs.ReadyTurns.{IsFirstIn}
use Rattle.stream_record_waits.proofs.TurnTree.{root_is_first}
use Rattle.stream_record_waits.proofs.ready_turns.ReadyTurns.first.Goals as goal

pub returns-else-self-eq0 : goal.returns-else-self-eq0
returns-else-self-eq0 c =
    let turns = c.args.self.now in
    let ne = c.if-self-eq0.false in
    let size = c.requires.size in
    let some : 0 < turns.count = omega (arith, ne) in
    let root = get_or_read turns.nodes.items 1 c.index.result.now (omega (arith, size, some)) c.index.ensures None in
    subst (IsFirstIn turns) (sym root) (root_is_first turns c.requires some)
