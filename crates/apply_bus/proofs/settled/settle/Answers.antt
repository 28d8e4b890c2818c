use Rattle.std.proofs.Common.{◌≡◌, ◌++◌, All, map, ap, ◌∙◌, subst}
use Rattle.apply_bus.specs.Bus.{Account, sent_list_of, IsTakenWhole}
use Rattle.apply_bus.specs.Items.{closes}
use Rattle.apply_bus.proofs.settled.settle.Goals as goal

pub returns-clause-joined : goal.returns-clause-joined
returns-clause-joined c =
    c.join_all_closed.ensures.joined
    ∙ ap (λ (a : Account). record a { sent_lists = a.sent_lists ++ map sent_list_of c.args.closed.items }) c.give_up-taken.ensures.taken

pub returns-clause-whole : goal.returns-clause-whole
returns-clause-whole c =
    subst (λ (a : Account). closes a.taken ≡ a.workers → All (IsTakenWhole a.taken) (map sent_list_of c.args.closed.items)) c.give_up-taken.ensures.taken c.join_all_closed.ensures.whole c.requires.left
