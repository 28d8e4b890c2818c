use Rattle.std.proofs.Common.{◌++◌, All, map, ap, ◌∙◌, subst}
use Rattle.apply_bus.specs.Bus.{Account, sent_list_of, IsTakenInPart}
use Rattle.apply_bus.proofs.salvaged.salvage.Goals as goal

pub returns-clause-joined : goal.returns-clause-joined
returns-clause-joined c =
    c.join_all_open.ensures.joined
    ∙ ap (λ (a : Account). record a { sent_lists = a.sent_lists ++ map sent_list_of c.args.«open».items }) c.join_all_closed.ensures.joined

pub returns-clause-closed : goal.returns-clause-closed
returns-clause-closed c = c.join_all_closed.ensures.part

pub returns-clause-not_closed : goal.returns-clause-not_closed
returns-clause-not_closed c = subst (λ (a : Account). All (IsTakenInPart a.taken) (map sent_list_of c.args.«open».items)) c.join_all_closed.ensures.joined c.join_all_open.ensures.part
