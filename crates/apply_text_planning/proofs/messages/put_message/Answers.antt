use Rattle.apply_text_planning.proofs.messages.put_message.Goals as goal

pub returns-in-RefreshComplete : goal.returns-in-RefreshComplete
returns-in-RefreshComplete c = rw c.in-RefreshComplete.is c.put_refresh-in-RefreshComplete.ensures
