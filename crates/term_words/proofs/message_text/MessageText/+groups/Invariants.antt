use Rattle.term_words.proofs.message_text.MessageText.+groups.Given as goal

abbrev pub decreases-groups : goal.decreases-groups
decreases-groups l = l.groups
