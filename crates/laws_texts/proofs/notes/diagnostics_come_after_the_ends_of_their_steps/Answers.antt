use Rattle.laws_texts.proofs.NotesOfTimeLines.{notes_follow}
use Rattle.laws_texts.proofs.notes.diagnostics_come_after_the_ends_of_their_steps.Goals as goal

pub returns : goal.returns
returns c = notes_follow
