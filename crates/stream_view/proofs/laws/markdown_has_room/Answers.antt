use Rattle.stream_view.proofs.MarkdownLaws.{has_room_or_none}
use Rattle.stream_view.proofs.laws.markdown_has_room.Goals as goal

pub returns : goal.returns
returns c = has_room_or_none
