use Rattle.stream_panel.proofs.Frames.{frame_is, frame_rows}
use Rattle.stream_panel.proofs.laws.a_frame_replaces_the_panel.Goals as goal

pub returns-clause-bytes : goal.returns-clause-bytes
returns-clause-bytes c standing told panel = frame_is standing told panel

pub returns-clause-rows : goal.returns-clause-rows
returns-clause-rows c columns before told panel standing = frame_rows columns before told panel standing
