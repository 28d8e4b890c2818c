use Rattle.laws_check.proofs.SoundObjects.{stream_sound}
use Rattle.laws_check.proofs.laws.a_stream_of_texts_can_be_read.Goals as goal

pub returns : goal.returns
returns c plan script start operation events has fits short = record { sound = stream_sound plan script has start operation events fits; short = short }
