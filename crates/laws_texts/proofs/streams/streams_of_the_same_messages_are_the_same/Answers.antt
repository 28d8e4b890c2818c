use Rattle.laws_texts.proofs.PlainStreams.{same_stream}
use Rattle.laws_texts.proofs.streams.streams_of_the_same_messages_are_the_same.Goals as goal

pub returns-clause-text : goal.returns-clause-text
returns-clause-text c = same_stream

pub returns-clause-form : goal.returns-clause-form
returns-clause-form c = same_stream
