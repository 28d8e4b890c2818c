use Rattle.stream_watch.proofs.ReadAsMessages.{read_as_message}
use Rattle.stream_watch.proofs.message.laws.a_line_has_a_message_where_check_finds_one.Goals as goal

pub returns : goal.returns
returns c = read_as_message
