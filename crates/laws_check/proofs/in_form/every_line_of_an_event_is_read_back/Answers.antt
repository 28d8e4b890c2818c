use Rattle.apply_text_terraform.specs.Lines.{event_line}
use Rattle.apply_text_terraform.specs.UtcTimestamp.{precise_timestamp_text}
use Rattle.laws_check.specs.Forms.{message_in_form}
use Rattle.laws_check.specs.Objects.{object_at}
use Rattle.laws_check.specs.ReadBackInForm.{read_back_in_form}
use Rattle.std.proofs.Common.{false}
use Rattle.laws_check.proofs.FormReadBack.{event_is_read_back, says}
use Rattle.laws_check.proofs.in_form.every_line_of_an_event_is_read_back.Goals as goal

pub returns : goal.returns
returns c change step outcome planned range snippet what seconds has texts small id raw_texts =
    says (event_line seconds change step outcome planned what) (object_at (precise_timestamp_text seconds) (message_in_form change step outcome planned range snippet what)) (read_back_in_form change step outcome what)
    (c.both_forms_have_the_same_message_for_an_event.ensures.terraform change step outcome planned range snippet what seconds has texts small id raw_texts)
    (event_is_read_back false change step outcome planned range snippet what (precise_timestamp_text seconds))
