-- The model of the private type that holds what a message states.
use Rattle.stream_message.specs.SlotValues.{diagnostic_address_in}
use Rattle.stream_timeline.specs.declared.reading.content.Content as in_slots
use Rattle.stream_timeline.specs.declared.reading.content.Content.TheVariants as slots
use Rattle.stream_timeline.specs.Messages.{Content, begins, ends, begins_provisioner, ends_provisioner, error, warning, version, plan_summary, summary, other, unusable}
use Rattle.stream_timeline.specs.SlotContents.{diagnostic_in}

abbrev pub content_view : in_slots.Content → Content
content_view (slots.Begins address action) = begins address.now action.now
content_view (slots.Ends address action failed) = ends address.now action.now failed
content_view (slots.BeginsProvisioner address name) = begins_provisioner address.now name.now
content_view (slots.EndsProvisioner address failed) = ends_provisioner address.now failed
content_view (slots.Error d) = error (diagnostic_address_in d) (diagnostic_in d)
content_view (slots.Warning d) = warning (diagnostic_in d)
content_view (slots.Version text) = version text.now
content_view (slots.PlanSummary totals) = plan_summary totals
content_view (slots.Summary totals) = summary totals
content_view slots.Other = other
content_view slots.Unusable = unusable
