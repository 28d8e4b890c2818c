use Rattle.std.proofs.Common.{◌∙◌, ap, codes, refl}
use Rattle.std.specs.List.{count_by}
use Rattle.stream_timeline.specs.Steps.{StepRead}
use Rattle.stream_timeline.specs.TimelineRead.{DiagnosticsRead}
use Rattle.stream_view.specs.Heading.{is_not_ended}
use Rattle.stream_view.specs.Json.{figures_text, number_data, summary_data, version_data}
use Rattle.stream_view.proofs.Objects.{named_then}
use Rattle.stream_view.proofs.json.objects.push_figures.Goals as goal

pub returns : goal.returns
unfolding figures_text
returns c =
    let end = c.text.new.self in
    let numbers = c.args.picture.now.numbers in
    let summary = named_then c.push_optional.new.text c.push_summary.new.text end (codes ",\"summary\":") _ _ _ (ap summary_data c.totals.ensures) c.push_summary.ensures c.text.ensures in
    let terraform = named_then c.push_number-11.new.text c.push_optional.new.text end (codes ",\"terraform\":") _ _ _ (ap version_data c.version.ensures) c.push_optional.ensures summary in
    let passed = named_then c.push_number-10.new.text c.push_number-11.new.text end (codes ",\"passed\":") _ _ _ (ap number_data c.passed_over.ensures) c.push_number-11.ensures terraform in
    let peak = named_then c.push_number-9.new.text c.push_number-10.new.text end (codes ",\"peak\":") (number_data numbers.peak) (number_data numbers.peak) _ refl c.push_number-10.ensures passed in
    let work = named_then c.push_number-8.new.text c.push_number-9.new.text end (codes ",\"work\":") (number_data numbers.work) (number_data numbers.work) _ refl c.push_number-9.ensures peak in
    let busy = named_then c.push_number-7.new.text c.push_number-8.new.text end (codes ",\"busy\":") (number_data numbers.busy) (number_data numbers.busy) _ refl c.push_number-8.ensures work in
    let span = named_then c.push_number-6.new.text c.push_number-7.new.text end (codes ",\"span\":") _ _ _ (ap number_data c.span.ensures) c.push_number-7.ensures busy in
    let errors = named_then c.push_number-5.new.text c.push_number-6.new.text end (codes ",\"errors\":") _ _ _ (ap number_data (c.count.ensures ∙ ap (λ (errors : DiagnosticsRead). errors.count) c.errors.ensures)) c.push_number-6.ensures span in
    let unended = named_then c.push_number-4.new.text c.push_number-5.new.text end (codes ",\"unended\":") _ _ _ (ap number_data (c.open_count.ensures ∙ ap (count_by is_not_ended) c.steps-2.ensures)) c.push_number-5.ensures errors in
    let failed = named_then c.push_number-3.new.text c.push_number-4.new.text end (codes ",\"failed\":") _ _ _ (ap number_data (c.failed_count.ensures ∙ ap (count_by (λ (step : StepRead). step.failed)) c.steps.ensures)) c.push_number-4.ensures unended in
    let destroyed = named_then c.push_number-2.new.text c.push_number-3.new.text end (codes ",\"destroyed\":") (number_data numbers.deleted) (number_data numbers.deleted) _ refl c.push_number-3.ensures failed in
    let changed = named_then c.push_number.new.text c.push_number-2.new.text end (codes ",\"changed\":") (number_data numbers.updated) (number_data numbers.updated) _ refl c.push_number-2.ensures destroyed in
    named_then c.args.text.now c.push_number.new.text end (codes "{\"added\":") (number_data numbers.created) (number_data numbers.created) _ refl c.push_number.ensures changed
