use Rattle.std.proofs.Common.{◌≡◌, ◌∙◌, ◌++◌, ◌∷◌, [], ℕ, ℤ, List, ap, false, refl, w64}
use Rattle.std.proofs.lemmas.Int.{to_z-of_z}
use Rattle.term_words.proofs.Appended.{text_all}
use Rattle.stream_watch.specs.Counts.{with_begun}
use Rattle.stream_watch.specs.State.{State, looks_of, state_of}
use Rattle.stream_watch.specs.StepRows.{NamedStep, named_view, told_before, with_step}
use Rattle.stream_watch.specs.Steps.{Step, new_step, steps_of}
use Rattle.stream_watch.specs.Words.{step_words}
use Rattle.stream_watch.specs.declared.counts.Counts.{Counts}
use Rattle.stream_watch.specs.declared.mark.Mark.TheVariants as mark
use Rattle.stream_watch.proofs.Tellings.{line_then}
use Rattle.stream_watch.proofs.watcher.Watcher.step_began.Goals as goal

-- with the step, of this kind
with_kind : NamedStep → (kind : List ℕ) → (moment : ℤ) → State → State
with_kind step kind moment state = record state {
  steps = state.steps ++ new_step step.address step.action kind false moment ∷ [];
  counts = with_begun step.action state.counts;
}

-- refreshes are told, the step is added, and its line follows
pub returns : goal.returns
unfolding with_kind
returns c =
    let before = c.args.self.now in
    let told = c.report_before.new.self in
    let step = named_view c.args.message in
    let words = step_words step.action step.address in
    let has = text_all c.new-text.result c.push_step.new.text words c.new-text.ensures c.push_step.ensures in
    let passed = to_z-of_z w64 c.args.moment c.ranges.moment in
    let changed : (record (state_of told) { counts = c.with_begun-self.result; steps = steps_of c.begin.new.self }) ≡ with_step step c.args.moment (state_of told) =
    ap (λ (counts : Counts). record (state_of told) { counts = counts; steps = steps_of c.begin.new.self }) c.with_begun-self.ensures
    ∙ ap (λ (steps : List Step). record (state_of told) { counts = with_begun step.action told.counts; steps = steps }) c.in_ok-begin.ensures
    ∙ ap (λ (moment : ℤ). with_kind step c.kind_of.result.now moment (state_of told)) passed
    ∙ ap (λ (kind : List ℕ). with_kind step kind c.args.moment (state_of told)) c.kind_of.ensures in
    line_then before told (record told { counts = c.with_begun-self.result; steps = c.begin.new.self }) c.line.new.self
    (told_before (looks_of before) (state_of before) step.action) (with_step step c.args.moment) mark.Begin words
    c.report_before.ensures refl refl refl changed (c.line.ensures words has)
