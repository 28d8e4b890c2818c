use Rattle.std.proofs.Common.{◌≡◌, ℕ, ◌+◌, Bool, true, false, ◌||◌, List, [], ◌∷◌, ◌++◌, sym, ap₂, ◌∙◌}
use Rattle.apply_events.specs.declared.event.Event.{Event}
use Rattle.apply_events.specs.declared.mid_step.MidStep.{MidStep}
use Rattle.apply_events.specs.declared.stage.Stage.{Stage}
use Rattle.apply_events.specs.declared.stage.Stage.TheVariants.{Noting, Running}
use Rattle.apply_events.specs.declared.what.What.{What}
use Rattle.apply_events.specs.MidStep.{left_of}
use Rattle.apply_events.specs.Runner as runner
use Rattle.apply_events.specs.RunnerStep.{rest_of, step_at_hand}
use Rattle.apply_events.specs.Stages.{later_events, from_stage, halt_after}
use Rattle.apply_events.specs.Step.{Step}
use Rattle.apply_events.specs.StepEvents.{end_of, event, seconds_of, emits_end}
use Rattle.apply_events.proofs.Stages.{running_ends, running_notes, running_warns}
use Rattle.apply_events.proofs.runner.Runner.emit_running.Goals as goal

-- the step has an end event, as its facts state
emitted_so : (s : Step) (fails only_warns emits : Bool) → emits ≡ emits_end fails only_warns → fails ≡ s.fails → only_warns ≡ s.only_warns → emits_end s.fails s.only_warns ≡ emits
emitted_so s fails only_warns emits test same alone = sym (test ∙ ap₂ emits_end same alone)

-- no event comes before the end, and there is no end event: the warning stands in its place
untold : (w : ℕ) (s : Step) (rest left : List Step) (at : ℕ) (mid : MidStep) (fails only_warns emits : Bool) (events : List Event) (stage : Stage) → left ≡ s ∷ rest → stage ≡ Running mid
    → left_of (seconds_of s) s.seconds_before s.ran mid ≡ [] → emits ≡ emits_end fails only_warns → fails ≡ s.fails → only_warns ≡ s.only_warns → emits ≡ false
    → from_stage w left at Noting ≡ events → from_stage w left at stage ≡ events
untold w s rest left at mid fails only_warns emits events stage first on none test same alone not_emitted noted =
    running_warns w s rest left at mid stage first on none (emitted_so s fails only_warns emits test same alone ∙ not_emitted) ∙ noted

-- the end is emitted after the step's seconds, and an error or a warning follows
end_emitted : (w : ℕ) (s : Step) (rest left : List Step) (at : ℕ) (mid : MidStep) (fails only_warns warns emits notes : Bool) (seconds : ℕ) (what : What) (emitted : Event) (stage : Stage) → left ≡ s ∷ rest → stage ≡ Running mid
    → left_of (seconds_of s) s.seconds_before s.ran mid ≡ [] → emits ≡ emits_end fails only_warns → fails ≡ s.fails → only_warns ≡ s.only_warns → emits ≡ true
    → notes ≡ (fails || warns) → warns ≡ s.warns → notes ≡ true
    → emitted ≡ event w s (at + seconds) what → what ≡ end_of fails seconds → seconds ≡ seconds_of s
    → from_stage w left at stage ≡ emitted ∷ from_stage w left at Noting
end_emitted w s rest left at mid fails only_warns warns emits notes seconds what emitted stage first on none test same alone ends noting warned has is end time =
    rw (is, end, same, time)
    (running_notes w s rest left at mid stage first on none (emitted_so s fails only_warns emits test same alone ∙ ends)
    (sym (noting ∙ ap₂ (λ f w. f || w) same warned) ∙ has))

-- and no note follows
end_alone : (w : ℕ) (s : Step) (rest left : List Step) (at : ℕ) (mid : MidStep) (fails only_warns warns emits notes : Bool) (seconds : ℕ) (what : What) (emitted : Event) (after : List Event) (stage : Stage) → left ≡ s ∷ rest → stage ≡ Running mid
    → left_of (seconds_of s) s.seconds_before s.ran mid ≡ [] → emits ≡ emits_end fails only_warns → fails ≡ s.fails → only_warns ≡ s.only_warns → emits ≡ true
    → notes ≡ (fails || warns) → warns ≡ s.warns → notes ≡ false
    → emitted ≡ event w s (at + seconds) what → what ≡ end_of fails seconds → seconds ≡ seconds_of s
    → after ≡ halt_after w s at ++ later_events w s rest at → from_stage w left at stage ≡ emitted ∷ after
end_alone w s rest left at mid fails only_warns warns emits notes seconds what emitted after stage first on none test same alone ends noting warned has is end time others =
    rw (is, end, same, time, others)
    (running_ends w s rest left at mid stage first on none (emitted_so s fails only_warns emits test same alone ∙ ends)
    (sym (noting ∙ ap₂ (λ f w. f || w) same warned) ∙ has))

pub returns-then-not-emits_end-clause-next : goal.returns-then-not-emits_end-clause-next
returns-then-not-emits_end-clause-next g c =
    let r = c.args.self.now in
    untold r.worker (step_at_hand r c.args.kind) (rest_of r) (runner.left_of r) r.at c.args.mid c.facts-facts.result.fails c.facts-facts.result.only_warns c.emits_end.result (c.note.result ∷ runner.to_come c.note.new.self) r.stage
    c.requires.step c.requires.stage c.in_default.ensures.next.0 c.emits_end.ensures c.facts-facts.ensures.fails c.facts-facts.ensures.only_warns c.if-not-emits_end.true c.note.ensures.next

pub returns-then-has_note-clause-next : goal.returns-then-has_note-clause-next
returns-then-has_note-clause-next g c =
    let r = c.args.self.now in
    let f = c.facts-facts.result in
    end_emitted r.worker (step_at_hand r c.args.kind) (rest_of r) (runner.left_of r) r.at c.args.mid f.fails f.only_warns f.warns c.emits_end.result c.has_note.result f.seconds c.end.result c.event-event.result r.stage
    c.requires.step c.requires.stage c.in_default.ensures.next.0 c.emits_end.ensures c.facts-facts.ensures.fails c.facts-facts.ensures.only_warns c.if-not-emits_end.false
    c.has_note.ensures c.facts-facts.ensures.warns c.if-has_note.true c.event-event.ensures c.end.ensures c.facts-facts.ensures.seconds

pub returns-else-has_note-clause-next : goal.returns-else-has_note-clause-next
returns-else-has_note-clause-next g c =
    let r = c.args.self.now in
    let f = c.facts-facts.result in
    end_alone r.worker (step_at_hand r c.args.kind) (rest_of r) (runner.left_of r) r.at c.args.mid f.fails f.only_warns f.warns c.emits_end.result c.has_note.result f.seconds c.end.result c.event-event.result (runner.to_come c.finish.new.self) r.stage
    c.requires.step c.requires.stage c.in_default.ensures.next.0 c.emits_end.ensures c.facts-facts.ensures.fails c.facts-facts.ensures.only_warns c.if-not-emits_end.false
    c.has_note.ensures c.facts-facts.ensures.warns c.if-has_note.false c.event-event.ensures c.end.ensures c.facts-facts.ensures.seconds c.finish.ensures.next
