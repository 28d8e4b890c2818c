use Rattle.std.proofs.Common.{◌≡◌, ◌+◌, ◌<◌, ◌≤◌, ◌∷◌, [], ◌++◌, List, ℕ, ap, ap₂, length, min, refl, rules, ◌∙◌}
use Rattle.std.proofs.lemmas.Bool.{le-ltb, lt-ltb}
use Rattle.stream_timeline.specs.Details.{DiagnosticRead}
use Rattle.stream_timeline.specs.SlotContents.{diagnostic_in}
use Rattle.stream_timeline.specs.TimelineRead.{DiagnosticsRead, max_stored}
use Rattle.stream_timeline.specs.Building.{added}
use Rattle.stream_timeline.proofs.reading.diagnostics.Diagnostics.add.Goals as goal
use Rattle.stream_timeline.proofs.reading.diagnostics.Diagnostics.add.Goals.{then-len-lt-MAX_STORED+in_ok-diagnostic+in_ok-push, else-len-lt-MAX_STORED}

abbrev made : List DiagnosticRead → ℕ → DiagnosticsRead
made stored count = record { stored = stored; count = count }

with_room : (d : DiagnosticRead) (ds : DiagnosticsRead) (stored : List DiagnosticRead) (count : ℕ) → length ds.stored < max_stored → stored ≡ ds.stored ++ d ∷ []
    → count ≡ min (ds.count + 1) 18446744073709551615 → made stored count ≡ added d ds
with_room d ds stored count room more one = rw (lt-ltb (length ds.stored) max_stored room) (ap₂ made more one)

without_room : (d : DiagnosticRead) (ds : DiagnosticsRead) (stored : List DiagnosticRead) (count : ℕ) → max_stored ≤ length ds.stored → stored ≡ ds.stored
    → count ≡ min (ds.count + 1) 18446744073709551615 → made stored count ≡ added d ds
without_room d ds stored count full same one = rw (le-ltb (length ds.stored) max_stored full) (ap₂ made same one)

pub returns-clause-ok : goal.returns-clause-ok
returns-clause-ok c =
    let d = diagnostic_in c.args.slots.now in
    let old = made c.self.inside.stored.items c.self.inside.count in
    elim c.if-len-lt-MAX_STORED.branch [
      | then-len-lt-MAX_STORED+in_ok-diagnostic+in_ok-push w ↦
          let room : length c.self.inside.stored.items < max_stored = search rules in
          rw w.self-inside-is
          (with_room d old w.push.new.self.items c.saturating_add-self-inside.result room (w.in_ok-push.ensures.items ∙ ap (λ (x : DiagnosticRead). c.self.inside.stored.items ++ x ∷ []) w.in_ok-diagnostic.ensures)
          (rw w.self-inside-is at c.saturating_add-self-inside.ensures) ∙ ap (added d) c.self.view_is)
      | else-len-lt-MAX_STORED w ↦
          let full : max_stored ≤ length c.self.inside.stored.items = search rules in
          rw w.self-inside-is
          (without_room d old c.self.inside.stored.items c.saturating_add-self-inside.result full refl (rw w.self-inside-is at c.saturating_add-self-inside.ensures) ∙ ap (added d) c.self.view_is)
    ]
