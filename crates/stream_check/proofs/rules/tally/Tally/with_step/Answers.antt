use Rattle.std.proofs.Common.{◌≤◌, ℕ, ◌+◌, subst, sym, arith}
use Rattle.stream_check.specs.declared.messages.action.Action.{Action}
use Rattle.stream_check.specs.declared.messages.action.Action.TheVariants.{Create, Update, Delete, Read, Refresh}
use Rattle.stream_check.specs.declared.messages.timed_stage.TimedStage.{TimedStage}
use Rattle.stream_check.specs.declared.messages.timed_stage.TimedStage.TheVariants.{Start, Progress, Complete, Errored}
use Rattle.stream_check.specs.declared.messages.totals.Totals.{Totals}
use Rattle.stream_check.specs.Counted.{begun_counted, counted, failures_counted, with_one}
use Rattle.stream_check.proofs.rules.tally.Tally.with_step.Goals as goal

-- totals that are no greater than a number
abbrev AreWithin : ℕ → Totals → Type 0
AreWithin n t = (t.added ≤ n) × (t.changed ≤ n) × (t.removed ≤ n)

same_totals : (n : ℕ) (t : Totals) → AreWithin n t → AreWithin (n + 1) t
same_totals n t h = let a = h.0 in let b = h.1 in let d = h.2 in (omega arith, omega arith, omega arith)

one_within : (n : ℕ) (k : Action) (t : Totals) → AreWithin n t → AreWithin (n + 1) (with_one k t)
one_within n Create t h = let a = h.0 in let b = h.1 in let d = h.2 in (omega arith, omega arith, omega arith)
one_within n Update t h = let a = h.0 in let b = h.1 in let d = h.2 in (omega arith, omega arith, omega arith)
one_within n Delete t h = let a = h.0 in let b = h.1 in let d = h.2 in (omega arith, omega arith, omega arith)
one_within n Read t h = same_totals n t h
one_within n Refresh t h = same_totals n t h

counted_within : (n : ℕ) (k : Action) (stage : TimedStage) (t : Totals) → AreWithin n t → AreWithin (n + 1) (counted k stage t)
counted_within n k Start t h = same_totals n t h
counted_within n k (Progress seconds) t h = same_totals n t h
counted_within n k (Complete seconds) t h = one_within n k t h
counted_within n k (Errored seconds) t h = same_totals n t h

begun_within : (n : ℕ) (k : Action) (stage : TimedStage) (t : Totals) → AreWithin n t → AreWithin (n + 1) (begun_counted k stage t)
begun_within n k Start t h = one_within n k t h
begun_within n k (Progress seconds) t h = same_totals n t h
begun_within n k (Complete seconds) t h = same_totals n t h
begun_within n k (Errored seconds) t h = same_totals n t h

failures_within : (n : ℕ) (k : Action) (stage : TimedStage) (f : ℕ) → f ≤ n → failures_counted k stage f ≤ n + 1
failures_within n k Start f h = omega arith
failures_within n k (Progress seconds) f h = omega arith
failures_within n k (Complete seconds) f h = omega arith
failures_within n Create (Errored seconds) f h = omega arith
failures_within n Update (Errored seconds) f h = omega arith
failures_within n Delete (Errored seconds) f h = omega arith
failures_within n Read (Errored seconds) f h = omega arith
failures_within n Refresh (Errored seconds) f h = omega arith

pub returns-clause-small : goal.returns-clause-small
returns-clause-small c =
    let n = c.args.self.lines in
    let s = c.requires.small in
    let few = c.requires.few in
    let done : AreWithin (n + 1) c.counted-new.result = subst (AreWithin (n + 1)) (sym c.counted-new.ensures) (counted_within n c.args.action c.args.stage c.args.self.completed (s.1, s.2, s.3)) in
    let begun : AreWithin (n + 1) c.begun_counted-new.result = subst (AreWithin (n + 1)) (sym c.begun_counted-new.ensures) (begun_within n c.args.action c.args.stage c.args.self.begun (s.4, s.5, s.6)) in
    let failures : c.failures_counted.result ≤ n + 1 = subst (λ (m : ℕ). m ≤ n + 1) (sym c.failures_counted.ensures) (failures_within n c.args.action c.args.stage c.args.self.failures s.11) in
    let a = s.7 in
    let b = s.8 in
    let d = s.9 in
    let e = s.10 in
    let f = s.12 in
    (omega arith, done.0, done.1, done.2, begun.0, begun.1, begun.2, omega arith, omega arith, omega arith, omega arith, failures, omega arith)
