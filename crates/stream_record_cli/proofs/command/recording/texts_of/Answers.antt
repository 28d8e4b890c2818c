use Rattle.std.proofs.Common.{◌≡◌, ◌∙◌, Bor, Err, List, Ok, Option, Global, Result, Some, Vec, ap, length, subst, sym, ℕ}
use Rattle.std.specs.Prelude.{IfErr}
use Rattle.std.specs.Option.{option_copied}
use Rattle.input_graph.specs.AllWaits.{lists_in}
use Rattle.stream_record_steps.specs.Steps.{planned_steps}
use Rattle.stream_record_waits.specs.Graph.{AreWaitsOf}
use Rattle.stream_record_cli.specs.Graphs.{AreGraphWaits, AreWaitsIn}
use Rattle.stream_record_cli.specs.declared.refusal.Refusal.{Refusal}
use Rattle.stream_record_cli.specs.declared.record_fault.RecordFault.{RecordFault}
use Rattle.stream_record_cli.proofs.GraphWaits.{waits_are_of}
use Rattle.stream_record_cli.proofs.Streams.{refused}
use Rattle.stream_record_cli.proofs.command.recording.texts_of.Goals as goal

inside : (a b : List (List ℕ)) → Some a ≡ Some b → a ≡ b
inside a b same = cc

-- what two facts say of a cause
both : {T : Type 0} (made : Result T Refusal) (P Q R : RecordFault → Type 0) → ((why : RecordFault) → P why → Q why → R why)
    → IfErr made (λ refusal. P refusal.fault) → IfErr made (λ refusal. Q refusal.fault) → IfErr made (λ refusal. R refusal.fault)
both (Ok texts) P Q R follows is also = tt
both (Err refusal) P Q R follows is also = follows refusal.fault is also

pub texts_with-requires-clause-waits : goal.texts_with-requires-clause-waits
texts_with-requires-clause-waits g c = λ lists is.
    let same : lists_in c.in_ok-waits-in-Some.waits.items ≡ lists =
    ap lists_in (sym c.deref.ensures.value) ∙ inside (lists_in c.deref.result.now) lists is in
    subst (AreWaitsOf (length (planned_steps c.in-Ok.read.changes))) same
    (waits_are_of c.in-Ok.read.changes c.in-Some.graph.now (lists_in c.in_ok-waits-in-Some.waits.items) c.in_ok-waits-in-Some.ensures.ok)

pub returns-in-Some-clause-err : goal.returns-in-Some-clause-err
returns-in-Some-clause-err g c =
    let lists = lists_in c.deref.result.now in
    let stated : AreGraphWaits c.in-Ok.read.changes c.in-Some.graph.now lists =
    subst (λ (waits : List (Vec ℕ Global)). AreGraphWaits c.in-Ok.read.changes c.in-Some.graph.now (lists_in waits)) (sym c.deref.ensures.value) c.in_ok-waits-in-Some.ensures.ok in
    let given = subst (λ (graph : Option (Bor (List ℕ))). AreWaitsIn c.in-Ok.read.changes (option_copied graph) (Some lists)) (sym c.in-Some.is) stated in
    both c.texts_with.result _ _ _ (refused c.args.plan.now (option_copied c.args.graph) c.args.choice c.in-Ok.read (Some lists) c.in-Ok.ensures.ok given (g.R.Read.remaining c.args.reader.now))
    c.texts_with.ensures.causes c.texts_with.ensures.err
