use Rattle.std.proofs.Common.{◌≡◌, length, refl, sym, ◌∙◌, arith}
use Rattle.json.specs.Json.{value}
use Rattle.apply_json.proofs.Copied.{if_ok}
use Rattle.apply_plan.proofs.Scripts.VerbatimParts.{passed_item}
use Rattle.apply_plan.proofs.Scripts.Read.{holds_more, holds_past, holds_refused, long}
use Rattle.apply_plan.proofs.Scripts.WholeList.{few_entries}
use Rattle.apply_plan.proofs.script.entries.EntriesCollector.take.Goals as goal

pub returns-then-is_some : goal.returns-then-is_some
returns-then-is_some c =
    record {
      ok = if_ok c.skip_member.result
          (λ done.
          let there = passed_item (value c.args.depth c.args.reader.now) done.0 _ done.1 in
          (there.0, there.1, λ start ds holds. (holds.0, holds_past c.args.self.now ds there.0 (sym c.if-is_some.ensures) holds.1)))
          c.skip_member.ensures.ok;
      shorter = c.skip_member.ensures.shorter;
      err = c.skip_member.ensures.err;
    }

pub overflow_cast-number : goal.overflow_cast-number
overflow_cast-number c =
    let self = c.args.self.now in
    let holds = c.requires.2.1 in
    let few = few_entries self.plan.now.changes self.outcomes.items self.waits (length self.step_counts.items) holds.made holds.outcomes in
    omega (arith, few, holds.few_changes, c.len-number.ensures)

pub resolve_entry-outcomes-requires-clause-outcomes : goal.resolve_entry-outcomes-requires-clause-outcomes
resolve_entry-outcomes-requires-clause-outcomes c = rw c.deref.ensures.value (long c.args.self.now c.requires.1 c.requires.2.1)

pub returns-in_ok-store-in-Ok : goal.returns-in_ok-store-in-Ok
returns-in_ok-store-in-Ok c =
    let done = c.in_ok-entry.ensures.ok in
    let keeps = c.in_ok-store-in-Ok.ensures in
    let number : c.len-number.result ≡ length c.args.self.now.step_counts.items = omega (arith, c.len-number.ensures, c.args.self.now.step_counts.ok.0) in
    let outcomes = rw (c.deref.ensures.value, number) at c.in-Ok.ensures.defined done.0 done.2 in
    let below = rw c.deref.ensures.value at c.in-Ok.ensures.within in
    let placed = rw c.deref.ensures.value at c.in-Ok.ensures.placed in
    record {
      ok = (
        done.0,
        done.1,
        λ start ds holds.
            (keeps.plan ∙ holds.0, holds_more c.args.self.now c.store.new.self ds done.0 c.in-Ok.change c.in-Ok.steps c.in-Ok.waits holds.1 (sym c.if-is_some.ensures) outcomes below placed c.in-Ok.ensures.few keeps),
      );
      shorter = c.in_ok-entry.ensures.shorter;
      err = λ never. absurd cc;
    }

pub returns-in-Err : goal.returns-in-Err
returns-in-Err c =
    let done = c.in_ok-entry.ensures.ok in
    let number : c.len-number.result ≡ length c.args.self.now.step_counts.items = omega (arith, c.len-number.ensures, c.args.self.now.step_counts.ok.0) in
    record {
      ok = (
        done.0,
        done.1,
        λ start ds holds. (
          holds.0,
          holds_refused c.args.self.now _ ds done.0 c.in-Err.fault holds.1 (sym c.if-is_some.ensures)
              (λ known. rw (c.deref.ensures.value, number) at c.in-Err.ensures.defined done.0 done.2 known) refl,
        ),
      );
      shorter = c.in_ok-entry.ensures.shorter;
      err = λ never. absurd cc;
    }
