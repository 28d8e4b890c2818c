use Rattle.std.proofs.Common.{refl, sym}
use Rattle.apply_json.proofs.Copied.{if_ok}
use Rattle.apply_json.proofs.VerbatimValues.{as_item}
use Rattle.apply_plan.proofs.Plans.Elements.{holds_full, holds_more, holds_past, holds_refused}
use Rattle.apply_plan.proofs.plan.elements.ElementsCollector.take.Goals as goal

pub returns-then-self-ge-MAX_CHANGES : goal.returns-then-self-ge-MAX_CHANGES
returns-then-self-ge-MAX_CHANGES c =
    record {
      ok = if_ok c.skip_member.result
          (λ done. (done.0, as_item c.args.depth c.args.reader.now done.0 _ done.1, λ start ds holds. holds_full c.args.self.now _ ds done.0 holds c.if-self-ge-MAX_CHANGES.true refl))
          c.skip_member.ensures.ok;
      shorter = c.skip_member.ensures.shorter;
      err = c.skip_member.ensures.err;
    }

pub returns-then-is_some : goal.returns-then-is_some
returns-then-is_some c =
    record {
      ok = if_ok c.skip_member-then-is_some.result
          (λ done. (done.0, as_item c.args.depth c.args.reader.now done.0 _ done.1, λ start ds holds. holds_past c.args.self.now _ ds done.0 (sym c.if-is_some.ensures) holds c.if-self-ge-MAX_CHANGES.false refl))
          c.skip_member-then-is_some.ensures.ok;
      shorter = c.skip_member-then-is_some.ensures.shorter;
      err = c.skip_member-then-is_some.ensures.err;
    }

pub returns-in_ok-push-in-Ok : goal.returns-in_ok-push-in-Ok
returns-in_ok-push-in-Ok c =
    let done = c.in_ok-planned.ensures.ok in
    let made = c.args.self.now.changes.items in
    record {
      ok = (
        done.0,
        as_item c.args.depth c.args.reader.now done.0 _ done.1,
        λ start ds holds.
            holds_more c.args.self.now _ ds done.0 c.in-Ok.change holds c.if-self-ge-MAX_CHANGES.false (sym c.if-is_some.ensures) (λ count seen. c.in-Ok.ensures.defined done.0 made done.2 count seen) (λ seen. c.in-Ok.ensures.seen made seen) c.in_ok-push-in-Ok.ensures.items refl refl,
      );
      shorter = c.in_ok-planned.ensures.shorter;
      err = λ never. absurd cc;
    }

pub returns-in-Err : goal.returns-in-Err
returns-in-Err c =
    let done = c.in_ok-planned.ensures.ok in
    let made = c.args.self.now.changes.items in
    record {
      ok = (
        done.0,
        as_item c.args.depth c.args.reader.now done.0 _ done.1,
        λ start ds holds.
            holds_refused c.args.self.now _ ds done.0 c.in-Err.fault holds c.if-self-ge-MAX_CHANGES.false (sym c.if-is_some.ensures) (λ count seen known. c.in-Err.ensures.defined done.0 made done.2 count seen known) refl refl refl,
      );
      shorter = c.in_ok-planned.ensures.shorter;
      err = λ never. absurd cc;
    }
