use Rattle.std.proofs.Common.{refl, subst, sym, ◌∙◌}
use Rattle.serde_json.specs.Data.{put}
use Rattle.apply_json.proofs.Copied.{if_ok}
use Rattle.apply_json.proofs.VerbatimValues.{as_member}
use Rattle.apply_plan.specs.Plan.Members.{HoldsElement}
use Rattle.apply_plan.proofs.Plans.Taken.{takes_change, takes_other, takes_scalar}
use Rattle.apply_plan.proofs.plan.element_slots.ElementSlotsSlots.take.Goals as goal

pub returns-then-is_text : goal.returns-then-is_text
returns-then-is_text c =
    record {
      ok = if_ok c.read.result
          (λ done. (
            done.0,
            as_member c.args.depth c.args.reader.now done.0 _ c.args.name.now done.1,
            λ start ms holds. takes_change c.args.self.now c.args.name.now done.0 ms holds _ (sym c.is_text.ensures ∙ c.if-is_text.true) done.2 refl,
          ))
          c.read.ensures.ok;
      shorter = c.read.ensures.shorter;
      err = c.read.ensures.err;
    }

pub returns-in_ok-input-in-Some : goal.returns-in_ok-input-in-Some
returns-in_ok-input-in-Some c =
    let done = c.in_ok-input-in-Some.ensures.ok in
    record {
      ok = (
        done.0,
        as_member c.args.depth c.args.reader.now done.0 _ c.args.name.now done.1,
        λ start ms holds.
            subst (λ slots. HoldsElement slots (put c.args.name.now done.0 ms)) (sym c.set.ensures) (takes_scalar c.args.self.now c.args.name.now done.0 ms holds c.in-Some.member c.in_ok-input-in-Some.input c.in-Some.ensures done.2),
      );
      shorter = c.in_ok-input-in-Some.ensures.shorter;
      err = λ never. absurd cc;
    }

pub returns-in-None : goal.returns-in-None
returns-in-None c =
    record {
      ok = if_ok c.skip_member.result
          (λ done. (
            done.0,
            as_member c.args.depth c.args.reader.now done.0 _ c.args.name.now done.1,
            λ start ms holds. takes_other c.args.self.now c.args.name.now done.0 ms holds c.in-None.ensures (sym c.is_text.ensures ∙ c.if-is_text.false),
          ))
          c.skip_member.ensures.ok;
      shorter = c.skip_member.ensures.shorter;
      err = c.skip_member.ensures.err;
    }
