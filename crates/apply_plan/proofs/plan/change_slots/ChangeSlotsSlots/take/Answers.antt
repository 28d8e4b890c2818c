use Rattle.std.proofs.Common.{◌≡◌, codes, true, sym, ◌∙◌}
use Rattle.std.specs.Str.{bytes_eq}
use Rattle.apply_json.proofs.Copied.{if_ok}
use Rattle.apply_json.proofs.Held.{left}
use Rattle.apply_json.proofs.VerbatimValues.{as_member}
use Rattle.apply_plan.specs.Plan.Members.{actions_member, id_member, sensitive_member}
use Rattle.apply_plan.proofs.Plans.Taken.{change_behind}
use Rattle.apply_plan.proofs.plan.change_slots.ChangeSlotsSlots.take.Goals as goal

pub returns-then-is_text : goal.returns-then-is_text
returns-then-is_text c =
    let here : bytes_eq c.args.name.now (codes "actions") ≡ true = sym c.is_text.ensures ∙ c.if-is_text.true in
    record {
      ok = if_ok c.read_actions.result (λ done. (done.0, as_member c.args.depth c.args.reader.now done.0 _ c.args.name.now done.1, λ start ms holds. change_behind c.args.name.now (codes "actions") done.0 ms here _ done.2 holds.id holds.hides_id)) c.read_actions.ensures.ok;
      shorter = c.read_actions.ensures.shorter;
      err = c.read_actions.ensures.err;
    }

pub returns-then-is_text-2 : goal.returns-then-is_text-2
returns-then-is_text-2 c =
    let here : bytes_eq c.args.name.now (codes "before") ≡ true = sym c.is_text-else-is_text.ensures ∙ c.if-is_text-2.true in
    record {
      ok = if_ok c.read_id.result (λ done. (done.0, as_member c.args.depth c.args.reader.now done.0 _ c.args.name.now done.1, λ start ms holds. change_behind c.args.name.now (codes "before") done.0 ms here _ holds.actions done.2 holds.hides_id)) c.read_id.ensures.ok;
      shorter = c.read_id.ensures.shorter;
      err = c.read_id.ensures.err;
    }

pub returns-then-is_text-3 : goal.returns-then-is_text-3
returns-then-is_text-3 c =
    let here : bytes_eq c.args.name.now (codes "before_sensitive") ≡ true = sym c.is_text-else-is_text-2.ensures ∙ c.if-is_text-3.true in
    record {
      ok = if_ok c.read_hides_id.result (λ done. (done.0, as_member c.args.depth c.args.reader.now done.0 _ c.args.name.now done.1, λ start ms holds. change_behind c.args.name.now (codes "before_sensitive") done.0 ms here _ holds.actions holds.id done.2)) c.read_hides_id.ensures.ok;
      shorter = c.read_hides_id.ensures.shorter;
      err = c.read_hides_id.ensures.err;
    }

pub returns-else-is_text-3 : goal.returns-else-is_text-3
returns-else-is_text-3 c =
    record {
      ok = if_ok c.skip_member.result
          (λ done. (
            done.0,
            as_member c.args.depth c.args.reader.now done.0 _ c.args.name.now done.1,
            λ start ms holds. record {
              actions = left actions_member (codes "actions") c.args.name.now done.0 ms _ (sym c.is_text.ensures ∙ c.if-is_text.false) holds.actions;
              id = left id_member (codes "before") c.args.name.now done.0 ms _ (sym c.is_text-else-is_text.ensures ∙ c.if-is_text-2.false) holds.id;
              hides_id = left sensitive_member (codes "before_sensitive") c.args.name.now done.0 ms _ (sym c.is_text-else-is_text-2.ensures ∙ c.if-is_text-3.false) holds.hides_id;
            },
          ))
          c.skip_member.ensures.ok;
      shorter = c.skip_member.ensures.shorter;
      err = c.skip_member.ensures.err;
    }
