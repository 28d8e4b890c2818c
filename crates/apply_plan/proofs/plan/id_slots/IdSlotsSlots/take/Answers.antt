use Rattle.std.proofs.Common.{◌≡◌, codes, true, sym, ◌∙◌}
use Rattle.std.specs.Str.{bytes_eq}
use Rattle.apply_json.specs.ShallowView.{shallow_of}
use Rattle.apply_json.proofs.Copied.{if_ok}
use Rattle.apply_json.proofs.Held.{left, taken}
use Rattle.apply_json.proofs.VerbatimValues.{as_member}
use Rattle.apply_plan.proofs.plan.id_slots.IdSlotsSlots.take.Goals as goal

pub returns-then-is_text : goal.returns-then-is_text
returns-then-is_text c =
    let here : bytes_eq c.args.name.now (codes "id") ≡ true = sym c.is_text.ensures ∙ c.if-is_text.true in
    record {
      ok = if_ok c.read_shallow_into.result (λ done. (done.0, as_member c.args.depth c.args.reader.now done.0 _ c.args.name.now done.1, λ start ms holds. record { id = taken shallow_of (codes "id") c.args.name.now done.0 ms _ here done.2 })) c.read_shallow_into.ensures.ok;
      shorter = c.read_shallow_into.ensures.shorter;
      err = c.read_shallow_into.ensures.err;
    }

pub returns-else-is_text : goal.returns-else-is_text
returns-else-is_text c =
    record {
      ok = if_ok c.skip_member.result
          (λ done. (
            done.0,
            as_member c.args.depth c.args.reader.now done.0 _ c.args.name.now done.1,
            λ start ms holds. record {
              id = left shallow_of (codes "id") c.args.name.now done.0 ms _ (sym c.is_text.ensures ∙ c.if-is_text.false) holds.id;
            },
          ))
          c.skip_member.ensures.ok;
      shorter = c.skip_member.ensures.shorter;
      err = c.skip_member.ensures.err;
    }
