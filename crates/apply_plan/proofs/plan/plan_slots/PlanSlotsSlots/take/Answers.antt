use Rattle.std.proofs.Common.{◌≡◌, codes, refl, subst, sym, true, ap, ◌∙◌}
use Rattle.std.specs.Str.{bytes_eq}
use Rattle.serde_json.specs.Find.{get_member}
use Rattle.apply_json.specs.ShallowView.{shallow_of}
use Rattle.apply_json.specs.Tree.{list_of}
use Rattle.apply_json.proofs.Copied.{if_ok}
use Rattle.apply_json.proofs.Held.{is_name, left, taken}
use Rattle.apply_json.proofs.VerbatimValues.{as_member}
use Rattle.apply_plan.specs.Plan.ElementsView.{HoldsElements, items_at, kind_of}
use Rattle.apply_plan.proofs.plan.plan_slots.PlanSlotsSlots.take.Goals as goal

pub returns-then-is_text : goal.returns-then-is_text
returns-then-is_text c =
    let k = c.args.name.now in
    let here : bytes_eq k (codes "format_version") ≡ true = sym c.is_text.ensures ∙ c.if-is_text.true in
    record {
      ok = if_ok c.read_shallow_into.result
          (λ done. (
            done.0,
            as_member c.args.depth c.args.reader.now done.0 _ k done.1,
            λ start ms holds. record {
              format_version = taken shallow_of (codes "format_version") k done.0 ms _ here done.2;
              terraform_version = left shallow_of (codes "terraform_version") k done.0 ms _ (ap (λ name. bytes_eq name (codes "terraform_version")) (is_name k (codes "format_version") here)) holds.terraform_version;
              resource_changes = left kind_of (codes "resource_changes") k done.0 ms _ (ap (λ name. bytes_eq name (codes "resource_changes")) (is_name k (codes "format_version") here)) holds.resource_changes;
              elements = subst (λ items. HoldsElements c.args.self.now.elements (list_of items)) (left items_at (codes "resource_changes") k done.0 ms (items_at (get_member (codes "resource_changes") ms)) (ap (λ name. bytes_eq name (codes "resource_changes")) (is_name k (codes "format_version") here)) refl) holds.elements;
            },
          ))
          c.read_shallow_into.ensures.ok;
      shorter = c.read_shallow_into.ensures.shorter;
      err = c.read_shallow_into.ensures.err;
    }

pub returns-then-is_text-2 : goal.returns-then-is_text-2
returns-then-is_text-2 c =
    let k = c.args.name.now in
    let here : bytes_eq k (codes "terraform_version") ≡ true = sym c.is_text-else-is_text.ensures ∙ c.if-is_text-2.true in
    record {
      ok = if_ok c.read_shallow_into-then-is_text-2.result
          (λ done. (
            done.0,
            as_member c.args.depth c.args.reader.now done.0 _ k done.1,
            λ start ms holds. record {
              format_version = left shallow_of (codes "format_version") k done.0 ms _ (ap (λ name. bytes_eq name (codes "format_version")) (is_name k (codes "terraform_version") here)) holds.format_version;
              terraform_version = taken shallow_of (codes "terraform_version") k done.0 ms _ here done.2;
              resource_changes = left kind_of (codes "resource_changes") k done.0 ms _ (ap (λ name. bytes_eq name (codes "resource_changes")) (is_name k (codes "terraform_version") here)) holds.resource_changes;
              elements = subst (λ items. HoldsElements c.args.self.now.elements (list_of items)) (left items_at (codes "resource_changes") k done.0 ms (items_at (get_member (codes "resource_changes") ms)) (ap (λ name. bytes_eq name (codes "resource_changes")) (is_name k (codes "terraform_version") here)) refl) holds.elements;
            },
          ))
          c.read_shallow_into-then-is_text-2.ensures.ok;
      shorter = c.read_shallow_into-then-is_text-2.ensures.shorter;
      err = c.read_shallow_into-then-is_text-2.ensures.err;
    }

pub returns-in_ok-self : goal.returns-in_ok-self
returns-in_ok-self c =
    let k = c.args.name.now in
    let done = c.in_ok-self.ensures.ok in
    let d = done.0 in
    let here : bytes_eq k (codes "resource_changes") ≡ true = sym c.is_text-else-is_text-2.ensures ∙ c.if-is_text-3.true in
    record {
      ok = (
        d,
        done.1,
        λ start ms holds. record {
          format_version = left shallow_of (codes "format_version") k d ms _ (ap (λ name. bytes_eq name (codes "format_version")) (is_name k (codes "resource_changes") here)) holds.format_version;
          terraform_version = left shallow_of (codes "terraform_version") k d ms _ (ap (λ name. bytes_eq name (codes "terraform_version")) (is_name k (codes "resource_changes") here)) holds.terraform_version;
          resource_changes = taken kind_of (codes "resource_changes") k d ms _ here done.2;
          elements = subst (λ items. HoldsElements c.read_list.new.collector (list_of items)) (taken items_at (codes "resource_changes") k d ms _ here refl) done.3;
        },
      );
      shorter = c.in_ok-self.ensures.shorter;
      err = λ never. absurd cc;
    }

pub returns-else-is_text-3 : goal.returns-else-is_text-3
returns-else-is_text-3 c =
    let k = c.args.name.now in
    record {
      ok = if_ok c.skip_member.result
          (λ done. (
            done.0,
            as_member c.args.depth c.args.reader.now done.0 _ k done.1,
            λ start ms holds. record {
              format_version = left shallow_of (codes "format_version") k done.0 ms _ (sym c.is_text.ensures ∙ c.if-is_text.false) holds.format_version;
              terraform_version = left shallow_of (codes "terraform_version") k done.0 ms _ (sym c.is_text-else-is_text.ensures ∙ c.if-is_text-2.false) holds.terraform_version;
              resource_changes = left kind_of (codes "resource_changes") k done.0 ms _ (sym c.is_text-else-is_text-2.ensures ∙ c.if-is_text-3.false) holds.resource_changes;
              elements = subst (λ items. HoldsElements c.args.self.now.elements (list_of items)) (left items_at (codes "resource_changes") k done.0 ms (items_at (get_member (codes "resource_changes") ms)) (sym c.is_text-else-is_text-2.ensures ∙ c.if-is_text-3.false) refl) holds.elements;
            },
          ))
          c.skip_member.ensures.ok;
      shorter = c.skip_member.ensures.shorter;
      err = c.skip_member.ensures.err;
    }
