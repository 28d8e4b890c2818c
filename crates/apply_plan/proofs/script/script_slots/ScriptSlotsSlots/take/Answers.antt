use Rattle.std.proofs.Common.{◌≡◌, codes, false, refl, subst, sym, true, ◌∙◌}
use Rattle.std.specs.Str.{bytes_eq}
use Rattle.json.specs.Json.{value}
use Rattle.serde_json.specs.Find.{get_member}
use Rattle.apply_json.proofs.Held.{left, taken}
use Rattle.apply_plan.specs.Script.EntriesView.{HoldsEntries, entries_in, kind_of}
use Rattle.apply_plan.proofs.Scripts.VerbatimParts.{as_that, other_member, passed_read}
use Rattle.apply_plan.proofs.script.script_slots.ScriptSlotsSlots.take.Goals as goal

pub returns-in_ok-self : goal.returns-in_ok-self
returns-in_ok-self c =
    let k = c.args.name.now in
    let done = c.in_ok-self.ensures.ok in
    let d = done.0 in
    let here : bytes_eq k (codes "changes") ≡ true = sym c.is_text.ensures ∙ c.if-is_text.true in
    record {
      ok = (
        d,
        other_member k (value c.args.depth c.args.reader.now) d _ (as_that k (codes "changes") here) done.1,
        λ start ms holds. (
          done.3.0 ∙ c.forget.ensures.plan ∙ holds.0,
          record {
            kind = taken kind_of (codes "changes") k d ms _ here done.2;
            entries = subst (λ ds. HoldsEntries c.read_list.new.collector ds) (taken entries_in (codes "changes") k d ms _ here refl) done.3.1;
          },
        ),
      );
      shorter = c.in_ok-self.ensures.shorter;
      err = λ never. absurd cc;
    }

pub returns-else-is_text : goal.returns-else-is_text
returns-else-is_text c =
    let k = c.args.name.now in
    let other : bytes_eq k (codes "changes") ≡ false = sym c.is_text.ensures ∙ c.if-is_text.false in
    record {
      ok = passed_read c.skip_member.result k (value c.args.depth c.args.reader.now) c.skip_member.new.reader
          (λ d start ms holds. (
            holds.0,
            record {
              kind = left kind_of (codes "changes") k d ms _ other holds.1.kind;
              entries = subst (λ ds. HoldsEntries c.args.self.now.entries ds) (left entries_in (codes "changes") k d ms (entries_in (get_member (codes "changes") ms)) other refl) holds.1.entries;
            },
          ))
          c.skip_member.ensures.ok;
      shorter = c.skip_member.ensures.shorter;
      err = c.skip_member.ensures.err;
    }
