use Rattle.std.proofs.Common.{◌≡◌, ◌+◌, ◌<◌, ◌≤◌, ℕ, List, [], ◌∷◌, ◌++◌, length, get_or, map, take, ap, sym, ◌∙◌, arith}
use Rattle.std.proofs.Math.Seq.{take-length}
use Rattle.std.proofs.lemmas.List.{map-append, take_more}
use Rattle.serde_json.specs.Data.{Data, array}
use Rattle.serde_json.specs.View.{items_of, view}
use Rattle.serde_json.specs.declared.value.Value.{Value}
use Rattle.serde_json.proofs.Views.{view-Array}
use Rattle.stream_check.specs.declared.rules.open_entry.OpenEntry.{OpenEntry}
use Rattle.stream_check.specs.ReportObject.{entry_object}
use Rattle.stream_check.proofs.command.objects.entries_array.Goals as goal

with_one : (lines_before : ℕ) (vs : List Value) (v : Value) (es : List OpenEntry) (i : ℕ) (d : OpenEntry) → i < length es → map view vs ≡ map (entry_object lines_before) (take i es) → view v ≡ entry_object lines_before (get_or es i d)
    → map view (vs ++ v ∷ []) ≡ map (entry_object lines_before) (take (i + 1) es)
with_one lines_before vs v es i d below so_far is =
    map-append view vs (v ∷ []) ∙ ap (λ (ds : List Data). ds ++ view v ∷ []) so_far ∙ ap (λ (x : Data). map (entry_object lines_before) (take i es) ++ x ∷ []) is
    ∙ sym (map-append (entry_object lines_before) (take i es) (get_or es i d ∷ [])) ∙ ap (map (entry_object lines_before)) (sym (take_more es i d below))

pub loop-entry-preserved : goal.loop-entry-preserved
loop-entry-preserved c =
    ap (map view) c.in_ok-push.ensures.items
    ∙ with_one c.args.lines_before c.loop-entry.values.items c.in_ok-entry_object.field-0 c.args.entries.now c.loop-entry.entry-index _ c.loop-entry-test.true c.loop-entry.invariant c.in_ok-entry_object.ensures

all_of : (es : List OpenEntry) (i : ℕ) → i ≤ length es → length es ≤ i → take i es ≡ es
all_of es i few many = ap (λ (n : ℕ). take n es) (let e : i ≡ length es = omega arith in e) ∙ take-length es

pub returns : goal.returns
returns c =
    let all : map view c.loop-entry.values.items ≡ map (entry_object c.args.lines_before) c.args.entries.now =
    c.loop-entry.invariant ∙ ap (map (entry_object c.args.lines_before)) (all_of c.args.entries.now c.loop-entry.entry-index c.loop-entry.auto.entry-index-end c.loop-entry-test.false) in
    view-Array c.loop-entry.values ∙ ap (λ (ds : List Data). array (items_of ds)) all
