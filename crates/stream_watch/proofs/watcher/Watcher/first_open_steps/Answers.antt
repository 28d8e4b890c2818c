use Rattle.std.proofs.Common.{ℕ, ℤ, List, SFits, ap, map, refl, rules, sym, take, w64, ◌∙◌}
use Rattle.std.specs.List.{flat_map}
use Rattle.std.proofs.lemmas.Int.{to_z-of_z}
use Rattle.std.proofs.lemmas.List.Folds.{flat_map-map}
use Rattle.term_words.proofs.Appended.{text_as}
use Rattle.stream_watch.specs.Ending.{without_end_line}
use Rattle.stream_watch.specs.Steps.{Step, step_view}
use Rattle.stream_watch.proofs.Tellings.{looks_same}
use Rattle.stream_watch.proofs.watcher.Watcher.first_open_steps.Goals as goal

pub returns : goal.returns
returns c =
    let before = c.args.self.now in
    let now = before.clock.now in
    let fits : SFits w64 now = search rules in
    let after = record before { printer = c.print_without_end.new.printer } in
    let printer = before.printer in
    let line : ℕ → ℤ → Step → List ℕ = λ elapsed now step. without_end_line printer.width printer.has_colour elapsed now step in
    let told = c.print_without_end.ensures in
    let named = c.first_steps.result.now in
    let steps = c.first_steps.ensures ∙ ap (λ steps. take 20 (map step_view steps)) c.as_slice.ensures.value in
    let is = ap (λ (n : ℤ). flat_map (λ step. line c.elapsed.result n (step_view step)) named) (to_z-of_z w64 now fits)
    ∙ sym (flat_map-map (line c.elapsed.result now) step_view named)
    ∙ ap (flat_map (line c.elapsed.result now)) steps
    ∙ ap (λ (elapsed : ℕ). flat_map (line elapsed now) (take 20 (map step_view before.steps.list.items))) c.elapsed.ensures in
    record {
      looks = looks_same before after _ refl told;
      find = refl;
      state = refl;
      bytes = text_as printer.printed after.printer.printed _ _ is told.printed;
    }
