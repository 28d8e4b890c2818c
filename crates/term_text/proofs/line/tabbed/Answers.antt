use Rattle.std.proofs.Common.{◌-◌, arith, drop, string_bytes, take, ap, sym, ◌∙◌}
use Rattle.term_text.specs.LineTexts.{tabbed_after}
use Rattle.term_text.proofs.LineTexts.{tabbed-end, tabbed-more, tabbed-tab}
use Rattle.std.specs.Prelude.{[], ◌++◌}
use Rattle.term_text.proofs.line.tabbed.Goals as goal
use Rattle.term_text.proofs.line.tabbed.Goals.{then-byte-eq9+in_ok-push_to_tab_stop, else-byte-eq9}

pub loop-place-preserved : goal.loop-place-preserved
loop-place-preserved c =
    let place = c.loop-place.place in
    let start = c.loop-place.start in
    let bytes = c.args.bytes.now in
    let before = string_bytes c.loop-place.text in
    let part = take (place - start) (drop start bytes) in
    let i = c.loop-place.invariant in
    elim c.if-byte-eq9.branch [
      | then-byte-eq9+in_ok-push_to_tab_stop w ↦ rw (w.text-is, w.start-is)
          (omega arith, tabbed-tab place bytes part before (string_bytes w.push_to_tab_stop.new.text) _ c.loop-place-test.true w.if-byte-eq9.true w.in_ok-push_to_tab_stop.ensures i.1)
      | else-byte-eq9 w ↦ rw (w.text-is, w.start-is)
          (omega (arith, i.0), ap (λ l. before ++ l) (sym (tabbed-more start place bytes i.0 c.loop-place-test.true w.if-byte-eq9.false)) ∙ i.1)
    ]

pub returns : goal.returns
returns c =
    tabbed-end c.loop-place.start c.loop-place.place c.args.bytes.now (string_bytes c.loop-place.text) (string_bytes c.push_controls_escaped.new.text) _
    (omega arith) c.in_ok-push_controls_escaped.ensures.ok c.loop-place.invariant.1
