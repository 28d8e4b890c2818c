use Rattle.std.proofs.Common.{◌≡◌, ◌+◌, ◌-◌, ◌<◌, ◌≤◌, [], ◌∷◌, ◌++◌, ap, arith, length, rules, take, ◌∙◌}
use Rattle.std.proofs.lemmas.Grind.{common_steps}
use Rattle.std.proofs.lemmas.List.{length-drop, length_push}
use Rattle.stream_lines.specs.Cut.{cut_lines}
use Rattle.stream_timeline.specs.Details.{stored, lines_of_detail}
use Rattle.stream_timeline.proofs.DetailLines.{first_cut, stored_lines, line_retained, line_left}
use Rattle.stream_timeline.proofs.reading.diagnostic.Detail.of.Goals as goal
use Rattle.stream_timeline.proofs.reading.diagnostic.Detail.of.Goals.{then-len-lt-DETAIL_LINES+in_ok-stored+in_ok-push, else-len-lt-DETAIL_LINES}

pub lines-preserved : goal.lines-preserved
lines-preserved c =
    let rest = c.lines.rest.now in
    let len = c.len_before_feed-len.result in
    let next = c.after_feed-rest.result.now in
    let xs = c.lines.lines.items in
    let some : 0 < length rest = grind (arith, common_steps) in
    let cut : cut_lines rest ≡ take len rest ∷ cut_lines next =
    first_cut len rest next some c.len_before_feed-len.ensures.bound c.len_before_feed-len.ensures.before c.len_before_feed-len.ensures.feed c.after_feed-rest.ensures in
    let one : length (cut_lines rest) ≡ length (cut_lines next) + 1 = ap length cut ∙ omega arith in
    let shorter : length next ≡ length rest - (len + 1) = ap length c.after_feed-rest.ensures ∙ length-drop (len + 1) rest in
    let bound : c.lines.more + length rest ≤ length c.args.detail.now = c.lines.invariant.bound in
    let more : c.lines.more + (length (cut_lines rest) - (10 - length xs)) ≡ length (lines_of_detail c.args.detail.now) - 10 = c.lines.invariant.more in
    elim c.if-len-lt-DETAIL_LINES.branch [
      | then-len-lt-DETAIL_LINES+in_ok-stored+in_ok-push w ↦
          let x = w.in_ok-stored.field-0 in
          let few : length xs < 10 = search rules in
          let pushed : w.push.new.self.items ≡ xs ++ x ∷ [] = w.in_ok-push.ensures.items in
          let longer : length w.push.new.self.items ≡ length xs + 1 = ap length pushed ∙ length_push xs x in
          rw (w.lines-is, w.more-is)
          (record {
            few = omega arith;
            bound = omega arith;
            lines = line_retained xs w.push.new.self.items x rest next (take len rest) (stored_lines 10 (lines_of_detail c.args.detail.now)) few cut
                (w.in_ok-stored.ensures ∙ ap stored w.trimmed_line.ensures) pushed c.lines.invariant.lines;
            more = omega arith;
          })
      | else-len-lt-DETAIL_LINES w ↦
          let full : 10 ≤ length xs = search rules in
          rw (w.lines-is, w.more-is)
          (record {
            few = c.lines.invariant.few;
            bound = omega arith;
            lines = line_left xs rest next (stored_lines 10 (lines_of_detail c.args.detail.now)) full c.lines.invariant.lines;
            more = omega arith;
          })
    ]
