use Rattle.std.proofs.Common.{◌≡◌, ◌∙◌, ◌-◌, ◌<◌, [], ap, arith, false, get_or, length, map, rules, string_bytes, string_len, sym, true}
use Rattle.std.specs.Prelude.{◌==◌}
use Rattle.std.proofs.lemmas.List.{get_or-map, length-map, take-map}
use Rattle.std.proofs.lemmas.List.Sums.{suffix_len-take_yes}
use Rattle.term_text.specs.LineTexts.{is_empty_line}
use Rattle.term_text.proofs.LineTexts.{empty_end-at}
use Rattle.term_text.proofs.splitting.drop_empty_end.Goals as goal
use Rattle.term_text.proofs.splitting.drop_empty_end.Goals.{then-back-test+else-is_empty, else-back-test}

pub back-preserved : goal.back-preserved
back-preserved c =
    let len = c.back.len in
    let items = c.args.lines.now.items in
    let lines = map string_bytes items in
    let i = c.back.invariant in
    let some = c.back-test.true in
    let within = length-map items string_bytes in
    let at : get_or lines (len - 1) [] ≡ string_bytes c.index.result.now =
    get_or-map string_bytes items (len - 1) c.index.result.now [] (omega (arith, some, i.0)) ∙ ap string_bytes (sym c.index.ensures) in
    let empty : is_empty_line (get_or lines (len - 1) []) ≡ true =
    let size : string_len c.index.result.now ≡ length (string_bytes c.index.result.now) = search rules in
    ap is_empty_line at ∙ ap (λ n. n == 0) (sym size) ∙ sym c.is_empty.ensures ∙ c.if-is_empty.true in
    let step = suffix_len-take_yes is_empty_line lines len [] some (omega (arith, within, i.0)) empty in
    (omega (arith, i.0), omega (arith, i.1, step, some))

pub returns : goal.returns
returns c =
    let len = c.back.len in
    let items = c.args.lines.now.items in
    let lines = map string_bytes items in
    let i = c.back.invariant in
    let within = length-map items string_bytes in
    let last : 0 < len → is_empty_line (get_or lines (len - 1) []) ≡ false = λ some. elim c.back-test.branch [
      | then-back-test+else-is_empty w ↦
          (let at : get_or lines (len - 1) [] ≡ string_bytes w.index.result.now =
          get_or-map string_bytes items (len - 1) w.index.result.now [] (omega (arith, some, i.0)) ∙ ap string_bytes (sym w.index.ensures) in
          let size : string_len w.index.result.now ≡ length (string_bytes w.index.result.now) = search rules in
          ap is_empty_line at ∙ ap (λ n. n == 0) (sym size) ∙ sym w.is_empty.ensures ∙ w.if-is_empty.false)
      | else-back-test w ↦ (let none = w.back-test.false in absurd (omega (arith, none, some)))
    ] in
    ap (map string_bytes) c.truncate.ensures.items ∙ sym (take-map string_bytes len items)
    ∙ empty_end-at len lines (omega (arith, within, i.0)) (omega (arith, within, i.1)) last
