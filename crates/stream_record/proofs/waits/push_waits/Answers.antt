use Rattle.std.proofs.Common.{◌≡◌, ◌+◌, Bool, true, Some, None, ap, arith, drop, subst, sym}
use Rattle.std.specs.Prelude.{codes, filter_map, option_map}
use Rattle.std.proofs.lemmas.List.{drop_all}
use Rattle.term_words.specs.declared.message_text.MessageText.{MessageText}
use Rattle.stream_record.specs.Parts.{list_text}
use Rattle.stream_record.specs.ScriptText.{wait_text, waited_text, waits_text}
use Rattle.stream_record.proofs.Items.{drop_item, filter_map-less, filter_map-more, item_pushed, items_ended}
use Rattle.stream_record.proofs.Remains.{Remains, remains_as}
use Rattle.stream_record.proofs.waits.push_waits.Goals as goal
use Rattle.stream_record.proofs.waits.push_waits.Goals.{in-Some, in_default}

pub loop-number-preserved : goal.loop-number-preserved
loop-number-preserved c =
    let changes = c.args.plan.now.changes in
    let waits = c.args.waits.now in
    let i = c.loop-number.number in
    let wait = c.get-wait.result in
    let whole = waits_text changes waits in
    let begin = c.args.text.now in
    let next = drop_item waits i wait c.get-wait.ensures in
    let rest = λ (later : Bool). list_text (codes ",\"after\":[") (codes "]") later (filter_map (wait_text changes) (drop (i + 1) waits)) in
    elim c.match-waited_change.branch [
      | in-Some w ↦
          let text = waited_text wait.step w.in-Some.change.now in
          let is : wait_text changes wait ≡ Some text = ap (option_map (waited_text wait.step)) (sym w.in-Some.ensures) in
          let more = item_pushed (codes ",\"after\":[") (codes "]") c.loop-number.later text _ _ whole begin c.loop-number.text
          w.push_opening.new.text w.push_wait.new.text (filter_map-more (wait_text changes) waits i wait next text is)
          c.loop-number.invariant w.push_opening.ensures w.push_wait.ensures in
          subst (λ (later : Bool). Remains (rest later) whole begin c.match-waited_change.text) (sym w.later-is)
          (subst (λ (text : MessageText). Remains (rest true) whole begin text) (sym w.text-is) more)
      | in_default w ↦
          let none : wait_text changes wait ≡ None = ap (option_map (waited_text wait.step)) (sym w.in_default.ensures) in
          let same = remains_as _ (rest c.loop-number.later) whole begin c.loop-number.text
          (sym (ap (list_text (codes ",\"after\":[") (codes "]") c.loop-number.later) (filter_map-less (wait_text changes) waits i wait next none)))
          c.loop-number.invariant in
          subst (λ (later : Bool). Remains (rest later) whole begin c.match-waited_change.text) (sym w.later-is)
          (subst (λ (text : MessageText). Remains (rest c.loop-number.later) whole begin text) (sym w.text-is) same)
    ]

pub returns : goal.returns
returns c =
    items_ended (codes ",\"after\":[") (codes "]") c.loop-number.later _ (waits_text c.args.plan.now.changes c.args.waits.now) c.args.text.now
    c.loop-number.text c.push_closing.new.text
    (ap (filter_map (wait_text c.args.plan.now.changes)) (drop_all c.loop-number.number c.args.waits.now (omega (arith, c.len-number-end.ensures.len, c.loop-number-test.false))))
    c.loop-number.invariant c.push_closing.ensures
