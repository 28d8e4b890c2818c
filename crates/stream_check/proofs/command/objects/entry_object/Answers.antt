use Rattle.std.proofs.Common.{List, ℕ, codes, subst}
use Rattle.serde_json.specs.Data.{no_members}
use Rattle.stream_check.specs.Faults.{line_after}
use Rattle.stream_check.specs.Objects.{with_number, with_text}
use Rattle.stream_check.specs.Putting.{Puts}
use Rattle.stream_check.specs.Unended.{kind_word}
use Rattle.stream_check.proofs.Putting.{puts_all}
use Rattle.stream_check.proofs.command.objects.entry_object.Goals as goal

pub returns : goal.returns
returns c =
    let e = c.args.entry.now in
    let at = line_after c.args.lines_before e.line in
    let address = puts_all c.new-members.result c.text.new.self (with_text (codes "address") e.address.now) no_members c.new-members.ensures c.text.ensures in
    let word = subst (λ (word : List ℕ). Puts c.text.new.self c.text-2.new.self (with_text (codes "kind") word)) c.word.ensures c.text-2.ensures in
    let kind = puts_all c.text.new.self c.text-2.new.self (with_text (codes "kind") (kind_word e.kind)) (with_text (codes "address") e.address.now no_members) address word in
    let line = puts_all c.text-2.new.self c.number.new.self (with_number (codes "line") at) (with_text (codes "kind") (kind_word e.kind) (with_text (codes "address") e.address.now no_members)) kind
    (subst (λ (n : ℕ). Puts c.text-2.new.self c.number.new.self (with_number (codes "line") n)) c.line_after.ensures c.number.ensures) in
    c.object.ensures (with_number (codes "line") at (with_text (codes "kind") (kind_word e.kind) (with_text (codes "address") e.address.now no_members))) line
