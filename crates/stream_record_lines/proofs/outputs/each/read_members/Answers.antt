use Rattle.std.proofs.Common.{◌≡◌, ◌-◌, length, Some, sym, ap, ◌∙◌, arith, rules, string_bytes}
use Rattle.json.specs.Json.{members, value}
use Rattle.json.proofs.Grammar.{read_key-shorter}
use Rattle.serde_json.specs.Read.{converted}
use Rattle.apply_json.proofs.Turns.{key_named}
use Rattle.stream_record_lines.specs.Outputs.{output_named, outputs_in, put_output}
use Rattle.stream_record_lines.specs.OutputSlots.{entries_view, statement_view}
use Rattle.stream_record_lines.proofs.OutputLists.{entries_view-insert_entry}
use Rattle.stream_record_lines.proofs.OutputTurns.{key_refused, output_read, output_refused, outputs_over}
use Rattle.stream_record_lines.proofs.outputs.each.read_members.Goals as goal

pub members-init : goal.members-init
members-init c =
    let all = members (value c.args.depth) (length c.args.reader.now) c.args.reader.now in
    (length c.args.reader.now, omega arith, ap (λ es. converted (λ ms. outputs_in ms (entries_view es)) all) (sym c.new-found.ensures.empty))

pub returns-in_err-name-clause-err : goal.returns-in_err-name-clause-err
returns-in_err-name-clause-err c refused =
    let l = c.members in
    l.invariant.2 ∙ key_refused (value c.args.depth) (entries_view l.found.entries) l.invariant.0 l.reader c.in_err-name.ensures.value

pub returns-in_err-statement-clause-err : goal.returns-in_err-statement-clause-err
returns-in_err-statement-clause-err c refused =
    let l = c.members in
    let s = c.next_key.new.self in
    let named = key_named l.reader s c.in_ok-name.field-0 c.in-Some.name c.in_ok-name.ensures.value c.in-Some.is in
    l.invariant.2 ∙ output_refused (value c.args.depth) (entries_view l.found.entries) l.invariant.0 c.in-Some.name.now l.reader s named (c.read_statement.ensures.err (grind arith))

pub members-preserved : goal.members-preserved
members-preserved c =
    let p = value c.args.depth in
    let l = c.members in
    let n = l.invariant.0 in
    let old = entries_view l.found.entries in
    let k = c.in-Some.name.now in
    let s = c.next_key.new.self in
    let named = key_named l.reader s c.in_ok-name.field-0 c.in-Some.name c.in_ok-name.ensures.value c.in-Some.is in
    let done = c.in_ok-statement.ensures in
    let d = done.ok.0 in
    let r = c.read_statement.new.reader in
    let less = read_key-shorter l.reader (Some k) s named in
    let lesser = done.shorter in
    let key = c.in_ok-key.key in
    let copied : string_bytes key ≡ k = search rules in
    let grown : entries_view c.insert.new.self.entries ≡ put_output (output_named k d) old =
    ap entries_view c.in_ok-insert.ensures.entries ∙ entries_view-insert_entry l.found.entries key c.in_ok-statement.statement
    ∙ ap (λ name. put_output (statement_view name c.in_ok-statement.statement) old) copied ∙ ap (λ output. put_output output old) (done.ok.2 k) in (
      n - 1,
      omega (arith, l.invariant.1),
      l.invariant.2 ∙ output_read p old n k l.reader s r d (omega (arith, l.invariant.1)) named done.ok.1
          ∙ ap (λ found. converted (λ ms. outputs_in ms found) (members p (n - 1) r)) (sym grown),
    )

pub returns-clause-ok : goal.returns-clause-ok
returns-clause-ok c =
    let l = c.members in
    l.invariant.2 ∙ outputs_over (value c.args.depth) (entries_view l.found.entries) l.invariant.0 l.reader c.next_key.new.self l.invariant.1 (grind arith)
