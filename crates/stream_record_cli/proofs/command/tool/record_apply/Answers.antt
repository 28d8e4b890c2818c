use Rattle.std.proofs.Common.{◌≡◌, ◌∙◌, List, None, Option, Some, ap, refl, subst, sym, ℕ}
use Rattle.std.specs.Prelude.{option_map, string_bytes}
use Rattle.std.specs.Io.Buffered.{reader_remaining}
use Rattle.std.specs.Option.{option_copied}
use Rattle.stream_record_cli.specs.Inputs.{IsStreamOf}
use Rattle.stream_record_cli.proofs.Tools.{fresh, of_came}
use Rattle.stream_record_cli.proofs.command.tool.record_apply.Goals as goal

pub returns-in_default-clause-gives : goal.returns-in_default-clause-gives
returns-in_default-clause-gives g c =
    let left = reader_remaining g.R.Read.remaining c.args.reader.now in
    let none : option_map string_bytes c.args.settings.now.file ≡ None = sym c.file_name.ensures ∙ ap option_copied c.in_default.is in
    of_came g.F.File.Read.remaining c.args.settings.now c.args.inputs.now left left _ _ _ _ c.choice.result c.deref.result.now (option_copied c.graph_bytes.result)
    c.choice.ensures c.deref.ensures.value c.graph_bytes.ensures
    (subst (λ (name : Option (List ℕ)). IsStreamOf g.F.File.Read.remaining left name left) (sym none) refl)
    c.record_stream.ensures.came

pub returns-in-Ok-with_capacity-clause-gives : goal.returns-in-Ok-with_capacity-clause-gives
returns-in-Ok-with_capacity-clause-gives g c =
    let left = reader_remaining g.R.Read.remaining c.args.reader.now in
    let stream = reader_remaining g.F.File.Read.remaining c.in-Ok-with_capacity.reader in
    let named : option_map string_bytes c.args.settings.now.file ≡ Some c.in-Some.name.now = sym c.file_name.ensures ∙ ap option_copied c.in-Some.is in
    let given : stream ≡ g.F.File.Read.remaining c.in-Ok.file =
    fresh g.F.File.Read.remaining c.in-Ok-with_capacity.reader c.in-Ok.file c.in-Ok-with_capacity.ensures.capacity c.in-Ok-with_capacity.ensures.empty c.in-Ok-with_capacity.ensures.inner in
    of_came g.F.File.Read.remaining c.args.settings.now c.args.inputs.now left stream _ _ _ _ c.choice-in-Ok.result c.deref-in-Ok.result.now (option_copied c.graph_bytes-in-Ok.result)
    c.choice-in-Ok.ensures c.deref-in-Ok.ensures.value c.graph_bytes-in-Ok.ensures
    (subst (λ (name : Option (List ℕ)). IsStreamOf g.F.File.Read.remaining left name stream) (sym named) (c.in-Ok.file, given))
    c.record_stream-report.ensures.came
