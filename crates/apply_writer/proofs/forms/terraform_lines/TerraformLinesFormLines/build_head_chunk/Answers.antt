use Rattle.std.proofs.Common.{◌-◌, ◌++◌, ◌∙◌, [], ap, sym}
use Rattle.std.specs.Prelude.{slice_get, slice_index_or}
use Rattle.std.specs.Option.{option_map_or}
use Rattle.std.proofs.lemmas.Result.{on_ok_weaker}
use Rattle.apply_text_terraform.specs.Lines.{version_text}
use Rattle.apply_writer.specs.Stream.Terraform.{terraform_head_chunks, planned_at}
use Rattle.apply_writer.proofs.Streams.Pieces.{change_of_piece, piece_of_change}
use Rattle.apply_writer.proofs.forms.terraform_lines.TerraformLinesFormLines.build_head_chunk.Goals as goal

pub push_planned-requires : goal.push_planned-requires
push_planned-requires c =
    let s = c.args.self.now in
    change_of_piece s.plan.now s.extras.details.now s.start c.args.place c.if-place-eq0.false c.requires

pub returns-then-place-eq0-clause-ok : goal.returns-then-place-eq0-clause-ok
returns-then-place-eq0-clause-ok c =
    let s = c.args.self.now in
    let head_chunks = terraform_head_chunks s.plan.now s.extras.details.now s.start in
    on_ok_weaker c.push_version.result
    (λ is. is ∙ ap (λ old. old ++ version_text s.plan.now s.start) c.clear.ensures ∙ ap (λ place. slice_index_or head_chunks place []) (sym c.if-place-eq0.true))
    c.push_version.ensures.ok

pub returns-else-place-eq0-clause-ok : goal.returns-else-place-eq0-clause-ok
returns-else-place-eq0-clause-ok c =
    let s = c.args.self.now in let place = c.args.place in let details = s.extras.details.now in
    let text = option_map_or (λ change. planned_at s.start details (place - 1, change)) (slice_get s.plan.now.changes (place - 1)) [] in
    on_ok_weaker c.push_planned.result
    (λ is. is ∙ ap (λ old. old ++ text) c.clear.ensures ∙ piece_of_change s.plan.now details s.start place c.if-place-eq0.false c.requires)
    c.push_planned.ensures.ok
