use Rattle.std.proofs.Common.{ℕ, Option, ap, sym, ◌∙◌, ◌+◌, drop, length}
use Rattle.std.specs.Option.{option_map_or}
use Rattle.memchr.proofs.lemmas.ValueLemmas.{FindsNeedle-value}
use Rattle.stream_watch.specs.Changes.{because, behind_because}
use Rattle.stream_watch.proofs.rows.planned.behind_because.Goals as goal

pub returns-in-Some : goal.returns-in-Some
unfolding behind_because
returns-in-Some c =
    let reason = c.args.reason.now in
    c.split_at.ensures.back
    ∙ ap (λ (found : Option ℕ). option_map_or (λ place. drop (place + length because) reason) found reason)
    (sym c.in-Some.is ∙ FindsNeedle-value reason because _ c.find.ensures)

pub returns-in-None : goal.returns-in-None
unfolding behind_because
returns-in-None c =
    let reason = c.args.reason.now in
    ap (λ (found : Option ℕ). option_map_or (λ place. drop (place + length because) reason) found reason)
    (sym c.in-None.is ∙ FindsNeedle-value reason because _ c.find.ensures)
