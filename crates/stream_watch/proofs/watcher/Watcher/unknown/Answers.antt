use Rattle.std.proofs.Common.{Bool, Option, ap, sym, ◌∙◌}
use Rattle.std.specs.Prelude.{is_some, unwrap_or}
use Rattle.serde_json.specs.View.{view}
use Rattle.stream_watch.specs.State.{Told, looks_of, nothing, state_of}
use Rattle.stream_watch.specs.Telling.{drift_told_if}
use Rattle.stream_watch.proofs.RowTellings.{tells_nothing}
use Rattle.stream_watch.proofs.Tellings.{tells_as}
use Rattle.stream_watch.proofs.watcher.Watcher.unknown.Goals as goal

pub returns-then-eq : goal.returns-then-eq
returns-then-eq c =
    let before = c.args.self.now in
    let state = state_of before in
    let same = ap (λ (is_drift : Bool). drift_told_if is_drift (looks_of before) (view c.args.tree.now) state) (sym c.if-eq.true ∙ c.eq.ensures) in
    record {
      is = c.drift.ensures.is ∙ ap is_some same;
      told = tells_as before c.drift.new.self _ _ (ap (λ (told : Option Told). unwrap_or told (nothing state)) same) c.drift.ensures.told;
    }

pub returns-else-eq : goal.returns-else-eq
returns-else-eq c =
    let before = c.args.self.now in
    let state = state_of before in
    let same = ap (λ (is_drift : Bool). drift_told_if is_drift (looks_of before) (view c.args.tree.now) state) (sym c.if-eq.false ∙ c.eq.ensures) in
    record {
      is = ap is_some same;
      told = tells_as before before _ _ (ap (λ (told : Option Told). unwrap_or told (nothing state)) same) (tells_nothing before);
    }
