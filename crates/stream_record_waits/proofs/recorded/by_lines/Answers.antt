use Rattle.std.proofs.Common.{◌∙◌, None, ap, refl, subst, sym}
use Rattle.stream_record_waits.specs.Basis.{IsSound}
use Rattle.stream_record_waits.specs.Course.{Basis, pinned_waits}
use Rattle.stream_record_waits.specs.Recorded.{AreSoundWaits}
use Rattle.stream_record_waits.specs.Steps.{lists_in}
use Rattle.stream_record_waits.proofs.Pinned.{code_basis, found_sound, put_back_sound, put_back_waits}
use Rattle.stream_record_waits.proofs.SoundWaits.{lines_sound}
use Rattle.stream_record_waits.proofs.recorded.by_lines.Goals as goal

pub pinned_waits-requires-clause-sound : goal.pinned_waits-requires-clause-sound
pinned_waits-requires-clause-sound c =
    let steps = c.args.steps.now in
    let behind = c.args.behind.now in
    let found = lists_in c.in_ok-found.found.items in
    let sound : AreSoundWaits steps found = subst (AreSoundWaits steps) (sym c.in_ok-found.ensures) (lines_sound steps behind c.requires.behind c.args.choices.guesses) in
    let is = code_basis steps None behind found (lists_in c.as_slice.result.now) c.as_slice-2.result.now (ap lists_in c.as_slice.ensures.value) (c.as_slice-2.ensures.value ∙ c.in_ok-joined.ensures) in
    subst IsSound (sym is) (found_sound steps None behind found c.requires.behind sound c.requires.few)

pub returns-clause-waits : goal.returns-clause-waits
returns-clause-waits c =
    let steps = c.args.steps.now in
    let behind = c.args.behind.now in
    let found = lists_in c.in_ok-found.found.items in
    let sound : AreSoundWaits steps found = subst (AreSoundWaits steps) (sym c.in_ok-found.ensures) (lines_sound steps behind c.requires.behind c.args.choices.guesses) in
    let is = code_basis steps None behind found (lists_in c.as_slice.result.now) c.as_slice-2.result.now (ap lists_in c.as_slice.ensures.value) (c.as_slice-2.ensures.value ∙ c.in_ok-joined.ensures) in
    put_back_waits steps None c.args.choices behind found (lists_in c.in_ok-after.after.items) (lists_in c.in_ok-early.early.items) c.requires.behind (c.in_ok-found.ensures, c.in_ok-early.ensures) sound refl
    (c.in_ok-after.ensures ∙ ap (λ (basis : Basis). pinned_waits basis c.args.choices.lanes) is)

pub returns-clause-sound : goal.returns-clause-sound
returns-clause-sound c =
    let steps = c.args.steps.now in
    let behind = c.args.behind.now in
    let found = lists_in c.in_ok-found.found.items in
    let sound : AreSoundWaits steps found = subst (AreSoundWaits steps) (sym c.in_ok-found.ensures) (lines_sound steps behind c.requires.behind c.args.choices.guesses) in
    let is = code_basis steps None behind found (lists_in c.as_slice.result.now) c.as_slice-2.result.now (ap lists_in c.as_slice.ensures.value) (c.as_slice-2.ensures.value ∙ c.in_ok-joined.ensures) in
    put_back_sound steps None c.args.choices behind found (lists_in c.in_ok-after.after.items) (lists_in c.in_ok-early.early.items) c.requires.behind (c.in_ok-found.ensures, c.in_ok-early.ensures) sound
    (c.in_ok-after.ensures ∙ ap (λ (basis : Basis). pinned_waits basis c.args.choices.lanes) is)
