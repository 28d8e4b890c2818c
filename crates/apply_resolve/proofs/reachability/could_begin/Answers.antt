use Rattle.std.proofs.Common.{◌≡◌, ◌++◌, ◌∷◌, [], List, false, ap, sym, ◌∙◌, arith, ⊎_elim, inl, inr}
use Rattle.std.proofs.lemmas.List.{nil_from_length}
use Rattle.apply_resolve.specs.declared.reachability.Visit.{Visit}
use Rattle.apply_resolve.specs.VisitStates.{is_known, state_of}
use Rattle.apply_resolve.proofs.Left.{less_to_begin, less_to_pass, less_to_see}
use Rattle.apply_resolve.proofs.Searching.{already, already_unreachable, begins_now, begins_then, below, goes_on, never, next_below, passes, settled_then, settled_with_unreachable, starts}
use Rattle.apply_resolve.proofs.reachability.could_begin.Goals as goal

pub returns-in-Begins-clause-answer : goal.returns-in-Begins-clause-answer
returns-in-Begins-clause-answer c = already c.args.script.now c.args.step c.requires.step c.args.states.now c.requires.settled (sym c.get.ensures ∙ c.in-Begins.is)

pub returns-in-Unreachable-clause-answer : goal.returns-in-Unreachable-clause-answer
returns-in-Unreachable-clause-answer c = already_unreachable c.args.script.now c.args.step c.requires.step c.args.states.now c.requires.settled (sym c.get.ensures ∙ c.in-Unreachable.is)

pub loop-visit-init : goal.loop-visit-init
loop-visit-init c =
    let new : is_known (state_of c.args.states.now c.args.step) ≡ false =
    ap is_known (sym c.get.ensures) ∙ ⊎_elim (λ unseen. ap is_known unseen) (λ on_path. ap is_known on_path) c.in-Unseen.is in
    rw c.set.ensures
    (starts c.args.script.now c.args.step c.requires.step c.args.states.now c.push.new.self.items c.requires.settled new (rw c.new-path.ensures.items at c.in_ok-push.ensures.items))

pub set-requires-in_default-wait_at : goal.set-requires-in_default-wait_at
set-requires-in_default-wait_at c = below c.args.script.now c.args.step c.loop-visit.states c.loop-visit.path.items c.pop.new.self.items c.in-Some.visit c.loop-visit.invariant c.in-Some.ensures.items c.requires.step

pub loop-visit-smaller-in_default-wait_at : goal.loop-visit-smaller-in_default-wait_at
loop-visit-smaller-in_default-wait_at c =
    rw c.set-in_default-wait_at.ensures
    (less_to_begin c.loop-visit.states c.loop-visit.path.items c.pop.new.self.items c.in-Some.visit c.in-Some.ensures.items
    (below c.args.script.now c.args.step c.loop-visit.states c.loop-visit.path.items c.pop.new.self.items c.in-Some.visit c.loop-visit.invariant c.in-Some.ensures.items c.requires.step))

pub loop-visit-preserved-in_default-wait_at : goal.loop-visit-preserved-in_default-wait_at
loop-visit-preserved-in_default-wait_at c =
    rw c.set-in_default-wait_at.ensures
    (begins_now c.args.script.now c.args.step c.loop-visit.states c.loop-visit.path.items c.pop.new.self.items c.in-Some.visit c.loop-visit.invariant c.in-Some.ensures.items c.requires.step (sym c.in_default-wait_at.ensures.answer))

pub get-requires-in-Some : goal.get-requires-in-Some
get-requires-in-Some c =
    next_below c.args.script.now c.args.step c.loop-visit.states c.loop-visit.path.items c.pop.new.self.items c.in-Some.visit c.loop-visit.invariant c.in-Some.ensures.items c.requires.step
    c.in-Some-wait_at.next (sym c.in-Some-wait_at.ensures.answer) c.requires.placed

pub returns-in-OnPath-clause-answer : goal.returns-in-OnPath-clause-answer
returns-in-OnPath-clause-answer c =
    never c.args.script.now c.args.step c.loop-visit.states c.loop-visit.path.items c.pop.new.self.items c.in-Some.visit c.loop-visit.invariant c.in-Some.ensures.items c.requires.step
    c.in-Some-wait_at.next (sym c.in-Some-wait_at.ensures.answer) c.requires.placed
    (⊎_elim (λ on. inl (sym on ∙ c.get-in-Some.ensures)) (λ unreachable. inr (sym unreachable ∙ c.get-in-Some.ensures)) c.in-OnPath.is)

pub returns-in-OnPath-clause-settled : goal.returns-in-OnPath-clause-settled
returns-in-OnPath-clause-settled c =
    rw (c.set_unreachable.ensures, c.deref.ensures.value, c.set-in-OnPath.ensures)
    (settled_with_unreachable c.args.script.now c.args.step c.loop-visit.states c.loop-visit.path.items c.pop.new.self.items c.in-Some.visit c.loop-visit.invariant c.in-Some.ensures.items c.requires.step
    c.in-Some-wait_at.next (sym c.in-Some-wait_at.ensures.answer) c.requires.placed
    (⊎_elim (λ on. inl (sym on ∙ c.get-in-Some.ensures)) (λ unreachable. inr (sym unreachable ∙ c.get-in-Some.ensures)) c.in-OnPath.is))

pub overflow_add-visit : goal.overflow_add-visit
overflow_add-visit c = let few = c.in-Some-wait_at.ensures.few in omega arith

pub loop-visit-smaller-in-Continue-branch-2 : goal.loop-visit-smaller-in-Continue-branch-2
loop-visit-smaller-in-Continue-branch-2 c =
    less_to_pass c.loop-visit.states c.loop-visit.path.items c.pop.new.self.items c.push-in-Begins-get.new.self.items c.in-Some.visit c.in-Some.ensures.items c.in_ok-push-in-Begins-get.ensures.items c.in-Some-wait_at.ensures.few

pub loop-visit-preserved-in-Continue-branch-2 : goal.loop-visit-preserved-in-Continue-branch-2
loop-visit-preserved-in-Continue-branch-2 c =
    passes c.args.script.now c.args.step c.loop-visit.states c.loop-visit.path.items c.pop.new.self.items c.in-Some.visit c.loop-visit.invariant c.in-Some.ensures.items c.requires.step
    c.in-Some-wait_at.next (sym c.in-Some-wait_at.ensures.answer) c.requires.placed (sym c.in-Begins-get.ensures) c.push-in-Begins-get.new.self.items c.in_ok-push-in-Begins-get.ensures.items

pub set-requires-in-Unseen-get : goal.set-requires-in-Unseen-get
set-requires-in-Unseen-get c =
    next_below c.args.script.now c.args.step c.loop-visit.states c.loop-visit.path.items c.pop.new.self.items c.in-Some.visit c.loop-visit.invariant c.in-Some.ensures.items c.requires.step
    c.in-Some-wait_at.next (sym c.in-Some-wait_at.ensures.answer) c.requires.placed

pub loop-visit-smaller : goal.loop-visit-smaller
loop-visit-smaller c =
    rw c.set-in-Unseen-get.ensures
    (less_to_see c.loop-visit.states c.loop-visit.path.items c.pop.new.self.items c.push-in-Unseen-get-2.new.self.items c.in-Some.visit c.in-Some-wait_at.next c.in-Some.ensures.items
    (c.in_ok-push-in-Unseen-get-2.ensures.items ∙ ap (λ (path : List Visit). path ++ record { step = c.in-Some-wait_at.next; passed = 0 } ∷ []) c.in_ok-push-in-Unseen-get.ensures.items)
    (next_below c.args.script.now c.args.step c.loop-visit.states c.loop-visit.path.items c.pop.new.self.items c.in-Some.visit c.loop-visit.invariant c.in-Some.ensures.items c.requires.step
    c.in-Some-wait_at.next (sym c.in-Some-wait_at.ensures.answer) c.requires.placed)
    (sym c.in-Unseen-get.ensures))

pub loop-visit-preserved : goal.loop-visit-preserved
loop-visit-preserved c =
    rw c.set-in-Unseen-get.ensures
    (goes_on c.args.script.now c.args.step c.loop-visit.states c.loop-visit.path.items c.pop.new.self.items c.in-Some.visit c.loop-visit.invariant c.in-Some.ensures.items c.requires.step
    c.in-Some-wait_at.next (sym c.in-Some-wait_at.ensures.answer) c.requires.placed (sym c.in-Unseen-get.ensures) c.push-in-Unseen-get-2.new.self.items
    (c.in_ok-push-in-Unseen-get-2.ensures.items ∙ ap (λ (path : List Visit). path ++ record { step = c.in-Some-wait_at.next; passed = 0 } ∷ []) c.in_ok-push-in-Unseen-get.ensures.items))

pub returns-clause-answer : goal.returns-clause-answer
returns-clause-answer c =
    begins_then c.args.script.now c.args.step c.requires.step c.loop-visit.states c.loop-visit.path.items c.loop-visit.invariant
    (nil_from_length c.loop-visit.path.items (omega (arith, c.in_default.ensures.cases.0, c.loop-visit.path.ok.0)))

pub returns-clause-settled : goal.returns-clause-settled
returns-clause-settled c =
    settled_then c.args.script.now c.args.step c.requires.step c.loop-visit.states c.loop-visit.path.items c.loop-visit.invariant
    (nil_from_length c.loop-visit.path.items (omega (arith, c.in_default.ensures.cases.0, c.loop-visit.path.ok.0)))
