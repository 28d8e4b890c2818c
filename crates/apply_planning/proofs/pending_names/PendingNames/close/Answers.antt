use Rattle.std.proofs.Common.{◌≡◌, ◌-◌, Some, ap, arith, refl, subst, sym, ◌∙◌}
use Rattle.apply_planning.proofs.Closed.{are_pending, is_closed, name_read, owner_fits, owner_read, some_pending, stays_open, written}
use Rattle.std.specs.Vec.{with_item}
use Rattle.apply_planning.specs.declared.pending_names.PendingName.{PendingName}
use Rattle.apply_planning.specs.declared.pending_names.PendingNames.{PendingNames}
use Rattle.apply_planning.specs.PendingNames.{Closes, name_at, owner_at}
use Rattle.apply_planning.specs.Names.{name_wait}
use Rattle.apply_events.specs.Waits.LaneTime.{later_of}
use Rattle.apply_planning.proofs.pending_names.PendingNames.close.Goals as goal

pub index-name-requires : goal.index-name-requires
index-name-requires c =
    let k = c.requires.known in
    let owner = owner_read k.0 k.1 c.args.self.now k.2 c.args.number k.3 k.4 c.index-owner.result.now c.index-owner.ensures in
    let fits = owner_fits k.0 k.1 c.args.self.now k.2 c.args.number k.3 k.4 in omega arith

pub overflow_sub-pending : goal.overflow_sub-pending
overflow_sub-pending c =
    let k = c.requires.known in
    let owner = owner_read k.0 k.1 c.args.self.now k.2 c.args.number k.3 k.4 c.index-owner.result.now c.index-owner.ensures in
    let name = name_read k.0 k.1 c.args.self.now k.2 c.args.number k.3 k.4 c.index-owner.result.now c.index-name.result.now owner c.index-name.ensures in
    let some = some_pending k.0 k.1 c.args.self.now k.2 c.args.number k.3 k.4 in
    let same = ap (λ (x : PendingName). x.pending) name in omega arith

pub index_mut-requires : goal.index_mut-requires
index_mut-requires c =
    let k = c.requires.known in
    let owner = owner_read k.0 k.1 c.args.self.now k.2 c.args.number k.3 k.4 c.index-owner.result.now c.index-owner.ensures in
    let fits = owner_fits k.0 k.1 c.args.self.now k.2 c.args.number k.3 k.4 in omega arith

pub returns-then-pending-eq0-clause-pending : goal.returns-then-pending-eq0-clause-pending
returns-then-pending-eq0-clause-pending c = λ told done h known new.
    let owner = owner_read told done c.args.self.now h c.args.number known new c.index-owner.result.now c.index-owner.ensures in
    let name = name_read told done c.args.self.now h c.args.number known new c.index-owner.result.now c.index-name.result.now owner c.index-name.ensures in
    are_pending told done c.args.self.now h c.args.number known new c.args.at c.requires.low _ refl
    (written told done c.args.self.now h c.args.number known new c.index-owner.result.now c.index-name.result.now c.later_of-at.result c.args.at owner name c.later_of-at.ensures)

pub returns-else-pending-eq0-clause-pending : goal.returns-else-pending-eq0-clause-pending
returns-else-pending-eq0-clause-pending c = λ told done h known new.
    let owner = owner_read told done c.args.self.now h c.args.number known new c.index-owner.result.now c.index-owner.ensures in
    let name = name_read told done c.args.self.now h c.args.number known new c.index-owner.result.now c.index-name.result.now owner c.index-name.ensures in
    are_pending told done c.args.self.now h c.args.number known new c.args.at c.requires.low _ refl
    (written told done c.args.self.now h c.args.number known new c.index-owner.result.now c.index-name.result.now c.later_of-at.result c.args.at owner name c.later_of-at.ensures)

pub returns-then-pending-eq0-clause-closes : goal.returns-then-pending-eq0-clause-closes
returns-then-pending-eq0-clause-closes c =
    let k = c.requires.known in
    let owner = owner_read k.0 k.1 c.args.self.now k.2 c.args.number k.3 k.4 c.index-owner.result.now c.index-owner.ensures in
    let name = name_read k.0 k.1 c.args.self.now k.2 c.args.number k.3 k.4 c.index-owner.result.now c.index-name.result.now owner c.index-name.ensures in
    let after : PendingNames = record { owners = c.args.self.now.owners; names = with_item c.args.self.now.names c.index-owner.result.now (record { pending = c.index-name.result.now.pending - 1; at = c.later_of-at.result }) } in
    let none : (name_at c.args.self.now.names.items (owner_at c.args.self.now.owners.items c.args.number)).pending - 1 ≡ 0 = ap (λ (x : PendingName). x.pending - 1) (sym name) ∙ c.if-pending-eq0.true in
    subst (λ o. Closes c.args.self.now (Some (name_wait o, c.later_of-at.result)) after) (sym owner)
    (subst (λ m. Closes c.args.self.now (Some (name_wait (owner_at c.args.self.now.owners.items c.args.number), m)) after) (sym (c.later_of-at.ensures ∙ ap (λ (x : PendingName). later_of x.at c.args.at) name))
    (is_closed k.0 k.1 c.args.self.now k.2 c.args.number k.3 k.4 c.args.at c.requires.low after refl
    (written k.0 k.1 c.args.self.now k.2 c.args.number k.3 k.4 c.index-owner.result.now c.index-name.result.now c.later_of-at.result c.args.at owner name c.later_of-at.ensures) none))

pub returns-else-pending-eq0-clause-closes : goal.returns-else-pending-eq0-clause-closes
returns-else-pending-eq0-clause-closes c =
    let k = c.requires.known in
    let owner = owner_read k.0 k.1 c.args.self.now k.2 c.args.number k.3 k.4 c.index-owner.result.now c.index-owner.ensures in
    let name = name_read k.0 k.1 c.args.self.now k.2 c.args.number k.3 k.4 c.index-owner.result.now c.index-name.result.now owner c.index-name.ensures in
    let after : PendingNames = record { owners = c.args.self.now.owners; names = with_item c.args.self.now.names c.index-owner.result.now (record { pending = c.index-name.result.now.pending - 1; at = c.later_of-at.result }) } in
    stays_open k.0 k.1 c.args.self.now k.2 c.args.number k.3 k.4 c.args.at c.requires.low after refl
    (written k.0 k.1 c.args.self.now k.2 c.args.number k.3 k.4 c.index-owner.result.now c.index-name.result.now c.later_of-at.result c.args.at owner name c.later_of-at.ensures)
    (λ none. c.if-pending-eq0.false (ap (λ (x : PendingName). x.pending - 1) name ∙ none))
