use Rattle.std.proofs.Common.{refl, subst, arith}
use Rattle.json.specs.Json.{value}
use Rattle.serde_json.specs.Data.{array, object}
use Rattle.apply_json.proofs.VerbatimValues.{no_members_in, no_object, object_of, passed_array, scalar_is}
use Rattle.apply_json.proofs.Turns.{refused_of}
use Rattle.apply_json.proofs.slots.read_object.Goals as goal

pub returns-in_err-read_members-in-Object-clause-err : goal.returns-in_err-read_members-in-Object-clause-err
returns-in_err-read_members-in-Object-clause-err g c =
    let opened = rw c.in-Object.is at c.in_ok-shallow.ensures.opened in
    λ refused. no_object g.S.Slots.is_verbatim _ _ opened (c.read_members.ensures.err (grind arith))

pub returns-in-Shallow-clause-ok : goal.returns-in-Shallow-clause-ok
returns-in-Shallow-clause-ok g c =
    let value_start = rw c.in-Shallow.is at c.in_ok-shallow.ensures.ok in (
      value_start.0,
      scalar_is g.S.Slots.is_verbatim (value c.args.depth c.args.reader.now) value_start.0 _ value_start.1 value_start.3,
      value_start.2,
      subst (λ ms. g.S.Slots.holds c.args.slots.now c.args.slots.now ms) (no_members_in value_start.0 value_start.3) c.requires,
    )

pub returns-in_ok-skip_items-in-Array-clause-ok : goal.returns-in_ok-skip_items-in-Array-clause-ok
returns-in_ok-skip_items-in-Array-clause-ok g c =
    let opened = rw c.in-Array.is at c.in_ok-shallow.ensures.opened in
    let passed = c.in_ok-skip_items-in-Array.ensures.ok in
    let made = passed_array g.S.Slots.is_verbatim _ _ passed.0 _ opened passed.1 in
    (array made.0, made.1, refl, c.requires)

pub returns-in_ok-read_members-in-Object-clause-ok : goal.returns-in_ok-read_members-in-Object-clause-ok
returns-in_ok-read_members-in-Object-clause-ok g c =
    let opened = rw c.in-Object.is at c.in_ok-shallow.ensures.opened in
    let done = c.in_ok-read_members-in-Object.ensures.ok in
    (object done.0, object_of g.S.Slots.is_verbatim _ _ done.0 _ opened done.1, refl, done.2)

pub returns-in_err-skip_items-in-Array-clause-err : goal.returns-in_err-skip_items-in-Array-clause-err
returns-in_err-skip_items-in-Array-clause-err g c =
    let value_start = rw c.in-Array.is at c.in_ok-shallow.ensures.ok in
    λ refused. refused_of array _ _ value_start.1 c.in_err-skip_items-in-Array.ensures.err
