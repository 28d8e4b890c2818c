use Rattle.std.proofs.Common.{◌≡◌, ◌<◌, rules, arith, None, get_or}
use Rattle.std.specs.Char.{digit_value}
use Rattle.std.proofs.lemmas.Int.Digits.{digits_more, digits_value_more}
use Rattle.apply_address.proofs.Digits.{hexadecimal-end, hexadecimal-none, room_for_digit}
use Rattle.apply_address.specs.Reading.{hexadecimal}
use Rattle.apply_address.proofs.pieces.hexadecimal.Goals as goal

pub overflow_mul-value : goal.overflow_mul-value
overflow_mul-value c =
    let room = room_for_digit _ _ c.loop-digit.invariant.all c.loop-digit-test.true c.requires in
    omega (arith, c.loop-digit.invariant.value)

pub overflow_add-value : goal.overflow_add-value
overflow_add-value c =
    let room = room_for_digit _ _ c.loop-digit.invariant.all c.loop-digit-test.true c.requires in
    omega (arith, c.loop-digit.invariant.value, c.in_ok-value.ensures.value.0, c.in_ok-value.ensures.value.1)

pub returns-in_err-value : goal.returns-in_err-value
returns-in_err-value c =
    let none : hexadecimal c.args.digits.now ≡ None =
    hexadecimal-none c.args.digits.now c.loop-digit.digit-index c.loop-digit-test.true (λ less. c.in_err-value.ensures.value (search (rules, less))) in
    cc

pub loop-digit-preserved : goal.loop-digit-preserved
loop-digit-preserved c =
    let small : digit_value (get_or c.args.digits.now c.loop-digit.digit-index 0) < 16 = search (rules, c.in_ok-value.ensures.value.0) in
    let same : c.in_ok-value.field-0 ≡ digit_value (get_or c.args.digits.now c.loop-digit.digit-index 0) = search (rules, c.in_ok-value.ensures.value.1) in
    let more = digits_value_more 16 c.args.digits.now c.loop-digit.digit-index c.loop-digit-test.true in
    record {
      all = digits_more 16 _ _ c.loop-digit-test.true c.loop-digit.invariant.all small;
      value = omega (arith, c.loop-digit.invariant.value);
    }

pub returns : goal.returns
returns c = hexadecimal-end _ _ _ c.loop-digit-test.false c.loop-digit.invariant.all c.loop-digit.invariant.value
