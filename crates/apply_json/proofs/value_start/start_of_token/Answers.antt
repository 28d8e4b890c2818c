use Rattle.std.proofs.Common.{refl, arith}
use Rattle.serde_json.specs.Data.{null, boolean, number, string}
use Rattle.serde_json.specs.View.{number_view}
use Rattle.apply_json.proofs.FirstToken.{read_text, read_boolean, read_null, read_number, no_number, no_value, array_too_deep, object_too_deep, read_array, read_object, opened_array, opened_object}
use Rattle.apply_json.proofs.value_start.start_of_token.Goals as goal

pub returns-in-String-clause-ok : goal.returns-in-String-clause-ok
returns-in-String-clause-ok c = λ rest. ((string c.in-String.text.now, read_text c.args.depth _ rest c.args.token refl c.in-String.text c.in-String.is, refl, tt), tt)

pub returns-in-Bool-clause-ok : goal.returns-in-Bool-clause-ok
returns-in-Bool-clause-ok c = λ rest. ((boolean c.in-Bool.b, read_boolean c.args.depth _ rest c.args.token refl c.in-Bool.b c.in-Bool.is, refl, tt), tt)

pub returns-in-Null-clause-ok : goal.returns-in-Null-clause-ok
returns-in-Null-clause-ok c = λ rest. ((null, read_null c.args.depth _ rest c.args.token refl c.in-Null.is, refl, tt), tt)

pub returns-in-Some-clause-ok : goal.returns-in-Some-clause-ok
returns-in-Some-clause-ok c = λ rest.
    ((number (number_view c.in-Some.number), read_number c.args.depth _ rest c.args.token refl c.in-Number.text (number_view c.in-Some.number) c.in-Number.is c.in-Some.ensures, refl, tt), tt)

pub returns-in-None-clause-err : goal.returns-in-None-clause-err
returns-in-None-clause-err c = λ rest. no_number c.args.depth _ rest c.args.token refl c.in-Number.text c.in-Number.is c.in-None.ensures

pub returns-in-EndObject-clause-err : goal.returns-in-EndObject-clause-err
returns-in-EndObject-clause-err c = λ rest. no_value c.args.depth _ rest c.args.token refl c.in-EndObject.is

pub returns-then-depth-eq0-clause-err : goal.returns-then-depth-eq0-clause-err
returns-then-depth-eq0-clause-err c = λ rest. array_too_deep c.args.depth _ rest c.args.token refl (omega arith) c.in-BeginArray.is

pub returns-then-depth-eq0-2-clause-err : goal.returns-then-depth-eq0-2-clause-err
returns-then-depth-eq0-2-clause-err c = λ rest. object_too_deep c.args.depth _ rest c.args.token refl (omega arith) c.in-BeginObject.is

pub returns-else-depth-eq0-clause-ok : goal.returns-else-depth-eq0-clause-ok
returns-else-depth-eq0-clause-ok c = λ rest.
    ((omega arith, read_array c.args.depth _ rest c.args.token refl (omega arith) c.in-BeginArray.is), opened_array c.args.depth _ rest c.args.token refl (omega arith) c.in-BeginArray.is)

pub returns-else-depth-eq0-2-clause-ok : goal.returns-else-depth-eq0-2-clause-ok
returns-else-depth-eq0-2-clause-ok c = λ rest.
    ((omega arith, read_object c.args.depth _ rest c.args.token refl (omega arith) c.in-BeginObject.is), opened_object c.args.depth _ rest c.args.token refl (omega arith) c.in-BeginObject.is)
