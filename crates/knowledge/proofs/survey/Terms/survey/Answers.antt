use Rattle.std.proofs.Common.{◌≡◌, true, false, length, refl, get_or, Some, arith}
use Rattle.std.proofs.lemmas.Result.{err_from_is_err_and}
use Rattle.std.proofs.lemmas.Bool.Decides.{nat_tests}
use Rattle.knowledge.specs.Sets.{between}
use Rattle.knowledge.specs.Tables.Check.{check}
use Rattle.knowledge.specs.Tables.Tables.{none}
use Rattle.knowledge.proofs.Tables.Standing.{begins, goes_on, refuses_length, refused_record, passed_none, ends}
use Rattle.knowledge.proofs.survey.Terms.survey.Goals as goal

-- too few records, or too many
pub returns-then-not-contains : goal.returns-then-not-contains
returns-then-not-contains c =
    let b : between 1 256 (length c.args.table.now) ≡ false = grind (arith, nat_tests) in
    refuses_length c.args.self c.args.table.now c.in_table.result b c.in_table.ensures

pub loop-place-init : goal.loop-place-init
loop-place-init c = begins c.args.self c.args.table.now _ c.default-last.result refl

-- the first faulty record
pub returns-in_err-check_record : goal.returns-in_err-check_record
returns-in_err-check_record c =
    let b : between 1 256 (length c.args.table.now) ≡ true = grind (arith, nat_tests) in
    let r : check c.args.self c.args.table.now ≡ Some c.in_err-check_record.field-0.0 =
    refused_record c.args.self c.args.table.now c.loop-place.place c.loop-place.measures c.loop-place.last
    c.of-last.result c.in_err-check_record.field-0.0 b c.loop-place.invariant c.loop-place-test.true c.of-last.ensures
    c.in_err-check_record.ensures in
    let p = err_from_is_err_and c.from_residual.result c.from_residual.ensures.1 in rw (p.1, p.2) r

-- a record without fault
pub loop-place-preserved : goal.loop-place-preserved
loop-place-preserved c =
    goes_on c.args.self c.args.table.now c.loop-place.place c.loop-place.measures c.loop-place.last
    c.of-last.result _ c.loop-place.invariant c.loop-place-test.true (grind (arith, nat_tests)) c.of-last.ensures
    refl (passed_none c.args.self c.loop-place.place c.of-last.result.depth (get_or c.args.table.now c.loop-place.place none).kind c.in_ok-check_record.ensures)

pub returns : goal.returns
returns c =
    let b : between 1 256 (length c.args.table.now) ≡ true = grind (arith, nat_tests) in
    ends c.args.self c.args.table.now c.loop-place.place c.loop-place.measures c.loop-place.last
    b c.loop-place.invariant c.loop-place-test.false (grind (arith, nat_tests))
