use Rattle.std.proofs.Common.{◌≡◌, length, arith, add-one}
use Rattle.std.proofs.lemmas.Result.{err_from_is_err_and}
use Rattle.deliveries.specs.Plan.{Failed}
use Rattle.deliveries.specs.Reads.{looks}
use Rattle.deliveries.proofs.Naming.{none_so_far, one_more, read_so_far, stopped_so_far, unread_so_far, failed_since}
use Rattle.deliveries.proofs.named.fetch_named.Goals as goal

pub loop-name-init : goal.loop-name-init
loop-name-init g c = none_so_far (looks g.F.Files.told g.F.Files.faults g.F.Files.may_fail g.F.Files.by_read) c.args.names.now c.args.limit c.args.texts.now c.args.files.now

pub loop-name-preserved : goal.loop-name-preserved
loop-name-preserved g c =
    rw (c.left_behind-left.ensures, add-one)
    (one_more (looks g.F.Files.told g.F.Files.faults g.F.Files.may_fail g.F.Files.by_read) c.args.names.now c.loop-name.name-index c.args.limit c.loop-name.left c.args.texts.now c.loop-name.texts c.push.new.self c.name-item.result c.name-item.result c.in_ok-text.text
    c.args.files.now c.loop-name.files c.fetch.new.files c.loop-name.invariant c.loop-name-test.true c.name-item.is c.fetch.ensures.once c.fetch.ensures.same c.fetch.ensures.later c.fetch.ensures.fewer c.in_ok-text.ensures.read c.in_ok-push.ensures.ok)

pub returns-in_err-text-clause-only : goal.returns-in_err-text-clause-only
returns-in_err-text-clause-only g c =
    stopped_so_far (looks g.F.Files.told g.F.Files.faults g.F.Files.may_fail g.F.Files.by_read) c.args.names.now c.loop-name.name-index c.args.limit c.loop-name.left c.args.texts.now c.loop-name.texts c.name-item.result c.name-item.result
    c.args.files.now c.loop-name.files c.fetch.new.files c.loop-name.invariant c.loop-name-test.true c.name-item.is c.fetch.ensures.once c.fetch.ensures.same c.fetch.ensures.later c.fetch.ensures.fewer

pub returns-in_err-push-clause-only : goal.returns-in_err-push-clause-only
returns-in_err-push-clause-only g c =
    stopped_so_far (looks g.F.Files.told g.F.Files.faults g.F.Files.may_fail g.F.Files.by_read) c.args.names.now c.loop-name.name-index c.args.limit c.loop-name.left c.args.texts.now c.loop-name.texts c.name-item.result c.name-item.result
    c.args.files.now c.loop-name.files c.fetch.new.files c.loop-name.invariant c.loop-name-test.true c.name-item.is c.fetch.ensures.once c.fetch.ensures.same c.fetch.ensures.later c.fetch.ensures.fewer

pub returns-in_err-text-clause-read : goal.returns-in_err-text-clause-read
returns-in_err-text-clause-read g c =
    let p = err_from_is_err_and c.from_residual.result c.from_residual.ensures.1 in
    rw (p.1, p.2)
    (unread_so_far (Unit {0}) (looks g.F.Files.told g.F.Files.faults g.F.Files.may_fail g.F.Files.by_read) (Failed g.F.Files.faults g.F.Files.may_fail c.args.files.now c.fetch.new.files) (Failed g.F.Files.faults g.F.Files.may_fail c.loop-name.files c.fetch.new.files)
    c.args.names.now c.loop-name.name-index c.args.limit c.loop-name.left c.args.label.now c.args.texts.now c.loop-name.texts c.name-item.result c.name-item.result c.args.files.now c.loop-name.files c.in_err-text.field-0.0 c.loop-name.invariant c.loop-name-test.true
    c.name-item.is (failed_since g.F.Files.faults g.F.Files.may_fail c.args.files.now c.loop-name.files c.fetch.new.files c.loop-name.invariant.later c.loop-name.invariant.fewer) c.in_err-text.ensures.read)

pub returns-clause-read : goal.returns-clause-read
returns-clause-read g c =
    let all : length c.args.names.now ≡ c.loop-name.name-index = omega (arith, c.loop-name-test.false, c.loop-name.auto.name-index-end) in
    read_so_far (Unit {0}) (looks g.F.Files.told g.F.Files.faults g.F.Files.may_fail g.F.Files.by_read) (Failed g.F.Files.faults g.F.Files.may_fail c.args.files.now c.loop-name.files) c.args.names.now c.loop-name.name-index c.args.limit c.loop-name.left c.args.label.now
    c.args.texts.now c.loop-name.texts c.args.files.now c.loop-name.files tt c.loop-name.invariant all
