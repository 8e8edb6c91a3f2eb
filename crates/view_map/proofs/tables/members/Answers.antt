use Rattle.std.proofs.Common.{[], length, sym, ◌∙◌}
use Rattle.std.proofs.lemmas.Result.{err_from_is_err_and}
use Rattle.qbs_base.specs.Columns.{columns_at}
use Rattle.view_map.specs.Tables.{members_at}
use Rattle.view_map.proofs.Counted.{members_go_on, members_fail, members_end, members_run_out, names_more}
use Rattle.view_map.proofs.tables.members.Goals as goal

pub returns-then-begins : goal.returns-then-begins
returns-then-begins c =
    let columns = columns_at c.args.schema.now c.args.table in
    let count = length c.args.items.now in
    rw c.list.view_is
    (members_end columns c.loop.list count c.loop.counter c.args.end c.loop.rest.now (members_at columns [] count c.args.end c.args.items.now) c.in_ok-sign.field-0.now
    c.loop-test.true (sym c.begins.ensures ∙ c.if-begins.true) c.in_ok-sign.ensures c.loop.invariant.so_far)

pub returns-in_err-member : goal.returns-in_err-member
returns-in_err-member c =
    let columns = columns_at c.args.schema.now c.args.table in
    let count = length c.args.items.now in
    let p = err_from_is_err_and c.from_residual-in_err-member.result c.from_residual-in_err-member.ensures.1 in
    rw (p.1, p.2)
    (members_fail columns c.loop.list count c.loop.counter c.args.end c.loop.rest.now (members_at columns [] count c.args.end c.args.items.now) c.loop.names
    c.in_err-member.field-0.0 c.loop-test.true (sym c.begins.ensures ∙ c.if-begins.false) c.loop.invariant.names c.in_err-member.ensures.value c.loop.invariant.so_far)

pub loop-preserved : goal.loop-preserved
loop-preserved c =
    let columns = columns_at c.args.schema.now c.args.table in
    let count = length c.args.items.now in
    record {
      so_far =
          rw c.in_ok-push.ensures.ok
          (members_go_on columns c.loop.list count c.loop.counter c.args.end c.loop.rest.now (members_at columns [] count c.args.end c.args.items.now) c.loop.names
          c.in_ok-member.member c.in_ok-member.after.now c.loop-test.true (sym c.begins.ensures ∙ c.if-begins.false) c.loop.invariant.names
          c.in_ok-member.ensures.value c.loop.invariant.so_far);
      names =
          names_more c.loop.names c.next_member.new.names c.loop.list c.push.new.self c.in_ok-member.member c.loop.invariant.names c.in_ok-member.ensures.names
          c.in_ok-push.ensures.ok;
    }

pub returns : goal.returns
returns c =
    let columns = columns_at c.args.schema.now c.args.table in
    let count = length c.args.items.now in
    rw c.unexpected.ensures
    (members_run_out columns c.loop.list count c.loop.counter c.args.end c.loop.rest.now (members_at columns [] count c.args.end c.args.items.now)
    c.loop-test.false c.loop.invariant.so_far)
