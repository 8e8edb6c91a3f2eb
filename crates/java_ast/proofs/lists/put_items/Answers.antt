use Rattle.std.proofs.lemmas.Result.{on_ok_weaker}
use Rattle.std.proofs.Common.{◌≡◌, ◌+◌, refl, ap, suc, drop, arith}
use Rattle.java_ast.proofs.Fronts.{joined, front_past, rest_past}
use Rattle.java_ast.proofs.lists.put_items.Goals as goal

pub returns-then-last-len : goal.returns-then-last-len
returns-then-last-len g c =
    let one : c.args.last + 1 ≡ suc c.args.last = omega arith in
    on_ok_weaker c.put_between.result
    (joined c.args.first c.args.last c.args.first (c.args.last + 1) c.args.list.now.items c.args.others.items c.put_between.new.list.items refl
    (ap (λ n. drop n c.args.list.now.items) one))
    c.put_between.ensures

pub returns-then-first-len : goal.returns-then-first-len
returns-then-first-len g c =
    let len = c.len-len.ensures in
    let ok = c.args.list.now.ok in
    let past = c.if-last-len.false in
    on_ok_weaker c.put_between-then-first-len.result
    (joined c.args.first c.args.last c.args.first c.len-len.result c.args.list.now.items c.args.others.items c.put_between-then-first-len.new.list.items refl
    (rest_past c.len-len.result (suc c.args.last) c.args.list.now.items (omega arith) (omega arith)))
    c.put_between-then-first-len.ensures

pub returns-else-first-len : goal.returns-else-first-len
returns-else-first-len g c =
    let len = c.len-len.ensures in
    let ok = c.args.list.now.ok in
    let past = c.if-last-len.false in
    let begins = c.if-first-len.false in
    on_ok_weaker c.put_between-else-first-len.result
    (joined c.args.first c.args.last c.len-len.result c.len-len.result c.args.list.now.items c.args.others.items c.put_between-else-first-len.new.list.items
    (front_past c.len-len.result c.args.first c.args.list.now.items (omega arith) (omega arith))
    (rest_past c.len-len.result (suc c.args.last) c.args.list.now.items (omega arith) (omega arith)))
    c.put_between-else-first-len.ensures
