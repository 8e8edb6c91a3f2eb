use Rattle.std.proofs.Common.{◌∙◌, ap, nat_eq}
use Rattle.std.specs.List.{list_any}
use Rattle.qbs_base.specs.declared.span.Span.{Span}
use Rattle.java_ast.specs.declared.tree.Program.{Program}
use Rattle.java_ast.specs.Path.{statement_at}
use Rattle.java_ast.specs.Reading.{program}
use Rattle.narrowing.specs.Narrowing.{place_or_none, narrowing}
use Rattle.narrowing.proofs.Steps.{begun, one_more, none_left, program_of, walks_of, patches_of}
use Rattle.narrowing.proofs.narrow.narrow_each.Goals as goal

pub loop-path-init : goal.loop-path-init
loop-path-init c = begun c.args.schema.now c.args.bytes.now.keys c.args.paths.now (program c.args.read.value) c.new-walks.result c.new-patches.result c.new-walks.ensures c.new-patches.ensures

pub loop-path-preserved : goal.loop-path-preserved
loop-path-preserved c =
    one_more c.args.schema.now c.args.bytes.now.keys c.args.paths.now c.loop-path.path-index c.path-item.result c.path-item.result c.is_in-covered.result (program c.loop-path.program.value) (program c.in_ok-next.next.value) c.loop-path.walks c.narrow_one.new.walks c.loop-path.patches c.narrow_one.new.patches
    (narrowing c.args.schema.now c.args.bytes.now.keys c.args.paths.now (program c.args.read.value))
    c.loop-path-test.true c.path-item.is
    (c.is_in-covered.ensures
    ∙ ap (λ (at : Span). list_any (nat_eq at.start) c.args.bytes.now.keys) c.place_at.ensures
    ∙ ap (λ (q : Program). list_any (nat_eq (place_or_none (statement_at c.path-item.result (program q))).start) c.args.bytes.now.keys) c.deref.ensures)
    c.in_ok-next.ensures.program c.in_ok-next.ensures.walks c.in_ok-next.ensures.patches c.loop-path.invariant

pub returns-clause-program : goal.returns-clause-program
returns-clause-program c =
    program_of (program c.loop-path.program.value) c.loop-path.walks c.loop-path.patches (narrowing c.args.schema.now c.args.bytes.now.keys c.args.paths.now (program c.args.read.value))
    (none_left c.args.schema.now c.args.bytes.now.keys c.args.paths.now c.loop-path.path-index (program c.loop-path.program.value) c.loop-path.walks c.loop-path.patches (narrowing c.args.schema.now c.args.bytes.now.keys c.args.paths.now (program c.args.read.value))
    c.loop-path-test.false c.loop-path.invariant)

pub returns-clause-walks : goal.returns-clause-walks
returns-clause-walks c =
    walks_of (program c.loop-path.program.value) c.loop-path.walks c.loop-path.patches (narrowing c.args.schema.now c.args.bytes.now.keys c.args.paths.now (program c.args.read.value))
    (none_left c.args.schema.now c.args.bytes.now.keys c.args.paths.now c.loop-path.path-index (program c.loop-path.program.value) c.loop-path.walks c.loop-path.patches (narrowing c.args.schema.now c.args.bytes.now.keys c.args.paths.now (program c.args.read.value))
    c.loop-path-test.false c.loop-path.invariant)

pub returns-clause-patches : goal.returns-clause-patches
returns-clause-patches c =
    patches_of (program c.loop-path.program.value) c.loop-path.walks c.loop-path.patches (narrowing c.args.schema.now c.args.bytes.now.keys c.args.paths.now (program c.args.read.value))
    (none_left c.args.schema.now c.args.bytes.now.keys c.args.paths.now c.loop-path.path-index (program c.loop-path.program.value) c.loop-path.walks c.loop-path.patches (narrowing c.args.schema.now c.args.bytes.now.keys c.args.paths.now (program c.args.read.value))
    c.loop-path-test.false c.loop-path.invariant)
