use Rattle.std.proofs.Common.{◌≡◌, List, [], ◌∷◌, ◌+◌, ◌≤◌, length, drop, ap, ap₂, ◌∙◌, subst, arith}
use Rattle.deriv_check.specs.declared.bundle.BundleEntry.{BundleEntry}
use Rattle.deriv_check.specs.Bundles.{entry_of, entries_of}
use Rattle.std.proofs.lemmas.List.{at_drop_all}
use Rattle.java_ast.specs.Reading.{program as plain_program}
use Rattle.rewrite_core.specs.Checked.{Follows}
use Rattle.rewrite_core.specs.Checking.{All}
use Rattle.rewrite_core.proofs.ShownLoops.{IsUnder, begin_under, go_under, refuse_under, end_under, drop_item}
use Rattle.rewrite_core.proofs.checking.check_bundle.Goals as goal

pub loop-i-init : goal.loop-i-init
loop-i-init c = begin_under c.args.schema.now (plain_program c.args.typed.now.program) (plain_program c.of-now.result.program) (entries_of c.args.bundle.now) (ap plain_program c.of-now.ensures ∙ c.in_ok-copy_program.ensures ∙ ap plain_program c.program.ensures) c.requires.typed

pub returns-in-None-clause-exact : goal.returns-in-None-clause-exact
returns-in-None-clause-exact c =
    let at : drop c.loop-i.i c.args.bundle.now ≡ c.e-item.result ∷ drop (c.loop-i.i + 1) c.args.bundle.now = drop_item c.as_slice-e-items.result.now c.args.bundle.now c.loop-i.i c.e-item.result c.as_slice-e-items.ensures c.loop-i-test.true c.e-item.is in
    refuse_under c.args.schema.now (plain_program c.args.typed.now.program) (entries_of c.args.bundle.now) c.loop-i.i (plain_program c.loop-i.now.program) (entry_of c.e-item.result) (entries_of (drop (c.loop-i.i + 1) c.args.bundle.now))
    (subst (λ (es : List BundleEntry). IsUnder c.args.schema.now (plain_program c.args.typed.now.program) (entries_of c.args.bundle.now) c.loop-i.i (plain_program c.loop-i.now.program) (entries_of es)) at c.loop-i.invariant)
    (subst (Follows c.args.schema.now (entry_of c.e-item.result) (plain_program c.loop-i.now.program)) c.in-None.is c.in_ok-check_next.ensures)

pub loop-i-preserved : goal.loop-i-preserved
loop-i-preserved c =
    let at : drop c.loop-i.i c.args.bundle.now ≡ c.e-item.result ∷ drop (c.loop-i.i + 1) c.args.bundle.now = drop_item c.as_slice-e-items.result.now c.args.bundle.now c.loop-i.i c.e-item.result c.as_slice-e-items.ensures c.loop-i-test.true c.e-item.is in
    go_under c.args.schema.now (plain_program c.args.typed.now.program) (entries_of c.args.bundle.now) c.loop-i.i (plain_program c.loop-i.now.program) (plain_program c.in-Some.next.program) (entry_of c.e-item.result) (entries_of (drop (c.loop-i.i + 1) c.args.bundle.now))
    (subst (λ (es : List BundleEntry). IsUnder c.args.schema.now (plain_program c.args.typed.now.program) (entries_of c.args.bundle.now) c.loop-i.i (plain_program c.loop-i.now.program) (entries_of es)) at c.loop-i.invariant)
    (subst (Follows c.args.schema.now (entry_of c.e-item.result) (plain_program c.loop-i.now.program)) c.in-Some.is c.in_ok-check_next.ensures)

pub returns-clause-exact : goal.returns-clause-exact
returns-clause-exact c =
    let past : length c.args.bundle.now ≤ c.loop-i.i = subst (λ (es : List BundleEntry). length es ≤ c.loop-i.i) c.as_slice-e-items.ensures c.loop-i-test.false in
    let most : c.loop-i.i ≤ length c.args.bundle.now = subst (λ (es : List BundleEntry). c.loop-i.i ≤ length es) c.as_slice-e-items.ensures c.loop-i.auto.i-end in
    let none : drop c.loop-i.i c.args.bundle.now ≡ [] = at_drop_all (λ (es : List BundleEntry). es) c.args.bundle.now c.loop-i.i past in
    let all : c.len.result ≡ c.loop-i.i = omega (arith, c.len.ensures, past, most) in
    let is : plain_program c.into_program.result ≡ plain_program c.loop-i.now.program = ap plain_program c.into_program.ensures in
    ap₂ All all is
    ∙ end_under c.args.schema.now (plain_program c.args.typed.now.program) (entries_of c.args.bundle.now) c.loop-i.i (plain_program c.loop-i.now.program)
    (subst (λ (es : List BundleEntry). IsUnder c.args.schema.now (plain_program c.args.typed.now.program) (entries_of c.args.bundle.now) c.loop-i.i (plain_program c.loop-i.now.program) (entries_of es)) none c.loop-i.invariant)
