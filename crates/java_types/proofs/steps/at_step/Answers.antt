use Rattle.std.proofs.Common.{rules, ◌≡◌, ◌∙◌, ℕ, sym, ap, Bool, List}
use Rattle.std.specs.Prelude.{Option, not, ◌&&◌}
use Rattle.std.specs.Option.{option_map}
use Rattle.qbs_base.specs.declared.span.Span.{Span}
use Rattle.java_ast.specs.declared.tree.StmtNode.{StmtNode}
use Rattle.java_ast.specs.Reading.{spelled, expression, statements, node_statement}
use Rattle.java_ast.specs.Tree.{Statement}
use Rattle.java_mean.specs.declared.types.Single.{Single}
use Rattle.java_mean.specs.declared.types.JavaType.{JavaType}
use Rattle.java_mean.specs.declared.types.Kindred.{Kindred}
use Rattle.java_mean.specs.declared.rule.TypeRule.TheVariants as broken
use Rattle.java_mean.specs.Places.{around, step}
use Rattle.java_mean.specs.Rules.{type_of, at_of, of_bool, only_if, unless, unless_single, unless_scalar, unless_passes, unless_element, is_many_kindred, element_of, listed_in, walked_element, unknown_keys}
use Rattle.java_mean.specs.WellTyped.{marked, faults_at}
use Rattle.java_mean.specs.Least.{least}
use Rattle.java_types.specs.Texts.{read_by}
use Rattle.java_ast.proofs.Nodes.{for_each_is, while_is}
use Rattle.java_types.proofs.Passed.{for_each_noted, none_said}
use Rattle.java_types.proofs.Noted.{alone, declare_noted, assign_noted, add_noted, sort_noted, return_noted, if_noted}
use Rattle.java_types.proofs.steps.at_step.Goals as goal

pub returns-in-Declare : goal.returns-in-Declare
returns-in-Declare c =
    declare_noted c.args.schema.now (read_by c.args.schema.now) (option_map spelled c.args.result_type.now) c.args.scope.now (around c.args.walked.now c.args.in_loop c.args.end) c.args.last c.args.s.now.span (spelled c.in-Declare.ty) c.in-Declare.name (expression c.in-Declare.value) c.type_spelled-k.result c.args.kept.now c.note_if.new.kept c.note_if-in-Declare.new.kept c.given.new.kept c.note_if-in-Declare-2.new.kept c.aliased.new.kept
    c.type_spelled-k.ensures
    (c.note_if.ensures ∙ ap (λ (b : Bool). least c.args.kept.now (marked broken.Unknown (only_if b c.args.s.now.span))) (none_said c.type_spelled-k.result c.is_none.result c.is_none.ensures))
    (c.note_if-in-Declare.ensures ∙ ap (λ (b : Bool). least c.note_if.new.kept (marked broken.Mismatch (only_if b c.args.s.now.span))) c.is_set_of_rows.ensures)
    c.given.ensures
    (c.note_if-in-Declare-2.ensures ∙ ap (λ (b : Bool). least c.given.new.kept (marked broken.DoubleName (only_if b c.args.s.now.span))) c.taken.ensures)
    c.aliased.ensures
    ∙ ap (λ (n : StmtNode). least c.args.kept.now (faults_at c.args.schema.now (read_by c.args.schema.now) (option_map spelled c.args.result_type.now) (step c.args.scope.now (around c.args.walked.now c.args.in_loop c.args.end) c.args.last (node_statement n c.args.s.now.span)))) (sym c.in-Declare.is)

pub returns-in-Assign : goal.returns-in-Assign
returns-in-Assign c =
    assign_noted c.args.schema.now (read_by c.args.schema.now) (option_map spelled c.args.result_type.now) c.args.scope.now (around c.args.walked.now c.args.in_loop c.args.end) c.args.last c.args.s.now.span c.in-Assign.name (expression c.in-Assign.value) c.type_of-k.result c.args.kept.now c.note_if-in-Assign.new.kept c.given-in-Assign.new.kept c.aliased-in-Assign.new.kept c.note_if-in-Assign-2.new.kept
    c.type_of-k.ensures
    (c.note_if-in-Assign.ensures ∙ ap (λ (b : Bool). least c.args.kept.now (marked broken.Unknown (only_if (not b) c.args.s.now.span))) c.has.ensures)
    c.given-in-Assign.ensures
    c.aliased-in-Assign.ensures
    (c.note_if-in-Assign-2.ensures ∙ ap (λ (b : Bool). least c.aliased-in-Assign.new.kept (marked broken.ModifiedInLoop (only_if b c.args.s.now.span))) c.has-in-Assign.ensures)
    ∙ ap (λ (n : StmtNode). least c.args.kept.now (faults_at c.args.schema.now (read_by c.args.schema.now) (option_map spelled c.args.result_type.now) (step c.args.scope.now (around c.args.walked.now c.args.in_loop c.args.end) c.args.last (node_statement n c.args.s.now.span)))) (sym c.in-Assign.is)

pub returns-in-Add : goal.returns-in-Add
returns-in-Add c =
    add_noted c.args.schema.now (read_by c.args.schema.now) (option_map spelled c.args.result_type.now) c.args.scope.now (around c.args.walked.now c.args.in_loop c.args.end) c.args.last c.args.s.now.span c.in-Add.name (expression c.in-Add.value) c.type_of-k-in-Add.result c.args.kept.now c.note_if-in-Add.new.kept c.unless_many.new.kept c.unless_single.new.kept c.note_if-in-Add-2.new.kept
    c.type_of-k-in-Add.ensures
    (c.note_if-in-Add.ensures ∙ ap (λ (b : Bool). least c.args.kept.now (marked broken.Unknown (only_if (not b) c.args.s.now.span))) c.has-in-Add.ensures)
    c.unless_many.ensures
    (c.unless_single.ensures
    ∙ ap (λ (t : Option Kindred). least c.unless_many.new.kept (marked broken.Mismatch (unless_single t c.element_of.result c.place_of.result))) c.type_of.ensures
    ∙ ap (λ (a : Option Single). least c.unless_many.new.kept (marked broken.Mismatch (unless_single (type_of c.args.schema.now c.args.scope.now (expression c.in-Add.value)) a c.place_of.result))) c.element_of.ensures
    ∙ ap (λ (p : Span). least c.unless_many.new.kept (marked broken.Mismatch (unless_single (type_of c.args.schema.now c.args.scope.now (expression c.in-Add.value)) (element_of c.type_of-k-in-Add.result) p))) c.place_of.ensures)
    (c.note_if-in-Add-2.ensures ∙ ap (λ (b : Bool). least c.unless_single.new.kept (marked broken.ModifiedInLoop (only_if b c.args.s.now.span))) c.has-in-Add-2.ensures)
    ∙ ap (λ (n : StmtNode). least c.args.kept.now (faults_at c.args.schema.now (read_by c.args.schema.now) (option_map spelled c.args.result_type.now) (step c.args.scope.now (around c.args.walked.now c.args.in_loop c.args.end) c.args.last (node_statement n c.args.s.now.span)))) (sym c.in-Add.is)

pub returns-in-Sort : goal.returns-in-Sort
returns-in-Sort c =
    sort_noted c.args.schema.now (read_by c.args.schema.now) (option_map spelled c.args.result_type.now) c.args.scope.now (around c.args.walked.now c.args.in_loop c.args.end) c.args.last c.args.s.now.span c.in-Sort.name c.in-Sort.keys c.in-Sort.down c.type_of-k-in-Sort.result c.args.kept.now c.note_if-in-Sort.new.kept c.note_keys.new.kept c.unless_listed.new.kept c.note_if-in-Sort-2.new.kept
    c.type_of-k-in-Sort.ensures
    (c.note_if-in-Sort.ensures ∙ ap (λ (b : Bool). least c.args.kept.now (marked broken.Unknown (only_if (not b) c.args.s.now.span))) c.has-in-Sort.ensures)
    (c.note_keys.ensures
    ∙ ap (λ (a : Option Single). least c.note_if-in-Sort.new.kept (marked broken.Unknown (unknown_keys c.args.schema.now a c.as_slice.result.now c.args.s.now.span))) c.listed_in.ensures
    ∙ ap (λ (l : List (List ℕ)). least c.note_if-in-Sort.new.kept (marked broken.Unknown (unknown_keys c.args.schema.now (listed_in c.type_of-k-in-Sort.result) l c.args.s.now.span))) c.as_slice.ensures)
    c.unless_listed.ensures
    (c.note_if-in-Sort-2.ensures ∙ ap (λ (b : Bool). least c.unless_listed.new.kept (marked broken.ModifiedInLoop (only_if b c.args.s.now.span))) c.has-in-Sort-2.ensures)
    ∙ ap (λ (n : StmtNode). least c.args.kept.now (faults_at c.args.schema.now (read_by c.args.schema.now) (option_map spelled c.args.result_type.now) (step c.args.scope.now (around c.args.walked.now c.args.in_loop c.args.end) c.args.last (node_statement n c.args.s.now.span)))) (sym c.in-Sort.is)

pub returns-in-If : goal.returns-in-If
returns-in-If c =
    if_noted c.args.schema.now (read_by c.args.schema.now) (option_map spelled c.args.result_type.now) c.args.scope.now (around c.args.walked.now c.args.in_loop c.args.end) c.args.last c.args.s.now c.in-If.cond c.in-If.yes c.in-If.other c.args.kept.now c.unless.new.kept
    c.in-If.is
    (c.unless.ensures
    ∙ ap (λ (t : Option Kindred). least c.args.kept.now (marked broken.Mismatch (unless t c.of_bool.result c.place_of-in-If.result))) c.type_of-in-If.ensures
    ∙ ap (λ (j : JavaType). least c.args.kept.now (marked broken.Mismatch (unless (type_of c.args.schema.now c.args.scope.now (expression c.in-If.cond)) j c.place_of-in-If.result))) c.of_bool.ensures
    ∙ ap (λ (p : Span). least c.args.kept.now (marked broken.Mismatch (unless (type_of c.args.schema.now c.args.scope.now (expression c.in-If.cond)) of_bool p))) c.place_of-in-If.ensures)

pub returns-in-ForEach : goal.returns-in-ForEach
returns-in-ForEach c =
    for_each_noted c.args.schema.now (read_by c.args.schema.now) (option_map spelled c.args.result_type.now) c.args.scope.now (around c.args.walked.now c.args.in_loop c.args.end) c.args.last c.args.s.now.span (spelled c.in-ForEach.ty) c.in-ForEach.name (expression c.in-ForEach.list) (statements c.in-ForEach.body.items) c.type_spelled-k-in-ForEach.result c.type_of-l.result c.args.kept.now c.note_if-in-ForEach.new.kept c.note_if-in-ForEach-2.new.kept c.unless_walked.new.kept c.unless_element.new.kept c.note_if-in-ForEach-3.new.kept
    c.type_spelled-k-in-ForEach.ensures
    c.type_of-l.ensures
    (c.note_if-in-ForEach.ensures ∙ ap (λ (b : Bool). least c.args.kept.now (marked broken.Unknown (only_if b c.args.s.now.span))) (none_said c.type_spelled-k-in-ForEach.result c.is_none-in-ForEach.result c.is_none-in-ForEach.ensures))
    (c.note_if-in-ForEach-2.ensures ∙ ap (λ (b : Bool). least c.note_if-in-ForEach.new.kept (marked broken.Mismatch (only_if b c.args.s.now.span))) c.is_set_of_rows-in-ForEach.ensures)
    (c.unless_walked.ensures ∙ ap (λ (p : Span). least c.note_if-in-ForEach-2.new.kept (marked broken.Mismatch (unless_passes is_many_kindred c.type_of-l.result p))) c.place_of-in-ForEach.ensures)
    (c.unless_element.ensures
    ∙ ap (λ (a : Option Single). least c.unless_walked.new.kept (marked broken.Mismatch (unless_element a c.type_spelled-k-in-ForEach.result c.place_of-in-ForEach-2.result))) c.walked_element.ensures
    ∙ ap (λ (p : Span). least c.unless_walked.new.kept (marked broken.Mismatch (unless_element (walked_element c.type_of-l.result) c.type_spelled-k-in-ForEach.result p))) c.place_of-in-ForEach-2.ensures)
    (c.note_if-in-ForEach-3.ensures ∙ ap (λ (b : Bool). least c.unless_element.new.kept (marked broken.DoubleName (only_if b c.args.s.now.span))) c.taken-in-ForEach.ensures)
    ∙ ap (λ (a : Statement). least c.args.kept.now (faults_at c.args.schema.now (read_by c.args.schema.now) (option_map spelled c.args.result_type.now) (step c.args.scope.now (around c.args.walked.now c.args.in_loop c.args.end) c.args.last a)))
    (sym (for_each_is c.args.s.now c.in-ForEach.ty c.in-ForEach.name c.in-ForEach.list c.in-ForEach.body c.in-ForEach.is))

pub returns-in-While : goal.returns-in-While
returns-in-While c =
    alone c.args.kept.now c.unless-in-While.new.kept (marked broken.Mismatch (unless (type_of c.args.schema.now c.args.scope.now (expression c.in-While.cond)) of_bool (at_of (expression c.in-While.cond))))
    (c.unless-in-While.ensures
    ∙ ap (λ (t : Option Kindred). least c.args.kept.now (marked broken.Mismatch (unless t c.of_bool-in-While.result c.place_of-in-While.result))) c.type_of-in-While.ensures
    ∙ ap (λ (j : JavaType). least c.args.kept.now (marked broken.Mismatch (unless (type_of c.args.schema.now c.args.scope.now (expression c.in-While.cond)) j c.place_of-in-While.result))) c.of_bool-in-While.ensures
    ∙ ap (λ (p : Span). least c.args.kept.now (marked broken.Mismatch (unless (type_of c.args.schema.now c.args.scope.now (expression c.in-While.cond)) of_bool p))) c.place_of-in-While.ensures)
    ∙ ap (λ (a : Statement). least c.args.kept.now (faults_at c.args.schema.now (read_by c.args.schema.now) (option_map spelled c.args.result_type.now) (step c.args.scope.now (around c.args.walked.now c.args.in_loop c.args.end) c.args.last a))) (sym (while_is c.args.s.now c.in-While.cond c.in-While.body c.in-While.is))

pub returns-in-Print : goal.returns-in-Print
returns-in-Print c =
    alone c.args.kept.now c.unless_scalar.new.kept (marked broken.Mismatch (unless_scalar (type_of c.args.schema.now c.args.scope.now (expression c.in-Print.value)) (at_of (expression c.in-Print.value))))
    (c.unless_scalar.ensures
    ∙ ap (λ (t : Option Kindred). least c.args.kept.now (marked broken.Mismatch (unless_scalar t c.place_of-in-Print.result))) c.type_of-in-Print.ensures
    ∙ ap (λ (p : Span). least c.args.kept.now (marked broken.Mismatch (unless_scalar (type_of c.args.schema.now c.args.scope.now (expression c.in-Print.value)) p))) c.place_of-in-Print.ensures)
    ∙ ap (λ (n : StmtNode). least c.args.kept.now (faults_at c.args.schema.now (read_by c.args.schema.now) (option_map spelled c.args.result_type.now) (step c.args.scope.now (around c.args.walked.now c.args.in_loop c.args.end) c.args.last (node_statement n c.args.s.now.span)))) (sym c.in-Print.is)

pub returns-after-end : goal.returns-after-end
returns-after-end c =
    let said : c.if-end.note_if ≡ c.args.end && c.args.last = search rules in
    return_noted c.args.schema.now (read_by c.args.schema.now) (option_map spelled c.args.result_type.now) c.args.scope.now (around c.args.walked.now c.args.in_loop c.args.end) c.args.last c.args.s.now.span (option_map expression c.in-Return.value) c.args.kept.now c.returned.new.kept c.note_if-in-Return.new.kept
    c.returned.ensures
    (c.note_if-in-Return.ensures ∙ ap (λ (b : Bool). least c.returned.new.kept (marked broken.ReturnPlace (only_if (not b) c.args.s.now.span))) said)
    ∙ ap (λ (n : StmtNode). least c.args.kept.now (faults_at c.args.schema.now (read_by c.args.schema.now) (option_map spelled c.args.result_type.now) (step c.args.scope.now (around c.args.walked.now c.args.in_loop c.args.end) c.args.last (node_statement n c.args.s.now.span)))) (sym c.in-Return.is)

pub returns-after-in_loop : goal.returns-after-in_loop
returns-after-in_loop c =
    let said : c.if-in_loop.note_if ≡ c.args.in_loop && c.args.last = search rules in
    c.note_if-in-Break.ensures
    ∙ ap (λ (b : Bool). least c.args.kept.now (marked broken.BreakPlace (only_if (not b) c.args.s.now.span))) said
    ∙ ap (λ (n : StmtNode). least c.args.kept.now (faults_at c.args.schema.now (read_by c.args.schema.now) (option_map spelled c.args.result_type.now) (step c.args.scope.now (around c.args.walked.now c.args.in_loop c.args.end) c.args.last (node_statement n c.args.s.now.span)))) (sym c.in-Break.is)
