use Rattle.std.proofs.Common.{refl, ◌∙◌, ◌+◌, ℕ, sym, ap, length, drop, take, List, nat_eq}
use Rattle.std.proofs.lemmas.Result.{on_ok_weaker}
use Rattle.std.specs.Option.{option_map}
use Rattle.java_ast.specs.declared.tree.Stmt.{Stmt}
use Rattle.java_ast.specs.declared.tree.StmtNode.{StmtNode}
use Rattle.java_ast.specs.Reading.{spelled, expression, statement, statements, node_statement}
use Rattle.java_ast.specs.Tree as plain
use Rattle.java_mean.specs.Places.{around, in_statements, in_parts}
use Rattle.java_mean.specs.Visible.{declared_in, after}
use Rattle.java_mean.specs.WellTyped.{faults_in}
use Rattle.java_mean.specs.Least.{least}
use Rattle.java_types.specs.Texts.{read_by}
use Rattle.java_types.proofs.Cut.{take-after, cut_declared, walked_cut}
use Rattle.java_ast.proofs.Nodes.{if_is, if_else_is, for_each_is, while_is}
use Rattle.java_types.proofs.Passed.{next_item, nothing_left, if_walked, if_else_walked, each_walked, while_walked, statement_walked, value_walked, step_walked, value_part, none_declared}
use Rattle.java_types.proofs.walk.+walk.Goals as goal

pub walk_block-loop-i-preserved : goal.walk_block-loop-i-preserved
walk_block-loop-i-preserved t c =
    record {
      so_far =
          ap (λ (w : List (List ℕ)). least c.walk_stmt.new.kept (faults_in c.args.schema.now (read_by c.args.schema.now) (option_map spelled c.args.result_type.now) (in_statements c.args.schema.now c.walk_stmt.new.scope (around w c.args.in_loop c.args.end) (statements (drop (c.loop-i.i + 1) c.args.block.now))))) c.in_ok-walk_stmt.ensures.walked
          ∙ statement_walked c.args.schema.now (read_by c.args.schema.now) (option_map spelled c.args.result_type.now) c.loop-i.scope c.walk_stmt.new.scope (around c.loop-i.walked c.args.in_loop c.args.end) (nat_eq (c.loop-i.i + 1) (length c.args.block.now)) c.index-block-i.result (drop (c.loop-i.i + 1) c.args.block.now) (drop c.loop-i.i c.args.block.now) c.loop-i.kept c.walk_stmt.new.kept
          (next_item c.args.block.now c.loop-i.i c.index-block-i.result c.loop-i-test.true c.index-block-i.is)
          (nothing_left c.args.block.now c.loop-i.i c.loop-i-test.true)
          c.in_ok-walk_stmt.ensures.scope
          c.in_ok-walk_stmt.ensures.kept
          ∙ c.loop-i.invariant.so_far;
      outer = ap (take (length c.args.scope.now)) c.in_ok-walk_stmt.ensures.scope ∙ take-after c.args.schema.now c.args.scope.now c.loop-i.scope (statement c.index-block-i.result) c.loop-i.invariant.outer;
      walking = c.in_ok-walk_stmt.ensures.walked ∙ c.loop-i.invariant.walking;
    }

pub walk_stmt-returns-in-None-clause-kept : goal.walk_stmt-returns-in-None-clause-kept
walk_stmt-returns-in-None-clause-kept t c =
    if_walked c.args.schema.now (read_by c.args.schema.now) (option_map spelled c.args.result_type.now) c.args.scope.now (around c.args.walked.now c.args.in_loop c.args.end) c.args.last (statement c.args.s.now) c.args.s.now.span (expression c.in-If.cond) (statements c.deref.result.now) c.args.kept.now c.at_step.new.kept c.walk_expr-in-If.new.kept c.walk_block.new.kept
    (if_is c.args.s.now c.in-If.cond c.in-If.yes c.in-If.other c.in-If.is c.in-None.is
    ∙ ap (λ (l : List Stmt). plain.If c.args.s.now.span (expression c.in-If.cond) (statements l)) (sym c.deref.ensures.value))
    c.at_step.ensures
    c.in_ok-walk_expr-in-If.ensures
    c.in_ok-walk_block-in-If.ensures.kept

pub walk_stmt-returns-in_ok-walk_block-in-ForEach-clause-kept :
    goal.walk_stmt-returns-in_ok-walk_block-in-ForEach-clause-kept
walk_stmt-returns-in_ok-walk_block-in-ForEach-clause-kept t c =
    each_walked c.args.schema.now (read_by c.args.schema.now) (option_map spelled c.args.result_type.now) c.args.scope.now c.declare-in-ForEach.new.self (around c.args.walked.now c.args.in_loop c.args.end) c.args.last (statement c.args.s.now) c.args.s.now.span (spelled c.in-ForEach.ty) c.in-ForEach.name (expression c.in-ForEach.list) (statements c.deref-in-ForEach.result.now) c.walk.new.self c.args.kept.now c.at_step.new.kept c.walk_expr-in-ForEach.new.kept c.walk_block-in-ForEach.new.kept
    (for_each_is c.args.s.now c.in-ForEach.ty c.in-ForEach.name c.in-ForEach.list c.in-ForEach.body c.in-ForEach.is
    ∙ ap (λ (l : List Stmt). plain.ForEach c.args.s.now.span (spelled c.in-ForEach.ty) c.in-ForEach.name (expression c.in-ForEach.list) (statements l)) (sym c.deref-in-ForEach.ensures.value))
    (c.in_ok-declare-in-ForEach.ensures ∙ ap (declared_in c.args.scope.now c.in-ForEach.name) c.type_spelled-in-ForEach.ensures)
    c.in_ok-walk-in-ForEach.ensures
    c.at_step.ensures
    c.in_ok-walk_expr-in-ForEach.ensures
    c.in_ok-walk_block-in-ForEach.ensures.kept

pub walk_stmt-returns-in-None-clause-scope : goal.walk_stmt-returns-in-None-clause-scope
walk_stmt-returns-in-None-clause-scope t c =
    c.in_ok-walk_block-in-If.ensures.scope ∙ ap (after c.args.schema.now c.args.scope.now) (sym (if_is c.args.s.now c.in-If.cond c.in-If.yes c.in-If.other c.in-If.is c.in-None.is))

pub walk_stmt-returns-in_ok-walk_expr-in-Declare-clause-kept : goal.walk_stmt-returns-in_ok-walk_expr-in-Declare-clause-kept
walk_stmt-returns-in_ok-walk_expr-in-Declare-clause-kept t c =
    on_ok_weaker c.declare.result (λ _.
    value_walked c.args.schema.now (read_by c.args.schema.now) (option_map spelled c.args.result_type.now) c.args.scope.now (around c.args.walked.now c.args.in_loop c.args.end) c.args.last (statement c.args.s.now) (expression c.in-Declare.value) c.args.kept.now c.at_step.new.kept c.walk_expr.new.kept
    (ap (λ (n : StmtNode). in_parts c.args.schema.now c.args.scope.now (around c.args.walked.now c.args.in_loop c.args.end) (node_statement n c.args.s.now.span)) c.in-Declare.is)
    c.at_step.ensures
    c.in_ok-walk_expr-in-Declare.ensures)
    c.declare.ensures

pub walk_stmt-returns-in_ok-walk_expr-in-Declare-clause-scope : goal.walk_stmt-returns-in_ok-walk_expr-in-Declare-clause-scope
walk_stmt-returns-in_ok-walk_expr-in-Declare-clause-scope t c =
    on_ok_weaker c.declare.result (λ h.
    h ∙ ap (declared_in c.args.scope.now c.in-Declare.name) c.type_spelled.ensures
    ∙ ap (λ (n : StmtNode). after c.args.schema.now c.args.scope.now (node_statement n c.args.s.now.span)) (sym c.in-Declare.is))
    c.declare.ensures

pub walk_stmt-returns-in_ok-walk_expr-in-Declare-clause-walked : goal.walk_stmt-returns-in_ok-walk_expr-in-Declare-clause-walked
walk_stmt-returns-in_ok-walk_expr-in-Declare-clause-walked t c =
    on_ok_weaker c.declare.result (λ _. refl) c.declare.ensures

pub walk_stmt-returns-in-Some-clause-kept : goal.walk_stmt-returns-in-Some-clause-kept
walk_stmt-returns-in-Some-clause-kept t c =
    on_ok_weaker c.walk_block-in-Some.result (λ h.
    if_else_walked c.args.schema.now (read_by c.args.schema.now) (option_map spelled c.args.result_type.now) c.args.scope.now c.walk_block.new.scope (around c.args.walked.now c.args.in_loop c.args.end) c.walk_block.new.walked c.args.last (statement c.args.s.now) c.args.s.now.span (expression c.in-If.cond) (statements c.deref.result.now) (statements c.deref-in-Some.result.now) c.args.kept.now c.at_step.new.kept c.walk_expr-in-If.new.kept c.walk_block.new.kept c.walk_block-in-Some.new.kept
    (if_else_is c.args.s.now c.in-If.cond c.in-If.yes c.in-Some.other c.in-If.other c.in-If.is c.in-Some.is
    ∙ ap (λ (l : List Stmt). plain.IfElse c.args.s.now.span (expression c.in-If.cond) (statements l) (statements c.in-Some.other.items)) (sym c.deref.ensures.value)
    ∙ ap (λ (l : List Stmt). plain.IfElse c.args.s.now.span (expression c.in-If.cond) (statements c.deref.result.now) (statements l)) (sym c.deref-in-Some.ensures.value))
    c.in_ok-walk_block-in-If.ensures.scope
    c.in_ok-walk_block-in-If.ensures.walked
    c.at_step.ensures
    c.in_ok-walk_expr-in-If.ensures
    c.in_ok-walk_block-in-If.ensures.kept
    h)
    c.walk_block-in-Some.ensures.kept

pub walk_stmt-returns-in-Some-clause-scope : goal.walk_stmt-returns-in-Some-clause-scope
walk_stmt-returns-in-Some-clause-scope t c =
    on_ok_weaker c.walk_block-in-Some.result (λ h.
    h ∙ c.in_ok-walk_block-in-If.ensures.scope ∙ ap (after c.args.schema.now c.args.scope.now) (sym (if_else_is c.args.s.now c.in-If.cond c.in-If.yes c.in-Some.other c.in-If.other c.in-If.is c.in-Some.is)))
    c.walk_block-in-Some.ensures.scope

pub walk_stmt-returns-in-Some-clause-walked : goal.walk_stmt-returns-in-Some-clause-walked
walk_stmt-returns-in-Some-clause-walked t c =
    on_ok_weaker c.walk_block-in-Some.result (λ h. h ∙ c.in_ok-walk_block-in-If.ensures.walked) c.walk_block-in-Some.ensures.walked

pub walk_stmt-returns-in_ok-walk_expr-in-While-clause-kept : goal.walk_stmt-returns-in_ok-walk_expr-in-While-clause-kept
walk_stmt-returns-in_ok-walk_expr-in-While-clause-kept t c =
    on_ok_weaker c.walk_block-in-While.result (λ h.
    while_walked c.args.schema.now (read_by c.args.schema.now) (option_map spelled c.args.result_type.now) c.args.scope.now (around c.args.walked.now c.args.in_loop c.args.end) c.args.last (statement c.args.s.now) c.args.s.now.span (expression c.in-While.cond) (statements c.deref-in-While.result.now) c.args.kept.now c.at_step.new.kept c.walk_expr-in-While.new.kept c.walk_block-in-While.new.kept
    (while_is c.args.s.now c.in-While.cond c.in-While.body c.in-While.is
    ∙ ap (λ (l : List Stmt). plain.While c.args.s.now.span (expression c.in-While.cond) (statements l)) (sym c.deref-in-While.ensures.value))
    c.at_step.ensures
    c.in_ok-walk_expr-in-While.ensures
    h)
    c.walk_block-in-While.ensures.kept

pub walk_stmt-returns-in_ok-walk_expr-in-While-clause-scope : goal.walk_stmt-returns-in_ok-walk_expr-in-While-clause-scope
walk_stmt-returns-in_ok-walk_expr-in-While-clause-scope t c =
    on_ok_weaker c.walk_block-in-While.result (λ h.
    h ∙ ap (after c.args.schema.now c.args.scope.now) (sym (while_is c.args.s.now c.in-While.cond c.in-While.body c.in-While.is)))
    c.walk_block-in-While.ensures.scope

pub walk_stmt-returns-in-Assign-clause-kept : goal.walk_stmt-returns-in-Assign-clause-kept
walk_stmt-returns-in-Assign-clause-kept t c =
    on_ok_weaker c.walk_expr-in-Assign.result (value_walked c.args.schema.now (read_by c.args.schema.now) (option_map spelled c.args.result_type.now) c.args.scope.now (around c.args.walked.now c.args.in_loop c.args.end) c.args.last (statement c.args.s.now) (expression c.in-Assign.value) c.args.kept.now c.at_step.new.kept c.walk_expr-in-Assign.new.kept
    (value_part c.args.schema.now c.args.scope.now (around c.args.walked.now c.args.in_loop c.args.end) c.args.s.now.node c.in-Assign.value c.args.s.now.span c.in-Assign.is)
    c.at_step.ensures)
    c.walk_expr-in-Assign.ensures

pub walk_stmt-returns-in-Assign-clause-scope : goal.walk_stmt-returns-in-Assign-clause-scope
walk_stmt-returns-in-Assign-clause-scope t c =
    on_ok_weaker c.walk_expr-in-Assign.result (λ _. none_declared c.args.schema.now c.args.scope.now c.args.s.now.node c.in-Assign.value c.args.s.now.span c.in-Assign.is) c.walk_expr-in-Assign.ensures

pub walk_stmt-returns-in-Assign-clause-walked : goal.walk_stmt-returns-in-Assign-clause-walked
walk_stmt-returns-in-Assign-clause-walked t c =
    on_ok_weaker c.walk_expr-in-Assign.result (λ _. refl) c.walk_expr-in-Assign.ensures

pub walk_stmt-returns-in-Sort-clause-kept : goal.walk_stmt-returns-in-Sort-clause-kept
walk_stmt-returns-in-Sort-clause-kept t c =
    step_walked c.args.schema.now (read_by c.args.schema.now) (option_map spelled c.args.result_type.now) c.args.scope.now (around c.args.walked.now c.args.in_loop c.args.end) c.args.last (statement c.args.s.now) c.args.kept.now c.at_step.new.kept
    (ap (λ (n : StmtNode). in_parts c.args.schema.now c.args.scope.now (around c.args.walked.now c.args.in_loop c.args.end) (node_statement n c.args.s.now.span)) c.in-Sort.is)
    c.at_step.ensures

pub walk_stmt-returns-in-Sort-clause-scope : goal.walk_stmt-returns-in-Sort-clause-scope
walk_stmt-returns-in-Sort-clause-scope t c =
    ap (λ (n : StmtNode). after c.args.schema.now c.args.scope.now (node_statement n c.args.s.now.span)) (sym c.in-Sort.is)

pub walk_stmt-returns-in-Break-clause-kept : goal.walk_stmt-returns-in-Break-clause-kept
walk_stmt-returns-in-Break-clause-kept t c =
    step_walked c.args.schema.now (read_by c.args.schema.now) (option_map spelled c.args.result_type.now) c.args.scope.now (around c.args.walked.now c.args.in_loop c.args.end) c.args.last (statement c.args.s.now) c.args.kept.now c.at_step.new.kept
    (ap (λ (n : StmtNode). in_parts c.args.schema.now c.args.scope.now (around c.args.walked.now c.args.in_loop c.args.end) (node_statement n c.args.s.now.span)) c.in-Break.is)
    c.at_step.ensures

pub walk_stmt-returns-in-Break-clause-scope : goal.walk_stmt-returns-in-Break-clause-scope
walk_stmt-returns-in-Break-clause-scope t c =
    ap (λ (n : StmtNode). after c.args.schema.now c.args.scope.now (node_statement n c.args.s.now.span)) (sym c.in-Break.is)

pub walk_stmt-returns-in_ok-walk_block-in-ForEach-clause-scope : goal.walk_stmt-returns-in_ok-walk_block-in-ForEach-clause-scope
walk_stmt-returns-in_ok-walk_block-in-ForEach-clause-scope t c =
    c.cut.ensures
    ∙ ap (λ (n : ℕ). take n c.walk_block-in-ForEach.new.scope) c.len-visible.ensures.count
    ∙ ap (take (length c.args.scope.now)) (c.in_ok-walk_block-in-ForEach.ensures.scope ∙ c.in_ok-declare-in-ForEach.ensures)
    ∙ cut_declared c.args.scope.now c.in-ForEach.name c.type_spelled-in-ForEach.result
    ∙ ap (after c.args.schema.now c.args.scope.now) (sym (for_each_is c.args.s.now c.in-ForEach.ty c.in-ForEach.name c.in-ForEach.list c.in-ForEach.body c.in-ForEach.is))

pub walk_stmt-returns-in_ok-walk_block-in-ForEach-clause-walked : goal.walk_stmt-returns-in_ok-walk_block-in-ForEach-clause-walked
walk_stmt-returns-in_ok-walk_block-in-ForEach-clause-walked t c =
    c.cut-in-ForEach.ensures
    ∙ ap (λ (n : ℕ). take n c.walk_block-in-ForEach.new.walked) c.len-walking.ensures
    ∙ ap (take (length c.args.walked.now)) (c.in_ok-walk_block-in-ForEach.ensures.walked ∙ c.in_ok-walk-in-ForEach.ensures)
    ∙ walked_cut c.args.walked.now (expression c.in-ForEach.list)
