use Rattle.std.specs.String.{string_bytes}
use Rattle.std.proofs.lemmas.Result.{IfOk-weaker}
use Rattle.java_ast.proofs.Nodes.{if_is, if_else_is, for_each_is, while_is}
use Rattle.java_text.proofs.Parts.{with_body, with_bodies}
use Rattle.java_text.proofs.printing.+statement_text.Goals as goal

pub put_statement-returns-in-None : goal.put_statement-returns-in-None
put_statement-returns-in-None t c =
    rw (if_is c.args.s.now c.in-If.cond c.in-If.yes c.in-If.other c.in-If.is c.in-None.is)
    (IfOk-weaker c.put_line_end.result _ _ (λ _ last. with_body (string_bytes c.args.out.now) c.args.margin.now (string_bytes c.push_str.new.self) (string_bytes c.put_tested.new.out) (string_bytes c.put_block.new.out) (string_bytes c.put_line_end.new.out) _ c.deref.result.now c.in-If.yes.items c.deref.ensures.value c.in_ok-push_str.ensures.bytes c.in_ok-put_tested-in-If.ensures c.in_ok-put_block-in-If.ensures last) c.put_line_end.ensures)

pub put_statement-returns-in_ok-put_block-in-Some : goal.put_statement-returns-in_ok-put_block-in-Some
put_statement-returns-in_ok-put_block-in-Some t c =
    rw (if_else_is c.args.s.now c.in-If.cond c.in-If.yes c.in-Some.other c.in-If.other c.in-If.is c.in-Some.is)
    (IfOk-weaker c.put_line_end-in-Some.result _ _ (λ _ last. with_bodies (string_bytes c.args.out.now) c.args.margin.now (string_bytes c.push_str.new.self) (string_bytes c.put_tested.new.out) (string_bytes c.put_block.new.out) (string_bytes c.put_else.new.out) (string_bytes c.put_block-in-Some.new.out) (string_bytes c.put_line_end-in-Some.new.out) _ c.deref.result.now c.in-If.yes.items c.deref-in-Some.result.now c.in-Some.other.items c.deref.ensures.value c.deref-in-Some.ensures.value c.in_ok-push_str.ensures.bytes c.in_ok-put_tested-in-If.ensures c.in_ok-put_block-in-If.ensures c.in_ok-put_else-in-Some.ensures c.in_ok-put_block-in-Some.ensures last) c.put_line_end-in-Some.ensures)

pub put_statement-returns-in_ok-put_block-in-ForEach : goal.put_statement-returns-in_ok-put_block-in-ForEach
put_statement-returns-in_ok-put_block-in-ForEach t c =
    rw (for_each_is c.args.s.now c.in-ForEach.ty c.in-ForEach.name c.in-ForEach.list c.in-ForEach.body c.in-ForEach.is)
    (IfOk-weaker c.put_line_end-in-ForEach.result _ _ (λ _ last. with_body (string_bytes c.args.out.now) c.args.margin.now (string_bytes c.push_str.new.self) (string_bytes c.put_for.new.out) (string_bytes c.put_block-in-ForEach.new.out) (string_bytes c.put_line_end-in-ForEach.new.out) _ c.deref-in-ForEach.result.now c.in-ForEach.body.items c.deref-in-ForEach.ensures.value c.in_ok-push_str.ensures.bytes c.in_ok-put_for-in-ForEach.ensures c.in_ok-put_block-in-ForEach.ensures last) c.put_line_end-in-ForEach.ensures)

pub put_statement-returns-in_ok-put_block-in-While : goal.put_statement-returns-in_ok-put_block-in-While
put_statement-returns-in_ok-put_block-in-While t c =
    rw (while_is c.args.s.now c.in-While.cond c.in-While.body c.in-While.is)
    (IfOk-weaker c.put_line_end-in-While.result _ _ (λ _ last. with_body (string_bytes c.args.out.now) c.args.margin.now (string_bytes c.push_str.new.self) (string_bytes c.put_tested-in-While.new.out) (string_bytes c.put_block-in-While.new.out) (string_bytes c.put_line_end-in-While.new.out) _ c.deref-in-While.result.now c.in-While.body.items c.deref-in-While.ensures.value c.in_ok-push_str.ensures.bytes c.in_ok-put_tested-in-While.ensures c.in_ok-put_block-in-While.ensures last) c.put_line_end-in-While.ensures)
