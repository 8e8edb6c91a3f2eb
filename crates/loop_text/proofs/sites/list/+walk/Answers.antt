use Rattle.std.specs.Prelude.{None}
use Rattle.std.specs.Option.{option_map}
use Rattle.std.proofs.Common.{◌∙◌, sym, ap, List, map}
use Rattle.std.proofs.lemmas.List.{length-map}
use Rattle.std.proofs.lemmas.Result.{on_ok_weaker}
use Rattle.java_ast.specs.declared.tree.Stmt.{Stmt}
use Rattle.java_ast.specs.Reading.{spelled, expression, statement, statements}
use Rattle.loop_text.specs.Sites.Reading.{round_of, site_of}
use Rattle.loop_text.specs.Sites.Sites.{walk_all}
use Rattle.java_ast.proofs.Nodes.{if_is, if_else_is, for_each_is, while_is}
use Rattle.loop_text.proofs.Indexed.Sited.{if_met, if_else_met, for_each_met, while_met}
use Rattle.loop_text.proofs.sites.list.+walk.Goals as goal

pub walk-returns-in-None : goal.walk-returns-in-None
walk-returns-in-None t c =
    on_ok_weaker c.walk_all.result (λ whole. if_met (round_of c.args.r.now) (option_map (λ p. statement p.now) c.args.previous) (statement c.args.s.now) c.args.s.now.span (expression c.in-If.cond) (statements c.in-If.yes.items) c.len-number.result (round_of c.in_ok-holding-in-If.holding) (map site_of c.args.met.now) (map site_of c.push_site.new.met) (map site_of c.walk_all.new.met)
    (if_is c.args.s.now c.in-If.cond c.in-If.yes c.in-If.other c.in-If.is c.in-None.is)
    (c.len-number.ensures ∙ sym (length-map c.args.met.now site_of))
    c.in_ok-holding-in-If.ensures
    c.in_ok-push_site.ensures
    (whole ∙ ap (λ (l : List Stmt). walk_all (round_of c.in_ok-holding-in-If.holding) None (statements l) (map site_of c.push_site.new.met)) c.deref.ensures.value)) c.walk_all.ensures

pub walk-returns-in-If : goal.walk-returns-in-If
walk-returns-in-If t c =
    on_ok_weaker c.walk_all-in-Some-2.result (λ whole. if_else_met (round_of c.args.r.now) (option_map (λ p. statement p.now) c.args.previous) (statement c.args.s.now) c.args.s.now.span (expression c.in-If.cond) (statements c.in-If.yes.items) (statements c.in-Some.other.items) c.len-number.result (round_of c.in_ok-holding-in-If.holding) (round_of c.in_ok-failing-in-Some.failing) (map site_of c.args.met.now) (map site_of c.push_site.new.met) (map site_of c.walk_all-in-Some.new.met) (map site_of c.walk_all-in-Some-2.new.met)
    (if_else_is c.args.s.now c.in-If.cond c.in-If.yes c.in-Some.other c.in-If.other c.in-If.is c.in-Some.is)
    (c.len-number.ensures ∙ sym (length-map c.args.met.now site_of))
    c.in_ok-holding-in-If.ensures
    c.in_ok-failing-in-Some.ensures
    c.in_ok-push_site.ensures
    (c.in_ok-walk_all-in-Some.ensures ∙ ap (λ (l : List Stmt). walk_all (round_of c.in_ok-holding-in-If.holding) None (statements l) (map site_of c.push_site.new.met)) c.deref-in-Some.ensures.value)
    (whole ∙ ap (λ (l : List Stmt). walk_all (round_of c.in_ok-failing-in-Some.failing) None (statements l) (map site_of c.walk_all-in-Some.new.met)) c.deref-in-Some-2.ensures.value)) c.walk_all-in-Some-2.ensures

pub walk-returns-in-ForEach : goal.walk-returns-in-ForEach
walk-returns-in-ForEach t c =
    on_ok_weaker c.walk_all-in-ForEach.result (λ whole. for_each_met (round_of c.args.r.now) (option_map (λ p. statement p.now) c.args.previous) (statement c.args.s.now) c.args.s.now.span (spelled c.in-ForEach.ty) c.in-ForEach.name (expression c.in-ForEach.list) (statements c.in-ForEach.body.items) c.len-number.result (round_of c.in_ok-inner-in-ForEach.inner) (map site_of c.args.met.now) (map site_of c.push_site.new.met) (map site_of c.walk_all-in-ForEach.new.met)
    (for_each_is c.args.s.now c.in-ForEach.ty c.in-ForEach.name c.in-ForEach.list c.in-ForEach.body c.in-ForEach.is)
    (c.len-number.ensures ∙ sym (length-map c.args.met.now site_of))
    c.in_ok-inner-in-ForEach.ensures
    c.in_ok-push_site.ensures
    (whole ∙ ap (λ (l : List Stmt). walk_all (round_of c.in_ok-inner-in-ForEach.inner) None (statements l) (map site_of c.push_site.new.met)) c.deref-in-ForEach.ensures.value)) c.walk_all-in-ForEach.ensures

pub walk-returns-in-While : goal.walk-returns-in-While
walk-returns-in-While t c =
    on_ok_weaker c.walk_all-in-While.result (λ whole. while_met (round_of c.args.r.now) (option_map (λ p. statement p.now) c.args.previous) (statement c.args.s.now) c.args.s.now.span (expression c.in-While.cond) (statements c.in-While.body.items) c.len-number.result (round_of c.in_ok-inner-in-While.inner) (map site_of c.args.met.now) (map site_of c.push_site.new.met) (map site_of c.walk_all-in-While.new.met)
    (while_is c.args.s.now c.in-While.cond c.in-While.body c.in-While.is)
    (c.len-number.ensures ∙ sym (length-map c.args.met.now site_of))
    c.in_ok-inner-in-While.ensures
    c.in_ok-push_site.ensures
    (whole ∙ ap (λ (l : List Stmt). walk_all (round_of c.in_ok-inner-in-While.inner) None (statements l) (map site_of c.push_site.new.met)) c.deref-in-While.ensures.value)) c.walk_all-in-While.ensures
