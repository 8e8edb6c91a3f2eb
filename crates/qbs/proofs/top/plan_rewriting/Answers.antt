use Rattle.qbs.proofs.ByView.{plain_due, viewed_due, plain_read, viewed_read}
use Rattle.qbs.proofs.top.plan_rewriting.Goals as goal

pub returns-in-None-clause-due : goal.returns-in-None-clause-due
returns-in-None-clause-due g c = plain_due c.args.options.now.view _ _ c.plan_rewrite.result c.in-None.is c.plan_rewrite.ensures.due

pub returns-in-None-clause-reads : goal.returns-in-None-clause-reads
returns-in-None-clause-reads g c = plain_read _ c.args.options.now.view _ _ _ c.in-None.is c.plan_rewrite.ensures.reads

pub returns-in-Some-clause-due : goal.returns-in-Some-clause-due
returns-in-Some-clause-due g c = viewed_due c.args.options.now.view _ _ c.in-Some.map c.plan_by_view.result c.in-Some.is c.plan_by_view.ensures.due

pub returns-in-Some-clause-reads : goal.returns-in-Some-clause-reads
returns-in-Some-clause-reads g c = viewed_read _ c.args.options.now.view c.in-Some.map _ _ _ c.in-Some.is c.plan_by_view.ensures.reads
