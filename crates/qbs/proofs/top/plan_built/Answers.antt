use Rattle.deliveries.specs.Reads.{looks}
use Rattle.qbs.proofs.Worded.{as_due, as_read, none_read}
use Rattle.qbs.proofs.top.plan_built.Goals as goal

pub returns-in-Rewrite-clause-due : goal.returns-in-Rewrite-clause-due
returns-in-Rewrite-clause-due g c = as_due _ _ c.args.command.now _ c.plan_rewriting.result c.in-Rewrite.is c.plan_rewriting.ensures.due

pub returns-in-Rewrite-clause-reads : goal.returns-in-Rewrite-clause-reads
returns-in-Rewrite-clause-reads g c = as_read _ c.args.command.now _ _ _ c.in-Rewrite.is c.plan_rewriting.ensures.reads

pub returns-in-Prove-clause-due : goal.returns-in-Prove-clause-due
returns-in-Prove-clause-due g c = as_due _ _ c.args.command.now _ c.plan_proving.result c.in-Prove.is c.plan_proving.ensures.due

pub returns-in-Prove-clause-reads : goal.returns-in-Prove-clause-reads
returns-in-Prove-clause-reads g c = as_read _ c.args.command.now _ _ _ c.in-Prove.is c.plan_proving.ensures.reads

pub returns-in-Check-clause-due : goal.returns-in-Check-clause-due
returns-in-Check-clause-due g c = as_due _ _ c.args.command.now _ c.plan_checking.result c.in-Check.is c.plan_checking.ensures.due

pub returns-in-Check-clause-reads : goal.returns-in-Check-clause-reads
returns-in-Check-clause-reads g c = as_read _ c.args.command.now _ _ _ c.in-Check.is c.plan_checking.ensures.reads

pub returns-in-Sql-clause-due : goal.returns-in-Sql-clause-due
returns-in-Sql-clause-due g c = as_due _ _ c.args.command.now _ c.plan_sql.result c.in-Sql.is c.plan_sql.ensures.due

pub returns-in-Sql-clause-reads : goal.returns-in-Sql-clause-reads
returns-in-Sql-clause-reads g c = as_read _ c.args.command.now _ _ _ c.in-Sql.is c.plan_sql.ensures.reads

pub returns-in-Run-clause-due : goal.returns-in-Run-clause-due
returns-in-Run-clause-due g c = as_due _ _ c.args.command.now _ c.plan_run.result c.in-Run.is c.plan_run.ensures.due

pub returns-in-Run-clause-reads : goal.returns-in-Run-clause-reads
returns-in-Run-clause-reads g c = as_read _ c.args.command.now _ _ _ c.in-Run.is c.plan_run.ensures.reads

pub returns-in-Make-clause-due : goal.returns-in-Make-clause-due
returns-in-Make-clause-due g c = as_due _ _ c.args.command.now _ c.plan_make.result c.in-Make.is c.plan_make.ensures

pub returns-in-Make-clause-reads : goal.returns-in-Make-clause-reads
returns-in-Make-clause-reads g c = none_read (looks g.F.Files.told g.F.Files.faults g.F.Files.may_fail g.F.Files.by_read) c.args.command.now c.args.files.now

pub returns-in-Schema-clause-due : goal.returns-in-Schema-clause-due
returns-in-Schema-clause-due g c = as_due _ _ c.args.command.now _ c.plan_schema.result c.in-Schema.is c.plan_schema.ensures.due

pub returns-in-Schema-clause-reads : goal.returns-in-Schema-clause-reads
returns-in-Schema-clause-reads g c = as_read _ c.args.command.now _ _ _ c.in-Schema.is c.plan_schema.ensures.reads

pub returns-in-Inline-clause-due : goal.returns-in-Inline-clause-due
returns-in-Inline-clause-due g c = as_due _ _ c.args.command.now _ c.plan_inline.result c.in-Inline.is c.plan_inline.ensures.due

pub returns-in-Inline-clause-reads : goal.returns-in-Inline-clause-reads
returns-in-Inline-clause-reads g c = as_read _ c.args.command.now _ _ _ c.in-Inline.is c.plan_inline.ensures.reads

pub returns-in-Narrow-clause-due : goal.returns-in-Narrow-clause-due
returns-in-Narrow-clause-due g c = as_due _ _ c.args.command.now _ c.plan_narrow.result c.in-Narrow.is c.plan_narrow.ensures.due

pub returns-in-Narrow-clause-reads : goal.returns-in-Narrow-clause-reads
returns-in-Narrow-clause-reads g c = as_read _ c.args.command.now _ _ _ c.in-Narrow.is c.plan_narrow.ensures.reads

pub returns-in-Unnest-clause-due : goal.returns-in-Unnest-clause-due
returns-in-Unnest-clause-due g c = as_due _ _ c.args.command.now _ c.plan_unnest.result c.in-Unnest.is c.plan_unnest.ensures.due

pub returns-in-Unnest-clause-reads : goal.returns-in-Unnest-clause-reads
returns-in-Unnest-clause-reads g c = as_read _ c.args.command.now _ _ _ c.in-Unnest.is c.plan_unnest.ensures.reads

pub returns-in-Gather-clause-due : goal.returns-in-Gather-clause-due
returns-in-Gather-clause-due g c = as_due _ _ c.args.command.now _ c.plan_gather.result c.in-Gather.is c.plan_gather.ensures.due

pub returns-in-Gather-clause-reads : goal.returns-in-Gather-clause-reads
returns-in-Gather-clause-reads g c = as_read _ c.args.command.now _ _ _ c.in-Gather.is c.plan_gather.ensures.reads

pub returns-in-View-clause-due : goal.returns-in-View-clause-due
returns-in-View-clause-due g c = as_due _ _ c.args.command.now _ c.plan_view.result c.in-View.is c.plan_view.ensures.due

pub returns-in-View-clause-reads : goal.returns-in-View-clause-reads
returns-in-View-clause-reads g c = as_read _ c.args.command.now _ _ _ c.in-View.is c.plan_view.ensures.reads

pub returns-in-Map-clause-due : goal.returns-in-Map-clause-due
returns-in-Map-clause-due g c = as_due _ _ c.args.command.now _ c.plan_map.result c.in-Map.is c.plan_map.ensures.due

pub returns-in-Map-clause-reads : goal.returns-in-Map-clause-reads
returns-in-Map-clause-reads g c = as_read _ c.args.command.now _ _ _ c.in-Map.is c.plan_map.ensures.reads

pub returns-in-MapSchema-clause-due : goal.returns-in-MapSchema-clause-due
returns-in-MapSchema-clause-due g c = as_due _ _ c.args.command.now _ c.plan_map-in-MapSchema.result c.in-MapSchema.is c.plan_map-in-MapSchema.ensures.due

pub returns-in-MapSchema-clause-reads : goal.returns-in-MapSchema-clause-reads
returns-in-MapSchema-clause-reads g c = as_read _ c.args.command.now _ _ _ c.in-MapSchema.is c.plan_map-in-MapSchema.ensures.reads

pub returns-in-CheckMap-clause-due : goal.returns-in-CheckMap-clause-due
returns-in-CheckMap-clause-due g c = as_due _ _ c.args.command.now _ c.plan_check_map.result c.in-CheckMap.is c.plan_check_map.ensures.due

pub returns-in-CheckMap-clause-reads : goal.returns-in-CheckMap-clause-reads
returns-in-CheckMap-clause-reads g c = as_read _ c.args.command.now _ _ _ c.in-CheckMap.is c.plan_check_map.ensures.reads
