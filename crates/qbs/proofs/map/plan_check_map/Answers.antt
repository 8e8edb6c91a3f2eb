use Rattle.deliveries.specs.Plan.{given}
use Rattle.qbs.proofs.Mapping.{due_for, reads_for}
use Rattle.qbs.proofs.map.plan_check_map.Goals as goal

pub returns-in-Some-clause-due : goal.returns-in-Some-clause-due
returns-in-Some-clause-due g c = due_for (given g.F.Files.told g.F.Files.faults g.F.Files.may_fail c.args.files.now c.plan_with_source.new.files) c.args.map.now c.args.schema.now c.args.source.now _ c.plan_with_source.result c.in-Some.is c.plan_with_source.ensures.due

pub returns-in-Some-clause-reads : goal.returns-in-Some-clause-reads
returns-in-Some-clause-reads g c = reads_for _ c.args.map.now c.args.schema.now c.args.source.now _ _ _ c.in-Some.is c.plan_with_source.ensures.reads

pub returns-in-None-clause-due : goal.returns-in-None-clause-due
returns-in-None-clause-due g c = due_for (given g.F.Files.told g.F.Files.faults g.F.Files.may_fail c.args.files.now c.plan_alone.new.files) c.args.map.now c.args.schema.now c.args.source.now _ c.plan_alone.result c.in-None.is c.plan_alone.ensures.due

pub returns-in-None-clause-reads : goal.returns-in-None-clause-reads
returns-in-None-clause-reads g c = reads_for _ c.args.map.now c.args.schema.now c.args.source.now _ _ _ c.in-None.is c.plan_alone.ensures.reads
