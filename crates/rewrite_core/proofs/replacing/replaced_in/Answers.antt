use Rattle.std.proofs.Common.{◌∙◌}
use Rattle.std.proofs.lemmas.Result.{IfOk-weaker}
use Rattle.java_ast.specs.Reading.{program}
use Rattle.java_types.specs.Texts.{read_by}
use Rattle.rewrite_core.proofs.GivenUp.{first_before, may_there}
use Rattle.rewrite_core.proofs.Standings.{stands_typed, stands_kept, stands_written}
use Rattle.rewrite_core.proofs.replacing.replaced_in.Goals as goal

pub copy_with-requires : goal.copy_with-requires
copy_with-requires c = first_before c.args.schema.now (read_by c.args.schema.now) (program c.args.program.now) c.args.path.now c.args.lowered.now c.requires.typed c.requires.numbers c.requires.lowered

pub returns-clause-exact : goal.returns-clause-exact
returns-clause-exact c = IfOk-weaker c.copy_with.result _ _ (λ q e w there. e ∙ c.in_ok-others.ensures.exact w there) c.copy_with.ensures

pub returns-clause-typed : goal.returns-clause-typed
returns-clause-typed c =
    IfOk-weaker c.copy_with.result _ _
    (λ q e. stands_typed c.args.schema.now (record { program = program c.args.program.now; path = c.args.path.now; setting = c.requires.lowered.setting; candidate = c.args.candidate.now })
    (program q) (e ∙ c.in_ok-others.ensures.exact c.requires.lowered.setting c.requires.lowered.there)
    (c.in_ok-others.ensures.asks c.requires.lowered.setting c.requires.lowered.there))
    c.copy_with.ensures

pub returns-clause-keeps : goal.returns-clause-keeps
returns-clause-keeps c =
    IfOk-weaker c.copy_with.result _ _
    (λ q e ends. stands_kept c.args.schema.now (record { program = program c.args.program.now; path = c.args.path.now; setting = c.requires.lowered.setting; candidate = c.args.candidate.now })
    (program q) (e ∙ c.in_ok-others.ensures.exact c.requires.lowered.setting c.requires.lowered.there)
    (may_there c.args.schema.now (read_by c.args.schema.now) (program c.args.program.now) c.args.path.now c.args.lowered.now c.requires.typed c.requires.numbers c.requires.lowered c.args.candidate.now c.requires.lowered.setting c.requires.lowered.there (c.in_ok-others.ensures.asks c.requires.lowered.setting c.requires.lowered.there) ends))
    c.copy_with.ensures

pub returns-clause-written : goal.returns-clause-written
returns-clause-written c =
    IfOk-weaker c.copy_with.result _ _
    (λ q e. stands_written c.args.schema.now (record { program = program c.args.program.now; path = c.args.path.now; setting = c.requires.lowered.setting; candidate = c.args.candidate.now })
    (program q) (e ∙ c.in_ok-others.ensures.exact c.requires.lowered.setting c.requires.lowered.there)
    (c.in_ok-others.ensures.asks c.requires.lowered.setting c.requires.lowered.there))
    c.copy_with.ensures
