use Rattle.std.specs.Prelude.{map, option_copied, slice_get, []}
use Rattle.std.proofs.Common.{◌∙◌, List, sym, ap}
use Rattle.std.proofs.lemmas.Result.{IfOk-weaker}
use Rattle.java_ast.specs.declared.tree.Method.{Method}
use Rattle.java_ast.specs.Reading.{method, program}
use Rattle.java_ast.proofs.Numbered.{method_some}
use Rattle.lowering.specs.InCode.Locating.{IsFoundIn, IsFoundAt}
use Rattle.java_loops.specs.Lowering.Placing.{scope_of_params}
use Rattle.lowering.proofs.Located.Locations.{program_found}
use Rattle.lowering.proofs.places.located.located.Goals as goal

pub returns : goal.returns
returns c =
    IfOk-weaker c.located_in_method.result (IsFoundIn (option_copied c.args.schema) (scope_of_params (option_copied c.args.schema) [] (method c.in-Some-get.m.now).params) c.in-Some-split_first.rest.now c.in-Some-split_first.further.now (method c.in-Some-get.m.now).body) (IsFoundAt (option_copied c.args.schema) c.args.path.now (program c.args.program.now))
    (λ r there. program_found (option_copied c.args.schema) c.args.path.now c.in-Some.below.now c.in-Some-split_first.rest.now c.in-Some.number.now c.in-Some-split_first.further.now (program c.args.program.now) (method c.in-Some-get.m.now) r
    (sym c.as_slice.ensures ∙ c.in-Some.ensures.cases.0)
    c.in-Some-split_first.ensures.cases.0
    (sym (method_some c.as_slice-2.result.now c.in-Some.number.now c.in-Some-get.m.now c.in-Some-get.m.now c.in-Some-get.ensures.lookup.3.0 c.in-Some-get.ensures.lookup.1 ∙ ap (λ (ms : List Method). slice_get (map method ms) c.in-Some.number.now) c.as_slice-2.ensures))
    there)
    c.located_in_method.ensures
