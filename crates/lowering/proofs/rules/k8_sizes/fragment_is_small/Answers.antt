use Rattle.std.proofs.Common.{◌∙◌, List, ap, map}
use Rattle.kernel_lang.specs.declared.parts.Acc.{Acc}
use Rattle.kernel_lang.specs.Plain.{accumulator}
use Rattle.tor_terms.specs.declared.term.Formula.{Formula}
use Rattle.tor_terms.specs.Plain.{forms_of}
use Rattle.lowering.specs.InCode.Counted.{numbers_in_code}
use Rattle.java_ast.specs.Names.{names_lent}
use Rattle.lowering.specs.InCode.Reading.{setting_in_code}
use Rattle.lowering.proofs.Ruled.LoweredCounts.{small_then, small_else}
use Rattle.lowering.proofs.rules.k8_sizes.fragment_is_small.Goals as goal

pub returns-then-branch : goal.returns-then-branch
returns-then-branch c =
    small_then (setting_in_code c.args.w.now) (numbers_in_code c.args.t.now) (names_lent c.args.needed.now) c.as_slice-atoms.result.now (forms_of c.as_slice.result.now) (map accumulator c.as_slice-2.result.now) (map accumulator c.as_slice-then-branch.result.now) c.in_ok-pools_are_small.field-0 c.conditions_are_few.result
    c.requires.few
    c.requires.numbers
    c.as_slice-atoms.ensures
    (ap (λ (l : List Formula). forms_of l) c.as_slice.ensures ∙ c.in_ok-conditions.ensures)
    (ap (λ (l : List Acc). map accumulator l) c.as_slice-2.ensures ∙ c.in_ok-accs.ensures)
    (ap (λ (l : List Acc). map accumulator l) c.as_slice-then-branch.ensures ∙ c.in_ok-accs.ensures)
    c.in_ok-pools_are_small.ensures
    c.if-branch.true
    c.conditions_are_few.ensures

pub returns : goal.returns
returns c =
    small_else (setting_in_code c.args.w.now) (numbers_in_code c.args.t.now) (names_lent c.args.needed.now) c.as_slice-atoms.result.now (forms_of c.as_slice.result.now) (map accumulator c.as_slice-2.result.now) c.in_ok-pools_are_small.field-0
    c.requires.few
    c.requires.numbers
    c.as_slice-atoms.ensures
    (ap (λ (l : List Formula). forms_of l) c.as_slice.ensures ∙ c.in_ok-conditions.ensures)
    (ap (λ (l : List Acc). map accumulator l) c.as_slice-2.ensures ∙ c.in_ok-accs.ensures)
    c.in_ok-pools_are_small.ensures
    c.if-branch.false
