use Rattle.inlined_types.proofs.Computed.{boxed, boxed_rules, boxed_inlined, boxed_unfit, set, set_rules, set_inlined, set_unfit}
use Rattle.inlined_types.proofs.worked.worked_types_that_are_not_plain_do_not_fit.Goals as goal

pub returns : goal.returns
returns c =
    record {
      boxed = boxed;
      boxed_rules = boxed_rules;
      boxed_inlined = boxed_inlined;
      boxed_unfit = boxed_unfit;
      set = set;
      set_rules = set_rules;
      set_inlined = set_inlined;
      set_unfit = set_unfit;
    }
