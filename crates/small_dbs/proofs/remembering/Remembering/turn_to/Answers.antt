use Rattle.std.proofs.Common.{sym, ap, ◌∙◌}
use Rattle.std.specs.declared.option.Option.TheVariants.{Some}
use Rattle.kernel_lang.specs.Plain.{Fragment}
use Rattle.kernel_lang.specs.Whole.{fragment_of}
use Rattle.small_dbs.specs.Remembered.{smalls_for}
use Rattle.small_dbs.proofs.Recalled.{none_known}
use Rattle.small_dbs.proofs.remembering.Remembering.turn_to.Goals as goal

pub invariant_of-self : goal.invariant_of-self
invariant_of-self c =
    record {
      own = c.in_ok-smalls.ensures ∙ ap (λ (f : Fragment). smalls_for c.args.self.now.schema (Some f)) (sym c.in_ok-copy.ensures);
      known = none_known (fragment_of c.in_ok-copy.copy.value) c.in_ok-smalls.smalls c.new.result c.new.ensures;
    }
