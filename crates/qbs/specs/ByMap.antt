-- What only the code's contracts speak of: `prove` and `check` of bytes, by a map where there are bytes of one.
use Rattle.std.specs.Prelude.{ℕ, List}
use Rattle.std.specs.declared.option.Option.{Option}
use Rattle.std.specs.declared.option.Option.TheVariants.{Some, None}
use Rattle.words.specs.declared.command.Options.{Options}
use Rattle.deliveries.specs.Steps.{Ends}
use Rattle.qbs.specs.Check.{check_of}
use Rattle.qbs.specs.CheckByView.{check_by_view_of}
use Rattle.qbs.specs.Prove.{prove_of}
use Rattle.qbs.specs.ProveByView.{prove_by_view_of}
use Rattle.qbs.specs.Pruners.{May}

abbrev pub proves_by : May → Options → Option (List ℕ) → List ℕ → List ℕ → Option (List ℕ) → Ends
proves_by may o None s t b = prove_of may o s t b
proves_by may o (Some w) s t b = prove_by_view_of may o w s t b

abbrev pub checks_by : Option (List ℕ) → List ℕ → List ℕ → List ℕ → Ends
checks_by None s t b = check_of s t b
checks_by (Some w) s t b = check_by_view_of w s t b
