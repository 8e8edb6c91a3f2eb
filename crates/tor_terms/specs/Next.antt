-- The loop of which an index counts one turn more.
use Rattle.std.specs.Prelude.{ℕ}
use Rattle.std.specs.declared.option.Option.{Option}
use Rattle.std.specs.declared.option.Option.TheVariants.{Some, None}
use Rattle.tor_terms.specs.declared.term.Index.{Index}
use Rattle.tor_terms.specs.declared.term.Index.TheVariants.{Next}

abbrev pub next_of : Index → Option ℕ
next_of (Next j) = Some j
next_of _ = None
