-- The first of four rules that is broken.
use Rattle.std.specs.Prelude.{ℕ}
use Rattle.std.specs.declared.option.Option.{Option}
use Rattle.std.specs.declared.option.Option.TheVariants.{Some, None}
use Rattle.qbs_base.specs.declared.span.Span.{Span}
use Rattle.loop_places.specs.declared.outside.Outside.{Outside}

-- this rule, where a place breaks it, and else a later one
abbrev pub rule_or : ℕ → Option Span → Option Outside → Option Outside
rule_or rule (Some at) later = Some (record { rule = rule; at = at })
rule_or rule None later = later

-- the least of the first four rules that is broken
abbrev pub first_broken : Option Span → Option Span → Option Span → Option Span → Option Outside
first_broken loop lists depth statements = rule_or 1 loop (rule_or 2 lists (rule_or 3 depth (rule_or 4 statements None)))
