-- The rule that a loop breaks first, found part by part.
use Rattle.std.proofs.Common.{◌≡◌, ℕ, Option, Some, None, refl, sym, ap, ◌∙◌}
use Rattle.qbs_base.specs.declared.span.Span.{Span}
use Rattle.java_loops.specs.Kernel.Kernel.{Broken, first_rule, broken, broken_counts}
use Rattle.java_loops.specs.Kernel.KernelConditions.{broken_conditions}
use Rattle.java_loops.specs.Kernel.KernelForms.{broken_forms}
use Rattle.java_loops.specs.Kernel.KernelLists.{broken_lists, broken_depth}
use Rattle.java_loops.specs.Kernel.KernelLoop.{broken_loop}
use Rattle.java_loops.specs.Kernel.KernelStarts.{broken_starts}
use Rattle.java_loops.specs.Kernel.KernelStatements.{broken_statements, broken_updates}
use Rattle.java_loops.specs.Kernel.Setting.{Setting}
use Rattle.loop_places.specs.FirstBroken as code
use Rattle.std.specs.Option.{option_map}
use Rattle.lowering.specs.InCode.Verdicts.{first_rules, middle_rules, last_rules}
use Rattle.lowering.specs.Lowers.{broken_in_code}

-- ---- One rule

pub stops : (rule : ℕ) (o : Option Span) (at : Span) (later : Option Broken) → o ≡ Some at → Some (record { rule = rule; at = at }) ≡ first_rule rule o later
stops rule o at later is = sym (ap (λ (p : Option Span). first_rule rule p later) is)

pub goes_on : (rule : ℕ) (o : Option Span) (b later : Option Broken) → o ≡ None → b ≡ later → b ≡ first_rule rule o later
goes_on rule o b later is h = h ∙ sym (ap (λ (p : Option Span). first_rule rule p later) is)

-- ---- The first four rules

pub rules_are : (a b c d : Option Span) → option_map broken_in_code (code.first_broken a b c d) ≡ first_rule 1 a (first_rule 2 b (first_rule 3 c (first_rule 4 d None)))
rules_are (Some at) b c d = refl
rules_are None (Some at) c d = refl
rules_are None None (Some at) d = refl
rules_are None None None (Some at) = refl
rules_are None None None None = refl

-- ---- Some rules, and others behind them

abbrev or_else : Option Broken → Option Broken → Option Broken
or_else (Some b) later = Some b
or_else None later = later

joins : (rule : ℕ) (o : Option Span) (b c later : Option Broken) → b ≡ or_else c later → first_rule rule o b ≡ or_else (first_rule rule o c) later
joins rule None b c later h = h
joins rule (Some at) b c later h = refl

first_joins : (w : Setting) (later : Option Broken) → first_rules w later ≡ or_else (first_rules w None) later
first_joins w later =
    joins 1 (broken_loop w) _ _ later (joins 2 (broken_lists w) _ _ later (joins 3 (broken_depth w) _ _ later (joins 4 (broken_statements w) later None later refl)))

middle_joins : (w : Setting) (later : Option Broken) → middle_rules w later ≡ or_else (middle_rules w None) later
middle_joins w later = joins 5 (broken_updates w) _ _ later (joins 6 (broken_forms w) _ _ later (joins 7 (broken_conditions w) later None later refl))

pub first_breaks : (w : Setting) (b : Broken) → first_rules w None ≡ Some b → broken w ≡ Some b
first_breaks w b h = first_joins w (middle_rules w (last_rules w)) ∙ ap (λ (o : Option Broken). or_else o (middle_rules w (last_rules w))) h

pub middle_breaks : (w : Setting) (b : Broken) → first_rules w None ≡ None → middle_rules w None ≡ Some b → broken w ≡ Some b
middle_breaks w b e h =
    first_joins w (middle_rules w (last_rules w))
    ∙ ap (λ (o : Option Broken). or_else o (middle_rules w (last_rules w))) e
    ∙ middle_joins w (last_rules w)
    ∙ ap (λ (o : Option Broken). or_else o (last_rules w)) h

pub rest_breaks : (w : Setting) → first_rules w None ≡ None → middle_rules w None ≡ None → broken w ≡ last_rules w
rest_breaks w e h =
    first_joins w (middle_rules w (last_rules w))
    ∙ ap (λ (o : Option Broken). or_else o (middle_rules w (last_rules w))) e
    ∙ middle_joins w (last_rules w)
    ∙ ap (λ (o : Option Broken). or_else o (last_rules w)) h

pub count_breaks : (w : Setting) (at : Span) → first_rules w None ≡ None → middle_rules w None ≡ None → broken_counts w ≡ Some at → broken w ≡ Some (record { rule = 8; at = at })
count_breaks w at e h is = rest_breaks w e h ∙ sym (stops 8 (broken_counts w) at (first_rule 9 (broken_starts w) None) is)

pub start_breaks : (w : Setting) (at : Span) → first_rules w None ≡ None → middle_rules w None ≡ None → broken_counts w ≡ None → broken_starts w ≡ Some at → broken w ≡ Some (record { rule = 9; at = at })
start_breaks w at e h few is =
    rest_breaks w e h
    ∙ sym (goes_on 8 (broken_counts w) (Some (record { rule = 9; at = at })) (first_rule 9 (broken_starts w) None) few (stops 9 (broken_starts w) at None is))

pub none_breaks : (w : Setting) → first_rules w None ≡ None → middle_rules w None ≡ None → broken_counts w ≡ None → broken_starts w ≡ None → broken w ≡ None
none_breaks w e h few is =
    rest_breaks w e h
    ∙ sym (goes_on 8 (broken_counts w) None (first_rule 9 (broken_starts w) None) few (goes_on 9 (broken_starts w) None None is refl))
