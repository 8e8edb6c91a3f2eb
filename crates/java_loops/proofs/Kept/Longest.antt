-- The run at the end of statements is the longest one.
use Rattle.std.specs.Prelude.{Bool, true, false, if◌then◌else◌}
use Rattle.std.proofs.Common.{◌≡◌, refl, sym, ap}
use Rattle.java_ast.specs.Tree.{Statement, Statements, Nothing, Then}
use Rattle.java_ast.specs.Path.{and_then}
use Rattle.loop_text.specs.Statements.Fragment.{are_simple, before_run, run_of}

abbrev chosen : Bool → Statements → Statements → Statements
chosen b p q = if b then p else q

split_by : (b : Bool) (s : Statement) (ss before run : Statements) → and_then before run ≡ ss → and_then (chosen b Nothing (Then s before)) (chosen b (Then s ss) run) ≡ Then s ss
split_by true s ss before run h = refl
split_by false s ss before run h = ap (Then s) h

pub run_splits : (ss : Statements) → and_then (before_run ss) (run_of ss) ≡ ss
run_splits Nothing = refl
run_splits (Then s ss) = split_by (are_simple (Then s ss)) s ss (before_run ss) (run_of ss) (run_splits ss)

simple_by : (b : Bool) (whole rest : Statements) → are_simple whole ≡ b → are_simple rest ≡ true → are_simple (chosen b whole rest) ≡ true
simple_by true whole rest h e = h
simple_by false whole rest h e = e

pub run_is_simple : (ss : Statements) → are_simple (run_of ss) ≡ true
run_is_simple Nothing = refl
run_is_simple (Then s ss) = simple_by (are_simple (Then s ss)) (Then s ss) (run_of ss) refl (run_is_simple ss)

none_before : (ss : Statements) → are_simple ss ≡ true → Nothing ≡ before_run ss
none_before Nothing h = refl
none_before (Then s ss) h = ap (λ (b : Bool). chosen b Nothing (Then s (before_run ss))) (sym h)

longest_by : (b : Bool) (s : Statement) (before front middle : Statements) → before ≡ and_then front middle → (m : Statements) × (Then s before ≡ and_then (chosen b Nothing (Then s front)) m)
longest_by true s before front middle h = (Then s before, refl)
longest_by false s before front middle h = (middle, ap (Then s) h)

pub run_is_longest : (before run : Statements) → are_simple run ≡ true → (middle : Statements) × (before ≡ and_then (before_run (and_then before run)) middle)
run_is_longest Nothing run h = (Nothing, ap (λ (ss : Statements). and_then ss Nothing) (none_before run h))
run_is_longest (Then s before) run h =
    longest_by (are_simple (Then s (and_then before run))) s before (before_run (and_then before run)) (run_is_longest before run h).0 (run_is_longest before run h).1
