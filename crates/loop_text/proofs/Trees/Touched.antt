-- The statements of a run that mention a variable.
use Rattle.std.specs.Prelude.{ℕ, Bool, true, false, List, if◌then◌else◌, Some}
use Rattle.std.proofs.Common.{◌≡◌, ap}
use Rattle.java_ast.specs.Tree.{Statement, Statements, Then}
use Rattle.loop_text.specs.Statements.Setting.{touches, first_touching, behind_touching, touched_again, is_found}

-- whether one more statement mentions the variable, where one did or none
abbrev pub again : Bool → List ℕ → Statements → Bool
again true x run = is_found (first_touching x run)
again false x run = touched_again x run

pub touched_by : (b c : Bool) (x : List ℕ) (s : Statement) (ss : Statements) → touches x s ≡ b → again c x (Then s ss) ≡ (if b then (if c then true else is_found (first_touching x ss)) else again c x ss)
touched_by true true x s ss h = ap (λ (d : Bool). is_found (if d then Some s else first_touching x ss)) h
touched_by false true x s ss h = ap (λ (d : Bool). is_found (if d then Some s else first_touching x ss)) h
touched_by true false x s ss h = ap (λ (d : Bool). is_found (first_touching x (if d then ss else behind_touching x ss))) h
touched_by false false x s ss h = ap (λ (d : Bool). is_found (first_touching x (if d then ss else behind_touching x ss))) h

pub ruleset touched = (touched_by)
