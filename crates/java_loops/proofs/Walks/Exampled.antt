-- The examples: a loop that counts, and a run and a loop that give way.
use Rattle.std.proofs.Common.{◌≡◌, ℕ, zero, suc, ◌≤◌, pos, Bool, true, false, List, Some, Result, Ok, Err, refl, sym, ◌∙◌, arith}
use Rattle.std.specs.Prelude.{bytes_eq}
use Rattle.qbs_base.specs.declared.span.Span.{Span}
use Rattle.qbs_base.specs.declared.scalar.Scalar.TheVariants as scalars
use Rattle.qbs_base.specs.Named.{at_name}
use Rattle.java_ast.specs.Tree.{Lit, Var, Not, Boolean, Nothing, Then, Long, Declare}
use Rattle.java_mean.specs.declared.ending.Ending.{Ending}
use Rattle.java_mean.specs.declared.ending.Ending.TheVariants.{OutOfTurns}
use Rattle.java_mean.specs.Expression.{truth}
use Rattle.java_mean.specs.Statement.{State, Passed, GoesOn, repeat, test_of, meaning, meanings}
use Rattle.java_mean.specs.Store.{Store, Variable, put}
use Rattle.java_mean.specs.Types.{Types, types_past}
use Rattle.java_mean.specs.Typing.{Frame}
use Rattle.java_mean.specs.World.{World}
use Rattle.java_mean.proofs.Puts.{put_same, put_other}
use Rattle.java_loops.specs.Walks.Counting.{size_first, IsCountingText}
use Rattle.java_loops.specs.Walks.Replacing.{replacement, LoopAnswers, MayGiveWay}
use Rattle.java_loops.specs.Walks.Examples.{b, i, m, u, xs, table, first_two, adding, starting, setting, until_set, kept_names, set_at_once, none_visible}
use Rattle.java_loops.proofs.Walks.Given.{declared_constant}
use Rattle.java_loops.proofs.Walks.Passing.{same_ok}
use Rattle.java_loops.proofs.Walks.Visibility.{all_known}
use Rattle.java_loops.proofs.Walks.Truth.{or_false}

pub counts_two : (at : Span) → IsCountingText table i xs u (Some 2) (first_two at) (adding at)
counts_two at = record { condition = size_first at at at at at at at 2; no_set = refl; row_apart = refl; list_apart = refl; counter_apart = refl; counter_untouched = refl; list_untouched = refl; unmentioned = ((refl, ((refl, refl), tt)), tt) }

-- ---- The loop that sets a flag

abbrev flag : Bool → Variable
flag c = record { value = truth c; is_set = false }

test_is : (at : Span) (w : World) (s : Store) (c : Bool) → at_name s b ≡ Some (flag c) → test_of (Not at (Var at b)) w s ≡ test_of (Not at (Lit at (scalars.Bool c))) w s
test_is at w s c e = rw e refl

ended : (at : Span) (w : World) (n : ℕ) (s : State) → at_name s.store b ≡ Some (flag true) → repeat n (test_of (Not at (Var at b)) w) (meanings (setting at) w) s ≡ Ok (GoesOn s)
ended at w zero s e = rw (test_is at w s.store true e) refl
ended at w (suc n) s e = rw (test_is at w s.store true e) refl

-- where it passes
record Flipped (t : State) (q : Passed) : Type 0 where
  turns : ℕ
  is : q ≡ GoesOn (record { store = put t.store b (flag true); lines = t.lines; turns = turns })
  fewer : turns ≤ t.turns

not_both : {A B : Type 0} (o : Result A Ending) (e : Ending) (x : A) → o ≡ Err e → o ≡ Ok x → B
not_both o e x h k = absurd cc

flips : (at : Span) (w : World) (store : Store) (lines : List (List ℕ)) (n : ℕ) (q : Passed) → at_name store b ≡ Some (flag false) → meaning (until_set at) w (record { store = store; lines = lines; turns = n }) ≡ Ok q → Flipped (record { store = store; lines = lines; turns = n }) q
flips at w store lines zero q e h =
    not_both (meaning (until_set at) w (record { store = store; lines = lines; turns = zero })) OutOfTurns q (rw (test_is at w store false e) refl) h
flips at w store lines (suc n) q e h =
    let t : State = record { store = put store b (flag true); lines = lines; turns = n } in
    let one : meaning (until_set at) w (record { store = store; lines = lines; turns = suc n }) ≡ repeat n (test_of (Not at (Var at b)) w) (meanings (setting at) w) t = rw (test_is at w store false e, e) refl in
    record { turns = n; is = same_ok (Ok q) q (GoesOn t) refl (sym h ∙ one ∙ ended at w n t (put_same store b (flag true))); fewer = omega arith }

answers_flip : (c : Frame) (at : Span) (w : World) (m' : Types) (t : State) (q : Passed) → Flipped t q → LoopAnswers w none_visible m' (set_at_once at) t q
answers_flip c at w m' t q f =
    record {
      state = record { store = put t.store b (flag true); lines = t.lines; turns = f.turns };
      is = f.is;
      answered = (record { held = flag true; left = put_same t.store b (flag true); set = refl; value = refl }, tt);
      same = λ x k e n. put_other t.store b x (flag true) (or_false (bytes_eq b x) false n).0;
      lines = refl;
      turns = f.fewer;
    }

pub flag_gives_way : (c : Frame) (at : Span) → MayGiveWay c none_visible (types_past c.schema none_visible (replacement kept_names (starting at) (set_at_once at))) (starting at) (until_set at) kept_names (set_at_once at)
flag_gives_way c at =
    record {
      simple = refl;
      reads = (λ e. tt, (λ e. tt, tt));
      fits = (record { apart = refl; once = refl; reads = tt; there = tt }, tt);
      known = all_known c.schema none_visible (starting at) kept_names (set_at_once at) (λ x k e. absurd cc);
      answers = λ w world s typed t e q h. answers_flip c at w (types_past c.schema none_visible (replacement kept_names (starting at) (set_at_once at))) t q (flips at w t.store t.lines t.turns q (declared_constant w Nothing at Boolean b (Lit at (scalars.Bool false)) (truth false) (Then (Declare at Long m (Lit at (scalars.Long (pos 5)))) Nothing) s t refl refl refl e) h);
    }
