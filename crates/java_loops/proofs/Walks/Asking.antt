-- A run and its loop give way to the kept statements and those that ask.
use Rattle.std.proofs.Common.{◌≡◌, ℕ, ◌≤◌, Bool, true, false, ◌||◌, List, [], ◌∷◌, Option, Some, None, Result, Ok, Err, refl, sym, ap, ◌∙◌, subst, cond, arith}
use Rattle.std.specs.Prelude.{bytes_eq}
use Rattle.qbs_base.specs.declared.span.Span.{Span}
use Rattle.qbs_base.specs.declared.scalar.Value.{Value}
use Rattle.qbs_base.specs.Named.{at_name}
use Rattle.qbs_base.specs.Values.{Schema}
use Rattle.java_ast.specs.Tree.{Spelled, Expression, Statement, Statements, Nothing, Then}
use Rattle.java_mean.specs.declared.ending.Ending.{Ending}
use Rattle.java_mean.specs.declared.ending.Ending.TheVariants as endings
use Rattle.java_mean.specs.Endings.{◌>>=◌, found}
use Rattle.java_mean.specs.Expression.{value_of}
use Rattle.java_mean.specs.Refines.{Related, Passes, Follows, Agree, same_exits, Replaces}
use Rattle.java_mean.specs.Statement.{State, Passed, GoesOn, Leaves, Returns, done, then_do, with_variable, is_set_type, meaning, meanings}
use Rattle.java_mean.specs.Store.{Store, Variable, put}
use Rattle.java_mean.specs.Types.{Types, IsVariableOf, IsTyped}
use Rattle.java_mean.specs.Typing.{Frame, IsWorld}
use Rattle.java_mean.specs.World.{World}
use Rattle.java_mean.proofs.Alike.{put_at}
use Rattle.java_mean.proofs.Puts.{names_equal, name_same, put_other}
use Rattle.java_mean.proofs.Replaced.{meanings_followed}
use Rattle.java_loops.specs.Walks.Reads.{Set, SameOn}
use Rattle.loop_text.specs.Statements.Fragment.{are_simple, set_by}
use Rattle.java_loops.specs.Walks.Runs.{is_set_in, kept, KeptPasses, IsSilent}
use Rattle.java_loops.specs.Walks.Replacing.{Ask, asking, asked, is_asked, replacement, run_and_loop, set_typed, set_asked, IsThere, AllFit, AllAnswered, LoopAnswers, MayGiveWay}
use Rattle.java_loops.proofs.Walks.SameReads.{put_outside, outside, reads_same}
use Rattle.java_loops.proofs.Walks.Passing.{same_state, run_silent, run_unset}
use Rattle.java_loops.proofs.Walks.KeptRuns.{kept_simple, kept_passes}
use Rattle.java_loops.proofs.Walks.Truth.{or_false, both_false}

-- ---- Names

other_step : (x y : List ℕ) (p : Bool) → bytes_eq y x ≡ p → bytes_eq x y ≡ false → bytes_eq y x ≡ false
other_step x y true e h = let q : bytes_eq x y ≡ true = ap (bytes_eq x) (names_equal y x e) ∙ name_same x in absurd cc
other_step x y false e h = e

pub other_way : (x y : List ℕ) → bytes_eq x y ≡ false → bytes_eq y x ≡ false
other_way x y h = other_step x y (bytes_eq y x) refl h

-- what isn't of the set no kept statement sets
unset_step : (r : Set) (a : Statement) (p : Statements) (x : List ℕ) (b : Bool) → r (set_by a) ≡ b → r x ≡ false → is_set_in p x ≡ false → is_set_in (cond b (Then a p) p) x ≡ false
unset_step r a p x true e out ih = both_false (bytes_eq (set_by a) x) (is_set_in p x) (other_way x (set_by a) (outside r x (set_by a) out e)) ih
unset_step r a p x false e out ih = ih

pub kept_unset : (p : Statements) (r : Set) (x : List ℕ) → r x ≡ false → is_set_in (kept r p) x ≡ false
kept_unset Nothing r x out = refl
kept_unset (Then a p) r x out = unset_step r a (kept r p) x (r (set_by a)) refl out (kept_unset p r x out)

-- ---- The asks

-- what is to be assigned has a variable of its type's kind
abbrev IsHeld : Types → Store → Option Spelled → List ℕ → Type 0
IsHeld g s (Some ty) x = Unit {0}
IsHeld g s None x = (v : Variable) × (at_name s x ≡ Some v) × (v.is_set ≡ set_typed (g x))

abbrev AllHeld : Types → Store → List Ask → Type 0
AllHeld g s [] = Unit {0}
AllHeld g s (k ∷ ks) = IsHeld g s k.ty k.name × AllHeld g s ks

held_after : (g : Types) (s : Store) (ty : Option Spelled) (x y : List ℕ) (v : Variable) → bytes_eq y x ≡ false → IsHeld g s ty x → IsHeld g (put s y v) ty x
held_after g s (Some ty) x y v n h = tt
held_after g s None x y v n h = (h.0, put_other s y x v n ∙ h.1, h.2)

all_held_after : (g : Types) (s : Store) (ks : List Ask) (y : List ℕ) (v : Variable) → is_asked ks y ≡ false → AllHeld g s ks → AllHeld g (put s y v) ks
all_held_after g s [] y v n h = tt
all_held_after g s (k ∷ ks) y v n h =
    let o = or_false (bytes_eq k.name y) (is_asked ks y) n in
    (held_after g s k.ty k.name y v (other_way k.name y o.0) h.0, all_held_after g s ks y v o.1 h.1)

assigned_with : (o : Result Value Ending) (p : Option Variable) (s : State) (x : List ℕ) (v u : Variable) → o ≡ Ok v.value → p ≡ Some u → u.is_set ≡ v.is_set → (o >>= λ z. found p >>= λ (h : Variable). done (with_variable s x (record { value = z; is_set = h.is_set }))) ≡ Ok (GoesOn (with_variable s x v))
assigned_with o p s x v u e h same = rw (e, h, same) refl

declared_with : (o : Result Value Ending) (b : Bool) (s : State) (x : List ℕ) (v : Variable) → o ≡ Ok v.value → v.is_set ≡ b → (o >>= λ z. done (with_variable s x (record { value = z; is_set = b }))) ≡ Ok (GoesOn (with_variable s x v))
declared_with o b s x v e same = ap (λ q. q >>= λ z. done (with_variable s x (record { value = z; is_set = b }))) e ∙ ap (λ c. Ok (GoesOn (with_variable s x (record { value = v.value; is_set = c })))) (sym same)

-- what a statement that asks does
asks : (w : World) (g : Types) (ty : Option Spelled) (at : Span) (x : List ℕ) (e : Expression) (s : State) (v : Variable) → value_of e w s.store ≡ Ok v.value → v.is_set ≡ set_asked g ty x → IsHeld g s.store ty x → meaning (asking ty at x e) w s ≡ Ok (GoesOn (with_variable s x v))
asks w g (Some ty) at x e s v h set held = declared_with (value_of e w s.store) (is_set_type ty) s x v h set
asks w g None at x e s v h set held = assigned_with (value_of e w s.store) (at_name s.store x) s x v held.0 h held.1 (held.2 ∙ sym set)

-- the asks pass from the state s to one that has what the state after the loop has of what they are for
record Asked (w : World) (ks : List Ask) (s after : State) : Type 0 where
  state : State
  passes : meanings (asked ks) w s ≡ Ok (GoesOn state)
  answers : (x : List ℕ) → is_asked ks x ≡ true → at_name state.store x ≡ at_name after.store x
  same : (x : List ℕ) → is_asked ks x ≡ false → at_name state.store x ≡ at_name s.store x
  lines : state.lines ≡ s.lines
  turns : state.turns ≡ s.turns

answers_step : (w : World) (ks : List Ask) (n x : List ℕ) (v : Variable) (s t after : State) (p q : Bool) → bytes_eq n x ≡ p → is_asked ks x ≡ q → at_name after.store n ≡ Some v → (q ≡ true → at_name t.store x ≡ at_name after.store x) → (q ≡ false → at_name t.store x ≡ at_name (put s.store n v) x) → (p || q) ≡ true → at_name t.store x ≡ at_name after.store x
answers_step w ks n x v s t after p true e d left within beyond h = within refl
answers_step w ks n x v s t after true false e d left within beyond h = beyond refl ∙ put_at s.store n x v e ∙ sym left ∙ ap (at_name after.store) (names_equal n x e)
answers_step w ks n x v s t after false false e d left within beyond h = absurd cc

same_step : (ks : List Ask) (n x : List ℕ) (v : Variable) (s t : State) → (is_asked ks x ≡ false → at_name t.store x ≡ at_name (put s.store n v) x) → (bytes_eq n x || is_asked ks x) ≡ false → at_name t.store x ≡ at_name s.store x
same_step ks n x v s t beyond h =
    let o = or_false (bytes_eq n x) (is_asked ks x) h in
    beyond o.1 ∙ put_other s.store n x v o.0

asked_pass : (w : World) (r : Set) (g : Types) (ks : List Ask) (before after s : State) → AllFit r g ks → SameOn r s.store before.store → AllHeld g s.store ks → AllAnswered w g before after ks → Asked w ks s after
asked_pass w r g [] before after s f same held a = record { state = s; passes = refl; answers = λ x e. absurd cc; same = λ x e. refl; lines = refl; turns = refl }
asked_pass w r g (k ∷ ks) before after s f same held a =
    let v : Variable = a.0.held in
    let u : State = with_variable s k.name v in
    let m : Asked w ks u after = asked_pass w r g ks before after u f.1 (put_outside r s.store before.store k.name v f.0.apart same) (all_held_after g s.store ks k.name v f.0.once held.1) a.1 in
    record {
      state = m.state;
      passes = ap (λ o. then_do o (meanings (asked ks) w)) (asks w g k.ty k.at k.name k.value s v (reads_same k.value r w s.store before.store f.0.reads same ∙ a.0.value) a.0.set held.0) ∙ m.passes;
      answers = λ x e. answers_step w ks k.name x v s m.state after (bytes_eq k.name x) (is_asked ks x) refl refl a.0.left (m.answers x) (m.same x) e;
      same = λ x e. same_step ks k.name x v s m.state (m.same x) e;
      lines = m.lines;
      turns = m.turns;
    }

-- ---- What is held after the kept statements

kept_held : (schema : Schema) (g : Types) (w : World) (r : Set) (run : Statements) (s u : State) (ty : Option Spelled) (x : List ℕ) → are_simple run ≡ true → IsTyped schema g s.store → meanings (kept r run) w s ≡ Ok (GoesOn u) → r x ≡ false → IsThere g ty x → IsHeld g u.store ty x
kept_held schema g w r run s u (Some ty) x h t e out there = tt
kept_held schema g w r run s u None x h t e out there =
    let v : (v : Variable) × (at_name s.store x ≡ Some v) × IsVariableOf schema there.0 v = t.held x there.0 there.1 in
    (v.0, run_unset w (kept r run) s u x (kept_simple run r h) e (kept_unset run r x out) ∙ v.1, v.2.set ∙ ap set_typed (sym there.1))

kept_all_held : (schema : Schema) (g : Types) (w : World) (r : Set) (run : Statements) (s u : State) (ks : List Ask) → are_simple run ≡ true → IsTyped schema g s.store → meanings (kept r run) w s ≡ Ok (GoesOn u) → AllFit r g ks → AllHeld g u.store ks
kept_all_held schema g w r run s u [] h t e f = tt
kept_all_held schema g w r run s u (k ∷ ks) h t e f = (kept_held schema g w r run s u k.ty k.name h t e f.0.apart f.0.there, kept_all_held schema g w r run s u ks h t e f.1)

-- ---- The whole

in_r : (a b : Bool) → b ≡ false → (a || b) ≡ true → a ≡ true
in_r true b e h = refl
in_r false true e h = absurd cc
in_r false false e h = absurd cc

same_after : (w : World) (r : Set) (ks : List Ask) (t u v : State) (x : List ℕ) (b : Bool) → is_asked ks x ≡ b → (r x || is_asked ks x) ≡ true → SameOn r v.store t.store → (is_asked ks x ≡ false → at_name u.store x ≡ at_name t.store x) → (a : Asked w ks v u) → at_name u.store x ≡ at_name a.state.store x
same_after w r ks t u v x true e known same left a = sym (a.answers x e)
same_after w r ks t u v x false e known same left a = left e ∙ sym (same.by x (in_r (r x) (is_asked ks x) e known)) ∙ sym (a.same x e)

turns_through : (a b c d : ℕ) → a ≤ b → c ≡ b → d ≡ c → a ≤ d
turns_through a b c d h e f = omega (arith, h, e, f)

replaced_passes : (c : Frame) (g m : Types) (run : Statements) (loop : Statement) (r : Set) (ks : List Ask) → MayGiveWay c g m run loop r ks → (w : World) → IsWorld c w → (s t : State) → IsTyped c.schema g s.store → meanings run w s ≡ Ok (GoesOn t) → (u : State) → meaning loop w t ≡ Ok (GoesOn u) → LoopAnswers w g m ks t (GoesOn u) → Passes (Agree m) GoesOn u (meanings (replacement r run ks) w s)
replaced_passes c g m run loop r ks may w i s t typed e u d a =
    let k : KeptPasses w r (kept r run) s t = kept_passes w r run s t may.simple may.reads e in
    let z : a.state ≡ u = same_state a.state u (sym a.is) in
    let n : Asked w ks k.state a.state = asked_pass w r g ks t a.state k.state may.fits k.same (kept_all_held c.schema g w r run s k.state ks may.simple typed k.passes may.fits) a.answered in
    subst (λ y. Passes (Agree m) GoesOn y (meanings (replacement r run ks) w s)) z (record {
      state = n.state;
      is = meanings_followed (kept r run) (asked ks) w s ∙ ap (λ o. then_do o (meanings (asked ks) w)) k.passes ∙ n.passes;
      holds = record {
        store = λ x y h. same_after w r ks t a.state k.state x (is_asked ks x) refl (may.known x y h) k.same (a.same x y h) n;
        lines = a.lines ∙ sym k.lines ∙ sym n.lines;
        turns = turns_through a.state.turns t.turns k.state.turns n.state.turns a.turns k.turns n.turns;
      };
    })

-- ---- Ways to pass

never_leaves : {A : Type 0} (u v : State) → Leaves u ≡ GoesOn v → A
never_leaves u v e = absurd cc

never_returns : {A : Type 0} (u : State) (x : Option Value) (v : State) → Returns u x ≡ GoesOn v → A
never_returns u x v e = absurd cc

nothing_owed : (r : Related) (l : Option Types) (e : Ending) (q : Result Passed Ending) → Follows r (same_exits l) (Err e) q
nothing_owed r l (endings.Faulted fault at) q = tt
nothing_owed r l endings.OutOfTurns q = tt
nothing_owed r l endings.Stuck q = tt

after_loop : (c : Frame) (l : Option Types) (g m : Types) (run : Statements) (loop : Statement) (r : Set) (ks : List Ask) → MayGiveWay c g m run loop r ks → (w : World) → IsWorld c w → (s t : State) → IsTyped c.schema g s.store → meanings run w s ≡ Ok (GoesOn t) → (o : Result Passed Ending) → meaning loop w t ≡ o → Follows (Agree m) (same_exits l) (then_do o done) (meanings (replacement r run ks) w s)
after_loop c l g m run loop r ks may w i s t typed e (Ok (GoesOn u)) d = replaced_passes c g m run loop r ks may w i s t typed e u d (may.answers w i s typed t e (GoesOn u) d)
after_loop c l g m run loop r ks may w i s t typed e (Ok (Leaves u)) d = let a : LoopAnswers w g m ks t (Leaves u) = may.answers w i s typed t e (Leaves u) d in never_leaves u a.state a.is
after_loop c l g m run loop r ks may w i s t typed e (Ok (Returns u v)) d = let a : LoopAnswers w g m ks t (Returns u v) = may.answers w i s typed t e (Returns u v) d in never_returns u v a.state a.is
after_loop c l g m run loop r ks may w i s t typed e (Err x) d = nothing_owed (Agree m) l x (meanings (replacement r run ks) w s)

after_run : (c : Frame) (l : Option Types) (g m : Types) (run : Statements) (loop : Statement) (r : Set) (ks : List Ask) → MayGiveWay c g m run loop r ks → (w : World) → IsWorld c w → (s : State) → IsTyped c.schema g s.store → (o : Result Passed Ending) → meanings run w s ≡ o → Follows (Agree m) (same_exits l) (then_do o (meanings (Then loop Nothing) w)) (meanings (replacement r run ks) w s)
after_run c l g m run loop r ks may w i s typed (Ok (GoesOn t)) e = after_loop c l g m run loop r ks may w i s t typed e (meaning loop w t) refl
after_run c l g m run loop r ks may w i s typed (Ok (Leaves t)) e = let a : IsSilent s (Leaves t) = run_silent w run s (Leaves t) may.simple e in never_leaves t a.state a.is
after_run c l g m run loop r ks may w i s typed (Ok (Returns t v)) e = let a : IsSilent s (Returns t v) = run_silent w run s (Returns t v) may.simple e in never_returns t v a.state a.is
after_run c l g m run loop r ks may w i s typed (Err x) e = nothing_owed (Agree m) l x (meanings (replacement r run ks) w s)

pub gives_way : (c : Frame) (l : Option Types) (g m : Types) (run : Statements) (loop : Statement) (r : Set) (ks : List Ask) → MayGiveWay c g m run loop r ks → Replaces c l g m (run_and_loop run loop) (replacement r run ks)
gives_way c l g m run loop r ks may =
    record { by = λ w i s typed. subst (λ o. Follows (Agree m) (same_exits l) o (meanings (replacement r run ks) w s)) (sym (meanings_followed run (Then loop Nothing) w s)) (after_run c l g m run loop r ks may w i s typed (meanings run w s) refl) }
