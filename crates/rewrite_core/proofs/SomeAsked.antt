-- What comes in place of a loop with asks: one ask at least, all at the loop's place.
use Rattle.std.proofs.Common.{◌≡◌, ℕ, suc, ◌≤◌, Bool, true, false, cond, List, [], ◌∷◌, ◌++◌, slice_get, Option, Some, None, refl, sym, ap, ◌∙◌, subst, arith}
use Rattle.std.specs.Prelude.{◌||◌, ◌&&◌}
use Rattle.std.specs.List.{AllByRecursion}
use Rattle.std.proofs.lemmas.Bool.{or_parts}
use Rattle.qbs_base.specs.declared.span.Span.{Span}
use Rattle.qbs_base.specs.Values.{Schema}
use Rattle.kernel_lang.specs.Plain.{Accumulator}
use Rattle.sql_ast.specs.Tree.{PlainQuery}
use Rattle.sql_ast.proofs.Tools.{all_joined}
use Rattle.sql_parts.specs.Numbered.{Emission}
use Rattle.java_ast.specs.Spans.{place_of}
use Rattle.java_ast.specs.Tree.{Spelled, Expression, Statement, Statements, Nothing, Then}
use Rattle.loop_text.specs.Kernel.KernelStatements.{broken_update, is_idle_flag, is_none}
use Rattle.loop_text.specs.Sites.Sites.{any_site, place_where, first_broken}
use Rattle.loop_text.specs.Statements.Fragment.{accumulators, needed_of, set_by, is_simple, are_simple}
use Rattle.java_ast.specs.Names.{Names, is_among}
use Rattle.loop_text.specs.Statements.Setting.{first_touching}
use Rattle.java_mean.specs.Refines.{followed_by}
use Rattle.java_mean.proofs.Puts.{name_same}
use Rattle.java_loops.specs.Kernel.Kernel.{lowering}
use Rattle.java_loops.specs.Kernel.Setting.{Setting, setting_of}
use Rattle.java_loops.specs.Lowering.Lowered.{needed_in_order, set_in_order}
use Rattle.java_loops.specs.Meant.Asking.{IsForStarted}
use Rattle.java_loops.specs.Meant.Members.{AreMatched}
use Rattle.java_loops.specs.Walks.Replacing.{Ask, asking, asked}
use Rattle.java_loops.proofs.Lowering.LowerChains.{at_setting}
use Rattle.java_loops.proofs.Nested.NestNames.{among_filtered}
use Rattle.java_loops.proofs.Nested.NestRules.{Unbroken}
use Rattle.java_loops.proofs.Placing.PlaceLoop.{kernel_unbroken}
use Rattle.java_loops.proofs.Standing.StandingRules.{first_none, none_where}
use Rattle.java_loops.proofs.Starts.Start.{IsStarted, accumulator_started}
use Rattle.java_loops.proofs.Valid.ValidStarts.{given_sets}
use Rattle.lowering.specs.Asked.{IsKernelLoop}
use Rattle.rewrite_core.specs.Asked.{Place, ask_with, emitted_for, asks_from, asks_of}
use Rattle.rewrite_core.specs.Asking.{HasAsks}
use Rattle.rewrite_core.proofs.StartedAsks.{asks_are_for_needed}
use Rattle.java_stretches.specs.Focus.{Chain}

-- ---- One ask at least

own_name : (x : List ℕ) (xs : Names) → is_among (x ∷ xs) x ≡ true
own_name x xs = ap (λ (b : Bool). b || is_among xs x) (name_same x)

in_order_once : (xs : Names) (y : List ℕ) (ys : Names) (b : Bool) → cond b (y ∷ ys) ys ≡ [] → ys ≡ []
in_order_once xs y ys true e = absurd cc
in_order_once xs y ys false e = e

-- a statement of the run that sets one of the names
in_order_some : (xs : Names) (before : Statements) (s : Statement) (after : Statements) → is_among xs (set_by s) ≡ true → set_in_order xs (followed_by before (Then s after)) ≡ [] → ⊥
in_order_some xs Nothing s after h e =
    let is : cond true (set_by s ∷ set_in_order xs after) (set_in_order xs after) ≡ [] = sym (ap (λ (b : Bool). cond b (set_by s ∷ set_in_order xs after) (set_in_order xs after)) h) ∙ e in
    absurd cc
in_order_some xs (Then r before) s after h e =
    in_order_some xs before s after h (in_order_once xs (set_by r) (set_in_order xs (followed_by before (Then s after))) (is_among xs (set_by r)) e)

some_needed : (xs : Names) → is_none xs ≡ false → (x : List ℕ) × (is_among xs x ≡ true)
some_needed [] e = absurd cc
some_needed (x ∷ xs) e = (x, own_name x xs)

module _ (w : Setting) (unbroken : Unbroken w) where
  needs_some : needed_in_order w ≡ [] → ⊥
  needs_some e =
      let place : place_where (is_none (needed_of w.fragment) || any_site (is_idle_flag w.sites) 0 w.sites) (place_of w.fragment.loop) ≡ None =
      (first_none (place_where (is_none (needed_of w.fragment) || any_site (is_idle_flag w.sites) 0 w.sites) (place_of w.fragment.loop)) (first_broken (broken_update w.sites) 0 w.sites) unbroken.updates).0 in
      let some : is_none (needed_of w.fragment) ≡ false =
      (or_parts (is_none (needed_of w.fragment)) (any_site (is_idle_flag w.sites) 0 w.sites) (none_where (is_none (needed_of w.fragment) || any_site (is_idle_flag w.sites) 0 w.sites) (place_of w.fragment.loop) place)).0 in
      let x = some_needed (needed_of w.fragment) some in
      let started : IsStarted w.sites x.0 w.fragment.run = accumulator_started w unbroken.starts x.0 (among_filtered _ (accumulators w.fragment) x.0 x.1).0 in
      let sets : set_by started.statement ≡ x.0 = given_sets x.0 started.statement started.value started.given in
      in_order_some (needed_of w.fragment) started.before started.statement started.after (ap (is_among (needed_of w.fragment)) sets ∙ x.1) (sym (ap (set_in_order (needed_of w.fragment)) started.is) ∙ e)

needs : (schema : Schema) (read : List ℕ → Option PlainQuery) (l : Place) → IsKernelLoop schema read l.program l.path l.setting → needed_in_order l.setting ≡ [] → ⊥
needs schema read l k =
    at_setting (λ (z : Setting). needed_in_order z ≡ [] → ⊥) schema read l.program l.path l.setting k.typed k.numbers
    (λ f g there rules. needs_some (setting_of schema read g f) (kernel_unbroken (setting_of schema read g f) rules)) k.there k.unbroken

-- an ask, and a statement of the run that starts its variable
pub record SomeAsk (l : Place) : Type 0 where
  pub first : Ask
  pub others : List Ask
  pub are : asks_of l ≡ first ∷ others
  pub run : l.setting.fragment.run ≡ Nothing → ⊥

not_empty : (x : List ℕ) (run : Statements) (s : Statement) → first_touching x run ≡ Some s → run ≡ Nothing → ⊥
not_empty x Nothing s e is = absurd cc
not_empty x (Then a run) s e is = absurd cc

pub some_ask : (schema : Schema) (read : List ℕ → Option PlainQuery) (l : Place) → HasAsks schema read l.program l.path l.setting l.candidate → SomeAsk l
some_ask schema read l has = by (needed_in_order l.setting) (asks_of l) refl refl (asks_are_for_needed schema read l has).starts
  where
    by : (xs : Names) (ks : List Ask) → needed_in_order l.setting ≡ xs → asks_of l ≡ ks → AreMatched (IsForStarted l.setting) xs ks → SomeAsk l
    by [] ks e are matched = absurd (needs schema read l has.loop e)
    by (x ∷ xs) [] e are matched = absurd matched
    by (x ∷ xs) (k ∷ ks) e are matched =
        let one : IsForStarted l.setting x k = matched.0 in
        record { first = k; others = ks; are = are; run = not_empty x l.setting.fragment.run one.start one.found }

-- ---- At the loop's place

abbrev AtLoop : Place → Ask → Type 0
AtLoop l k = k.at ≡ place_of l.setting.fragment.loop

ask_at_loop : (l : Place) (x : List ℕ) (o : Option Accumulator) (e : Option Emission) → AllByRecursion (AtLoop l) (ask_with l x o e)
ask_at_loop l x (Some a) (Some e) = (refl, tt)
ask_at_loop l x (Some a) None = tt
ask_at_loop l x None (Some e) = tt
ask_at_loop l x None None = tt

asks_at_loop : (l : Place) (k : ℕ) (xs : Names) → AllByRecursion (AtLoop l) (asks_from l k xs)
asks_at_loop l k [] = tt
asks_at_loop l k (x ∷ xs) =
    all_joined (AtLoop l) (ask_with l x (slice_get (lowering l.setting).fragment.accs k) (emitted_for l.setting l.candidate k)) (asks_from l (suc k) xs)
    (ask_at_loop l x (slice_get (lowering l.setting).fragment.accs k) (emitted_for l.setting l.candidate k)) (asks_at_loop l (suc k) xs)

asked_place : (ty : Option Spelled) (at : Span) (x : List ℕ) (e : Expression) → place_of (asking ty at x e) ≡ at
asked_place (Some ty) at x e = refl
asked_place None at x e = refl

asked_simple : (ty : Option Spelled) (at : Span) (x : List ℕ) (e : Expression) → is_simple (asking ty at x e) ≡ true
asked_simple (Some ty) at x e = refl
asked_simple None at x e = refl

pub all_asked_simple : (ks : List Ask) → are_simple (asked ks) ≡ true
all_asked_simple [] = refl
all_asked_simple (k ∷ ks) = ap (λ (b : Bool). b && are_simple (asked ks)) (asked_simple k.ty k.at k.name k.value) ∙ all_asked_simple ks

chain_at : (at : Span) (ks : List Ask) → (at.line ≡ 0 → ⊥) → AllByRecursion (λ (k : Ask). k.at ≡ at) ks → Chain at.start at.start (asked ks)
chain_at at [] lined h = omega arith
chain_at at (k ∷ ks) lined h =
    let place : place_of (asking k.ty k.at k.name k.value) ≡ at = asked_place k.ty k.at k.name k.value ∙ h.0 in (
      omega (arith, ap (λ (a : Span). a.start) place),
      (λ z. lined (sym (ap (λ (a : Span). a.line) place) ∙ z)),
      subst (λ (n : ℕ). Chain n at.start (asked ks)) (sym (ap (λ (a : Span). a.start) place)) (chain_at at ks lined h.1),
    )

-- The asks begin one behind the other where the loop does.
pub asks_chain : (l : Place) → ((place_of l.setting.fragment.loop).line ≡ 0 → ⊥) → Chain (place_of l.setting.fragment.loop).start (place_of l.setting.fragment.loop).start (asked (asks_of l))
asks_chain l lined = chain_at (place_of l.setting.fragment.loop) (asks_of l) lined (asks_at_loop l 0 (needed_in_order l.setting))
