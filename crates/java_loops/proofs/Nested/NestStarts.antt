-- A variable that the loop sets is no list that the run fetches or asks for: its one statement in the run starts it.
use Rattle.std.proofs.Common.{◌≡◌, ℕ, Bool, true, false, not, ◌&&◌, List, [], ◌∷◌, Option, Some, None, refl, sym, ap, ◌∙◌, cond, bytes_eq}
use Rattle.std.specs.List.{filter, list_any}
use Rattle.std.proofs.lemmas.Bool.{or_parts, and_parts, not_from_false, cond-true, cond-false}
use Rattle.qbs_base.specs.declared.span.Span.{Span}
use Rattle.java_ast.specs.Tree as tree
use Rattle.java_ast.specs.Tree.{Spelled, Expression, Statement, Statements, Nothing, Then}
use Rattle.loop_text.specs.Statements.Fragment.{set_by, accumulators}
use Rattle.loop_text.specs.Kernel.KernelConditions.{asked_by, asked_in, asked_in_found, asked_for, first_setting, behind_setting}
use Rattle.java_loops.specs.Kernel.KernelConditions.{is_known, is_known_query}
use Rattle.loop_text.specs.Kernel.KernelForms.{Form, adds, counts, sums, takes, marks, other}
use Rattle.loop_text.specs.Kernel.KernelLists.{Source, fetched, source_after, source_past}
use Rattle.loop_text.specs.Kernel.KernelLoop.{is_zero_given, sets_zero, starts_at_zero}
use Rattle.loop_text.specs.Kernel.KernelStarts.{may_start, may_start_so, form_found, update_of, starts, broken_starts_of, broken_flag_start}
use Rattle.loop_text.specs.Kernel.KernelStatements.{is_none}
use Rattle.java_ast.specs.Names.{Names, is_among, mentioned_in}
use Rattle.java_loops.specs.Kernel.Setting.{Setting}
use Rattle.loop_text.specs.Statements.Setting.{touches, first_touching, behind_touching, touched_again, given_by, is_found, is_literal_number}
use Rattle.loop_text.specs.Sites.Sites.{Site, place_of, place_where, first_broken}
use Rattle.java_loops.proofs.Nested.NestNames.{among_fails, among_filter}
use Rattle.java_loops.proofs.Nested.NestRules.{Unbroken, and_second, true_from_not, false_from_not}
use Rattle.java_loops.proofs.Standing.StandingRules.{none_where, first_none}

-- the expression is no fetch and no query
pub record IsPlain (e : Expression) : Type 0 where
  pub fetch : fetched e ≡ None
  pub query : asked_by e ≡ None

-- The first statement of a run that mentions the variable gives it a plain value, and no later one mentions it.
pub data Starts (x : List ℕ) : Statements → Type 0 where
  here : (s : Statement) (ss : Statements) (e : Expression) → given_by x s ≡ Some e → IsPlain e → is_found (first_touching x ss) ≡ false → Starts x (Then s ss)
  later : (s : Statement) (ss : Statements) → touches x s ≡ false → Starts x ss → Starts x (Then s ss)

-- ---- Where a started variable comes from

source_kept : (x : List ℕ) (s : Statement) (o : Option Source) → bytes_eq (set_by s) x ≡ false → source_after x s o ≡ o
source_kept x (tree.Declare at ty y e) o h = cond-false (bytes_eq y x) (fetched e) o h
source_kept x (tree.Assign at y e) o h = cond-false (bytes_eq y x) (fetched e) o h
source_kept x (tree.Add at y e) o h = refl
source_kept x (tree.Sort at y keys downs) o h = cond-false (bytes_eq y x) _ o h
source_kept x (tree.If at c p) o h = refl
source_kept x (tree.IfElse at c p q) o h = refl
source_kept x (tree.ForEach at ty y e b) o h = refl
source_kept x (tree.While at c b) o h = refl
source_kept x (tree.Print at e) o h = refl
source_kept x (tree.Return at e) o h = refl
source_kept x (tree.Break at) o h = refl

-- a statement that isn't touching sets another variable
set_other : (x : List ℕ) (s : Statement) → touches x s ≡ false → bytes_eq (set_by s) x ≡ false
set_other x s h = (or_parts (bytes_eq (set_by s) x) (is_among (mentioned_in s) x) h).0

first_step : (x : List ℕ) (s : Statement) (ss : Statements) (b : Bool) → touches x s ≡ b → is_found (cond b (Some s) (first_touching x ss)) ≡ false → (touches x s ≡ false) × (is_found (first_touching x ss) ≡ false)
first_step x s ss true e h = absurd cc
first_step x s ss false e h = (e, h)

none_touches : (x : List ℕ) (s : Statement) (ss : Statements) → is_found (first_touching x (Then s ss)) ≡ false → (touches x s ≡ false) × (is_found (first_touching x ss) ≡ false)
none_touches x s ss h = first_step x s ss (touches x s) refl h

source_untouched : (x : List ℕ) (ss : Statements) → is_found (first_touching x ss) ≡ false → source_past x None ss ≡ None
source_untouched x Nothing h = refl
source_untouched x (Then s ss) h =
    let two = none_touches x s ss h in
    ap (λ o. source_past x o ss) (source_kept x s None (set_other x s two.0)) ∙ source_untouched x ss two.1

given_step : (b : Bool) (e z : Expression) → cond b (Some z) None ≡ Some e → (b ≡ true) × (z ≡ e)
given_step true e z h = (refl, cc)
given_step false e z h = absurd cc

given_source : (x : List ℕ) (s : Statement) (e : Expression) → given_by x s ≡ Some e → IsPlain e → source_after x s None ≡ None
given_source x (tree.Declare at ty y z) e h p = let two = given_step (bytes_eq y x) e z h in cond-true (bytes_eq y x) (fetched z) None two.0 ∙ ap fetched two.1 ∙ p.fetch
given_source x (tree.Assign at y z) e h p = let two = given_step (bytes_eq y x) e z h in cond-true (bytes_eq y x) (fetched z) None two.0 ∙ ap fetched two.1 ∙ p.fetch
given_source x (tree.Add at y z) e h p = absurd cc
given_source x (tree.Sort at y keys downs) e h p = absurd cc
given_source x (tree.If at c a) e h p = absurd cc
given_source x (tree.IfElse at c a b) e h p = absurd cc
given_source x (tree.ForEach at ty y z b) e h p = absurd cc
given_source x (tree.While at c b) e h p = absurd cc
given_source x (tree.Print at z) e h p = absurd cc
given_source x (tree.Return at z) e h p = absurd cc
given_source x (tree.Break at) e h p = absurd cc

-- a started variable is no list that the run fetches
pub no_source : (x : List ℕ) (run : Statements) → Starts x run → source_past x None run ≡ None
no_source x _ (here s ss e g p f) = ap (λ o. source_past x o ss) (given_source x s e g p) ∙ source_untouched x ss f
no_source x _ (later s ss t k) = ap (λ o. source_past x o ss) (source_kept x s None (set_other x s t)) ∙ no_source x ss k

given_asked : (x : List ℕ) (s : Statement) (e : Expression) → given_by x s ≡ Some e → IsPlain e → (bytes_eq (set_by s) x ≡ true) × (asked_in s ≡ None)
given_asked x (tree.Declare at ty y z) e h p = let two = given_step (bytes_eq y x) e z h in (two.0, ap asked_by two.1 ∙ p.query)
given_asked x (tree.Assign at y z) e h p = let two = given_step (bytes_eq y x) e z h in (two.0, ap asked_by two.1 ∙ p.query)
given_asked x (tree.Add at y z) e h p = absurd cc
given_asked x (tree.Sort at y keys downs) e h p = absurd cc
given_asked x (tree.If at c a) e h p = absurd cc
given_asked x (tree.IfElse at c a b) e h p = absurd cc
given_asked x (tree.ForEach at ty y z b) e h p = absurd cc
given_asked x (tree.While at c b) e h p = absurd cc
given_asked x (tree.Print at z) e h p = absurd cc
given_asked x (tree.Return at z) e h p = absurd cc
given_asked x (tree.Break at) e h p = absurd cc

-- a started variable is no list that the run asks for
pub no_query : (x : List ℕ) (run : Statements) → Starts x run → asked_for run x ≡ None
no_query x _ (here s ss e g p f) = let two = given_asked x s e g p in ap asked_in_found (cond-true (bytes_eq (set_by s) x) (Some s) (first_setting x ss) two.0) ∙ two.1
no_query x _ (later s ss t k) = ap asked_in_found (cond-false (bytes_eq (set_by s) x) (Some s) (first_setting x ss) (set_other x s t)) ∙ no_query x ss k

-- ---- Accumulators are started

no_fetch : (form : Form) (at : Span) (table : List ℕ) → may_start form (tree.Fetch at table) ≡ true → ⊥
no_fetch (adds t) at table h = absurd cc
no_fetch counts at table h = absurd cc
no_fetch (sums c) at table h = absurd cc
no_fetch (takes c) at table h = absurd cc
no_fetch (marks b) at table h = absurd cc
no_fetch other at table h = absurd cc

no_ask : (form : Form) (at : Span) (ty : Spelled) (text : List ℕ) (es : tree.Expressions) → may_start form (tree.Query at ty text es) ≡ true → ⊥
no_ask (adds t) at ty text es h = absurd cc
no_ask counts at ty text es h = absurd cc
no_ask (sums c) at ty text es h = absurd cc
no_ask (takes c) at ty text es h = absurd cc
no_ask (marks b) at ty text es h = absurd cc
no_ask other at ty text es h = absurd cc

no_set : (form : Form) (at : Span) (e : Expression) → may_start form (tree.NewSetOf at e) ≡ true → ⊥
no_set (adds t) at e h = absurd cc
no_set counts at e h = absurd cc
no_set (sums c) at e h = absurd cc
no_set (takes c) at e h = absurd cc
no_set (marks b) at e h = absurd cc
no_set other at e h = absurd cc

start_plain : (form : Form) (e : Expression) → may_start form e ≡ true → IsPlain e
start_plain form (tree.Lit at x) h = record { fetch = refl; query = refl }
start_plain form (tree.Var at x) h = record { fetch = refl; query = refl }
start_plain form (tree.Field at e f) h = record { fetch = refl; query = refl }
start_plain form (tree.Binary at op a b) h = record { fetch = refl; query = refl }
start_plain form (tree.Not at e) h = record { fetch = refl; query = refl }
start_plain form (tree.Equals at a b) h = record { fetch = refl; query = refl }
start_plain form (tree.Size at x) h = record { fetch = refl; query = refl }
start_plain form (tree.Get at x e) h = record { fetch = refl; query = refl }
start_plain form (tree.Contains at x e) h = record { fetch = refl; query = refl }
start_plain form (tree.Fetch at t) h = absurd (no_fetch form at t h)
start_plain form (tree.Query at ty text es) h = absurd (no_ask form at ty text es h)
start_plain form (tree.QueryLong at text es) h = record { fetch = refl; query = refl }
start_plain form (tree.QueryBoolean at text es) h = record { fetch = refl; query = refl }
start_plain form (tree.NewList at) h = record { fetch = refl; query = refl }
start_plain form (tree.NewSet at) h = record { fetch = refl; query = refl }
start_plain form (tree.NewSetOf at e) h = absurd (no_set form at e h)

started : (form : Form) (x : List ℕ) (s : Statement) (ss : Statements) (o : Option Expression) → given_by x s ≡ o → may_start_so form o ≡ true → is_found (first_touching x ss) ≡ false → Starts x (Then s ss)
started form x s ss None g h f = absurd cc
started form x s ss (Some e) g h f = here s ss e g (start_plain form e h) f

start_step : (sites : List Site) (x : List ℕ) (s : Statement) (ss : Statements) (xs : Names) (b : Bool) → touches x s ≡ b → is_among xs x ≡ true → list_any (λ y. touches y s && not (starts sites s ss y)) xs ≡ false → (is_among (filter (λ y. not (touches y s)) xs) x ≡ true → Starts x ss) → Starts x (Then s ss)
start_step sites x s ss xs true e m h more =
    let fails : (touches x s && not (starts sites s ss x)) ≡ false = among_fails (λ y. touches y s && not (starts sites s ss y)) xs x m h in
    let is : starts sites s ss x ≡ true = true_from_not (starts sites s ss x) (and_second (touches x s) (not (starts sites s ss x)) fails e) in
    let form : Form = form_found sites (update_of sites x) in
    let two = and_parts (may_start_so form (given_by x s)) (not (is_found (first_touching x ss))) is in
    started form x s ss (given_by x s) refl two.0 (false_from_not (is_found (first_touching x ss)) two.1)
start_step sites x s ss xs false e m h more = later s ss e (more (among_filter (λ y. not (touches y s)) xs x m (not_from_false (touches x s) e)))

none_among : (xs : Names) (x : List ℕ) → is_none xs ≡ true → is_among xs x ≡ true → ⊥
none_among [] x e h = absurd cc
none_among (y ∷ ys) x e h = absurd cc

started_in : (sites : List Site) (at : Span) (x : List ℕ) (run : Statements) (xs : Names) → is_among xs x ≡ true → broken_starts_of sites at xs run ≡ None → Starts x run
started_in sites at x Nothing xs m h = absurd (none_among xs x (true_from_not (is_none xs) (none_where (not (is_none xs)) at h)) m)
started_in sites at x (Then s ss) xs m h =
    let two = first_none (place_where (list_any (λ y. touches y s && not (starts sites s ss y)) xs) (place_of s)) (broken_starts_of sites at (filter (λ y. not (touches y s)) xs) ss) h in
    start_step sites x s ss xs (touches x s) refl m (none_where (list_any (λ y. touches y s && not (starts sites s ss y)) xs) (place_of s) two.0) (λ more. started_in sites at x ss (filter (λ y. not (touches y s)) xs) more two.1)

pub accumulator_starts : (w : Setting) → Unbroken w → (x : List ℕ) → is_among (accumulators w.fragment) x ≡ true → Starts x w.fragment.run
accumulator_starts w u x m =
    started_in w.sites (place_of w.fragment.loop) x w.fragment.run (accumulators w.fragment) m (first_none (broken_starts_of w.sites (place_of w.fragment.loop) (accumulators w.fragment) w.fragment.run) (first_broken (broken_flag_start w.sites) 0 w.sites) u.starts).0

-- ---- A counter is started

number_plain : (e : Expression) → is_literal_number 0 e ≡ true → IsPlain e
number_plain (tree.Lit at x) h = record { fetch = refl; query = refl }
number_plain (tree.Var at x) h = absurd cc
number_plain (tree.Field at e f) h = absurd cc
number_plain (tree.Binary at op a b) h = absurd cc
number_plain (tree.Not at e) h = absurd cc
number_plain (tree.Equals at a b) h = absurd cc
number_plain (tree.Size at x) h = absurd cc
number_plain (tree.Get at x e) h = absurd cc
number_plain (tree.Contains at x e) h = absurd cc
number_plain (tree.Fetch at t) h = absurd cc
number_plain (tree.Query at ty text es) h = absurd cc
number_plain (tree.QueryLong at text es) h = absurd cc
number_plain (tree.QueryBoolean at text es) h = absurd cc
number_plain (tree.NewList at) h = absurd cc
number_plain (tree.NewSet at) h = absurd cc
number_plain (tree.NewSetOf at e) h = absurd cc

zero_given : (x : List ℕ) (s : Statement) (ss : Statements) (o : Option Expression) → given_by x s ≡ o → is_zero_given o ≡ true → is_found (first_touching x ss) ≡ false → Starts x (Then s ss)
zero_given x s ss None g h f = absurd cc
zero_given x s ss (Some e) g h f = here s ss e g (number_plain e h) f

zero_step : (x : List ℕ) (s : Statement) (ss : Statements) (b : Bool) → touches x s ≡ b → sets_zero x (cond b (Some s) (first_touching x ss)) ≡ true → is_found (first_touching x (cond b ss (behind_touching x ss))) ≡ false → (sets_zero x (first_touching x ss) ≡ true → touched_again x ss ≡ false → Starts x ss) → Starts x (Then s ss)
zero_step x s ss true e h f more = zero_given x s ss (given_by x s) refl h f
zero_step x s ss false e h f more = later s ss e (more h f)

zero_starts : (x : List ℕ) (run : Statements) → sets_zero x (first_touching x run) ≡ true → touched_again x run ≡ false → Starts x run
zero_starts x Nothing h f = absurd cc
zero_starts x (Then s ss) h f = zero_step x s ss (touches x s) refl h f (λ i j. zero_starts x ss i j)

pub counter_starts : (x : List ℕ) (run : Statements) → starts_at_zero x run ≡ true → Starts x run
counter_starts x run h =
    let two = and_parts (sets_zero x (first_touching x run)) (not (touched_again x run)) h in
    zero_starts x run two.0 (false_from_not (touched_again x run) two.1)

-- ---- Lists aren't started

pub source_not_started : (x : List ℕ) (run : Statements) → is_found (source_past x None run) ≡ true → Starts x run → ⊥
source_not_started x run h s = let e : is_found (source_past x None run) ≡ false = ap is_found (no_source x run s) in absurd cc

pub known_not_started : (w : Setting) (n : ℕ) (x : List ℕ) → is_known w n x ≡ true → Starts x w.fragment.run → ⊥
known_not_started w n x h s =
    let two = and_parts (not (is_found (first_setting x (behind_setting x w.fragment.run)))) (is_known_query w n (behind_setting x w.fragment.run) (asked_for w.fragment.run x)) h in
    let e : is_known_query w n (behind_setting x w.fragment.run) None ≡ true = ap (λ o. is_known_query w n (behind_setting x w.fragment.run) o) (sym (no_query x w.fragment.run s)) ∙ two.1 in
    absurd cc
