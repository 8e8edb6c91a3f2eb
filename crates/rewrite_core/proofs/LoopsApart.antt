-- Where no two loops of a program stand at one place, each is found by its place, and so it is behind a loop that gave way.
use Rattle.std.proofs.Common.{◌≡◌, ℕ, zero, suc, ◌==◌, ◌&&◌, ◌≤◌, Bool, true, false, List, [], ◌∷◌, ◌++◌, slice_get, Option, Some, None, refl, sym, ap, ap₂, ◌∙◌, subst, arith}
use Rattle.std.specs.Prelude.{if◌then◌else◌}
use Rattle.std.specs.List.{AllByRecursion}
use Rattle.std.proofs.lemmas.Bool.{and_parts, and_from}
use Rattle.qbs_base.specs.Values.{Schema}
use Rattle.qbs_base.specs.declared.span.Span.{Span}
use Rattle.sql_ast.proofs.Tools.{all_at}
use Rattle.sql_ast.specs.Tree.{PlainQuery}
use Rattle.sql_parts.proofs.Tools.{eq_true, eq_itself, get_map}
use Rattle.java_lex.specs.Spans.{SamePlace}
use Rattle.java_ast.specs.Path.{and_then, last_of}
use Rattle.java_ast.specs.Spans.{place_of}
use Rattle.java_ast.specs.Tree as tree
use Rattle.java_ast.specs.Tree.{Spelled, Expression, Statement, Statements, Nothing, Then, PlainProgram}
use Rattle.java_grammar.specs.Placing.{LeadToOnePlace}
use Rattle.java_types.specs.Texts.{read_by}
use Rattle.loop_text.specs.Sites.Sites.{has_number}
use Rattle.loop_text.specs.Statements.Fragment.{is_simple, are_simple, fragment_at}
use Rattle.loop_text.specs.Statements.KeptStatements.{with_numbers}
use Rattle.loop_text.specs.Statements.Loops.{loops_of}
use Rattle.java_loops.specs.Kernel.Kernel as kernel
use Rattle.java_loops.specs.Kernel.Kernel.{lowering, setting_at}
use Rattle.java_loops.specs.Kernel.Setting.{Setting}
use Rattle.java_ast.specs.Names.{names_read}
use Rattle.java_loops.specs.Meant.KeptNumbers.{kept_numbers}
use Rattle.java_loops.specs.Meant.LoopStands.{LoopStands}
use Rattle.java_loops.specs.Walks.Replacing.{Ask, asking, asked}
use Rattle.java_loops.proofs.Kept.KeptPath.{setting_fragment, setting_stands}
use Rattle.loop_lists.specs.Places.{path_to}
use Rattle.loop_lists.proofs.FirstLoops.{is_there}
use Rattle.loop_lists.proofs.LoopSites.{Site, site, sites_of, paths_of, paths_are, StandsAt, all_stand_at}
use Rattle.rewrite_core.specs.Asked.{Place, asks_of, number_of, first_of_run, replaced}
use Rattle.rewrite_core.specs.Checking.{LoopsStandApart}
use Rattle.rewrite_core.proofs.DistinctLoops.{loop_number}
use Rattle.rewrite_core.proofs.LoopPlaces.{places_in, places_among, places_of, places_at, sited, StandsAlone, AreApart, LeftOut, joined_places, rest_apart, stretch_out}
use Rattle.rewrite_core.proofs.StaysTyped.{first_there}
use Rattle.rewrite_core.proofs.Untried.{site_there}

-- ---- By paths and by places

alone : (s : Site) (ss : List Site) → ((n : ℕ) (t : Site) → slice_get ss n ≡ Some t → SamePlace s.at t.at → ⊥) → StandsAlone s.at (places_at ss)
alone s [] h = tt
alone s (t ∷ ts) h = (h 0 t refl, alone s ts (λ n u e same. h (suc n) u e same))

apart_by : (ss : List Site) → ((m n : ℕ) (s t : Site) → slice_get ss m ≡ Some s → slice_get ss n ≡ Some t → SamePlace s.at t.at → m ≡ n) → AreApart (places_at ss)
apart_by [] h = tt
apart_by (s ∷ ss) h = (
  alone s ss (λ n t e same. let none : zero ≡ suc n = h zero (suc n) s t refl e same in absurd (omega arith)),
  apart_by ss (λ m n a b e g same. let k : suc m ≡ suc n = h (suc m) (suc n) a b e g same in omega arith),
)

module _ (p : PlainProgram) where
  listed : (n : ℕ) (s : Site) → slice_get (sites_of p) n ≡ Some s → slice_get (loops_of p) n ≡ Some s.path
  listed n s e = ap (λ xs. slice_get xs n) (sym (paths_are p)) ∙ get_map (λ (x : Site). x.path) (sites_of p) n s e

  one_number : LoopsStandApart p → (m n : ℕ) (s t : Site) → slice_get (sites_of p) m ≡ Some s → slice_get (sites_of p) n ≡ Some t → SamePlace s.at t.at → m ≡ n
  one_number apart m n s t e g same =
      let k : StandsAt p s = all_at (StandsAt p) (sites_of p) m s (all_stand_at p) e in
      let l : StandsAt p t = all_at (StandsAt p) (sites_of p) n t (all_stand_at p) g in
      let one : LeadToOnePlace p s.path t.path =
      record {
        first = k.0;
        other = l.0;
        to_first = k.1;
        to_other = l.1;
        same = (ap (λ (x : Span). x.line) k.2 ∙ same.0 ∙ sym (ap (λ (x : Span). x.line) l.2), ap (λ (x : Span). x.column) k.2 ∙ same.1 ∙ sym (ap (λ (x : Span). x.column) l.2));
      }
      in
      let path : s.path ≡ t.path = apart m n s.path t.path (listed m s e) (listed n t g) one in
      loop_number p t.path m n (listed m s e ∙ ap Some path) (listed n t g)

  pub places_apart : LoopsStandApart p → AreApart (places_of p)
  places_apart apart = subst AreApart (sited p) (apart_by (sites_of p) (one_number apart))

-- ---- The loop at a place

own_place : (at : Span) → ((at.line == at.line) && (at.column == at.column)) ≡ true
own_place at = and_from (at.line == at.line) (at.column == at.column) (eq_itself at.line) (eq_itself at.column)

other_place : (at to : Span) → (SamePlace at to → ⊥) → ((at.line == to.line) && (at.column == to.column)) ≡ false
other_place at to differ = go ((at.line == to.line) && (at.column == to.column)) refl
  where
    go : (b : Bool) → ((at.line == to.line) && (at.column == to.column)) ≡ b → b ≡ false
    go false e = refl
    go true e = let two = and_parts (at.line == to.line) (at.column == to.column) e in absurd (differ (eq_true at.line to.line two.0, eq_true at.column to.column two.1))

same_some : (x s : Site) → Some x ≡ Some s → x ≡ s
same_some x s e = cc

found_first : (p : PlainProgram) (ss : List Site) (n : ℕ) (s : Site) → AllByRecursion (StandsAt p) ss → AreApart (places_at ss) → slice_get ss n ≡ Some s → path_to s.at.line s.at.column p (paths_of ss) ≡ Some s.path
found_first p [] n s stand apart e = absurd cc
found_first p (x ∷ ss) zero s stand apart e =
    let same : x ≡ s = same_some x s e in
    subst (λ (y : Site). path_to y.at.line y.at.column p (x.path ∷ paths_of ss) ≡ Some y.path) same
    (ap (λ b. if b then Some x.path else path_to x.at.line x.at.column p (paths_of ss)) (is_there p x x.at.line x.at.column stand.0 ∙ own_place x.at))
found_first p (x ∷ ss) (suc n) s stand apart e =
    let differ : SamePlace x.at s.at → ⊥ = all_at (λ (y : Span). SamePlace x.at y → ⊥) (places_at ss) n s.at apart.0 (get_map (λ (y : Site). y.at) ss n s e) in
    ap (λ b. if b then Some x.path else path_to s.at.line s.at.column p (paths_of ss)) (is_there p x s.at.line s.at.column stand.0 ∙ other_place x.at s.at differ)
    ∙ found_first p ss n s stand.1 apart.1 e

-- The first of a program's loops at the place of one is that one.
pub loop_found : (schema : Schema) (p : PlainProgram) (path : List ℕ) (n : ℕ) (w : Setting) → AreApart (places_of p) → slice_get (loops_of p) n ≡ Some path → setting_at schema (read_by schema) path p ≡ Some w
    → path_to (place_of w.fragment.loop).line (place_of w.fragment.loop).column p (loops_of p) ≡ Some path
loop_found schema p path n w apart e there =
    ap (path_to (place_of w.fragment.loop).line (place_of w.fragment.loop).column p) (sym (paths_are p))
    ∙ found_first p (sites_of p) n (site path (place_of w.fragment.loop)) (all_stand_at p) (subst AreApart (sym (sited p)) apart) (site_there schema p path n w e there)

-- ---- Behind a loop that gave way

no_place : (a : Statement) → is_simple a ≡ true → places_in a ≡ []
no_place (tree.Declare at ty x e) h = refl
no_place (tree.Assign at x e) h = refl
no_place (tree.Sort at x keys downs) h = refl
no_place (tree.Add at x e) h = absurd cc
no_place (tree.If at c a) h = absurd cc
no_place (tree.IfElse at c a b) h = absurd cc
no_place (tree.ForEach at ty x e b) h = absurd cc
no_place (tree.While at c b) h = absurd cc
no_place (tree.Print at e) h = absurd cc
no_place (tree.Return at e) h = absurd cc
no_place (tree.Break at) h = absurd cc

numbered_step : (a : Statement) (rest : Statements) (b : Bool) → is_simple a ≡ true → places_among rest ≡ [] → places_among (if b then Then a rest else rest) ≡ []
numbered_step a rest true h none = ap₂ (λ xs ys. xs ++ ys) (no_place a h) none
numbered_step a rest false h none = none

no_places_numbered : (numbers : List ℕ) (n : ℕ) (run : Statements) → are_simple run ≡ true → places_among (with_numbers numbers n run) ≡ []
no_places_numbered numbers n Nothing h = refl
no_places_numbered numbers n (Then a run) h =
    let two = and_parts (is_simple a) (are_simple run) h in
    numbered_step a (with_numbers numbers (suc n) run) (has_number numbers n) two.0 (no_places_numbered numbers (suc n) run two.1)

no_place_asked : (ty : Option Spelled) (at : Span) (x : List ℕ) (e : Expression) → places_in (asking ty at x e) ≡ []
no_place_asked (Some ty) at x e = refl
no_place_asked None at x e = refl

no_places_asked : (ks : List Ask) → places_among (asked ks) ≡ []
no_places_asked [] = refl
no_places_asked (k ∷ ks) = ap₂ (λ xs ys. xs ++ ys) (no_place_asked k.ty k.at k.name k.value) (no_places_asked ks)

no_places_instead : (numbers : List ℕ) (n : ℕ) (run : Statements) (ks : List Ask) → are_simple run ≡ true → places_among (and_then (with_numbers numbers n run) (asked ks)) ≡ []
no_places_instead numbers n run ks h =
    joined_places (with_numbers numbers n run) (asked ks) ∙ ap₂ (λ xs ys. xs ++ ys) (no_places_numbered numbers n run h) (no_places_asked ks)

-- Where a loop gives way, some places are left out.
pub places_left : (schema : Schema) (read : List ℕ → Option PlainQuery) (l : Place) → setting_at schema read l.path l.program ≡ Some l.setting → LeftOut (places_of (replaced l)) (places_of l.program)
places_left schema read l there =
    let leads : fragment_at l.path l.program ≡ Some l.setting.fragment = setting_fragment schema read l.program l.path l.setting (kernel.types_at schema l.path l.program) (fragment_at l.path l.program) refl there in
    let begins = first_there l.path l.program l.setting.fragment leads in
    let stands : LoopStands l.program l.path l.setting.fragment begins.0 = setting_stands schema read l.program l.path l.setting begins.0 there begins.1 in
    let few : first_of_run l ≤ last_of l.path = subst (λ n. n ≤ last_of l.path) (sym (ap number_of begins.1)) stands.before in
    let numbers : List ℕ = kept_numbers l.setting.fragment (names_read (lowering l.setting).entries) (first_of_run l) l.setting.fragment.run in
    stretch_out (and_then (with_numbers numbers (first_of_run l) l.setting.fragment.run) (asked (asks_of l))) (no_places_instead numbers (first_of_run l) l.setting.fragment.run (asks_of l) stands.simple) l.path (first_of_run l) l.program few

-- and those that are left are apart
pub replaced_apart : (schema : Schema) (read : List ℕ → Option PlainQuery) (l : Place) → setting_at schema read l.path l.program ≡ Some l.setting → AreApart (places_of l.program) → AreApart (places_of (replaced l))
replaced_apart schema read l there apart = rest_apart (places_of (replaced l)) (places_of l.program) (places_left schema read l there) apart
