-- The asks for a loop may stand behind the kept statements of its run: each stands for the statement that starts its variable in the
-- run, which broke no rule.
use Rattle.std.proofs.Common.{◌≡◌, ℕ, Bool, true, false, ◌&&◌, List, [], ◌∷◌, Option, Some, None, refl, sym, ap, ◌∙◌, subst, cond, bytes_eq, codes}
use Rattle.std.specs.List.{AllByRecursion}
use Rattle.std.proofs.lemmas.Bool.{or_left}
use Rattle.qbs_base.specs.declared.span.Span.{Span}
use Rattle.qbs_base.specs.Values.{Schema}
use Rattle.sql_ast.specs.Tree.{PlainQuery}
use Rattle.java_ast.specs.Tree as tree
use Rattle.java_ast.specs.Tree.{Spelled, Expression, Statement, Statements, Nothing, Then}
use Rattle.java_mean.specs.declared.rule.TypeRule.{TypeRule}
use Rattle.java_mean.specs.declared.rule.TypeRule.TheVariants as rules
use Rattle.java_mean.specs.Fits.{in_first}
use Rattle.java_mean.specs.Places.{Around, step, is_nothing, in_parts}
use Rattle.java_mean.specs.Rules.{only_if, is_set_of_rows, is_walked, taken, set_of_rows}
use Rattle.java_mean.specs.Types.{Types, types_after, types_past}
use Rattle.java_mean.specs.Typing.{Extends}
use Rattle.java_mean.specs.Visible.{Visible, is_visible, after}
use Rattle.java_mean.specs.WellTyped.{marked, faults_at, faults_in}
use Rattle.java_mean.proofs.Faultless.{Both, none_both, none_in, fine, only_none, neither, Sees, unseen}
use Rattle.loop_text.specs.Statements.Fragment.{set_by}
use Rattle.java_ast.specs.Names.{Names, is_among, mentioned_in}
use Rattle.loop_text.specs.Statements.Setting.{touches, first_touching}
use Rattle.java_loops.specs.Kernel.Setting.{Setting}
use Rattle.java_loops.specs.Meant.Asking.{spelled_by, IsForStarted}
use Rattle.java_loops.specs.Meant.Members.{AreMatched}
use Rattle.java_loops.specs.Walks.Reads.{Set}
use Rattle.java_loops.specs.Walks.Replacing.{Ask, IsThere, AllFit, HasSameType, HaveSameTypes}
use Rattle.java_loops.specs.Walks.Runs.{Gives, declares, assigns, kept}
use Rattle.java_loops.proofs.Kept.KeptAlone.{given_sets}
use Rattle.java_loops.proofs.Kept.KeptPath.{some_is}
use Rattle.java_loops.proofs.Nested.NestStarts.{Starts, here, later}
use Rattle.java_loops.proofs.Placing.PlaceRuns.{gives}
use Rattle.java_loops.proofs.Walks.Names.{apart_other}
use Rattle.rewrite_core.specs.Asking.{MayStand, AllMayStand}
use Rattle.rewrite_core.proofs.EachName.{unseen_earlier}
use Rattle.rewrite_core.proofs.KeptFaultless.{type_kept}

-- ---- What starts a variable

marked_none : (rule : TypeRule) (b : Bool) (at : Span) → marked rule (only_if b at) ≡ [] → b ≡ false
marked_none rule true at h = absurd cc
marked_none rule false at h = refl

module _ (schema : Schema) (read : List ℕ → Option PlainQuery) (r : Option Spelled) (round : Around) where
  -- A statement that starts a variable may stand there: what it declares isn't visible and may be declared, and what it assigns
  -- isn't walked.
  abbrev IsFree : Visible → Option Spelled → List ℕ → Type 0
  IsFree vs (Some ty) x = (is_visible vs x ≡ false) × (bytes_eq x (codes "db") ≡ false) × (is_set_of_rows ty ≡ false)
  IsFree vs None x = is_walked round x ≡ false

  declared_free : (vs : Visible) (last : Bool) (at : Span) (ty : Spelled) (x : List ℕ) (e : Expression) → faults_at schema read r (step vs round last (tree.Declare at ty x e)) ≡ [] → IsFree vs (Some ty) x
  declared_free vs last at ty x e h =
      let k = fine schema read r (step vs round last (tree.Declare at ty x e)) h in
      let new = neither (is_visible vs x) (bytes_eq x (codes "db")) (only_none (taken vs x) at k.single) in
      (new.left, new.right, only_none (is_set_of_rows ty) at (none_both (set_of_rows ty at) _ k.matched).left)

  assigned_free : (vs : Visible) (last : Bool) (at : Span) (x : List ℕ) (e : Expression) → faults_at schema read r (step vs round last (tree.Assign at x e)) ≡ [] → IsFree vs None x
  assigned_free vs last at x e h =
      let a = none_both (marked rules.Unknown _) _ h in
      let b = none_both (marked rules.Mismatch _) _ a.right in
      let c = none_both (marked rules.ListAlias _) _ b.right in
      let d : Both (marked rules.ModifiedInLoop (only_if (is_walked round x) at) ≡ []) _ = none_both (marked rules.ModifiedInLoop (only_if (is_walked round x) at)) _ c.right in
      marked_none rules.ModifiedInLoop (is_walked round x) at d.left

  given_free : (vs : Visible) (last : Bool) (s : Statement) (x : List ℕ) (e : Expression) → Gives s x e → faults_at schema read r (step vs round last s) ≡ [] → IsFree vs (spelled_by s) x
  given_free vs last _ _ _ (declares at ty x e) h = declared_free vs last at ty x e h
  given_free vs last _ _ _ (assigns at x e) h = assigned_free vs last at x e h

  free_earlier : (vs : Visible) (a : Statement) (o : Option Spelled) (x : List ℕ) → IsFree (after schema vs a) o x → IsFree vs o x
  free_earlier vs a (Some ty) x h = (unseen_earlier schema vs a x h.0, h.1, h.2)
  free_earlier vs a None x h = h

  -- In a run that breaks no rule the statement that starts a variable might stand before all.
  started_free : (x : List ℕ) (run : Statements) (vs : Visible) (s : Statement) → Starts x run → first_touching x run ≡ Some s → faults_in schema read r (in_first schema vs round false run) ≡ [] → IsFree vs (spelled_by s) x
  started_free x _ vs s (here a p e given plain none) found h =
      let two = none_in schema read r (step vs round (is_nothing p && false) a ∷ in_parts schema vs round a) (in_first schema (after schema vs a) round false p) h in
      let one = none_both (faults_at schema read r (step vs round (is_nothing p && false) a)) (faults_in schema read r (in_parts schema vs round a)) two.left in
      let touched : touches x a ≡ true = or_left (bytes_eq (set_by a) x) (is_among (mentioned_in a) x) (given_sets x a e given) in
      let same : a ≡ s = some_is a s (sym (ap (λ b. cond b (Some a) (first_touching x p)) touched) ∙ found) in
      subst (λ z. IsFree vs (spelled_by z) x) same (given_free vs (is_nothing p && false) a x e (gives x a e given) one.left)
  started_free x _ vs s (later a p other k) found h =
      let two = none_in schema read r (step vs round (is_nothing p && false) a ∷ in_parts schema vs round a) (in_first schema (after schema vs a) round false p) h in
      free_earlier vs a (spelled_by s) x (started_free x p (after schema vs a) s k (sym (ap (λ b. cond b (Some a) (first_touching x p)) other) ∙ found) two.right)

-- ---- What kept statements leave

kept_step : (schema : Schema) (r : Set) (a : Statement) (p : Statements) (h : Types) (x : List ℕ) (b : Bool) → r (set_by a) ≡ b → r x ≡ false → types_past schema (types_after schema h a) (kept r p) x ≡ types_after schema h a x → types_past schema h (kept r p) x ≡ h x → types_past schema h (cond b (Then a (kept r p)) (kept r p)) x ≡ h x
kept_step schema r a p h x true e out further skipped = further ∙ type_kept schema h a x (apart_other r (set_by a) x e out)
kept_step schema r a p h x false e out further skipped = skipped

-- a variable outside the set keeps its type
pub kept_unset : (schema : Schema) (r : Set) (p : Statements) (h : Types) (x : List ℕ) → r x ≡ false → types_past schema h (kept r p) x ≡ h x
kept_unset schema r Nothing h x out = refl
kept_unset schema r (Then a p) h x out = kept_step schema r a p h x (r (set_by a)) refl out (kept_unset schema r p (types_after schema h a) x out) (kept_unset schema r p h x out)

-- ---- Asks behind kept statements

module _ (schema : Schema) (read : List ℕ → Option PlainQuery) (result : Option Spelled) (round : Around) (vs : Visible) (before g : Types) (r : Set) (w : Setting) (sees : Sees vs before) (extends : Extends g before) (faultless : faults_in schema read result (in_first schema vs round false w.fragment.run) ≡ []) where
  abbrev behind : Types
  behind = types_past schema before (kept r w.fragment.run)

  one_stands : (ty : Option Spelled) (x : List ℕ) → IsFree schema read result round vs ty x → IsThere before ty x → HasSameType schema g ty x → behind x ≡ before x → MayStand schema round g behind ty x
  one_stands (Some ty) x free there same unset = (unset ∙ unseen vs before x sees free.0, free.1, free.2, sym same)
  one_stands None x free there same unset = (unset ∙ there.1 ∙ sym (extends x there.0 there.1), free)

  started_stands : (x : List ℕ) (k : Ask) (m : IsForStarted w x k) → Starts x w.fragment.run → IsThere before k.ty k.name → HasSameType schema g k.ty k.name → r k.name ≡ false → MayStand schema round g behind k.ty k.name
  started_stands x k m starts there same out =
      let free : IsFree schema read result round vs (spelled_by m.start) x = started_free schema read result round x w.fragment.run vs m.start starts m.found faultless in
      one_stands k.ty k.name (subst (λ ty. IsFree schema read result round vs ty k.name) (sym m.ty) (subst (IsFree schema read result round vs (spelled_by m.start)) (sym m.name) free)) there same (kept_unset schema r w.fragment.run before k.name out)

  -- Asks for variables that the run starts may stand behind its kept statements.
  pub all_stand : (xs : Names) (ks : List Ask) → AreMatched (IsForStarted w) xs ks → AllByRecursion (λ x. Starts x w.fragment.run) xs → AllFit r before ks → HaveSameTypes schema g ks → AllMayStand schema round g (types_past schema before (kept r w.fragment.run)) ks
  all_stand [] [] m starts fits same = tt
  all_stand (x ∷ xs) (k ∷ ks) m starts fits same = (started_stands x k m.0 starts.0 fits.0.there same.0 fits.0.apart, fits.0.once, all_stand xs ks m.1 starts.1 fits.1 same.1)
  all_stand [] (k ∷ ks) m starts fits same = absurd m
  all_stand (x ∷ xs) [] m starts fits same = absurd m
