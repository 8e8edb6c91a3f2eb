-- A loop that a `break` ends holds one update, directly before that.
use Rattle.std.proofs.Common.{◌≡◌, ℕ, suc, Bool, true, false, not, ◌&&◌, List, [], ◌∷◌, ◌++◌, Option, Some, None, refl, sym, ap, ◌∙◌, subst, slice_get, arith, nat_eq, eqb-true, eq-eqb, ⊎_elim}
use Rattle.std.proofs.lemmas.Bool.{cases_Bool, and_parts, and_from, or_left, or_right}
use Rattle.std.proofs.lemmas.List.Folds.{list_any-append}
use Rattle.qbs_base.specs.declared.span.Span.{Span}
use Rattle.java_ast.specs.Tree as tree
use Rattle.java_ast.specs.Tree.{Expression, Statement, Statements}
use Rattle.java_loops.specs.Walks.Nests.{Mark, IsLiteral, Allows, HoldsMark}
use Rattle.loop_text.specs.Kernel.KernelStatements.{is_allowed, is_after_flag, sets_flag, is_truth_literal, is_counted, is_break, is_innermost_of, is_beside_break}
use Rattle.java_loops.specs.Kernel.Setting.{Setting}
use Rattle.loop_text.specs.Sites.Sites.{Round, Site, in_loop, in_branch, innermost, has_number, any_site, is_update}
use Rattle.java_loops.proofs.Nested.NestRules.{Unbroken, allowed_at, beside_at, and_second, true_from_not}
use Rattle.java_loops.proofs.Standing.Standing.{is_single, site_of}
use Rattle.java_loops.proofs.Standing.StandingKnown.{Before, Known}
use Rattle.java_loops.proofs.Standing.StandingRules.{get_same, fails_at, PassesAt, passes_at}
use Rattle.java_loops.proofs.Standing.StandingWithin.{Under, under_loop, under_branch}

-- the sites of a fragment in which no rule is broken
pub record Sound (w : Setting) : Type 0 where
  pub unbroken : Unbroken w
  pub known : (n : ℕ) (s : Site) → slice_get w.sites n ≡ Some s → Known w.sites n s
  pub first : Site
  pub first_there : slice_get w.sites 0 ≡ Some first
  pub first_flat : first.round.loops ≡ []

-- ---- Marks

-- a statement assigns the literal of the mark
pub record IsMark (m : Mark) (s : Statement) : Type 0 where
  pub at : Span
  pub at_literal : Span
  pub is : s ≡ tree.Assign at m.name (tree.Lit at_literal m.value)

abbrev pub MarkUpdate : Option Mark → Statement → Type 0
MarkUpdate None s = Unit {0}
MarkUpdate (Some m) s = IsMark m s

-- what stands before a `break` is the mark
pub record MarkBreak (inner : Option Mark) (previous : Option Statement) : Type 0 where
  pub mark : Mark
  pub is : inner ≡ Some mark
  pub statement : Statement
  pub was : previous ≡ Some statement
  pub marks : IsMark mark statement

-- Each update in a loop is the mark, where there is one, and each `break` that ends the loop stands behind it.
pub record MarkFits (w : Setting) (r : Round) (inner : Option Mark) : Type 0 where
  pub updates : (n : ℕ) (s : Site) → slice_get w.sites n ≡ Some s → is_update s.statement ≡ true → Under r s.round → MarkUpdate inner s.statement
  pub breaks : (n : ℕ) (s : Site) → slice_get w.sites n ≡ Some s → is_break s.statement ≡ true → Under r s.round → innermost s.round.loops ≡ innermost r.loops → MarkBreak inner s.previous

-- ---- The statement before a `break`

break_after : (sites : List Site) (t : Site) (s : Statement) → is_break s ≡ true → is_allowed sites t s ≡ true → is_after_flag t.previous ≡ true
break_after sites t (tree.Declare at ty x e) b h = absurd cc
break_after sites t (tree.Assign at x e) b h = absurd cc
break_after sites t (tree.Add at x e) b h = absurd cc
break_after sites t (tree.Sort at x keys downs) b h = absurd cc
break_after sites t (tree.If at c p) b h = absurd cc
break_after sites t (tree.IfElse at c p q) b h = absurd cc
break_after sites t (tree.ForEach at ty x e p) b h = absurd cc
break_after sites t (tree.While at c p) b h = absurd cc
break_after sites t (tree.Print at e) b h = absurd cc
break_after sites t (tree.Return at e) b h = absurd cc
break_after sites t (tree.Break at) b h = (and_parts (is_after_flag t.previous) (not (is_counted sites (innermost t.round.loops))) h).0

record FlagBefore (previous : Option Statement) : Type 0 where
  statement : Statement
  was : previous ≡ Some statement
  mark : Mark
  marks : IsMark mark statement

flag_literal : (at : Span) (x : List ℕ) (e : Expression) → is_truth_literal e ≡ true → FlagBefore (Some (tree.Assign at x e))
flag_literal at x (tree.Lit at' value) h = record { statement = tree.Assign at x (tree.Lit at' value); was = refl; mark = record { name = x; value = value }; marks = record { at = at; at_literal = at'; is = refl } }
flag_literal at x (tree.Var at' y) h = absurd cc
flag_literal at x (tree.Field at' e f) h = absurd cc
flag_literal at x (tree.Binary at' op a b) h = absurd cc
flag_literal at x (tree.Not at' e) h = absurd cc
flag_literal at x (tree.Equals at' a b) h = absurd cc
flag_literal at x (tree.Size at' y) h = absurd cc
flag_literal at x (tree.Get at' y e) h = absurd cc
flag_literal at x (tree.Contains at' y e) h = absurd cc
flag_literal at x (tree.Fetch at' t) h = absurd cc
flag_literal at x (tree.Query at' ty text es) h = absurd cc
flag_literal at x (tree.QueryLong at' text es) h = absurd cc
flag_literal at x (tree.QueryBoolean at' text es) h = absurd cc
flag_literal at x (tree.NewList at') h = absurd cc
flag_literal at x (tree.NewSet at') h = absurd cc
flag_literal at x (tree.NewSetOf at' e) h = absurd cc

flag_statement : (s : Statement) → sets_flag s ≡ true → FlagBefore (Some s)
flag_statement (tree.Declare at ty x e) h = absurd cc
flag_statement (tree.Assign at x e) h = flag_literal at x e h
flag_statement (tree.Add at x e) h = absurd cc
flag_statement (tree.Sort at x keys downs) h = absurd cc
flag_statement (tree.If at c p) h = absurd cc
flag_statement (tree.IfElse at c p q) h = absurd cc
flag_statement (tree.ForEach at ty x e p) h = absurd cc
flag_statement (tree.While at c p) h = absurd cc
flag_statement (tree.Print at e) h = absurd cc
flag_statement (tree.Return at e) h = absurd cc
flag_statement (tree.Break at) h = absurd cc

flag_before : (previous : Option Statement) → is_after_flag previous ≡ true → FlagBefore previous
flag_before None h = absurd cc
flag_before (Some s) h = flag_statement s h

-- a `break` with the update directly before it
record Broken (w : Setting) (n : ℕ) (t : Site) : Type 0 where
  flag : FlagBefore t.previous
  before : Before w.sites t.round n flag.statement
  updates : is_update flag.statement ≡ true

broken_at : (w : Setting) → Sound w → (n : ℕ) (t : Site) → slice_get w.sites n ≡ Some t → is_break t.statement ≡ true → Broken w n t
broken_at w u n t get b =
    let flag : FlagBefore t.previous = flag_before t.previous (break_after w.sites t t.statement b (allowed_at w u.unbroken n t get)) in
    record { flag = flag; before = (u.known n t get).follows.by flag.statement flag.was (ap is_single flag.marks.is); updates = ap is_update flag.marks.is }

-- ---- The loop that a `break` ends

is_number : ℕ → Option ℕ → Bool
is_number j (Some i) = nat_eq j i
is_number j None = false

number_is : (j : ℕ) (o : Option ℕ) → is_number j o ≡ true → o ≡ Some j
unfolding is_number
number_is j (Some i) h = ap Some (sym (eqb-true j i h))
number_is j None h = absurd cc

is_number_of : (j : ℕ) (o : Option ℕ) → o ≡ Some j → is_number j o ≡ true
unfolding is_number
is_number_of j (Some i) h = let e : i ≡ j = cc in eq-eqb j i (sym e)
is_number_of j None h = absurd cc

innermost_has : (xs : List ℕ) (j : ℕ) → innermost xs ≡ Some j → has_number xs j ≡ true
innermost_has [] j h = absurd cc
innermost_has (x ∷ []) j h = let e : x ≡ j = cc in or_left (nat_eq j x) false (eq-eqb j x (sym e))
innermost_has (x ∷ y ∷ ys) j h = or_right (nat_eq j x) (has_number (y ∷ ys) j) (innermost_has (y ∷ ys) j h)

pub innermost_last : (xs : List ℕ) (n : ℕ) → innermost (xs ++ n ∷ []) ≡ Some n
innermost_last [] n = refl
innermost_last (x ∷ []) n = refl
innermost_last (x ∷ y ∷ ys) n = innermost_last (y ∷ ys) n

under_has : (r q : Round) (j : ℕ) → innermost r.loops ≡ Some j → Under r q → has_number q.loops j ≡ true
under_has r q j e u = ap (λ xs. has_number xs j) u.is_loops ∙ list_any-append (nat_eq j) r.loops u.loops ∙ or_left (has_number r.loops j) (has_number u.loops j) (innermost_has r.loops j e)

-- an update in a loop stands directly before a `break` that ends the loop
placed : (w : Setting) → Sound w → (j n m : ℕ) (s t : Site) → slice_get w.sites n ≡ Some s → slice_get w.sites m ≡ Some t → is_update s.statement ≡ true → is_break t.statement ≡ true → innermost t.round.loops ≡ Some j → has_number s.round.loops j ≡ true → suc n ≡ m
placed w u j n m s t get there updates b inner has =
    let h : is_beside_break n s m t ≡ false = beside_at w u.unbroken n m s t get there updates in
    let i = and_second (is_break t.statement) (is_innermost_of s.round.loops (innermost t.round.loops) && not (nat_eq (suc n) m)) h b in
    let k = and_second (is_innermost_of s.round.loops (innermost t.round.loops)) (not (nat_eq (suc n) m)) i (ap (is_innermost_of s.round.loops) inner ∙ has) in
    eqb-true (suc n) m (true_from_not (nat_eq (suc n) m) k)

-- the update that stands directly before the `break`
the_update : (w : Setting) → Sound w → (r : Round) (j i : ℕ) (t : Site) → innermost r.loops ≡ Some j → slice_get w.sites i ≡ Some t → is_break t.statement ≡ true → innermost t.round.loops ≡ Some j → (k : Broken w i t) → (n : ℕ) (s : Site) → slice_get w.sites n ≡ Some s → is_update s.statement ≡ true → Under r s.round → s.statement ≡ k.flag.statement
the_update w u r j i t e there b inner k n s get updates under =
    let one : suc n ≡ i = placed w u j n i s t get there updates b inner (under_has r s.round j e under) in
    let two : suc k.before.number ≡ i = k.before.next_one in
    let same : k.before.number ≡ n = omega (arith, one, two) in
    ap (λ (x : Site). x.statement) (get_same w.sites n s (site_of t.round k.before.previous k.flag.statement) get (subst (λ x. slice_get w.sites x ≡ Some (site_of t.round k.before.previous k.flag.statement)) same k.before.there))

the_break : (w : Setting) → Sound w → (r : Round) (j i : ℕ) (t : Site) → innermost r.loops ≡ Some j → slice_get w.sites i ≡ Some t → is_break t.statement ≡ true → innermost t.round.loops ≡ Some j → (n : ℕ) (s : Site) → slice_get w.sites n ≡ Some s → is_break s.statement ≡ true → Under r s.round → s ≡ t
the_break w u r j i t e there b inner n s get ends under =
    let k : Broken w n s = broken_at w u n s get ends in
    let q : Site = site_of s.round k.before.previous k.flag.statement in
    let one : suc k.before.number ≡ i = placed w u j k.before.number i q t k.before.there there k.updates b inner (under_has r s.round j e under) in
    let same : n ≡ i = sym k.before.next_one ∙ one in
    get_same w.sites i s t (subst (λ x. slice_get w.sites x ≡ Some s) same get) there

marked : (w : Setting) → Sound w → (r : Round) (j i : ℕ) (t : Site) → innermost r.loops ≡ Some j → slice_get w.sites i ≡ Some t → is_break t.statement ≡ true → innermost t.round.loops ≡ Some j → (k : Broken w i t) → MarkFits w r (Some k.flag.mark)
marked w u r j i t e there b inner k =
    record {
      updates = λ n s get updates under. subst (λ x. IsMark k.flag.mark x) (sym (the_update w u r j i t e there b inner k n s get updates under)) k.flag.marks;
      breaks = λ n s get ends under same. record { mark = k.flag.mark; is = refl; statement = k.flag.statement; was = ap (λ (x : Site). x.previous) (the_break w u r j i t e there b inner n s get ends under) ∙ k.flag.was; marks = k.flag.marks };
    }

-- a mark for a loop
pub record Marked (w : Setting) (r : Round) : Type 0 where
  pub mark : Option Mark
  pub fits : MarkFits w r mark

ends_loop : ℕ → ℕ → Site → Bool
ends_loop j n s = is_break s.statement && is_number j (innermost s.round.loops)

unmarked : (w : Setting) (r : Round) (j : ℕ) → innermost r.loops ≡ Some j → any_site (ends_loop j) 0 w.sites ≡ false → MarkFits w r None
unfolding ends_loop
unmarked w r j e none =
    record {
      updates = λ n s get updates under. tt;
      breaks = λ n s get ends under same. let h : (is_break s.statement && is_number j (innermost s.round.loops)) ≡ false = fails_at (ends_loop j) w.sites none n s get in let i : (is_break s.statement && is_number j (innermost s.round.loops)) ≡ true = and_from (is_break s.statement) (is_number j (innermost s.round.loops)) ends (is_number_of j (innermost s.round.loops) (same ∙ e)) in absurd cc;
    }

marked_at : (w : Setting) → Sound w → (r : Round) (j : ℕ) → innermost r.loops ≡ Some j → PassesAt (ends_loop j) w.sites → Marked w r
unfolding ends_loop
marked_at w u r j e p =
    let two = and_parts (is_break p.site.statement) (is_number j (innermost p.site.round.loops)) p.passes in
    let k : Broken w p.number p.site = broken_at w u p.number p.site p.there two.0 in
    record { mark = Some k.flag.mark; fits = marked w u r j p.number p.site e p.there two.0 (number_is j (innermost p.site.round.loops) two.1) k }

pub mark_for : (w : Setting) → Sound w → (r : Round) (j : ℕ) → innermost r.loops ≡ Some j → Marked w r
mark_for w u r j e =
    ⊎_elim (λ some. marked_at w u r j e (passes_at (ends_loop j) w.sites some)) (λ none. record { mark = None; fits = unmarked w r j e none }) (cases_Bool (any_site (ends_loop j) 0 w.sites))

-- ---- Further in

pub mark_branch : (w : Setting) (r : Round) (n : ℕ) (c : Expression) (holds : Bool) (m : Option Mark) → MarkFits w r m → MarkFits w (in_branch r n c holds) m
mark_branch w r n c holds m f =
    record {
      updates = λ i s get updates under. f.updates i s get updates (under_branch r s.round n c holds under);
      breaks = λ i s get ends under same. f.breaks i s get ends (under_branch r s.round n c holds under) same;
    }

inner_marked : (w : Setting) → Sound w → (r : Round) (n : ℕ) (m : Mark) → MarkFits w r (Some m) → MarkFits w (in_loop r n) (Some m)
inner_marked w u r n m f =
    record {
      updates = λ i s get updates under. f.updates i s get updates (under_loop r s.round n under);
      breaks = λ i s get ends under same. let k : Broken w i s = broken_at w u i s get ends in record { mark = m; is = refl; statement = k.flag.statement; was = k.flag.was; marks = f.updates k.before.number (site_of s.round k.before.previous k.flag.statement) k.before.there k.updates (under_loop r s.round n under) };
    }

-- the mark of a loop in another one
pub record InnerMark (w : Setting) (r : Round) (n : ℕ) (m : Option Mark) : Type 0 where
  pub mark : Option Mark
  pub holds : HoldsMark m mark
  pub fits : MarkFits w (in_loop r n) mark

pub inner_mark : (w : Setting) → Sound w → (r : Round) (n : ℕ) (m : Option Mark) → MarkFits w r m → InnerMark w r n m
inner_mark w u r n None f = let k : Marked w (in_loop r n) = mark_for w u (in_loop r n) n (innermost_last r.loops n) in record { mark = k.mark; holds = tt; fits = k.fits }
inner_mark w u r n (Some m) f = record { mark = Some m; holds = refl; fits = inner_marked w u r n m f }

-- ---- Updates

pub allows : (m : Option Mark) (at : Span) (x : List ℕ) (e : Expression) → MarkUpdate m (tree.Assign at x e) → Allows m x e
allows None at x e h = tt
allows (Some m) at x e h =
    let name : x ≡ m.name = assigned_name h.is in
    let value : e ≡ tree.Lit h.at_literal m.value = assigned_value h.is in
    (name, subst (λ z. IsLiteral m.value z) (sym value) refl)
  where
    assigned_name : {y : List ℕ} {at' : Span} {z : Expression} → tree.Assign at x e ≡ tree.Assign at' y z → x ≡ y
    assigned_name h = cc

    assigned_value : {y : List ℕ} {at' : Span} {z : Expression} → tree.Assign at x e ≡ tree.Assign at' y z → e ≡ z
    assigned_value h = cc

pub no_mark : (m : Option Mark) (at : Span) (x : List ℕ) (e : Expression) → MarkUpdate m (tree.Add at x e) → m ≡ None
no_mark None at x e h = refl
no_mark (Some m) at x e h = let is : tree.Add at x e ≡ tree.Assign h.at m.name (tree.Lit h.at_literal m.value) = h.is in absurd cc
