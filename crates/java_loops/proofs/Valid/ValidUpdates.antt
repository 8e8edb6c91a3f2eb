-- The update of an accumulator or a flag: where it stands, and the rows that its form reads.
use Rattle.std.proofs.Common.{◌≡◌, ℕ, suc, ◌+◌, Bool, true, false, List, [], ◌∷◌, Option, Some, None, refl, sym, ap, ◌∙◌, subst, cond, slice_get, arith}
use Rattle.qbs_base.specs.declared.scalar.Scalar.{Scalar}
use Rattle.qbs_base.specs.declared.scalar.Scalar.TheVariants as scalars
use Rattle.java_ast.specs.Tree as tree
use Rattle.java_ast.specs.Tree.{Expression, Statement}
use Rattle.java_mean.specs.declared.types.JavaType.{JavaType}
use Rattle.java_mean.specs.declared.types.JavaType.TheVariants.{Of}
use Rattle.java_mean.specs.Types.{Types}
use Rattle.java_mean.specs.Typing as typing
use Rattle.java_mean.specs.Typing.{Frame, HasType, TypedStatement}
use Rattle.java_mean.proofs.Puts.{names_equal}
use Rattle.loop_text.specs.Statements.Fragment.{is_name}
use Rattle.loop_text.specs.Kernel.KernelForms.{whole, column, Form, adds, counts, sums, takes, other, adds_taken, sums_column, takes_column, literal_form, sum_form, assigned_form, form_of}
use Rattle.loop_text.specs.Kernel.KernelStarts.{Numbered, first_site, updates_name, update_of}
use Rattle.loop_text.specs.Statements.Setting.{is_add, is_variable, is_literal_number}
use Rattle.loop_text.specs.Sites.Sites.{Site, Round, RowColumn, row_at, row_column_at, target_of}
use Rattle.java_loops.proofs.Valid.ValidScope.{Walked}
use Rattle.java_loops.proofs.Valid.ValidShapes.{row_seen, column_seen}
use Rattle.java_loops.proofs.Valid.ValidVisits.{Visited}

-- ---- The first site that passes

record FoundFrom (test : ℕ → Site → Bool) (k : ℕ) (sites : List Site) (u : Numbered) : Type 0 where
  offset : ℕ
  sum : k + offset ≡ u.number
  there : slice_get sites offset ≡ Some u.site
  passes : test u.number u.site ≡ true

found_here : (test : ℕ → Site → Bool) (k : ℕ) (s : Site) (ss : List Site) (u : Numbered) → record { number = k; site = s } ≡ u → test k s ≡ true → FoundFrom test k (s ∷ ss) u
found_here test k s ss u same h =
    record {
      offset = 0;
      sum = (let e : k + 0 ≡ k = omega arith in e ∙ ap (λ (z : Numbered). z.number) same);
      there = ap (λ (z : Numbered). Some z.site) same;
      passes = subst (λ (z : Numbered). test z.number z.site ≡ true) same h;
    }

found_step : (test : ℕ → Site → Bool) (k : ℕ) (s : Site) (ss : List Site) (u : Numbered) (b : Bool) → test k s ≡ b → cond b (Some (record { number = k; site = s })) (first_site test (suc k) ss) ≡ Some u → (first_site test (suc k) ss ≡ Some u → FoundFrom test (suc k) ss u) → FoundFrom test k (s ∷ ss) u
found_step test k s ss u true e h more = let h' : Some (record { number = k; site = s }) ≡ Some u = h in let same : record { number = k; site = s } ≡ u = cc in found_here test k s ss u same e
found_step test k s ss u false e h more =
    let f = more h in
    let sum : suc k + f.offset ≡ u.number = f.sum in
    record { offset = suc f.offset; sum = omega arith; there = f.there; passes = f.passes }

found_from : (test : ℕ → Site → Bool) (k : ℕ) (sites : List Site) (u : Numbered) → first_site test k sites ≡ Some u → FoundFrom test k sites u
found_from test k [] u h = absurd cc
found_from test k (s ∷ ss) u h = found_step test k s ss u (test k s) refl h (λ e. found_from test (suc k) ss u e)

pub record FoundSite (test : ℕ → Site → Bool) (sites : List Site) (u : Numbered) : Type 0 where
  pub there : slice_get sites u.number ≡ Some u.site
  pub passes : test u.number u.site ≡ true

pub found_site : (test : ℕ → Site → Bool) (sites : List Site) (u : Numbered) → first_site test 0 sites ≡ Some u → FoundSite test sites u
found_site test sites u h =
    let f = found_from test 0 sites u h in
    let sum : 0 + f.offset ≡ u.number = f.sum in
    let same : f.offset ≡ u.number = omega arith in
    record { there = subst (λ n. slice_get sites n ≡ Some u.site) same f.there; passes = f.passes }

named : (o : Option (List ℕ)) (x : List ℕ) → is_name o x ≡ true → o ≡ Some x
named None x h = absurd cc
named (Some y) x h = ap Some (sym (names_equal x y h))

-- the update of a variable is of that variable
pub update_is : (sites : List Site) (x : List ℕ) (u : Numbered) → update_of sites x ≡ Some u → (slice_get sites u.number ≡ Some u.site) × (target_of u.site.statement ≡ Some x)
update_is sites x u h = let f = found_site (updates_name x) sites u h in (f.there, named (target_of u.site.statement) x f.passes)

-- ---- The rows that a form reads

abbrev pub FormIn : List Site → Round → Form → Type 0
FormIn sites r (adds (whole j)) = Walked sites r j
FormIn sites r (adds (column q)) = Walked sites r q.loop
FormIn sites r (sums q) = Walked sites r q.loop
FormIn sites r (takes q) = Walked sites r q.loop
FormIn sites r _ = Unit {0}

taken_in : (P : ℕ → JavaType → Type 0) (c : Frame) (g : Types) (sites : List Site) (n : ℕ) (v : Visited P c g sites n) (e : Expression) (k : JavaType) (o : Option RowColumn) (p : Option ℕ) → HasType c v.now e k → row_column_at sites n e ≡ o → row_at sites n e ≡ p → FormIn sites v.site.round (adds_taken p o)
taken_in P c g sites n v e k (Some q) p t h i = (column_seen P c g sites n v e k q t h).walked
taken_in P c g sites n v e k None (Some j) t h i = (row_seen P c g sites n v e k j t i).0
taken_in P c g sites n v e k None None t h i = tt

sums_in : (P : ℕ → JavaType → Type 0) (c : Frame) (g : Types) (sites : List Site) (n : ℕ) (v : Visited P c g sites n) (e : Expression) (k : JavaType) (o : Option RowColumn) → HasType c v.now e k → row_column_at sites n e ≡ o → FormIn sites v.site.round (sums_column o)
sums_in P c g sites n v e k (Some q) t h = (column_seen P c g sites n v e k q t h).walked
sums_in P c g sites n v e k None t h = tt

takes_in : (P : ℕ → JavaType → Type 0) (c : Frame) (g : Types) (sites : List Site) (n : ℕ) (v : Visited P c g sites n) (e : Expression) (k : JavaType) (o : Option RowColumn) → HasType c v.now e k → row_column_at sites n e ≡ o → FormIn sites v.site.round (takes_column o)
takes_in P c g sites n v e k (Some q) t h = (column_seen P c g sites n v e k q t h).walked
takes_in P c g sites n v e k None t h = tt

counts_or : (sites : List Site) (r : Round) (b : Bool) (f : Form) → FormIn sites r f → FormIn sites r (cond b counts f)
counts_or sites r true f h = tt
counts_or sites r false f h = h

either_sum : (sites : List Site) (r : Round) (a b : Bool) (f g : Form) → FormIn sites r f → FormIn sites r g → FormIn sites r (cond a f (cond b g other))
either_sum sites r true b f g h i = h
either_sum sites r false true f g h i = i
either_sum sites r false false f g h i = tt

where_added : (sites : List Site) (r : Round) (b : Bool) (f : Form) → FormIn sites r f → FormIn sites r (cond b f other)
where_added sites r true f h = h
where_added sites r false f h = tt

literal_in : (sites : List Site) (r : Round) (x : Scalar) → FormIn sites r (literal_form x)
literal_in sites r (scalars.Long n) = tt
literal_in sites r (scalars.Bool b) = tt
literal_in sites r (scalars.Text t) = tt

assigned_in : (P : ℕ → JavaType → Type 0) (c : Frame) (g : Types) (sites : List Site) (n : ℕ) (v : Visited P c g sites n) (x : List ℕ) (e : Expression) (k : JavaType) → HasType c v.now e k → FormIn sites v.site.round (assigned_form sites n x e)
assigned_in P c g sites n v x _ _ (typing.lit at y ty h) = literal_in sites v.site.round y
assigned_in P c g sites n v x _ _ (typing.field at e f m i col t h u) = takes_in P c g sites n v (tree.Field at e f) _ (row_column_at sites n (tree.Field at e f)) (typing.field at e f m i col t h u) refl
assigned_in P c g sites n v x _ _ (typing.binary at op a b from to z t u) =
    let r : Round = v.site.round in
    where_added sites r (is_add op) (sum_form sites n x a b)
    (either_sum sites r (is_variable x a) (is_variable x b) (cond (is_literal_number 1 b) counts (sums_column (row_column_at sites n b))) (cond (is_literal_number 1 a) counts (sums_column (row_column_at sites n a)))
    (counts_or sites r (is_literal_number 1 b) (sums_column (row_column_at sites n b)) (sums_in P c g sites n v b _ (row_column_at sites n b) u refl))
    (counts_or sites r (is_literal_number 1 a) (sums_column (row_column_at sites n a)) (sums_in P c g sites n v a _ (row_column_at sites n a) t refl)))
assigned_in P c g sites n v x _ _ (typing.var at y k h) = tt
assigned_in P c g sites n v x _ _ (typing.negated at q t) = tt
assigned_in P c g sites n v x _ _ (typing.equals at a b t u) = tt
assigned_in P c g sites n v x _ _ (typing.size at y k a h has) = tt
assigned_in P c g sites n v x _ _ (typing.get at y q a h t) = tt
assigned_in P c g sites n v x _ _ (typing.contains at y q k ty h has t) = tt
assigned_in P c g sites n v x _ _ (typing.fetch at t m h) = tt
assigned_in P c g sites n v x _ _ (typing.query at ty text es q h t) = tt
assigned_in P c g sites n v x _ _ (typing.query_long at text es q h t) = tt
assigned_in P c g sites n v x _ _ (typing.query_boolean at text es q h t) = tt
assigned_in P c g sites n v x _ _ (typing.new_list at a) = tt
assigned_in P c g sites n v x _ _ (typing.new_set at a) = tt
assigned_in P c g sites n v x _ _ (typing.new_set_of at q a t) = tt

statement_in : (P : ℕ → JavaType → Type 0) (c : Frame) (g : Types) (sites : List Site) (n : ℕ) (v : Visited P c g sites n) (l : Option Types) (now h : Types) (s : Statement) → now ≡ v.now → TypedStatement c l now s h → FormIn sites v.site.round (form_of sites n s)
statement_in P c g sites n v _ _ _ _ same (typing.assign l now at x e k i t) = assigned_in P c g sites n v x e k (subst (λ z. HasType c z e k) same t)
statement_in P c g sites n v _ _ _ _ same (typing.add l now at x e k a i has t) = taken_in P c g sites n v e (Of a) (row_column_at sites n e) (row_at sites n e) (subst (λ z. HasType c z e (Of a)) same t) refl refl
statement_in P c g sites n v _ _ _ _ same (typing.declare l now at ty x e k new q t) = tt
statement_in P c g sites n v _ _ _ _ same (typing.sort l now at x keys down a i) = tt
statement_in P c g sites n v _ _ _ _ same (typing.when l now h at e p t u) = tt
statement_in P c g sites n v _ _ _ _ same (typing.choose l now h h' at e p q t u w) = tt
statement_in P c g sites n v _ _ _ _ same (typing.for_each l now h at ty x e p k a new t has u) = tt
statement_in P c g sites n v _ _ _ _ same (typing.for_each_new l now h at ty x e p k new q isnew u) = tt
statement_in P c g sites n v _ _ _ _ same (typing.while_true l now h at e p t u) = tt
statement_in P c g sites n v _ _ _ _ same (typing.print l now at e ty t) = tt
statement_in P c g sites n v _ _ _ _ same (typing.return_none l now at i) = tt
statement_in P c g sites n v _ _ _ _ same (typing.return_value l now at e k i t) = tt
statement_in P c g sites n v _ _ _ _ same (typing.leave b now at ex) = tt

-- the form of a statement reads rows of the loops round it
pub form_in : (P : ℕ → JavaType → Type 0) (c : Frame) (g : Types) (sites : List Site) (n : ℕ) (v : Visited P c g sites n) → FormIn sites v.site.round (form_of sites n v.site.statement)
form_in P c g sites n v = statement_in P c g sites n v v.at_body v.now v.after v.site.statement refl v.typed
