-- Each site within a statement or a block is visited with what is visible there.
use Rattle.std.proofs.Common.{◌≡◌, ℕ, suc, ◌<◌, ◌≤◌, true, false, List, length, Option, Some, None, refl, ◌∙◌, subst, slice_get, arith, ⊎_elim}
use Rattle.std.proofs.lemmas.Bool.{cases_lt, cases_eq, cond-false}
use Rattle.qbs_base.specs.declared.span.Span.{Span}
use Rattle.java_ast.specs.Tree as tree
use Rattle.java_ast.specs.Tree.{Spelled, Expression, Statement, Statements, Nothing, Then}
use Rattle.java_mean.specs.declared.types.JavaType.{JavaType}
use Rattle.java_mean.specs.declared.types.JavaType.TheVariants.{Of}
use Rattle.java_mean.specs.Types.{Types, with_type}
use Rattle.java_mean.specs.Typing.{Frame, TypedStatement, TypedStatements}
use Rattle.loop_text.specs.Statements.Fragment.{is_name}
use Rattle.loop_text.specs.Statements.Loops.{is_loop}
use Rattle.loop_text.specs.declared.sites.bindings.Binding.TheVariants.{Row}
use Rattle.loop_text.specs.Sites.Sites.{Round, Site, binding_at, counted_row, in_loop, in_branch}
use Rattle.java_loops.proofs.Typing.BoundSteps.{bound_next, bound_other}
use Rattle.java_loops.proofs.Typing.BoundTyping.{typed_next, typed_if, typed_choice, over, over_new, typed_each, typed_while, row_new}
use Rattle.java_loops.proofs.Standing.Standing.{site_of, Stands, single, when, choose, walks, repeats, AllStand, nothing, next}
use Rattle.java_loops.proofs.Valid.ValidScope.{among_last, Scope, inside_loop, inside_branch, scope_kept, scope_new}
use Rattle.java_loops.proofs.Valid.ValidVisits.{RoundStands, round_later, round_in_loop, round_in_branch, TakesRow, member, of_new, Nested, Visited, scope_after}

behind : (n k : ℕ) → n ≤ k → (n ≡ k → ⊥) → suc n ≤ k
behind n k low other = ⊎_elim (λ l. l) (λ h. absurd (other (omega arith))) (cases_lt n k)

here : (P : ℕ → JavaType → Type 0) (c : Frame) (g : Types) (sites : List Site) (r : Round) (previous : Option Statement) (s : Statement) (n k : ℕ) (l : Option Types) (now h : Types) → slice_get sites n ≡ Some (site_of r previous s) → TypedStatement c l now s h → Scope P g sites r n now → RoundStands sites n r → n ≡ k → Visited P c g sites k
here P c g sites r previous s n k l now h get typed scope round e = subst (λ i. Visited P c g sites i) e (record { site = site_of r previous s; there = get; at_body = l; now = now; after = h; typed = typed; scope = scope; round = round })

-- ---- Numbers rise

mutual
  goes_on : (sites : List Site) (r : Round) (previous : Option Statement) (s : Statement) (n m : ℕ) → Stands sites r previous s n m → n ≤ m
  goes_on sites _ _ _ _ _ (single r previous s n one get) = omega arith
  goes_on sites _ _ _ _ _ (when r previous at q p n m get all) = let f : suc n ≤ m = rises sites (in_branch r n q true) None p (suc n) m all in omega arith
  goes_on sites _ _ _ _ _ (choose r previous at q p o n m z get all other) =
      let f : suc n ≤ m = rises sites (in_branch r n q true) None p (suc n) m all in
      let e : m ≤ z = rises sites (in_branch r n q false) None o m z other in
      omega arith
  goes_on sites _ _ _ _ _ (walks r previous at ty x q p n m get all) = let f : suc n ≤ m = rises sites (in_loop r n) None p (suc n) m all in omega arith
  goes_on sites _ _ _ _ _ (repeats r previous at q p n m get all) = let f : suc n ≤ m = rises sites (in_loop r n) None p (suc n) m all in omega arith

  rises : (sites : List Site) (r : Round) (previous : Option Statement) (p : Statements) (n m : ℕ) → AllStand sites r previous p n m → n ≤ m
  rises sites _ _ _ _ _ (nothing r previous n) = omega arith
  rises sites _ _ _ _ _ (next r previous s p n m o one rest) =
      let f : n ≤ m = goes_on sites r previous s n m one in
      let e : m ≤ o = rises sites r (Some s) p m o rest in
      omega arith

-- ---- Into a loop

pub row_scope : (P : ℕ → JavaType → Type 0) (c : Frame) (g : Types) (sites : List Site) (r : Round) (previous : Option Statement) (at : Span) (ty : Spelled) (x : List ℕ) (e : Expression) (p : Statements) (n : ℕ) (now : Types) (k : JavaType) → Nested P c g sites → slice_get sites n ≡ Some (site_of r previous (tree.ForEach at ty x e p)) → now x ≡ None → TakesRow c now e k → Scope P g sites r n now → Scope P g sites (in_loop r n) (suc n) (with_type x (Some k) now)
row_scope P c g sites r previous at ty x e p n now k nested get new takes scope =
    let s : Site = site_of r previous (tree.ForEach at ty x e p) in
    scope_new P g now sites r (in_loop r n) n (suc n) x k (Row n) (inside_loop r n) new
    (λ y. bound_next sites n s y get)
    (λ y h. (record { site = s; there = get; loops = refl; inside = among_last r.loops n }, nested.rows n s now at ty x e p k get refl scope.extends takes))
    scope

counted_scope : (P : ℕ → JavaType → Type 0) (c : Frame) (g : Types) (sites : List Site) (r : Round) (previous : Option Statement) (at : Span) (q : Expression) (p : Statements) (n : ℕ) (now last : Types) → slice_get sites n ≡ Some (site_of r previous (tree.While at q p)) → TypedStatements c (Some now) now p last → Scope P g sites r n now → Scope P g sites (in_loop r n) (suc n) now
counted_scope P c g sites r previous at q p n now last get typed scope =
    scope_kept P g now sites r (in_loop r n) n (suc n) (inside_loop r n) (λ x k i. bound_next sites n (site_of r previous (tree.While at q p)) x get ∙ cond-false (is_name (counted_row p) x) (Row n) (binding_at sites n x) (row_new c (Some now) now last p typed x k i)) scope

round_of_loop : (P : ℕ → JavaType → Type 0) (c : Frame) (g : Types) (sites : List Site) (r : Round) (n : ℕ) (s : Site) → Nested P c g sites → slice_get sites n ≡ Some s → s.round ≡ r → is_loop s.statement ≡ true → RoundStands sites n r → RoundStands sites (suc n) (in_loop r n)
round_of_loop P c g sites r n s nested get same loops round =
    round_in_loop sites n s r get loops (subst (λ (q : Round). length q.loops ≤ 2) same (nested.shallow n s get loops)) round

mutual
  pub visits : (P : ℕ → JavaType → Type 0) (c : Frame) (g : Types) (sites : List Site) → Nested P c g sites → (r : Round) (previous : Option Statement) (s : Statement) (n m : ℕ) → Stands sites r previous s n m → (l : Option Types) (now h : Types) → TypedStatement c l now s h → Scope P g sites r n now → RoundStands sites n r → (k : ℕ) → n ≤ k → k < m → Visited P c g sites k
  visits P c g sites nested _ _ _ _ _ (single r previous s n one get) l now h t scope round k low high = here P c g sites r previous s n k l now h get t scope round (omega arith)
  visits P c g sites nested _ _ _ _ _ (when r previous at q p n m get all) l now h t scope round k low high =
      let u = typed_if c l now h at q p t in
      let s : Site = site_of r previous (tree.If at q p) in
      ⊎_elim
      (λ e. here P c g sites r previous (tree.If at q p) n k l now h get t scope round e)
      (λ e. all_visits P c g sites nested (in_branch r n q true) None p (suc n) m all l now u.branch.last u.branch.body (scope_kept P g now sites r (in_branch r n q true) n (suc n) (inside_branch r n q true) (λ x j i. bound_next sites n s x get) scope) (round_in_branch sites n (suc n) s r q true get refl refl (omega arith) round) k (behind n k low e) high)
      (cases_eq n k)
  visits P c g sites nested _ _ _ _ _ (choose r previous at q p o n m z get all other) l now h t scope round k low high =
      let u = typed_choice c l now h at q p o t in
      let s : Site = site_of r previous (tree.IfElse at q p o) in
      ⊎_elim
      (λ e. here P c g sites r previous (tree.IfElse at q p o) n k l now h get t scope round e)
      (λ e. ⊎_elim
      (λ before. all_visits P c g sites nested (in_branch r n q true) None p (suc n) m all l now u.branch.last u.branch.body (scope_kept P g now sites r (in_branch r n q true) n (suc n) (inside_branch r n q true) (λ x j i. bound_next sites n s x get) scope) (round_in_branch sites n (suc n) s r q true get refl refl (omega arith) round) k (behind n k low e) before)
      (λ past. all_visits P c g sites nested (in_branch r n q false) None o m z other l now u.other.last u.other.body (scope_kept P g now sites r (in_branch r n q false) n m (inside_branch r n q false) (λ x j i. bound_other c sites r previous at q p o n m get all l now u.branch.last u.branch.body x j i) scope) (let f : suc n ≤ m = rises sites (in_branch r n q true) None p (suc n) m all in round_in_branch sites n m s r q false get refl refl (omega arith) round) k past high)
      (cases_lt k m))
      (cases_eq n k)
  visits P c g sites nested _ _ _ _ _ (walks r previous at ty x q p n m get all) l now h t scope round k low high =
      let s : Site = site_of r previous (tree.ForEach at ty x q p) in
      ⊎_elim
      (λ e. here P c g sites r previous (tree.ForEach at ty x q p) n k l now h get t scope round e)
      (λ e. elim (typed_each c l now h at ty x q p t) [
        | over z j a new v has u ↦ all_visits P c g sites nested (in_loop r n) None p (suc n) m all (Some (with_type x (Some (Of a)) now)) (with_type x (Some (Of a)) now) z u (row_scope P c g sites r previous at ty x q p n now (Of a) nested get new (member j a v has) scope) (round_of_loop P c g sites r n s nested get refl refl round) k (behind n k low e) high
        | over_new z j new isnew u ↦ all_visits P c g sites nested (in_loop r n) None p (suc n) m all (Some (with_type x (Some j) now)) (with_type x (Some j) now) z u (row_scope P c g sites r previous at ty x q p n now j nested get new (of_new j isnew) scope) (round_of_loop P c g sites r n s nested get refl refl round) k (behind n k low e) high
      ])
      (cases_eq n k)
  visits P c g sites nested _ _ _ _ _ (repeats r previous at q p n m get all) l now h t scope round k low high =
      let u = typed_while c l now h at q p t in
      let s : Site = site_of r previous (tree.While at q p) in
      ⊎_elim
      (λ e. here P c g sites r previous (tree.While at q p) n k l now h get t scope round e)
      (λ e. all_visits P c g sites nested (in_loop r n) None p (suc n) m all (Some now) now u.branch.last u.branch.body (counted_scope P c g sites r previous at q p n now u.branch.last get u.branch.body scope) (round_of_loop P c g sites r n s nested get refl refl round) k (behind n k low e) high)
      (cases_eq n k)

  pub all_visits : (P : ℕ → JavaType → Type 0) (c : Frame) (g : Types) (sites : List Site) → Nested P c g sites → (r : Round) (previous : Option Statement) (p : Statements) (n m : ℕ) → AllStand sites r previous p n m → (l : Option Types) (now h : Types) → TypedStatements c l now p h → Scope P g sites r n now → RoundStands sites n r → (k : ℕ) → n ≤ k → k < m → Visited P c g sites k
  all_visits P c g sites nested _ _ _ _ _ (nothing r previous n) l now h t scope round k low high = absurd (omega arith)
  all_visits P c g sites nested _ _ _ _ _ (next r previous s p n m o first rest) l now h t scope round k low high =
      let u = typed_next c l now h s p t in
      ⊎_elim
      (λ before. visits P c g sites nested r previous s n m first l now u.middle u.first scope round k low before)
      (λ past. all_visits P c g sites nested r (Some s) p m o rest l u.middle u.last u.rest (scope_after P c g sites r previous s n m l now u.middle first u.first scope) (let f : n ≤ m = goes_on sites r previous s n m first in round_later sites n m r f round) k past high)
      (cases_lt k m)
