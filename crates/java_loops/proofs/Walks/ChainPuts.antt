-- A store and a world that hold the same do so after a write to another name, in a loop and after a flag.
use Rattle.std.proofs.Common.{◌≡◌, ℕ, Bool, true, false, List, [], ◌∷◌, map, cond, Option, Some, None, Ok, refl, sym, ap, ap₂, ◌∙◌, subst, arith}
use Rattle.std.specs.Prelude.{bytes_eq, nat_eq}
use Rattle.std.proofs.lemmas.Bool.Decides.{nat_tests}
use Rattle.qbs_base.specs.declared.scalar.Row.{Row}
use Rattle.qbs_base.specs.declared.scalar.Scalar.{Scalar}
use Rattle.qbs_base.specs.declared.scalar.Ty.{Ty}
use Rattle.qbs_base.specs.declared.scalar.Value.TheVariants.{One}
use Rattle.qbs_base.specs.Named.{at_name}
use Rattle.qbs_base.specs.Values.{IsRowOf}
use Rattle.qbs_base.specs.Columns.{columns_at}
use Rattle.java_mean.specs.Endings.{◌>>=◌, found}
use Rattle.java_mean.specs.Expression.{element, as_row, cell}
use Rattle.java_mean.specs.Store.{Store, Variable, put, plainly}
use Rattle.java_mean.specs.World as java
use Rattle.java_mean.proofs.Puts.{names_equal, put_other, put_same}
use Rattle.tor_terms.specs.Truth.{World, has_loop}
use Rattle.kernel_lang.specs.Running.{with_row}
use Rattle.java_loops.specs.Walks.Matched.{entry_value, HoldsRow, HoldsScalar, HoldsRows, HoldsScalars, turned_truth, HoldsFlag, Matches}
use Rattle.java_loops.specs.Walks.Numbering.{Numbering, Flag, Starts, Reads, Flags, with_flag, with_loop, IsApart, is_at_other_loops, IsNewLoop}
use Rattle.java_loops.proofs.Walks.ChainTests.{both_false}

-- a name that has something is another one than a name that has nothing
other_than : {A : Type 0} (f : List ℕ → Option A) (a y : List ℕ) (x : A) (p : Bool) → bytes_eq a y ≡ p → f a ≡ None → f y ≡ Some x → p ≡ false
other_than f a y x true q e h = let same : f a ≡ f y = ap f (names_equal a y q) in absurd cc
other_than f a y x false q e h = refl

pub is_other : {A : Type 0} (f : List ℕ → Option A) (a y : List ℕ) (x : A) → f a ≡ None → f y ≡ Some x → bytes_eq a y ≡ false
is_other f a y x e h = let p : bytes_eq a y ≡ false = other_than f a y x (bytes_eq a y) refl e h in p

-- a store that differs at a alone
abbrev pub SameBut : List ℕ → Store → Store → Type 0
SameBut a env env' = (y : List ℕ) → bytes_eq a y ≡ false → at_name env' y ≡ at_name env y

-- flags are held in a store at rows
abbrev pub HoldFlags : Flags → World → Store → (ℕ → Row) → Type 0
HoldFlags flags k env rows = (b : List ℕ) (flag : Flag) → flags b ≡ Some flag → HoldsFlag k rows flag (at_name env b)

pub same_entry : (w : java.World) (ty : Ty) (o : Option Scalar) (env env' : Store) (x : List ℕ) (f : Option (List ℕ)) → at_name env' x ≡ at_name env x → HoldsScalar ty o (entry_value w env x f) → HoldsScalar ty o (entry_value w env' x f)
same_entry w ty o env env' x None e h = subst (λ (z : Option Variable). HoldsScalar ty o (found z >>= λ held. Ok held.value)) (sym e) h
same_entry w ty o env env' x (Some f) e h = subst (λ (z : Option Variable). HoldsScalar ty o ((found z >>= λ held. Ok held.value) >>= λ v. as_row v >>= λ row. found (cell w.schema row f) >>= λ y. Ok (One y))) (sym e) h

pub matches_apart : (n : Numbering) (flags flags' : Flags) (w : java.World) (k : World) (env env' : Store) (rows : ℕ → Row) (a : List ℕ) → IsApart n a → SameBut a env env' → Matches n flags w k env rows → HoldFlags flags' k env' rows → Matches n flags' w k env' rows
matches_apart n flags flags' w k env env' rows a p s m h = record {
  schema = m.schema;
  lists = m.lists;
  fetched = m.fetched;
  variables = λ j x e. subst (HoldsRows (k.lists j)) (sym (s x (p.sources j x e))) (m.variables j x e);
  loops = λ x j e. subst (HoldsRow n j (rows j)) (sym (s x (is_other n.loops a x j p.loops e))) (m.loops x j e);
  entries = λ x f i ty e t. same_entry w ty (k.entries i) env env' x f (s x (is_other (λ y. n.entries y f) a x i (p.entries f) e)) (m.entries x f i ty e t);
  known = λ x q ty e t. subst (HoldsScalars ty (k.known q)) (sym (s x (is_other n.known a x q p.known e))) (m.known x q ty e t);
  in_sight = h;
}

pub same_flag : (k : World) (rows : ℕ → Row) (flag : Flag) (o p : Option Variable) → p ≡ o → HoldsFlag k rows flag o → HoldsFlag k rows flag p
same_flag k rows (Starts b) o p e h = e ∙ h
same_flag k rows (Reads number opposite loops) o p e h = e ∙ h

-- a write to a name that stands for nothing
pub matches_put : (n : Numbering) (flags : Flags) (w : java.World) (k : World) (env : Store) (rows : ℕ → Row) (a : List ℕ) (v : Variable) → IsApart n a → flags a ≡ None → Matches n flags w k env rows → Matches n flags w k (put env a v) rows
matches_put n flags w k env rows a v p e m = matches_apart n flags flags w k env (put env a v) rows a p (λ y q. put_other env a y v q) m (λ b flag h. same_flag k rows flag (at_name env b) (at_name (put env a v) b) (put_other env a b v (is_other flags a b flag e h)) (m.in_sight b flag h))

-- ---- A flag

new_flag : (k : World) (flags : Flags) (env : Store) (rows : ℕ → Row) (b : List ℕ) (o : Option Flag) (v : Variable) (y : List ℕ) (flag : Flag) (p : Bool) → bytes_eq b y ≡ p → ((z : Flag) → o ≡ Some z → HoldsFlag k rows z (Some v)) → (flags y ≡ Some flag → HoldsFlag k rows flag (at_name env y)) → cond p o (flags y) ≡ Some flag → HoldsFlag k rows flag (at_name (put env b v) y)
new_flag k flags env rows b o v y flag true q new old e = same_flag k rows flag (Some v) (at_name (put env b v) y) (ap (at_name (put env b v)) (sym (names_equal b y q)) ∙ put_same env b v) (new flag e)
new_flag k flags env rows b o v y flag false q new old e = same_flag k rows flag (at_name env y) (at_name (put env b v) y) (put_other env b y v q) (old e)

-- a flag of the block, or a name that is lost from sight
pub matches_flag : (n : Numbering) (flags : Flags) (w : java.World) (k : World) (env : Store) (rows : ℕ → Row) (b : List ℕ) (o : Option Flag) (v : Variable) → IsApart n b → ((z : Flag) → o ≡ Some z → HoldsFlag k rows z (Some v)) → Matches n flags w k env rows → Matches n (with_flag b o flags) w k (put env b v) rows
matches_flag n flags w k env rows b o v p new m = matches_apart n flags (with_flag b o flags) w k env (put env b v) rows b p (λ y q. put_other env b y v q) m (λ y flag e. new_flag k flags env rows b o v y flag (bytes_eq b y) refl new (m.in_sight y flag) e)

-- ---- A loop

nat_turned : (i j : ℕ) → nat_eq i j ≡ false → nat_eq j i ≡ false
nat_turned i j e = grind (arith, nat_tests, e)

nat_itself : (j : ℕ) → nat_eq j j ≡ true
nat_itself j = grind (arith, nat_tests)

row_there : (rows : ℕ → Row) (j i : ℕ) (r : Row) → nat_eq j i ≡ true → with_row rows j r i ≡ r
row_there rows j i r e = ap (λ p. cond p r (rows i)) e

pub row_elsewhere : (rows : ℕ → Row) (j i : ℕ) (r : Row) → nat_eq j i ≡ false → with_row rows j r i ≡ rows i
row_elsewhere rows j i r e = ap (λ p. cond p r (rows i)) e

rows_elsewhere : (rows : ℕ → Row) (j : ℕ) (r : Row) (loops : List ℕ) → has_loop loops j ≡ false → map (with_row rows j r) loops ≡ map rows loops
rows_elsewhere rows j r [] e = refl
rows_elsewhere rows j r (i ∷ loops) e =
    let t = both_false (nat_eq i j) (has_loop loops j) e in
    ap₂ (λ (z : Row) (zs : List Row). z ∷ zs) (row_elsewhere rows j i r (nat_turned i j t.0)) (rows_elsewhere rows j r loops t.1)

flag_in_loop : (k : World) (rows : ℕ → Row) (j : ℕ) (r : Row) (flag : Flag) (o : Option Variable) → is_at_other_loops j flag → HoldsFlag k rows flag o → HoldsFlag k (with_row rows j r) flag o
flag_in_loop k rows j r (Starts b) o e h = h
flag_in_loop k rows j r (Reads number opposite loops) o e h = subst (λ (rs : List Row). o ≡ Some (plainly (turned_truth opposite (k.flags number rs)))) (sym (rows_elsewhere rows j r loops e)) h

loop_step : (n : Numbering) (env : Store) (rows : ℕ → Row) (x y : List ℕ) (j i : ℕ) (r : Row) (p : Bool) → bytes_eq x y ≡ p → (n.loops y ≡ Some i → nat_eq j i ≡ false) → (n.loops y ≡ Some i → HoldsRow n i (rows i) (at_name env y)) → at_name env x ≡ Some (plainly (element r)) → IsRowOf (n.tables j) (columns_at n.schema (n.tables j)) r → cond p (Some j) (n.loops y) ≡ Some i → HoldsRow (with_loop x j n) i (with_row rows j r i) (at_name env y)
loop_step n env rows x y j i r true q new old held typed e =
    let same : j ≡ i = cc in
    let there : with_row rows j r i ≡ r = row_there rows j i r (ap (nat_eq j) (sym same) ∙ nat_itself j) in
    record {
      is = ap (at_name env) (sym (names_equal x y q)) ∙ held ∙ ap (λ z. Some (plainly (element z))) (sym there);
      typed = subst (λ (z : Row). IsRowOf (n.tables i) (columns_at n.schema (n.tables i)) z) (sym there) (subst (λ (z : ℕ). IsRowOf (n.tables z) (columns_at n.schema (n.tables z)) r) same typed);
    }
loop_step n env rows x y j i r false q new old held typed e =
    let there : with_row rows j r i ≡ rows i = row_elsewhere rows j i r (new e) in
    let h : HoldsRow n i (rows i) (at_name env y) = old e in
    record {
      is = h.is ∙ ap (λ z. Some (plainly (element z))) (sym there);
      typed = subst (λ (z : Row). IsRowOf (n.tables i) (columns_at n.schema (n.tables i)) z) (sym there) h.typed;
    }

in_loop : (n : Numbering) (flags : Flags) (w : java.World) (k : World) (env : Store) (rows : ℕ → Row) (x : List ℕ) (j : ℕ) (r : Row) → at_name env x ≡ Some (plainly (element r)) → IsNewLoop n flags j → IsRowOf (n.tables j) (columns_at n.schema (n.tables j)) r → Matches n flags w k env rows → Matches (with_loop x j n) flags w k env (with_row rows j r)
in_loop n flags w k env rows x j r held new typed m = record {
  schema = m.schema;
  lists = m.lists;
  fetched = m.fetched;
  variables = m.variables;
  loops = λ y i e. loop_step n env rows x y j i r (bytes_eq x y) refl (new.loops y i) (m.loops y i) held typed e;
  entries = m.entries;
  known = m.known;
  in_sight = λ b flag e. flag_in_loop k rows j r flag (at_name env b) (new.in_sight b flag e) (m.in_sight b flag e);
}

-- a loop's variable holds a row of the loop's list
pub matches_loop : (n : Numbering) (flags : Flags) (w : java.World) (k : World) (env : Store) (rows : ℕ → Row) (x : List ℕ) (j : ℕ) (r : Row) → IsApart n x → flags x ≡ None → IsNewLoop n flags j → IsRowOf (n.tables j) (columns_at n.schema (n.tables j)) r → Matches n flags w k env rows → Matches (with_loop x j n) flags w k (put env x (plainly (element r))) (with_row rows j r)
matches_loop n flags w k env rows x j r p e new typed m = in_loop n flags w k (put env x (plainly (element r))) rows x j r (put_same env x (plainly (element r))) new typed (matches_put n flags w k env rows x (plainly (element r)) p e m)

-- another variable than the loop's stays apart
pub apart_in_loop : (n : Numbering) (x a : List ℕ) (j : ℕ) → bytes_eq x a ≡ false → IsApart n a → IsApart (with_loop x j n) a
apart_in_loop n x a j e p = record { loops = ap (λ q. cond q (Some j) (n.loops a)) e ∙ p.loops; entries = p.entries; known = p.known; sources = p.sources }
