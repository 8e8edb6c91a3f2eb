-- The loops in sight at a place: the visible rows with the numbers of their loops.
use Rattle.std.proofs.Common.{◌≡◌, ℕ, zero, suc, ◌<◌, ◌≤◌, Bool, true, false, ◌||◌, List, [], ◌∷◌, ◌++◌, length, map, take, Option, Some, None, refl, sym, ap, ◌∙◌, subst, cond, slice_get, bytes_eq, nat_eq, arith, ◌⊎◌, inl, inr, ⊎_elim}
use Rattle.std.specs.List.{filter, AllByRecursion}
use Rattle.std.proofs.lemmas.Bool.{eq-eqb}
use Rattle.std.proofs.lemmas.List.Folds.{list_any-append}
use Rattle.java_mean.specs.declared.types.JavaType.{JavaType}
use Rattle.java_mean.specs.declared.types.JavaType.TheVariants.{Of}
use Rattle.java_mean.specs.declared.types.Single.TheVariants.{RowOf}
use Rattle.java_mean.specs.Types.{Types, with_type}
use Rattle.java_mean.specs.Typing.{bool}
use Rattle.java_mean.proofs.Members.{all_added}
use Rattle.java_mean.proofs.Puts.{names_equal, name_same}
use Rattle.tor_terms.specs.Truth.{has_loop}
use Rattle.java_loops.specs.Walks.Numbering.{Numbering, with_loops, IsApart}
use Rattle.loop_text.specs.Statements.Loops.{is_loop}
use Rattle.java_loops.specs.Lowering.Numbering.{loop_number, table_of_loop}
use Rattle.java_loops.specs.Kernel.Setting.{Setting}
use Rattle.loop_text.specs.declared.sites.bindings.Binding.{Binding}
use Rattle.loop_text.specs.declared.sites.bindings.Binding.TheVariants.{Row, Local, Outer}
use Rattle.loop_text.specs.Sites.Sites.{Round, Site, binding_at, in_loop}
use Rattle.java_loops.proofs.Typing.BoundTyping.{new_other, seen_with}
use Rattle.java_loops.proofs.Chained.ChainPremises.{HasNumbers, InSight}
use Rattle.java_loops.proofs.Numbers.Numberings.{RowSeen}
use Rattle.java_loops.proofs.Standing.StandingRules.{get_same}

-- ---- Visible names

pub record Visible (g : Types) (x : List ℕ) : Type 0 where
  pub type : JavaType
  pub is : g x ≡ Some type

pub record BoundToRow (w : Setting) (n : ℕ) (x : List ℕ) : Type 0 where
  pub loop : ℕ
  pub is : binding_at w.sites n x ≡ Row loop

-- at the site with this number stands a loop
pub record LoopThere (w : Setting) (j : ℕ) : Type 0 where
  pub site : Site
  pub there : slice_get w.sites j ≡ Some site
  pub is : is_loop site.statement ≡ true

-- The loops in sight at the site with this number, in this round: those whose rows are visible. All stand round it, and so
-- have numbers below those of the loops from there on.
pub record Sight (w : Setting) (r : Round) (n : ℕ) (g : Types) (loops : List ℕ → Option ℕ) : Type 0 where
  pub rows : (x : List ℕ) (k : JavaType) (j : ℕ) → g x ≡ Some k → binding_at w.sites n x ≡ Row j → loops x ≡ Some (loop_number w.sites j)
  pub visible : (x : List ℕ) (j : ℕ) → loops x ≡ Some j → Visible g x
  pub bound : (x : List ℕ) (j : ℕ) → loops x ≡ Some j → BoundToRow w n x
  pub low : (x : List ℕ) (j : ℕ) → loops x ≡ Some j → j < loop_number w.sites n
  pub within : (x : List ℕ) (j : ℕ) → loops x ≡ Some j → has_loop (map (loop_number w.sites) r.loops) j ≡ true
  pub outer : (x : List ℕ) (k : JavaType) → w.types x ≡ Some k → g x ≡ Some k
  pub round : AllByRecursion (λ k. loop_number w.sites k < loop_number w.sites n) r.loops
  pub tables : (x : List ℕ) (k : JavaType) (j : ℕ) (s : Site) → g x ≡ Some k → binding_at w.sites n x ≡ Row j → slice_get w.sites j ≡ Some s → k ≡ Of (RowOf (table_of_loop w.schema s.statement))
  pub types : (x : List ℕ) (k : JavaType) → g x ≡ Some k → binding_at w.sites n x ≡ Outer → w.types x ≡ Some k
  pub over : (x : List ℕ) (k : JavaType) (j : ℕ) → g x ≡ Some k → binding_at w.sites n x ≡ Row j → LoopThere w j
  pub locals : (x : List ℕ) (k : JavaType) (d : ℕ) → g x ≡ Some k → binding_at w.sites n x ≡ Local d → k ≡ bool

none_or : (o : Option ℕ) → ((j : ℕ) → o ≡ Some j → ⊥) → o ≡ None
none_or (Some j) h = absurd (h j refl)
none_or None h = refl

type_none : (o : Option JavaType) → ((k : JavaType) → o ≡ Some k → ⊥) → o ≡ None
type_none (Some k) h = absurd (h k refl)
type_none None h = refl

hidden_step : (g : Types) (x : List ℕ) → g x ≡ None → Visible g x → ⊥
hidden_step g x e v = let f = v.is in absurd cc

-- what isn't visible has no loop
pub hidden_loop : (w : Setting) (r : Round) (n : ℕ) (g : Types) (loops : List ℕ → Option ℕ) → Sight w r n g loops → (x : List ℕ) → g x ≡ None → loops x ≡ None
hidden_loop w r n g loops s x e = none_or (loops x) (λ j h. hidden_step g x e (s.visible x j h))

unbound_step : (b : Binding) (j : ℕ) → ((i : ℕ) → b ≡ Row i → ⊥) → b ≡ Row j → ⊥
unbound_step b j h e = h j e

-- what is bound to no row has no loop
pub unbound_loop : (w : Setting) (r : Round) (n : ℕ) (g : Types) (loops : List ℕ → Option ℕ) → Sight w r n g loops → (x : List ℕ) (b : Binding) → binding_at w.sites n x ≡ b → ((i : ℕ) → b ≡ Row i → ⊥) → loops x ≡ None
unbound_loop w r n g loops s x b e other = none_or (loops x) (λ j h. let t : BoundToRow w n x = s.bound x j h in other t.loop (sym e ∙ t.is))

-- a name without a number outside of the loop has none where no row has this name
pub apart_in : (N : Numbering) (loops : List ℕ → Option ℕ) (x : List ℕ) → IsApart N x → loops x ≡ None → IsApart (with_loops loops N) x
apart_in N loops x a e = record { loops = e; entries = a.entries; known = a.known; sources = a.sources }

-- a new name isn't visible at the whole loop
pub new_outside : (w : Setting) (r : Round) (n : ℕ) (g : Types) (loops : List ℕ → Option ℕ) → Sight w r n g loops → (x : List ℕ) → g x ≡ None → w.types x ≡ None
new_outside w r n g loops s x e = type_none (w.types x) (λ k f. let q = s.outer x k f in absurd cc)

-- a new name has no number
pub apart_new : (w : Setting) (N : Numbering) → HasNumbers w N → (r : Round) (n : ℕ) (g : Types) (loops : List ℕ → Option ℕ) → Sight w r n g loops → (x : List ℕ) → g x ≡ None → IsApart (with_loops loops N) x
apart_new w N h r n g loops s x e =
    apart_in N loops x (h.new x (new_outside w r n g loops s x e)) (hidden_loop w r n g loops s x e)

pub in_sight : (w : Setting) (r : Round) (n : ℕ) (g : Types) (loops : List ℕ → Option ℕ) → Sight w r n g loops → InSight w n g loops
in_sight w r n g loops s = record { rows = s.rows; hidden = hidden_loop w r n g loops s; outer = s.outer; tables = s.tables; types = s.types; sighted = record { rows = row_seen; outer = s.types; locals = s.locals } }
  where
    row_seen : (x : List ℕ) (k : JavaType) (j : ℕ) → g x ≡ Some k → binding_at w.sites n x ≡ Row j → RowSeen w loops x k j
    row_seen x k j e b =
        let l : LoopThere w j = s.over x k j e b in
        record { number = s.rows x k j e b; site = l.site; there = l.there; is_loop = l.is; type = s.tables x k j l.site e b l.there }

-- ---- Counting loops

kept_loop : (test : Site → Bool) (x : Site) (xs : List Site) (b : Bool) → test x ≡ b → length (filter test (x ∷ xs)) ≡ cond b (suc (length (filter test xs))) (length (filter test xs))
kept_loop test x xs true e = ap (λ b. length (cond b (x ∷ filter test xs) (filter test xs))) e
kept_loop test x xs false e = ap (λ b. length (cond b (x ∷ filter test xs) (filter test xs))) e

more_kept : (b : Bool) (p q k l : ℕ) → p ≤ q → k ≡ cond b (suc p) p → l ≡ cond b (suc q) q → k ≤ l
more_kept true p q k l h e f = omega (arith, h, e, f)
more_kept false p q k l h e f = omega (arith, h, e, f)

fewer : (test : Site → Bool) (n m : ℕ) (sites : List Site) → n ≤ m → length (filter test (take n sites)) ≤ length (filter test (take m sites))
fewer test zero m sites h = omega arith
fewer test (suc n) zero sites h = absurd (omega (arith, h))
fewer test (suc n) (suc m) [] h = omega arith
fewer test (suc n) (suc m) (x ∷ xs) h =
    more_kept (test x) (length (filter test (take n xs))) (length (filter test (take m xs))) _ _ (fewer test n m xs (omega (arith, h))) (kept_loop test x (take n xs) (test x) refl) (kept_loop test x (take m xs) (test x) refl)

-- later places have as many loops before them or more
pub number_later : (sites : List Site) (n m : ℕ) → n ≤ m → loop_number sites n ≤ loop_number sites m
number_later sites n m h = fewer (λ (s : Site). is_loop s.statement) n m sites h

one_step : (test : Site → Bool) (n : ℕ) (sites : List Site) (s : Site) → slice_get sites n ≡ Some s → test s ≡ true → length (filter test (take (suc n) sites)) ≡ suc (length (filter test (take n sites)))
one_step test n [] s get is = absurd cc
one_step test zero (x ∷ xs) s get is = let same : x ≡ s = cc in kept_loop test x [] true (ap test same ∙ is)
one_step test (suc n) (x ∷ xs) s get is =
    let rest = one_step test n xs s get is in
    kept_loop test x (take (suc n) xs) (test x) refl ∙ ap (λ k. cond (test x) (suc k) k) rest ∙ swap (test x) (length (filter test (take n xs))) ∙ ap suc (sym (kept_loop test x (take n xs) (test x) refl))
  where
    swap : (b : Bool) (k : ℕ) → cond b (suc (suc k)) (suc k) ≡ suc (cond b (suc k) k)
    swap true k = refl
    swap false k = refl

-- behind a loop the next number follows
pub number_next : (sites : List Site) (n : ℕ) (s : Site) → slice_get sites n ≡ Some s → is_loop s.statement ≡ true → loop_number sites (suc n) ≡ suc (loop_number sites n)
number_next sites n s get is = one_step (λ (x : Site). is_loop x.statement) n sites s get is

all_lower : (sites : List Site) (n m : ℕ) (ls : List ℕ) → n ≤ m → AllByRecursion (λ k. loop_number sites k < loop_number sites n) ls → AllByRecursion (λ k. loop_number sites k < loop_number sites m) ls
all_lower sites n m [] h all = tt
all_lower sites n m (l ∷ ls) h all = (let e = all.0 in let f = number_later sites n m h in omega (arith, e, f), all_lower sites n m ls h all.1)

-- ---- Moving on

-- each visible name is bound at the second place as at the first
pub record Kept (w : Setting) (n m : ℕ) (g : Types) : Type 0 where
  pub up : n ≤ m
  pub by : (x : List ℕ) (k : JavaType) → g x ≡ Some k → binding_at w.sites m x ≡ binding_at w.sites n x

-- further on in a round with the same loops
pub sight_kept : (w : Setting) (r q : Round) (n m : ℕ) (g : Types) (loops : List ℕ → Option ℕ) → q.loops ≡ r.loops → Kept w n m g → Sight w r n g loops → Sight w q m g loops
sight_kept w r q n m g loops same kept s =
    record {
      rows = λ x k j e b. s.rows x k j e (sym (kept.by x k e) ∙ b);
      visible = s.visible;
      bound = λ x j e. let v : Visible g x = s.visible x j e in let t : BoundToRow w n x = s.bound x j e in record { loop = t.loop; is = kept.by x v.type v.is ∙ t.is };
      low = λ x j e. let h = s.low x j e in let k = number_later w.sites n m kept.up in omega (arith, h, k);
      within = λ x j e. ap (λ ls. has_loop (map (loop_number w.sites) ls) j) same ∙ s.within x j e;
      outer = s.outer;
      tables = λ x k j z e b there. s.tables x k j z e (sym (kept.by x k e) ∙ b) there;
      types = λ x k e b. s.types x k e (sym (kept.by x k e) ∙ b);
      over = λ x k j e b. s.over x k j e (sym (kept.by x k e) ∙ b);
      locals = λ x k d e b. s.locals x k d e (sym (kept.by x k e) ∙ b);
      round = subst (λ ls. AllByRecursion (λ k. loop_number w.sites k < loop_number w.sites m) ls) (sym same) (all_lower w.sites n m r.loops kept.up s.round);
    }

-- one name more, bound so
pub record Binds (w : Setting) (n m : ℕ) (x : List ℕ) (b : Binding) : Type 0 where
  pub up : n ≤ m
  pub by : (y : List ℕ) → binding_at w.sites m y ≡ cond (bytes_eq x y) b (binding_at w.sites n y)

-- the name is the new one, or is visible and bound as before
pub record NewOrOld (g : Types) (x y : List ℕ) (o : Option JavaType) (b before now : Binding) (k : JavaType) : Type 0 where
  pub by : ((bytes_eq x y ≡ true) × (now ≡ b)) ⊎ ((bytes_eq x y ≡ false) × ((g y ≡ Some k) × (now ≡ before)))

new_or_old : (g : Types) (x y : List ℕ) (o : Option JavaType) (b before now : Binding) (k : JavaType) (q : Bool) → bytes_eq x y ≡ q → cond q o (g y) ≡ Some k → now ≡ cond q b before → NewOrOld g x y o b before now k
new_or_old g x y o b before now k true e i h = record { by = inl (e, h) }
new_or_old g x y o b before now k false e i h = record { by = inr (e, (i, h)) }

pub split_name : (w : Setting) (n m : ℕ) (g : Types) (x y : List ℕ) (o : Option JavaType) (b : Binding) (k : JavaType) → Binds w n m x b → with_type x o g y ≡ Some k → NewOrOld g x y o b (binding_at w.sites n y) (binding_at w.sites m y) k
split_name w n m g x y o b k binds i = new_or_old g x y o b (binding_at w.sites n y) (binding_at w.sites m y) k (bytes_eq x y) refl i (binds.by y)

pub old_binding : (w : Setting) (n m : ℕ) (g : Types) (x y : List ℕ) (b : Binding) (k : JavaType) → Binds w n m x b → g x ≡ None → g y ≡ Some k → binding_at w.sites m y ≡ binding_at w.sites n y
old_binding w n m g x y b k binds new i = binds.by y ∙ ap (λ q. cond q b (binding_at w.sites n y)) (new_other g y x k new i)

-- behind the declaration of a flag
pub sight_declared : (w : Setting) (r : Round) (n m d : ℕ) (g : Types) (loops : List ℕ → Option ℕ) (x : List ℕ) (t : JavaType) → t ≡ bool → g x ≡ None → Binds w n m x (Local d) → Sight w r n g loops → Sight w r m (with_type x (Some t) g) loops
sight_declared w r n m d g loops x t flag new binds s =
    record {
      rows = λ y k j e b. let o : NewOrOld g x y (Some t) (Local d) (binding_at w.sites n y) (binding_at w.sites m y) k = split_name w n m g x y (Some t) (Local d) k binds e in
          ⊎_elim (λ h. let f : Local d ≡ Row j = sym h.1 ∙ b in absurd cc) (λ h. s.rows y k j h.1.0 (sym h.1.1 ∙ b)) o.by;
      visible = λ y j e. let v : Visible g y = s.visible y j e in record { type = v.type; is = seen_with g y x (Some t) v.type new v.is };
      bound = λ y j e. let v : Visible g y = s.visible y j e in let q : BoundToRow w n y = s.bound y j e in record { loop = q.loop; is = old_binding w n m g x y (Local d) v.type binds new v.is ∙ q.is };
      low = λ y j e. let h = s.low y j e in let k = number_later w.sites n m binds.up in omega (arith, h, k);
      within = s.within;
      tables = λ y k j z e b there. let o : NewOrOld g x y (Some t) (Local d) (binding_at w.sites n y) (binding_at w.sites m y) k = split_name w n m g x y (Some t) (Local d) k binds e in
          ⊎_elim (λ h. let f : Local d ≡ Row j = sym h.1 ∙ b in absurd cc) (λ h. s.tables y k j z h.1.0 (sym h.1.1 ∙ b) there) o.by;
      types = λ y k e b. let o : NewOrOld g x y (Some t) (Local d) (binding_at w.sites n y) (binding_at w.sites m y) k = split_name w n m g x y (Some t) (Local d) k binds e in
          ⊎_elim (λ h. let f : Local d ≡ Outer = sym h.1 ∙ b in absurd cc) (λ h. s.types y k h.1.0 (sym h.1.1 ∙ b)) o.by;
      over = λ y k j e b. let o : NewOrOld g x y (Some t) (Local d) (binding_at w.sites n y) (binding_at w.sites m y) k = split_name w n m g x y (Some t) (Local d) k binds e in
          ⊎_elim (λ h. let f : Local d ≡ Row j = sym h.1 ∙ b in absurd cc) (λ h. s.over y k j h.1.0 (sym h.1.1 ∙ b)) o.by;
      locals = λ y k i e b. let o : NewOrOld g x y (Some t) (Local d) (binding_at w.sites n y) (binding_at w.sites m y) k = split_name w n m g x y (Some t) (Local d) k binds e in
          ⊎_elim (λ h. let types : Some t ≡ Some k = sym (ap (λ q. cond q (Some t) (g y)) h.0) ∙ e in let type : t ≡ k = cc in sym type ∙ flag) (λ h. s.locals y k i h.1.0 (sym h.1.1 ∙ b)) o.by;
      outer = λ y k e. seen_with g y x (Some t) k new (s.outer y k e);
      round = all_lower w.sites n m r.loops binds.up s.round;
    }

-- ---- Into a loop

abbrev pub with_row : List ℕ → ℕ → (List ℕ → Option ℕ) → List ℕ → Option ℕ
with_row x j loops = λ y. cond (bytes_eq x y) (Some j) (loops y)

loop_or : (x y : List ℕ) (i j : ℕ) (loops : List ℕ → Option ℕ) (q : Bool) → bytes_eq x y ≡ q → cond q (Some i) (loops y) ≡ Some j → ((x ≡ y) × (i ≡ j)) ⊎ (loops y ≡ Some j)
loop_or x y i j loops true e h = inl (names_equal x y e, cc)
loop_or x y i j loops false e h = inr h

map_more : (f : ℕ → ℕ) (xs : List ℕ) (n : ℕ) → map f (xs ++ n ∷ []) ≡ map f xs ++ f n ∷ []
map_more f [] n = refl
map_more f (x ∷ xs) n = ap (λ ys. f x ∷ ys) (map_more f xs n)

pub or_left : (a b : Bool) → a ≡ true → (a || b) ≡ true
or_left true b e = refl
or_left false b e = absurd cc

pub or_right : (a b : Bool) → b ≡ true → (a || b) ≡ true
or_right true b e = refl
or_right false b e = e

within_old : (w : Setting) (loops : List ℕ) (n j : ℕ) → has_loop (map (loop_number w.sites) loops) j ≡ true → has_loop (map (loop_number w.sites) (loops ++ n ∷ [])) j ≡ true
within_old w loops n j e =
    let ls : List ℕ = map (loop_number w.sites) loops in
    ap (λ xs. has_loop xs j) (map_more (loop_number w.sites) loops n)
    ∙ list_any-append (λ k. nat_eq k j) ls (loop_number w.sites n ∷ [])
    ∙ or_left (has_loop ls j) (has_loop (loop_number w.sites n ∷ []) j) e

within_new : (w : Setting) (loops : List ℕ) (n j : ℕ) → loop_number w.sites n ≡ j → has_loop (map (loop_number w.sites) (loops ++ n ∷ [])) j ≡ true
within_new w loops n j e =
    let ls : List ℕ = map (loop_number w.sites) loops in
    ap (λ xs. has_loop xs j) (map_more (loop_number w.sites) loops n)
    ∙ list_any-append (λ k. nat_eq k j) ls (loop_number w.sites n ∷ [])
    ∙ or_right (has_loop ls j) (has_loop (loop_number w.sites n ∷ []) j) (or_left (nat_eq (loop_number w.sites n) j) false (eq-eqb (loop_number w.sites n) j e))

-- in the body of a for-each
pub sight_row : (w : Setting) (r : Round) (n m : ℕ) (g : Types) (loops : List ℕ → Option ℕ) (x : List ℕ) (t : JavaType) (site : Site) → slice_get w.sites n ≡ Some site → is_loop site.statement ≡ true → suc n ≡ m → t ≡ Of (RowOf (table_of_loop w.schema site.statement)) → g x ≡ None → Binds w n m x (Row n) → Sight w r n g loops → Sight w (in_loop r n) m (with_type x (Some t) g) (with_row x (loop_number w.sites n) loops)
sight_row w r n m g loops x t site get is next is_row new binds s =
    let i : ℕ = loop_number w.sites n in
    let more : loop_number w.sites m ≡ suc i = ap (loop_number w.sites) (sym next) ∙ number_next w.sites n site get is in
    record {
      rows = λ y k j e b. let o : NewOrOld g x y (Some t) (Row n) (binding_at w.sites n y) (binding_at w.sites m y) k = split_name w n m g x y (Some t) (Row n) k binds e in
          ⊎_elim (λ h. let f : Row n ≡ Row j = sym h.1 ∙ b in let same : n ≡ j = cc in ap (λ q. cond q (Some i) (loops y)) h.0 ∙ ap (λ z. Some (loop_number w.sites z)) same) (λ h. ap (λ q. cond q (Some i) (loops y)) h.0 ∙ s.rows y k j h.1.0 (sym h.1.1 ∙ b)) o.by;
      visible = λ y j e. ⊎_elim (λ h. record { type = t; is = ap (λ q. cond q (Some t) (g y)) (ap (λ z. bytes_eq x z) (sym h.0) ∙ name_same x) }) (λ h. let v : Visible g y = s.visible y j h in record { type = v.type; is = seen_with g y x (Some t) v.type new v.is }) (loop_or x y i j loops (bytes_eq x y) refl e);
      bound = λ y j e. ⊎_elim (λ h. record { loop = n; is = binds.by y ∙ ap (λ q. cond q (Row n) (binding_at w.sites n y)) (ap (λ z. bytes_eq x z) (sym h.0) ∙ name_same x) }) (λ h. let v : Visible g y = s.visible y j h in let q : BoundToRow w n y = s.bound y j h in record { loop = q.loop; is = old_binding w n m g x y (Row n) v.type binds new v.is ∙ q.is }) (loop_or x y i j loops (bytes_eq x y) refl e);
      low = λ y j e. ⊎_elim (λ h. let f = h.1 in omega (arith, f, more)) (λ h. let f = s.low y j h in omega (arith, f, more)) (loop_or x y i j loops (bytes_eq x y) refl e);
      within = λ y j e. ⊎_elim (λ h. within_new w r.loops n j h.1) (λ h. within_old w r.loops n j (s.within y j h)) (loop_or x y i j loops (bytes_eq x y) refl e);
      tables = λ y k j z e b there. let o : NewOrOld g x y (Some t) (Row n) (binding_at w.sites n y) (binding_at w.sites m y) k = split_name w n m g x y (Some t) (Row n) k binds e in
          ⊎_elim
          (λ h. let f : Row n ≡ Row j = sym h.1 ∙ b in let same : n ≡ j = cc in
          let types : Some t ≡ Some k = sym (ap (λ q. cond q (Some t) (g y)) h.0) ∙ e in let type : t ≡ k = cc in
          sym type ∙ is_row ∙ ap (λ (q : Site). Of (RowOf (table_of_loop w.schema q.statement))) (get_same w.sites j site z (ap (slice_get w.sites) (sym same) ∙ get) there))
          (λ h. s.tables y k j z h.1.0 (sym h.1.1 ∙ b) there) o.by;
      types = λ y k e b. let o : NewOrOld g x y (Some t) (Row n) (binding_at w.sites n y) (binding_at w.sites m y) k = split_name w n m g x y (Some t) (Row n) k binds e in
          ⊎_elim (λ h. let f : Row n ≡ Outer = sym h.1 ∙ b in absurd cc) (λ h. s.types y k h.1.0 (sym h.1.1 ∙ b)) o.by;
      over = λ y k j e b. let o : NewOrOld g x y (Some t) (Row n) (binding_at w.sites n y) (binding_at w.sites m y) k = split_name w n m g x y (Some t) (Row n) k binds e in
          ⊎_elim (λ h. let f : Row n ≡ Row j = sym h.1 ∙ b in let same : n ≡ j = cc in record { site = site; there = ap (slice_get w.sites) (sym same) ∙ get; is = is }) (λ h. s.over y k j h.1.0 (sym h.1.1 ∙ b)) o.by;
      locals = λ y k d e b. let o : NewOrOld g x y (Some t) (Row n) (binding_at w.sites n y) (binding_at w.sites m y) k = split_name w n m g x y (Some t) (Row n) k binds e in
          ⊎_elim (λ h. let f : Row n ≡ Local d = sym h.1 ∙ b in absurd cc) (λ h. s.locals y k d h.1.0 (sym h.1.1 ∙ b)) o.by;
      outer = λ y k e. seen_with g y x (Some t) k new (s.outer y k e);
      round = all_added (λ k. loop_number w.sites k < loop_number w.sites m) r.loops n (all_lower w.sites n m r.loops binds.up s.round) (omega (arith, more));
    }
