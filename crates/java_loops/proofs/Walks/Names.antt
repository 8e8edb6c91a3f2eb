-- Sets of names, stores that are the same on one, and what an expression reads.
use Rattle.std.proofs.Common.{◌≡◌, ℕ, Bool, true, false, not, ◌||◌, ◌&&◌, List, [], ◌∷◌, Some, refl, sym, ap, ◌∙◌, subst}
use Rattle.std.specs.Prelude.{bytes_eq}
use Rattle.std.proofs.lemmas.Bool.{false_from_ne_true, or_left, or_right, or_from, and_parts, and_from, and_left, not_from_false}
use Rattle.qbs_base.specs.Named.{at_name}
use Rattle.java_ast.specs.Tree.{Expression, Expressions, NoMore, And, Statement}
use Rattle.java_ast.specs.Tree as tree
use Rattle.java_mean.specs.Store.{Store, Variable, put}
use Rattle.java_mean.proofs.Alike.{put_at}
use Rattle.java_mean.proofs.Puts.{names_equal, put_other}
use Rattle.java_loops.specs.Walks.Effects.{sets}
use Rattle.java_loops.specs.Walks.Left.{Have, Distinct}
use Rattle.java_loops.specs.Walks.Reads.{Set, Reads, AllRead, SameOn}
use Rattle.java_loops.specs.Walks.Nests.{with_name, is_among, Apart, Guards, seen, set_here, accumulators_here, fixed_here}

-- ---- Names

-- names of which one is in a set and the other isn't
pub apart_names : (g : Set) (x y : List ℕ) → g x ≡ false → g y ≡ true → bytes_eq x y ≡ false
apart_names g x y h k = false_from_ne_true (bytes_eq x y) (λ e. let q : g x ≡ g y = ap g (names_equal x y e) in absurd cc)

pub apart_other : (g : Set) (x y : List ℕ) → g x ≡ true → g y ≡ false → bytes_eq x y ≡ false
apart_other g x y h k = false_from_ne_true (bytes_eq x y) (λ e. let q : g x ≡ g y = ap g (names_equal x y e) in absurd cc)

apart_step : (a : Set) (x y : List ℕ) (p q : Bool) → bytes_eq x y ≡ p → a x ≡ false → (q ≡ true → a y ≡ false) → (p || q) ≡ true → a y ≡ false
apart_step a x y true q e h k l = ap a (sym (names_equal x y e)) ∙ h
apart_step a x y false q e h k l = k l

pub apart_more : (a f : Set) (x : List ℕ) → a x ≡ false → Apart a f → Apart a (with_name x f)
apart_more a f x h k = record { by = λ y e. apart_step a x y (bytes_eq x y) (f y) refl h (k.by y) e }

-- ---- Flags

pub or_none : (b : Bool) → (b || false) ≡ true → b ≡ true
or_none true e = refl
or_none false e = absurd cc

swap_or : (a b c : Bool) → (a || (b || c)) ≡ true → (b || (a || c)) ≡ true
swap_or true true c e = refl
swap_or true false c e = refl
swap_or false b c e = e

-- what is known in a block is not set in it
pub apart_end : (a f : Set) → Apart a f → Apart a (seen f [])
apart_end a f k = record { by = λ x e. k.by x (or_none (f x) e) }

pub apart_flag : (a f : Set) (bs : List (List ℕ)) (b : List ℕ) → a b ≡ false → Apart a (seen f bs) → Apart a (seen f (b ∷ bs))
apart_flag a f bs b h k = record { by = λ x e. apart_step a b x (bytes_eq b x) (seen f bs x) refl h (k.by x) (swap_or (f x) (bytes_eq b x) (is_among bs x) e) }

here_step : (f m d : Bool) → ((f || m) && not (m && d)) ≡ true → (m && d) ≡ false
here_step true true true e = absurd cc
here_step true true false e = refl
here_step true false d e = refl
here_step false true true e = absurd cc
here_step false true false e = refl
here_step false false d e = refl

pub apart_here : (a f : Set) (bs : List (List ℕ)) (s : Statement) → Apart a (seen f bs) → Apart (accumulators_here a bs s) (fixed_here f bs s)
apart_here a f bs s k = record { by = λ x e. or_from (a x) (set_here bs s x) (k.by x (and_parts (seen f bs x) (not (set_here bs s x)) e).0) (here_step (f x) (is_among bs x) (sets s x) e) }

pub none_have : (s : Store) → Have [] s
none_have s = record { by = λ x e. absurd cc }

pub none_distinct : (f : Set) → Distinct f []
none_distinct f = record { by = λ x e. refl }

pub distinct_more : (f : Set) (bs : List (List ℕ)) (b : List ℕ) → f b ≡ false → Distinct f bs → Distinct f (b ∷ bs)
distinct_more f bs b fb h = record { by = λ x e. or_from (bytes_eq b x) (is_among bs x) (apart_names f b x fb e) (h.by x e) }

have_step : (bs : List (List ℕ)) (s : Store) (b x : List ℕ) (u : Variable) (p : Bool) → bytes_eq b x ≡ p → Have bs s → (p || is_among bs x) ≡ true → (v : Variable) × (at_name (put s b u) x ≡ Some v)
have_step bs s b x u true q h e = (u, put_at s b x u q)
have_step bs s b x u false q h e = let v = h.by x e in (v.0, put_other s b x u q ∙ v.1)

pub have_put : (bs : List (List ℕ)) (s : Store) (b : List ℕ) (u : Variable) → Have bs s → Have (b ∷ bs) (put s b u)
have_put bs s b u h = record { by = λ x e. have_step bs s b x u (bytes_eq b x) refl h e }

-- ---- Stores

-- a set that is in another
pub same_fewer : (f g : Set) (s t : Store) → ((x : List ℕ) → g x ≡ true → f x ≡ true) → SameOn f s t → SameOn g s t
same_fewer f g s t i h = record { by = λ x e. h.by x (i x e) }

put_step : (s t : Store) (x y : List ℕ) (v : Variable) (p q : Bool) → bytes_eq x y ≡ p → (q ≡ true → at_name s y ≡ at_name t y) → (p || q) ≡ true → at_name (put s x v) y ≡ at_name (put t x v) y
put_step s t x y v true q e h k = put_at s x y v e ∙ sym (put_at t x y v e)
put_step s t x y v false q e h k = put_other s x y v e ∙ h k ∙ sym (put_other t x y v e)

-- one variable is put into both
pub same_put : (f : Set) (s t : Store) (x : List ℕ) (v : Variable) → SameOn f s t → SameOn (with_name x f) (put s x v) (put t x v)
same_put f s t x v h = record { by = λ y e. put_step s t x y v (bytes_eq x y) (f y) refl (h.by y) e }

pub same_flag : (f : Set) (bs : List (List ℕ)) (s t : Store) (b : List ℕ) (v : Variable) → SameOn (seen f bs) s t → SameOn (seen f (b ∷ bs)) (put s b v) (put t b v)
same_flag f bs s t b v h = record { by = λ y e. (same_put (seen f bs) s t b v h).by y (swap_or (f y) (bytes_eq b y) (is_among bs y) e) }

held_step : (env s : Store) (x y : List ℕ) (v : Variable) (p q : Bool) → bytes_eq x y ≡ p → at_name s x ≡ Some v → (q ≡ true → at_name env y ≡ at_name s y) → (p || q) ≡ true → at_name (put env x v) y ≡ at_name s y
held_step env s x y v true q e h k l = put_at env x y v e ∙ sym h ∙ ap (at_name s) (names_equal x y e)
held_step env s x y v false q e h k l = put_other env x y v e ∙ k l

-- a variable of the second store is put into the first
pub same_held : (f : Set) (env s : Store) (x : List ℕ) (v : Variable) → SameOn f env s → at_name s x ≡ Some v → SameOn (with_name x f) (put env x v) s
same_held f env s x v h k = record { by = λ y e. held_step env s x y v (bytes_eq x y) (f y) refl k (h.by y) e }

-- of two stores with the same one, the first
pub same_left : (f : Set) (x : List ℕ) (s t : Store) → SameOn (with_name x f) s t → SameOn f s t
same_left f x s t h = record { by = λ y e. h.by y (or_right (bytes_eq x y) (f y) e) }

-- a statement in a block, and a block without flags
pub same_here : (f : Set) (bs : List (List ℕ)) (d : Statement) (s t : Store) → SameOn (seen f bs) s t → SameOn (fixed_here f bs d) s t
same_here f bs d s t h = record { by = λ y e. h.by y (and_parts (seen f bs y) (not (set_here bs d y)) e).0 }

pub same_end : (f : Set) (s t : Store) → SameOn f s t → SameOn (seen f []) s t
same_end f s t h = record { by = λ y e. h.by y (or_none (f y) e) }

-- what is fixed in a block or a flag that the statement doesn't set
pub left_flag : (f : Set) (bs : List (List ℕ)) (d : Statement) (x : List ℕ) → seen f bs x ≡ true → set_here bs d x ≡ false → fixed_here f bs d x ≡ true
left_flag f bs d x e h = and_from (seen f bs x) (not (set_here bs d x)) e (not_from_false (set_here bs d x) h)

pub left_fixed : (f : Set) (bs : List (List ℕ)) (d : Statement) (x : List ℕ) → Distinct f bs → f x ≡ true → fixed_here f bs d x ≡ true
left_fixed f bs d x k e = left_flag f bs d x (or_left (f x) (is_among bs x) e) (and_left (is_among bs x) (sets d x) (k.by x e))

-- ---- Expressions

mutual
  pub reads_wider : (e : Expression) (f g : Set) → ((x : List ℕ) → f x ≡ true → g x ≡ true) → Reads f e → Reads g e
  reads_wider (tree.Lit at x) f g i r = tt
  reads_wider (tree.Var at x) f g i r = i x r
  reads_wider (tree.Field at e name) f g i r = reads_wider e f g i r
  reads_wider (tree.Binary at op a b) f g i r = (reads_wider a f g i r.0, reads_wider b f g i r.1)
  reads_wider (tree.Not at e) f g i r = reads_wider e f g i r
  reads_wider (tree.Equals at a b) f g i r = (reads_wider a f g i r.0, reads_wider b f g i r.1)
  reads_wider (tree.Size at x) f g i r = i x r
  reads_wider (tree.Get at x e) f g i r = (i x r.0, reads_wider e f g i r.1)
  reads_wider (tree.Contains at x e) f g i r = (i x r.0, reads_wider e f g i r.1)
  reads_wider (tree.Fetch at t) f g i r = tt
  reads_wider (tree.Query at ty text es) f g i r = all_read_wider es f g i r
  reads_wider (tree.QueryLong at text es) f g i r = all_read_wider es f g i r
  reads_wider (tree.QueryBoolean at text es) f g i r = all_read_wider es f g i r
  reads_wider (tree.NewList at) f g i r = tt
  reads_wider (tree.NewSet at) f g i r = tt
  reads_wider (tree.NewSetOf at e) f g i r = reads_wider e f g i r

  all_read_wider : (es : Expressions) (f g : Set) → ((x : List ℕ) → f x ≡ true → g x ≡ true) → AllRead f es → AllRead g es
  all_read_wider NoMore f g i r = tt
  all_read_wider (And e es) f g i r = (reads_wider e f g i r.0, all_read_wider es f g i r.1)

-- what reads fixed variables alone reads no other one besides
pub reads_with : (e : Expression) (f : Set) (x : List ℕ) → Reads f e → Reads (with_name x f) e
reads_with e f x r = reads_wider e f (with_name x f) (λ y k. or_right (bytes_eq x y) (f y) k) r

pub guards_fixed : (d a f : Set) (c : Expression) → Reads f c → Guards d a f c
guards_fixed d a f c r = record { by = λ x ax dx. reads_with c f x r }

-- a condition round updates of one accumulator alone may read that one
pub guards_own : (d a f : Set) (c : Expression) (y : List ℕ) → ((x : List ℕ) → a x ≡ true → d x ≡ true → bytes_eq y x ≡ true) → Reads (with_name y f) c → Guards d a f c
guards_own d a f c y h r = record { by = λ x ax dx. subst (λ z. Reads (with_name z f) c) (names_equal y x (h x ax dx)) r }
