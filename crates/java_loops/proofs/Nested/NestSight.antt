-- What is known of the names that are visible at a site of a nest: which are set, which are left as they are, and
-- what they are bound to.
use Rattle.std.proofs.Common.{◌≡◌, ℕ, suc, ◌+◌, ◌<◌, Bool, true, false, not, ◌||◌, List, [], ◌∷◌, length, Some, None, refl, sym, ap, ◌∙◌, subst, cond, bytes_eq, slice_get, arith, ◌⊎◌, inl, inr, ⊎_elim, length-append}
use Rattle.std.proofs.lemmas.Bool.{cases_Bool, and_from, and_left, and_right, and_parts, not_from_false, or_cases, or_left, or_right, false_from_ne_true}
use Rattle.java_ast.specs.Tree.{Statement}
use Rattle.java_mean.specs.declared.types.JavaType.{JavaType}
use Rattle.java_mean.specs.declared.types.JavaType.TheVariants.{Of}
use Rattle.java_mean.specs.declared.types.Single.{Single}
use Rattle.java_mean.specs.Types.{Types, with_type}
use Rattle.java_mean.specs.Typing.{Has}
use Rattle.java_loops.specs.Walks.Effects.{sets}
use Rattle.java_loops.specs.Walks.Nests.{with_name, is_among, seen, set_here, accumulators_here, fixed_here}
use Rattle.java_loops.specs.Walks.Reads.{Set}
use Rattle.loop_text.specs.Statements.Fragment.{accumulators, counter, is_name}
use Rattle.loop_text.specs.Statements.Loops.{is_loop}
use Rattle.java_ast.specs.Names as names
use Rattle.java_loops.specs.Kernel.Setting.{Setting}
use Rattle.loop_text.specs.declared.sites.bindings.Binding.{Binding}
use Rattle.loop_text.specs.declared.sites.bindings.Binding.TheVariants.{Row, Local, Outer}
use Rattle.loop_text.specs.Sites.Sites.{Round, Site, binding_at, depth, in_loop, is_some}
use Rattle.java_loops.proofs.Typing.BoundTyping.{new_other, seen_with}
use Rattle.java_loops.proofs.Standing.StandingRules.{get_same}

-- a variable from outside that the loop sets: an accumulator, or what the loop counts by
abbrev pub is_set_outside : Setting → List ℕ → Bool
is_set_outside w y = names.is_among (accumulators w.fragment) y || is_name (counter w.fragment.loop) y

-- how many loops stand round what stands in a statement
abbrev pub inner_level : Round → Statement → ℕ
inner_level r s = cond (is_loop s) (suc (length r.loops)) (length r.loops)

-- Where the types g are visible at the site with this number, a variable of a is set in the statement there, and
-- one of f is left as it is: that is a row, a variable from outside that the loop doesn't set, or a flag of a block
-- so far out that no more than these loops stand round it.
pub record Sight (w : Setting) (n level : ℕ) (g : Types) (a f : Set) : Type 0 where
  pub known : (y : List ℕ) → a y ≡ true → is_some (g y) ≡ true
  pub seen_fixed : (y : List ℕ) → f y ≡ true → is_some (g y) ≡ true
  pub rows : (y : List ℕ) (k : JavaType) (j : ℕ) → g y ≡ Some k → binding_at w.sites n y ≡ Row j → f y ≡ true
  pub outer : (y : List ℕ) (k : JavaType) → g y ≡ Some k → binding_at w.sites n y ≡ Outer → is_set_outside w y ≡ false → f y ≡ true
  pub flags : (y : List ℕ) (k : JavaType) (d : ℕ) (t : Site) → g y ≡ Some k → binding_at w.sites n y ≡ Local d → slice_get w.sites d ≡ Some t → (f y ≡ true) ⊎ (depth t < level)
  pub lists : (y : List ℕ) (k : JavaType) (e : Single) → g y ≡ Some k → Has k e → binding_at w.sites n y ≡ Outer

-- a flag of a block that stands in this round
pub record Own (w : Setting) (n : ℕ) (r : Round) (g : Types) (y : List ℕ) : Type 0 where
  pub type : JavaType
  pub visible : g y ≡ Some type
  pub number : ℕ
  pub site : Site
  pub there : slice_get w.sites number ≡ Some site
  pub bound : binding_at w.sites n y ≡ Local number
  pub round : site.round ≡ r

-- The same before a statement of a block, where bs are the flags that are declared so far in the block.
pub record BlockSight (w : Setting) (n : ℕ) (r : Round) (g : Types) (a f : Set) (bs : List (List ℕ)) : Type 0 where
  pub known : (y : List ℕ) → a y ≡ true → is_some (g y) ≡ true
  pub seen_fixed : (y : List ℕ) → f y ≡ true → is_some (g y) ≡ true
  pub own : (y : List ℕ) → is_among bs y ≡ true → Own w n r g y
  pub rows : (y : List ℕ) (k : JavaType) (j : ℕ) → g y ≡ Some k → binding_at w.sites n y ≡ Row j → f y ≡ true
  pub outer : (y : List ℕ) (k : JavaType) → g y ≡ Some k → binding_at w.sites n y ≡ Outer → is_set_outside w y ≡ false → f y ≡ true
  pub flags : (y : List ℕ) (k : JavaType) (d : ℕ) (t : Site) → g y ≡ Some k → binding_at w.sites n y ≡ Local d → slice_get w.sites d ≡ Some t → (is_among bs y ≡ true) ⊎ ((f y ≡ true) ⊎ (depth t < length r.loops))
  pub lists : (y : List ℕ) (k : JavaType) (e : Single) → g y ≡ Some k → Has k e → binding_at w.sites n y ≡ Outer

-- ---- Into a block, and behind a statement that declares nothing

-- what is visible is bound at the second site as at the first
pub record Kept (w : Setting) (n m : ℕ) (g : Types) : Type 0 where
  pub by : (y : List ℕ) (k : JavaType) → g y ≡ Some k → binding_at w.sites m y ≡ binding_at w.sites n y

pub block_sight : (w : Setting) (n m level : ℕ) (r : Round) (g : Types) (a f : Set) → Kept w n m g → level ≡ length r.loops → Sight w n level g a f → BlockSight w m r g a f []
block_sight w n m level r g a f kept same s =
    record {
      known = s.known;
      seen_fixed = s.seen_fixed;
      own = λ y e. absurd cc;
      rows = λ y k j i b. s.rows y k j i (sym (kept.by y k i) ∙ b);
      outer = λ y k i b. s.outer y k i (sym (kept.by y k i) ∙ b);
      flags = λ y k d t i b there. ⊎_elim (λ e. inr (inl e)) (λ l. inr (inr (subst (λ q. depth t < q) same l))) (s.flags y k d t i (sym (kept.by y k i) ∙ b) there);
      lists = λ y k e i h. kept.by y k i ∙ s.lists y k e i h;
    }

own_next : (w : Setting) (n m : ℕ) (r : Round) (g : Types) (y : List ℕ) → Kept w n m g → Own w n r g y → Own w m r g y
own_next w n m r g y kept o = record { type = o.type; visible = o.visible; number = o.number; site = o.site; there = o.there; bound = kept.by y o.type o.visible ∙ o.bound; round = o.round }

pub next_sight : (w : Setting) (n m : ℕ) (r : Round) (g : Types) (a f : Set) (bs : List (List ℕ)) → Kept w n m g → BlockSight w n r g a f bs → BlockSight w m r g a f bs
next_sight w n m r g a f bs kept s =
    record {
      known = s.known;
      seen_fixed = s.seen_fixed;
      own = λ y e. own_next w n m r g y kept (s.own y e);
      rows = λ y k j i b. s.rows y k j i (sym (kept.by y k i) ∙ b);
      outer = λ y k i b. s.outer y k i (sym (kept.by y k i) ∙ b);
      flags = λ y k d t i b there. s.flags y k d t i (sym (kept.by y k i) ∙ b) there;
      lists = λ y k e i h. kept.by y k i ∙ s.lists y k e i h;
    }

-- ---- A new name

-- the new name, or one that was visible before
pub data NewOr (w : Setting) (n m : ℕ) (g : Types) (x : List ℕ) (o : JavaType) (b : Binding) (y : List ℕ) (k : JavaType) : Type 0 where
  is_new : bytes_eq x y ≡ true → o ≡ k → binding_at w.sites m y ≡ b → NewOr w n m g x o b y k
  is_old : bytes_eq x y ≡ false → g y ≡ Some k → binding_at w.sites m y ≡ binding_at w.sites n y → NewOr w n m g x o b y k

-- behind this site the name is bound so, and all else as before
pub record Binds (w : Setting) (n m : ℕ) (x : List ℕ) (b : Binding) : Type 0 where
  pub by : (y : List ℕ) → binding_at w.sites m y ≡ cond (bytes_eq x y) b (binding_at w.sites n y)

new_step : (w : Setting) (n m : ℕ) (g : Types) (x : List ℕ) (o : JavaType) (b : Binding) (y : List ℕ) (k : JavaType) (q : Bool) → bytes_eq x y ≡ q → cond q (Some o) (g y) ≡ Some k → binding_at w.sites m y ≡ cond q b (binding_at w.sites n y) → NewOr w n m g x o b y k
new_step w n m g x o b y k true e i h = let same : o ≡ k = cc in is_new e same h
new_step w n m g x o b y k false e i h = is_old e i h

pub new_or : (w : Setting) (n m : ℕ) (g : Types) (x : List ℕ) (o : JavaType) (b : Binding) (y : List ℕ) (k : JavaType) → Binds w n m x b → with_type x (Some o) g y ≡ Some k → NewOr w n m g x o b y k
new_or w n m g x o b y k binds i = new_step w n m g x o b y k (bytes_eq x y) refl i (binds.by y)

known_step : (g : Types) (x y : List ℕ) (o : JavaType) (q : Bool) → is_some (g y) ≡ true → is_some (cond q (Some o) (g y)) ≡ true
known_step g x y o true h = refl
known_step g x y o false h = h

-- what is visible is visible behind the new name
known_with : (g : Types) (x y : List ℕ) (o : JavaType) → is_some (g y) ≡ true → is_some (with_type x (Some o) g y) ≡ true
known_with g x y o h = known_step g x y o (bytes_eq x y) h

new_known : (g : Types) (x y : List ℕ) (o : JavaType) → bytes_eq x y ≡ true → is_some (with_type x (Some o) g y) ≡ true
new_known g x y o e = ap (λ q. is_some (cond q (Some o) (g y))) e

no_lists : (k : Single) (e : Single) → Has (Of k) e → ⊥
no_lists k e h = elim h [ ]

local_row : (n j : ℕ) → Local n ≡ Row j → ⊥
local_row n j e = absurd cc

local_outer : (n : ℕ) → Local n ≡ Outer → ⊥
local_outer n e = absurd cc

-- ---- Into a for-each

loops_more : (r : Round) (n : ℕ) → suc (length r.loops) ≡ length (in_loop r n).loops
loops_more r n = sym (length-append r.loops (n ∷ []) ∙ (let e : length r.loops + 1 ≡ suc (length r.loops) = omega arith in e))

pub row_sight : (w : Setting) (n m : ℕ) (r : Round) (g : Types) (a f : Set) (x : List ℕ) (e : Single) → Binds w n m x (Row n) → Sight w n (suc (length r.loops)) g a f → BlockSight w m (in_loop r n) (with_type x (Some (Of e)) g) a (with_name x f) []
row_sight w n m r g a f x e binds s =
    record {
      known = λ y h. known_with g x y (Of e) (s.known y h);
      seen_fixed = λ y h. ⊎_elim (λ i. new_known g x y (Of e) i) (λ i. known_with g x y (Of e) (s.seen_fixed y i)) (or_cases (bytes_eq x y) (f y) h);
      own = λ y h. absurd cc;
      rows = λ y k j i b. elim (new_or w n m g x (Of e) (Row n) y k binds i) [ is_new p q h ↦ or_left (bytes_eq x y) (f y) p | is_old p q h ↦ or_right (bytes_eq x y) (f y) (s.rows y k j q (sym h ∙ b)) ];
      outer = λ y k i b steady. elim (new_or w n m g x (Of e) (Row n) y k binds i) [ is_new p q h ↦ or_left (bytes_eq x y) (f y) p | is_old p q h ↦ or_right (bytes_eq x y) (f y) (s.outer y k q (sym h ∙ b) steady) ];
      flags = λ y k d t i b there. elim (new_or w n m g x (Of e) (Row n) y k binds i) [ is_new p q h ↦ inr (inl (or_left (bytes_eq x y) (f y) p)) | is_old p q h ↦ ⊎_elim (λ c. inr (inl (or_right (bytes_eq x y) (f y) c))) (λ l. inr (inr (subst (λ z. depth t < z) (loops_more r n) l))) (s.flags y k d t q (sym h ∙ b) there) ];
      lists = λ y k z i has. elim (new_or w n m g x (Of e) (Row n) y k binds i) [ is_new p q h ↦ absurd (no_lists e z (subst (λ j. Has j z) (sym q) has)) | is_old p q h ↦ h ∙ s.lists y k z q has ];
    }

-- ---- Behind a declaration

own_old : (w : Setting) (n m : ℕ) (r : Round) (g : Types) (x y : List ℕ) (o : JavaType) (b : Binding) → g x ≡ None → Binds w n m x b → Own w n r g y → Own w m r (with_type x (Some o) g) y
own_old w n m r g x y o b new binds own =
    let other : bytes_eq x y ≡ false = new_other g y x own.type new own.visible in
    record { type = own.type; visible = seen_with g y x (Some o) own.type new own.visible; number = own.number; site = own.site; there = own.there; bound = binds.by y ∙ ap (λ q. cond q b (binding_at w.sites n y)) other ∙ own.bound; round = own.round }

own_new : (w : Setting) (n m : ℕ) (r : Round) (g : Types) (x y : List ℕ) (o : JavaType) (t : Site) → slice_get w.sites n ≡ Some t → t.round ≡ r → Binds w n m x (Local n) → bytes_eq x y ≡ true → Own w m r (with_type x (Some o) g) y
own_new w n m r g x y o t there round binds e =
    record { type = o; visible = ap (λ q. cond q (Some o) (g y)) e; number = n; site = t; there = there; bound = binds.by y ∙ ap (λ q. cond q (Local n) (binding_at w.sites n y)) e; round = round }

pub declared_sight : (w : Setting) (n m : ℕ) (r : Round) (g : Types) (a f : Set) (bs : List (List ℕ)) (x : List ℕ) (e : Single) (t : Site) → slice_get w.sites n ≡ Some t → t.round ≡ r → g x ≡ None → Binds w n m x (Local n) → BlockSight w n r g a f bs → BlockSight w m r (with_type x (Some (Of e)) g) a f (x ∷ bs)
declared_sight w n m r g a f bs x e t there round new binds s =
    record {
      known = λ y h. known_with g x y (Of e) (s.known y h);
      seen_fixed = λ y h. known_with g x y (Of e) (s.seen_fixed y h);
      own = λ y h. ⊎_elim (λ i. own_new w n m r g x y (Of e) t there round binds i) (λ i. own_old w n m r g x y (Of e) (Local n) new binds (s.own y i)) (or_cases (bytes_eq x y) (is_among bs y) h);
      rows = λ y k j i b. elim (new_or w n m g x (Of e) (Local n) y k binds i) [ is_new p q h ↦ absurd (local_row n j (sym h ∙ b)) | is_old p q h ↦ s.rows y k j q (sym h ∙ b) ];
      outer = λ y k i b steady. elim (new_or w n m g x (Of e) (Local n) y k binds i) [ is_new p q h ↦ absurd (local_outer n (sym h ∙ b)) | is_old p q h ↦ s.outer y k q (sym h ∙ b) steady ];
      flags = λ y k d u i b held. elim (new_or w n m g x (Of e) (Local n) y k binds i) [ is_new p q h ↦ inl (or_left (bytes_eq x y) (is_among bs y) p) | is_old p q h ↦ ⊎_elim (λ c. inl (or_right (bytes_eq x y) (is_among bs y) c)) (λ c. inr c) (s.flags y k d u q (sym h ∙ b) held) ];
      lists = λ y k z i has. elim (new_or w n m g x (Of e) (Local n) y k binds i) [ is_new p q h ↦ absurd (no_lists e z (subst (λ j. Has j z) (sym q) has)) | is_old p q h ↦ h ∙ s.lists y k z q has ];
    }

-- ---- A statement of a block

-- what a statement sets that stands in a block: flags of the block only where it is a loop
pub record SetsOwn (bs : List (List ℕ)) (s : Statement) : Type 0 where
  pub by : (y : List ℕ) → is_among bs y ≡ true → sets s y ≡ true → is_loop s ≡ true

own_binding : (w : Setting) (n : ℕ) (r : Round) (g : Types) (y : List ℕ) (b : Binding) → Own w n r g y → binding_at w.sites n y ≡ b → ((d : ℕ) → Local d ≡ b → ⊥) → ⊥
own_binding w n r g y b own e other = other own.number (sym own.bound ∙ e)

-- what is no flag of the block isn't set here as one
not_here : (bs : List (List ℕ)) (s : Statement) (y : List ℕ) → (is_among bs y ≡ true → ⊥) → set_here bs s y ≡ false
not_here bs s y h = and_left (is_among bs y) (sets s y) (false_from_ne_true (is_among bs y) h)

fixed_from : (f : Set) (bs : List (List ℕ)) (s : Statement) (y : List ℕ) → f y ≡ true → set_here bs s y ≡ false → fixed_here f bs s y ≡ true
fixed_from f bs s y e h = and_from (seen f bs y) (not (set_here bs s y)) (or_left (f y) (is_among bs y) e) (not_from_false (set_here bs s y) h)

flag_level : (r : Round) (s : Statement) (t : Site) (b : Bool) → is_loop s ≡ b → t.round ≡ r → b ≡ true → depth t < inner_level r s
flag_level r s t true e same h =
    let l : inner_level r s ≡ suc (length r.loops) = ap (λ q. cond q (suc (length r.loops)) (length r.loops)) e in
    let d : depth t ≡ length r.loops = ap (λ (q : Round). length q.loops) same in
    omega (arith, l, d)
flag_level r s t false e same h = absurd cc

level_step : (r : Round) (d : ℕ) (b : Bool) → d < length r.loops → d < cond b (suc (length r.loops)) (length r.loops)
level_step r d true h = omega arith
level_step r d false h = h

own_flag : (w : Setting) (n : ℕ) (r : Round) (g : Types) (f : Set) (bs : List (List ℕ)) (s : Statement) (y : List ℕ) (t : Site) → SetsOwn bs s → is_among bs y ≡ true → t.round ≡ r → (fixed_here f bs s y ≡ true) ⊎ (depth t < inner_level r s)
own_flag w n r g f bs s y t only m round =
    ⊎_elim
    (λ e. inr (flag_level r s t (is_loop s) refl round (only.by y m e)))
    (λ e. inl (and_from (seen f bs y) (not (set_here bs s y)) (or_right (f y) (is_among bs y) m) (not_from_false (set_here bs s y) (and_right (is_among bs y) (sets s y) e))))
    (cases_Bool (sets s y))

same_site : (w : Setting) (n d : ℕ) (r : Round) (g : Types) (y : List ℕ) (t : Site) → (own : Own w n r g y) → binding_at w.sites n y ≡ Local d → slice_get w.sites d ≡ Some t → t.round ≡ r
same_site w n d r g y t own b there =
    let e : Local own.number ≡ Local d = sym own.bound ∙ b in
    let same : own.number ≡ d = cc in
    ap (λ (z : Site). z.round) (sym (get_same w.sites d own.site t (subst (λ i. slice_get w.sites i ≡ Some own.site) same own.there) there)) ∙ own.round

-- what is known of the names in a statement of a block
pub here_sight : (w : Setting) (n : ℕ) (r : Round) (g : Types) (a f : Set) (bs : List (List ℕ)) (s : Statement) → SetsOwn bs s → BlockSight w n r g a f bs → Sight w n (inner_level r s) g (accumulators_here a bs s) (fixed_here f bs s)
here_sight w n r g a f bs s only b =
    record {
      known = λ y h. ⊎_elim (λ e. b.known y e) (λ e. own_known y (b.own y (and_parts (is_among bs y) (sets s y) e).0)) (or_cases (a y) (set_here bs s y) h);
      seen_fixed = λ y h. ⊎_elim (λ e. b.seen_fixed y e) (λ e. own_known y (b.own y e)) (or_cases (f y) (is_among bs y) (and_parts (seen f bs y) (not (set_here bs s y)) h).0);
      rows = λ y k j i e. fixed_from f bs s y (b.rows y k j i e) (not_here bs s y (λ m. own_binding w n r g y (Row j) (b.own y m) e (λ d q. local_row d j q)));
      outer = λ y k i e steady. fixed_from f bs s y (b.outer y k i e steady) (not_here bs s y (λ m. own_binding w n r g y Outer (b.own y m) e (λ d q. local_outer d q)));
      flags = λ y k d t i e there. ⊎_elim (λ m. own_flag w n r g f bs s y t only m (same_site w n d r g y t (b.own y m) e there)) (λ m. other_flag y t m) (apart_flag y k d t i e there);
      lists = b.lists;
    }
  where
    own_known : (y : List ℕ) → Own w n r g y → is_some (g y) ≡ true
    own_known y own = ap is_some own.visible

    -- a flag of the block, or another one
    apart_flag : (y : List ℕ) (k : JavaType) (d : ℕ) (t : Site) → g y ≡ Some k → binding_at w.sites n y ≡ Local d → slice_get w.sites d ≡ Some t → (is_among bs y ≡ true) ⊎ ((is_among bs y ≡ false) × ((f y ≡ true) ⊎ (depth t < length r.loops)))
    apart_flag y k d t i e there =
        ⊎_elim (λ m. inl m) (λ m. ⊎_elim (λ c. inl c) (λ c. inr (m, c)) (b.flags y k d t i e there)) (cases_Bool (is_among bs y))

    other_flag : (y : List ℕ) (t : Site) → (is_among bs y ≡ false) × ((f y ≡ true) ⊎ (depth t < length r.loops)) → (fixed_here f bs s y ≡ true) ⊎ (depth t < inner_level r s)
    other_flag y t m = ⊎_elim (λ e. inl (fixed_from f bs s y e (and_left (is_among bs y) (sets s y) m.0))) (λ l. inr (level_step r (depth t) (is_loop s) l)) m.1
