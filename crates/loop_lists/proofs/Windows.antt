-- Stretches of loops, one behind another, and those in the branches of a statement.
use Rattle.std.specs.Prelude.{Vec, Option, Some, None}
use Rattle.std.proofs.Common.{◌≡◌, ℕ, zero, suc, ◌+◌, ◌-◌, ◌<◌, ◌≤◌, List, [], ◌∷◌, ◌++◌, length, take, drop, slice_get, refl, sym, ap, ◌∙◌, subst, arith, add-one, append_assoc, append-nil, length-append}
use Rattle.std.proofs.lemmas.List.{length-drop}
use Rattle.std.specs.declared.alloc.Global.{Global}
use Rattle.java_ast.specs.declared.tree.JTy.{JTy}
use Rattle.java_ast.specs.declared.tree.Expr.{Expr}
use Rattle.java_ast.specs.declared.tree.Stmt.{Stmt, out-Stmt}
use Rattle.java_ast.specs.declared.tree.StmtNode.{If, ForEach, While}
use Rattle.java_ast.specs.Reading.{statement, statements}
use Rattle.java_ast.specs.Tree.{Statement}
use Rattle.java_ast.proofs.Nodes.{if_is, if_else_is, for_each_is, while_is}
use Rattle.loop_text.specs.Statements.Loops.{loops_in, loops_among}
use Rattle.loop_lists.specs.Windows.{window, Sees}

-- ---- Parts of lists

none_taken : {A : Type 0} (xs : List A) → take zero xs ≡ []
none_taken [] = refl
none_taken (x ∷ xs) = refl

abbrev no_paths : List (List ℕ)
no_paths = []

taken_of_none : (n : ℕ) → take n no_paths ≡ no_paths
taken_of_none zero = refl
taken_of_none (suc n) = refl

none_dropped : {A : Type 0} (xs : List A) → drop zero xs ≡ xs
none_dropped [] = refl
none_dropped (x ∷ xs) = refl

dropped_of_none : (n : ℕ) → drop n no_paths ≡ no_paths
dropped_of_none zero = refl
dropped_of_none (suc n) = refl

take_both : {A : Type 0} (n : ℕ) (xs ys : List A) → take n (xs ++ ys) ≡ take n xs ++ take (n - length xs) ys
take_both zero xs ys =
    let e : zero - length xs ≡ zero = omega arith in
    none_taken (xs ++ ys) ∙ sym (ap (λ zs. zs ++ take (zero - length xs) ys) (none_taken xs) ∙ ap (λ k. take k ys) e ∙ none_taken ys)
take_both (suc n) [] ys = let e : suc n - 0 ≡ suc n = omega arith in ap (λ k. take k ys) (sym e)
take_both (suc n) (x ∷ xs) ys =
    let e : suc n - suc (length xs) ≡ n - length xs = omega arith in
    ap (λ zs. x ∷ zs) (take_both n xs ys) ∙ ap (λ k. x ∷ (take n xs ++ take k ys)) (sym e)

drop_both : {A : Type 0} (n : ℕ) (xs ys : List A) → drop n (xs ++ ys) ≡ drop n xs ++ drop (n - length xs) ys
drop_both zero xs ys =
    let e : zero - length xs ≡ zero = omega arith in
    none_dropped (xs ++ ys) ∙ sym (ap (λ zs. zs ++ drop (zero - length xs) ys) (none_dropped xs) ∙ ap (λ k. xs ++ drop k ys) e ∙ ap (λ zs. xs ++ zs) (none_dropped ys))
drop_both (suc n) [] ys = let e : suc n - 0 ≡ suc n = omega arith in ap (λ k. drop k ys) (sym e)
drop_both (suc n) (x ∷ xs) ys =
    let e : suc n - suc (length xs) ≡ n - length xs = omega arith in
    drop_both n xs ys ∙ ap (λ k. drop n xs ++ drop k ys) (sym e)

-- what is left of a number behind those that are taken
kept : {A : Type 0} (n : ℕ) (xs : List A) → n - length (take n xs) ≡ n - length xs
kept zero xs = omega arith
kept (suc n) [] = refl
kept (suc n) (x ∷ xs) = let h : n - length (take n xs) ≡ n - length xs = kept n xs in let e : suc n - suc (length (take n xs)) ≡ suc n - suc (length xs) = omega (arith, h) in e

-- an item of a part
taken_item : {A : Type 0} (n i : ℕ) (xs : List A) → i < length (take n xs) → slice_get (take n xs) i ≡ slice_get xs i
taken_item zero i [] h = refl
taken_item zero i (x ∷ xs) h = absurd (omega (arith, h))
taken_item (suc n) i [] h = refl
taken_item (suc n) zero (x ∷ xs) h = refl
taken_item (suc n) (suc i) (x ∷ xs) h = taken_item n i xs (omega (arith, h))

pub item_within : {A : Type 0} (from upto i n : ℕ) (xs : List A) → from + i ≡ n → i < length (drop from (take upto xs)) → slice_get (drop from (take upto xs)) i ≡ slice_get xs n
item_within zero upto i n xs e h =
    let same : i ≡ n = omega (arith, e) in
    let there : drop zero (take upto xs) ≡ take upto xs = none_dropped (take upto xs) in
    let within : i < length (take upto xs) = subst (λ ys. i < length ys) there h in
    ap (λ ys. slice_get ys i) there ∙ taken_item upto i xs within ∙ ap (slice_get xs) same
item_within (suc from) zero i n xs e h =
    let none : drop (suc from) (take zero xs) ≡ [] = ap (drop (suc from)) (none_taken xs) in
    let within : i < 0 = subst (λ ys. i < length ys) none h in
    absurd (omega (arith, within))
item_within (suc from) (suc upto) i n [] e h = absurd (omega (arith, h))
item_within (suc from) (suc upto) i zero (x ∷ xs) e h = absurd (omega (arith, e))
item_within (suc from) (suc upto) i (suc n) (x ∷ xs) e h = item_within from upto i n xs (omega (arith, e)) h

taken_within : {A : Type 0} (n : ℕ) (xs : List A) → length (take n xs) ≤ length xs
taken_within zero [] = omega arith
taken_within zero (x ∷ xs) = omega arith
taken_within (suc n) [] = omega arith
taken_within (suc n) (x ∷ xs) = let h : length (take n xs) ≤ length xs = taken_within n xs in omega (arith, h)

-- a place of a part is one of the whole
pub in_own : {A : Type 0} (from upto i n : ℕ) (xs : List A) → from + i ≡ n → i < length (drop from (take upto xs)) → n < length xs
in_own from upto i n xs e h =
    let many : length (drop from (take upto xs)) ≡ length (take upto xs) - from = length-drop from (take upto xs) in
    let few : length (take upto xs) ≤ length xs = taken_within upto xs in
    omega (arith, many, few, e, h)

pub nothing : {A : Type 0} (xs : List A) → drop 0 (take 0 xs) ≡ []
nothing [] = refl
nothing (x ∷ xs) = refl

within : {A : Type 0} (ys : List A) (i : ℕ) (x : A) → slice_get ys i ≡ Some x → i < length ys
within [] i x is = absurd cc
within (y ∷ ys) zero x is = omega arith
within (y ∷ ys) (suc i) x is = let h : i < length ys = within ys i x is in omega (arith, h)

pub item_there : {A : Type 0} (from upto i : ℕ) (xs : List A) (x : A) → slice_get (drop from (take upto xs)) i ≡ Some x → slice_get xs (from + i) ≡ Some x
item_there from upto i xs x is = sym (item_within from upto i (from + i) xs refl (within (drop from (take upto xs)) i x is)) ∙ is

-- ---- Stretches

window_both : (most left : ℕ) (xs ys : List (List ℕ)) → window most left (xs ++ ys) ≡ window most left xs ++ window most (left - length xs) ys
window_both most left xs ys =
    let h : left - length (take left xs) ≡ left - length xs = kept left xs in
    let e : (left - most) - length (take left xs) ≡ (left - length xs) - most = omega (arith, h) in
    ap (drop (left - most)) (take_both left xs ys)
    ∙ drop_both (left - most) (take left xs) (take (left - length xs) ys)
    ∙ ap (λ k. window most left xs ++ drop k (take (left - length xs) ys)) e

window_none : (most left : ℕ) → window most left [] ≡ []
window_none most left = ap (drop (left - most)) (taken_of_none left) ∙ dropped_of_none (left - most)

pub sees_none : (most left : ℕ) (found : List (List ℕ)) → Sees most [] left left found found
sees_none most left found = record { left = omega arith; found = sym (append-nil found) ∙ ap (λ zs. found ++ zs) (sym (window_none most left)) }

pub sees_both : (most : ℕ) (xs ys : List (List ℕ)) (a b c : ℕ) (f g h : List (List ℕ)) → Sees most xs a b f g → Sees most ys b c g h → Sees most (xs ++ ys) a c f h
sees_both most xs ys a b c f g h s t =
    let many : length (xs ++ ys) ≡ length xs + length ys = length-append xs ys in
    let first : b ≡ a - length xs = s.left in
    let second : c ≡ b - length ys = t.left in
    record {
      left = omega (arith, many, first, second);
      found =
          t.found
          ∙ ap (λ zs. zs ++ window most b ys) s.found
          ∙ append_assoc f (window most a xs) (window most b ys)
          ∙ ap (λ k. f ++ (window most a xs ++ window most k ys)) s.left
          ∙ ap (λ zs. f ++ zs) (sym (window_both most a xs ys));
    }

-- nothing behind the end
sees_past : (most : ℕ) (xs : List (List ℕ)) (found : List (List ℕ)) → Sees most xs 0 0 found found
sees_past most xs found = record { left = omega arith; found = sym (append-nil found) ∙ ap (λ zs. found ++ zs) (sym (ap (drop (0 - most)) (none_taken xs) ∙ dropped_of_none (0 - most))) }

pub sees_end : (most : ℕ) (xs : List (List ℕ)) (left : ℕ) (found : List (List ℕ)) → left ≡ 0 → Sees most xs left left found found
sees_end most xs left found none = subst (λ (k : ℕ). Sees most xs k k found found) (sym none) (sees_past most xs found)

-- What these loops and the rest lead to is what all of them lead to.
abbrev pub Goes : (most : ℕ) (rest all : List (List ℕ)) (left start : ℕ) (found old : List (List ℕ)) → Type 0
Goes most rest all left start found old = (behind : ℕ) (more : List (List ℕ)) → Sees most rest left behind found more → Sees most all start behind old more

pub statement_seen : (most : ℕ) (path : List ℕ) (i : ℕ) (block rest : List Stmt) (s : Stmt) (all : List (List ℕ)) (a b start : ℕ) (f g old : List (List ℕ)) → block ≡ s ∷ rest → Sees most (loops_in (path ++ i ∷ []) (statement s)) a b f g → Goes most (loops_among path i (statements block)) all a start f old
    → Goes most (loops_among path (i + 1) (statements rest)) all b start g old
statement_seen most path i block rest s all a b start f g old is seen goes =
    rw add-one (λ behind more h. goes behind more
    (subst (λ (ss : List Stmt). Sees most (loops_among path i (statements ss)) a behind f more) (sym is)
    (sees_both most (loops_in (path ++ i ∷ []) (statement s)) (loops_among path (suc i) (statements rest)) a b behind f g more seen h)))

pub all_seen : (most : ℕ) (path : List ℕ) (i : ℕ) (block : List Stmt) (all : List (List ℕ)) (left start : ℕ) (found old : List (List ℕ)) → block ≡ [] → Goes most (loops_among path i (statements block)) all left start found old → Sees most all start left old found
all_seen most path i block all left start found old none goes = goes left found (subst (λ (ss : List Stmt). Sees most (loops_among path i (statements ss)) left left found found) (sym none) (sees_none most left found))

-- ---- Statements with branches, where each is what was lent

module _ (most : ℕ) (here : List ℕ) (s : Stmt) where
  pub if_seen : (cond : Expr) (v : Vec Stmt Global) (o : Option (Vec Stmt Global)) (ss : List Stmt) (a b : ℕ) (f g : List (List ℕ)) → (out-Stmt s).node ≡ If cond v o → o ≡ None → ss ≡ v.items → Sees most (loops_among (here ++ 0 ∷ []) 0 (statements ss)) a b f g → Sees most (loops_in here (statement s)) a b f g
  if_seen cond v o ss a b f g is none lent seen =
      subst (λ (t : Statement). Sees most (loops_in here t) a b f g) (sym (if_is s cond v o is none))
      (subst (λ (ts : List Stmt). Sees most (loops_among (here ++ 0 ∷ []) 0 (statements ts)) a b f g) lent seen)

  pub if_else_seen : (cond : Expr) (v w : Vec Stmt Global) (o : Option (Vec Stmt Global)) (ss ts : List Stmt) (a b c : ℕ) (f g h : List (List ℕ)) → (out-Stmt s).node ≡ If cond v o → o ≡ Some w → ss ≡ v.items → ts ≡ w.items
      → Sees most (loops_among (here ++ 0 ∷ []) 0 (statements ss)) a b f g → Sees most (loops_among (here ++ 1 ∷ []) 0 (statements ts)) b c g h → Sees most (loops_in here (statement s)) a c f h
  if_else_seen cond v w o ss ts a b c f g h is some lent lent' first second =
      subst (λ (t : Statement). Sees most (loops_in here t) a c f h) (sym (if_else_is s cond v w o is some))
      (sees_both most (loops_among (here ++ 0 ∷ []) 0 (statements v.items)) (loops_among (here ++ 1 ∷ []) 0 (statements w.items)) a b c f g h
      (subst (λ (ts : List Stmt). Sees most (loops_among (here ++ 0 ∷ []) 0 (statements ts)) a b f g) lent first)
      (subst (λ (ts : List Stmt). Sees most (loops_among (here ++ 1 ∷ []) 0 (statements ts)) b c g h) lent' second))

  pub for_each_seen : (ty : JTy) (name : List ℕ) (list : Expr) (v : Vec Stmt Global) (ss : List Stmt) (a b : ℕ) (f g : List (List ℕ)) → (out-Stmt s).node ≡ ForEach ty name list v → ss ≡ v.items → Sees most (here ∷ loops_among (here ++ 0 ∷ []) 0 (statements ss)) a b f g → Sees most (loops_in here (statement s)) a b f g
  for_each_seen ty name list v ss a b f g is lent seen =
      subst (λ (t : Statement). Sees most (loops_in here t) a b f g) (sym (for_each_is s ty name list v is))
      (subst (λ (ts : List Stmt). Sees most (here ∷ loops_among (here ++ 0 ∷ []) 0 (statements ts)) a b f g) lent seen)

  pub while_seen : (cond : Expr) (v : Vec Stmt Global) (ss : List Stmt) (a b : ℕ) (f g : List (List ℕ)) → (out-Stmt s).node ≡ While cond v → ss ≡ v.items → Sees most (here ∷ loops_among (here ++ 0 ∷ []) 0 (statements ss)) a b f g → Sees most (loops_in here (statement s)) a b f g
  while_seen cond v ss a b f g is lent seen =
      subst (λ (t : Statement). Sees most (loops_in here t) a b f g) (sym (while_is s cond v is))
      (subst (λ (ts : List Stmt). Sees most (here ∷ loops_among (here ++ 0 ∷ []) 0 (statements ts)) a b f g) lent seen)

-- ---- A whole walk

-- where nothing is listed, all loops come before the stretch
pub all_before : (most from : ℕ) (xs : List (List ℕ)) (behind : ℕ) (paths : List (List ℕ)) → 0 < most → Sees most xs (from + most) behind [] paths → length paths ≡ 0 → (behind ≤ from + most) × (((from + most) - behind ≡ length xs) × (length xs ≤ from))
all_before most from xs behind paths some s none =
    let left : behind ≡ (from + most) - length xs = s.left in
    let few : length (take (from + most) xs) - ((from + most) - most) ≡ 0 = sym (length-drop ((from + most) - most) (take (from + most) xs)) ∙ ap length (sym s.found) ∙ none in
    let kept_so : (from + most) - length (take (from + most) xs) ≡ (from + most) - length xs = kept (from + most) xs in
    let within : length xs ≤ from = omega (arith, few, kept_so, some) in
    (omega (arith, left), (omega (arith, left, within), within))
