-- The rules, each a function of the term at whose head it is applied, none where it doesn't match.
use Rattle.std.specs.Prelude.{ℕ, zero, suc, pos, Bool, true, false, cond, ◌&&◌, List, [], ◌∷◌, ◌++◌, slice_get, nat_eq}
use Rattle.std.specs.declared.option.Option.{Option}
use Rattle.std.specs.declared.option.Option.TheVariants.{Some, None}
use Rattle.qbs_base.specs.declared.scalar.Scalar.TheVariants as scalars
use Rattle.tor_terms.specs.declared.term.Atom.{Atom}
use Rattle.tor_terms.specs.declared.term.Index.TheVariants as indexes
use Rattle.tor_terms.specs.Plain.{Form, Tree, Nil, Walk, Top, One, Single, Cat, Join, Sel, Proj, Uniq, Insert, Lit, Item, Count, Sum, Any, Best, Pick, Add, Or}
use Rattle.tor_terms.specs.Truth.{form_within}
use Rattle.tor_axioms.specs.declared.facts.Literal.{Literal}
use Rattle.tor_axioms.specs.Decide.{decide_form, is_no, is_yes}

abbrev pub Rule : Type 0
Rule = Tree → Option Tree

-- a tree, where a test holds
abbrev pub where_so : Bool → Tree → Option Tree
where_so b t = cond b (Some t) None

abbrev pub number : ℕ → Tree
number n = Lit (scalars.Long (pos n))

abbrev pub truth_term : Bool → Tree
truth_term b = Lit (scalars.Bool b)

abbrev pub top_zero : Rule
top_zero (Top indexes.Zero r) = Some Nil
top_zero _ = None

abbrev pub top_next : Rule
top_next (Top (indexes.Next j) (Walk k)) = where_so (nat_eq j k) (Cat (Top (indexes.At j) (Walk j)) (One (j ∷ [])))
top_next _ = None

abbrev pub top_len : Rule
top_len (Top (indexes.Len j) (Walk k)) = where_so (nat_eq j k) (Walk j)
top_len _ = None

abbrev pub cat_nil_left : Rule
cat_nil_left (Cat Nil r) = Some r
cat_nil_left _ = None

abbrev pub cat_nil_right : Rule
cat_nil_right (Cat r Nil) = Some r
cat_nil_right _ = None

abbrev pub cat_cat : Rule
cat_cat (Cat (Cat r s) t) = Some (Cat r (Cat s t))
cat_cat _ = None

abbrev pub join_nil_left : Rule
join_nil_left (Join Nil r) = Some Nil
join_nil_left _ = None

abbrev pub join_nil_right : Rule
join_nil_right (Join r Nil) = Some Nil
join_nil_right _ = None

abbrev pub join_cat_left : Rule
join_cat_left (Join (Cat r s) t) = Some (Cat (Join r t) (Join s t))
join_cat_left _ = None

abbrev pub join_cat_right : Rule
join_cat_right (Join (One a) (Cat r s)) = Some (Cat (Join (One a) r) (Join (One a) s))
join_cat_right _ = None

abbrev pub join_ones : Rule
join_ones (Join (One a) (One b)) = Some (One (a ++ b))
join_ones _ = None

abbrev pub join_one_join : Rule
join_one_join (Join (One a) (Join (One b) r)) = Some (Join (One (a ++ b)) r)
join_one_join _ = None

abbrev pub sel_none : Rule
sel_none (Sel [] r) = Some r
sel_none _ = None

abbrev pub sel_nil : Rule
sel_nil (Sel fs Nil) = Some Nil
sel_nil _ = None

abbrev pub sel_cat : Rule
sel_cat (Sel fs (Cat r s)) = Some (Cat (Sel fs r) (Sel fs s))
sel_cat _ = None

-- whether some formula is decided to be false, and whether all are decided to be true
abbrev pub some_no : List Atom → List Literal → List Form → Bool
some_no atoms facts [] = false
some_no atoms facts (f ∷ fs) = cond (is_no (decide_form atoms facts f)) true (some_no atoms facts fs)

abbrev pub all_yes : List Atom → List Literal → List Form → Bool
all_yes atoms facts [] = true
all_yes atoms facts (f ∷ fs) = is_yes (decide_form atoms facts f) && all_yes atoms facts fs

abbrev pub sel_no : List Atom → List Literal → Rule
sel_no atoms facts (Sel fs (One a)) = where_so (some_no atoms facts fs) Nil
sel_no atoms facts _ = None

abbrev pub sel_yes : List Atom → List Literal → Rule
sel_yes atoms facts (Sel fs (One a)) = where_so (all_yes atoms facts fs) (One a)
sel_yes atoms facts _ = None

-- whether a formula whose loops are all among these is decided to be false, or to be true
abbrev pub no_within : List Atom → List Literal → List ℕ → Form → Bool
no_within atoms facts a f = form_within atoms a f && is_no (decide_form atoms facts f)

abbrev pub yes_within : List Atom → List Literal → List ℕ → Form → Bool
yes_within atoms facts a f = form_within atoms a f && is_yes (decide_form atoms facts f)

abbrev pub some_no_within : List Atom → List Literal → List ℕ → List Form → Bool
some_no_within atoms facts a [] = false
some_no_within atoms facts a (f ∷ fs) = cond (no_within atoms facts a f) true (some_no_within atoms facts a fs)

abbrev pub kept_form : Form → Option (List Form) → Option (List Form)
kept_form f None = None
kept_form f (Some fs) = Some (f ∷ fs)

-- the formulas without the first one whose loops are all among these and that is decided to be true
abbrev pub without_yes : List Atom → List Literal → List ℕ → List Form → Option (List Form)
without_yes atoms facts a [] = None
without_yes atoms facts a (f ∷ fs) = cond (yes_within atoms facts a f) (Some fs) (kept_form f (without_yes atoms facts a fs))

abbrev pub sel_join_no : List Atom → List Literal → Rule
sel_join_no atoms facts (Sel fs (Join (One a) r)) = where_so (some_no_within atoms facts a fs) Nil
sel_join_no atoms facts _ = None

abbrev pub sel_with : Option (List Form) → Tree → Option Tree
sel_with None r = None
sel_with (Some fs) r = Some (Sel fs r)

abbrev pub sel_join_yes : List Atom → List Literal → Rule
sel_join_yes atoms facts (Sel fs (Join (One a) r)) = sel_with (without_yes atoms facts a fs) (Join (One a) r)
sel_join_yes atoms facts _ = None

abbrev pub proj_nil : Rule
proj_nil (Proj e Nil) = Some Nil
proj_nil _ = None

abbrev pub proj_cat : Rule
proj_cat (Proj e (Cat r s)) = Some (Cat (Proj e r) (Proj e s))
proj_cat _ = None

abbrev pub proj_one : Rule
proj_one (Proj e (One a)) = Some (Single e)
proj_one _ = None

abbrev pub uniq_nil : Rule
uniq_nil (Uniq Nil) = Some Nil
uniq_nil _ = None

abbrev pub uniq_cat : Rule
uniq_cat (Uniq (Cat r (Single e))) = Some (Insert (Uniq r) e)
uniq_cat _ = None

abbrev pub count_nil : Rule
count_nil (Count Nil) = Some (number 0)
count_nil _ = None

abbrev pub count_cat : Rule
count_cat (Count (Cat r s)) = Some (Add (Count r) (Count s))
count_cat _ = None

abbrev pub count_one : Rule
count_one (Count (One a)) = Some (number 1)
count_one _ = None

abbrev pub sum_nil : Rule
sum_nil (Sum Nil) = Some (number 0)
sum_nil _ = None

abbrev pub sum_cat : Rule
sum_cat (Sum (Cat r s)) = Some (Add (Sum r) (Sum s))
sum_cat _ = None

abbrev pub sum_one : Rule
sum_one (Sum (Single e)) = Some (Item e)
sum_one _ = None

abbrev pub best_nil : Rule
best_nil (Best way v Nil) = Some v
best_nil _ = None

abbrev pub best_cat : Rule
best_cat (Best way v (Cat r s)) = Some (Best way (Best way v r) s)
best_cat _ = None

abbrev pub best_one : Rule
best_one (Best way v (Single e)) = Some (Pick way v (Item e))
best_one _ = None

abbrev pub any_nil : Rule
any_nil (Any Nil) = Some (truth_term false)
any_nil _ = None

abbrev pub any_cat : Rule
any_cat (Any (Cat r s)) = Some (Or (Any r) (Any s))
any_cat _ = None

abbrev pub any_one : Rule
any_one (Any (One a)) = Some (truth_term true)
any_one _ = None

-- whether a term is the literal 0
abbrev pub is_zero : Tree → Bool
is_zero (Lit (scalars.Long (pos n))) = nat_eq n 0
is_zero _ = false

abbrev pub add_zero_left : Rule
add_zero_left (Add a b) = where_so (is_zero a) b
add_zero_left _ = None

abbrev pub add_zero_right : Rule
add_zero_right (Add a b) = where_so (is_zero b) a
add_zero_right _ = None

abbrev pub add_add : Rule
add_add (Add (Add a b) c) = Some (Add a (Add b c))
add_add _ = None

abbrev pub or_false_left : Rule
or_false_left (Or (Lit (scalars.Bool false)) b) = Some b
or_false_left _ = None

abbrev pub or_false_right : Rule
or_false_right (Or a (Lit (scalars.Bool false))) = Some a
or_false_right _ = None

abbrev pub or_true_right : Rule
or_true_right (Or a (Lit (scalars.Bool true))) = Some (truth_term true)
or_true_right _ = None

abbrev pub or_true_left : Rule
or_true_left (Or (Lit (scalars.Bool true)) b) = Some (truth_term true)
or_true_left _ = None

abbrev pub or_or : Rule
or_or (Or (Or a b) c) = Some (Or a (Or b c))
or_or _ = None

-- the rules in the order of their numbers, which begin with 1
abbrev pub rules : List Atom → List Literal → List Rule
rules atoms facts =
    top_zero ∷ top_next ∷ top_len ∷ cat_nil_left ∷ cat_nil_right ∷ cat_cat ∷ join_nil_left ∷ join_nil_right ∷ join_cat_left ∷ join_cat_right
    ∷ join_ones ∷ join_one_join ∷ sel_none ∷ sel_nil ∷ sel_cat ∷ sel_no atoms facts ∷ sel_yes atoms facts ∷ sel_join_no atoms facts ∷ sel_join_yes atoms facts ∷ proj_nil
    ∷ proj_cat ∷ proj_one ∷ uniq_nil ∷ uniq_cat ∷ count_nil ∷ count_cat ∷ count_one ∷ sum_nil ∷ sum_cat ∷ sum_one
    ∷ best_nil ∷ best_cat ∷ best_one ∷ any_nil ∷ any_cat ∷ any_one ∷ add_zero_left ∷ add_zero_right ∷ add_add ∷ or_false_left
    ∷ or_false_right ∷ or_true_right ∷ or_true_left ∷ or_or ∷ []

abbrev pub by_rule : Option Rule → Tree → Option Tree
by_rule None t = None
by_rule (Some f) t = f t

abbrev pub nth_rule : List Rule → ℕ → Option Rule
nth_rule fs zero = None
nth_rule fs (suc n) = slice_get fs n

-- the rule of a number at the head of a term
abbrev pub at_head : List Atom → List Literal → ℕ → Tree → Option Tree
at_head atoms facts n t = by_rule (nth_rule (rules atoms facts) n) t
