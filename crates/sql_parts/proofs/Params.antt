-- Each parameter of an emitted query is an entry of the fragment.
use Rattle.std.proofs.Common.{◌≡◌, ℕ, zero, suc, ◌<◌, ◌≤◌, max, Bool, true, false, cond, not, ◌||◌, List, [], ◌∷◌, ◌++◌, map, length, slice_get, refl, sym, ap, ◌∙◌, subst, arith, nat_lt}
use Rattle.std.specs.List.{AllByRecursion, list_all}
use Rattle.std.specs.declared.option.Option.{Option}
use Rattle.std.specs.declared.option.Option.TheVariants.{Some, None}
use Rattle.std.proofs.lemmas.List.{length-append}
use Rattle.qbs_base.specs.declared.scalar.Scalar.{Scalar}
use Rattle.qbs_base.specs.declared.scalar.Ty.{Ty}
use Rattle.qbs_base.specs.Values.{Schema, AreOf}
use Rattle.tor_terms.specs.declared.term.Atom.{Atom}
use Rattle.tor_terms.specs.declared.term.Atom.TheVariants as atoms
use Rattle.tor_terms.specs.declared.term.Operand.{Operand}
use Rattle.tor_terms.specs.declared.term.Operand.TheVariants as operands
use Rattle.tor_terms.specs.Plain.{Form, Is, Both, Either}
use Rattle.kernel_lang.specs.declared.parts.Col.{Col}
use Rattle.kernel_lang.specs.declared.parts.Update.{Update}
use Rattle.kernel_lang.specs.declared.parts.Update.TheVariants as updates
use Rattle.kernel_lang.specs.Plain.{Fragment}
use Rattle.kernel_lang.specs.Pools.{Member, members}
use Rattle.kernel_lang.specs.Sentences.{IsValid}
use Rattle.kernel_lang.specs.Validity.{is_field, operand_is_there, atom_is_there, atoms_are_there}
use Rattle.kernel_lang.proofs.Listing.{and_left, and_right, list_all_at}
use Rattle.sql_ast.specs.declared.tree.FromItem.{FromItem}
use Rattle.sql_ast.specs.declared.tree.SqlOpnd.{SqlOpnd}
use Rattle.sql_ast.specs.declared.tree.SqlOpnd.TheVariants as opnds
use Rattle.sql_ast.specs.Meaning.{nth}
use Rattle.sql_ast.specs.Names.{◌>>=◌}
use Rattle.sql_ast.specs.Tree.{Condition, Not, Compare, Bare, Exists, Within, Filter, Everything, Where, PlainListing, PlainQuery, Listing, Number, Truth}
use Rattle.sql_ast.specs.Tree as sql
use Rattle.sql_ast.specs.Typing.{opnd_param, last_param, filter_param, tys_up_to, ty_of_param}
use Rattle.sql_ast.specs.Valid.{IsOpndOf, IsConditionOf, IsFilterOf}
use Rattle.sql_parts.specs.Scopes.{Ground, ground, Scope, outermost, inner, list_of}
use Rattle.sql_parts.specs.Emitted.{side, less_test, greater_test, signed, args_of, entry_param, moved_opnd, moved, moved_filter, within_query, FlagCondition, literal, formula, joined_from, joined, limit_tests, limits, best_tests, conditions, no_flag, flag_loops, flag_exists, flag_condition, where_of, query_by, query_of}
use Rattle.sql_parts.specs.Given.{IsKnownQuery, AreKnown}
use Rattle.sql_parts.specs.Numbered.{filter_in}
use Rattle.sql_parts.proofs.Numbering.{OpndParam, EachParam, FilterParam}
use Rattle.sql_parts.proofs.Tools.{lt_of}

-- an entry with a value
abbrev pub HasValue : List Scalar → ℕ → Type 0
HasValue values k = (x : Scalar) × (slice_get values k ≡ Some x)

lower : (m n : ℕ) → suc m < suc n → m < n
lower m n h = omega (arith, h)

pub entry_there : (types : List Ty) (values : List Scalar) → AreOf types values → (k : ℕ) → k < length types → HasValue values k
entry_there [] values of k h = absurd (omega (arith, h))
entry_there (t ∷ types) [] of k h = absurd of
entry_there (t ∷ types) (x ∷ values) of zero h = (x, refl)
entry_there (t ∷ types) (x ∷ values) of (suc k) h = entry_there types values of.1 k (lower k (length types) h)

get_within : {X : Type 0} (xs : List X) (k : ℕ) (x : X) → slice_get xs k ≡ Some x → k < length xs
get_within [] k x e = absurd cc
get_within (y ∷ xs) zero x e = omega arith
get_within (y ∷ xs) (suc k) x e = let l : k < length xs = get_within xs k x e in omega (arith, l)

-- ---- known queries

pub bound : (P : ℕ → Option Ty) (n : ℕ) (types : List Ty) → tys_up_to P n ≡ Some types → length types ≡ n
bound P zero types e = let same : [] ≡ types = cc in ap length (sym same)
bound P (suc n) types e = go (tys_up_to P n) refl e (λ us is. bound P n us is)
  where
    pushed : (us : List Ty) (o : Option Ty) → length us ≡ n → (o >>= λ ty. Some (us ++ ty ∷ [])) ≡ Some types → length types ≡ suc n
    pushed us None l e = absurd cc
    pushed us (Some ty) l e = let same : us ++ ty ∷ [] ≡ types = cc in let one = length-append us (ty ∷ []) in let both : length (us ++ ty ∷ []) ≡ length types = ap length same in omega (arith, l, one, both)

    go : (o : Option (List Ty)) → tys_up_to P n ≡ o → (o >>= λ us. P (suc n) >>= λ ty. Some (us ++ ty ∷ [])) ≡ Some types → ((us : List Ty) → tys_up_to P n ≡ Some us → length us ≡ n) → length types ≡ suc n
    go None is e before = absurd cc
    go (Some us) is e before = pushed us (P (suc n)) (before us is) e

pub maps_length : (types : List Ty) (args : List ℕ) (params : List Ty) → map (slice_get types) args ≡ map Some params → length args ≡ length params
maps_length types [] [] e = refl
maps_length types [] (ty ∷ params) e = absurd cc
maps_length types (k ∷ args) [] e = absurd cc
maps_length types (k ∷ args) (ty ∷ params) e = ap suc (maps_length types args params cc)

args_within : (types : List Ty) (args : List ℕ) (params : List Ty) → map (slice_get types) args ≡ map Some params → AllByRecursion (λ k. k < length types) args
args_within types [] params e = tt
args_within types (k ∷ args) [] e = absurd cc
args_within types (k ∷ args) (ty ∷ params) e = let first : slice_get types k ≡ Some ty = cc in (get_within types k ty first, args_within types args params cc)

max_left : (a b n : ℕ) → max a b ≤ n → a ≤ n
max_left a b n h = omega (arith, h)

max_right : (a b n : ℕ) → max a b ≤ n → b ≤ n
max_right a b n h = omega (arith, h)

module _ (P : ℕ → Type 0) (schema : Schema) (n : ℕ) (args : List ℕ) (all : AllByRecursion P args) where
  arg_param : (ks : List ℕ) → AllByRecursion P ks → (i : ℕ) → i < length ks → OpndParam P (entry_param (slice_get ks i))
  arg_param [] h i l = absurd (omega (arith, l))
  arg_param (k ∷ ks) h zero l = h.0
  arg_param (k ∷ ks) h (suc i) l = arg_param ks h.1 i (lower i (length ks) l)

  at_number : (m : ℕ) → 1 ≤ m → m ≤ length args → OpndParam P (entry_param (nth args m))
  at_number zero h l = absurd (omega (arith, h))
  at_number (suc i) h l = arg_param args all i (omega (arith, l))

  opnd_param_in : (froms : List FromItem) (a : SqlOpnd) → IsOpndOf schema froms a → opnd_param a ≤ length args → OpndParam P (moved_opnd n args a)
  opnd_param_in froms (opnds.Column col) is l = tt
  opnd_param_in froms (opnds.Lit x) is l = tt
  opnd_param_in froms (opnds.Param m) is l = at_number m is.0 l

  mutual
    moved_param : (froms : List FromItem) (t : Condition) → IsConditionOf schema froms t → last_param t ≤ length args → EachParam P (moved n args t)
    moved_param froms (sql.Both a b) is l = (moved_param froms a is.0 (max_left (last_param a) (last_param b) (length args) l), moved_param froms b is.1 (max_right (last_param a) (last_param b) (length args) l))
    moved_param froms (sql.Either a b) is l = (moved_param froms a is.0 (max_left (last_param a) (last_param b) (length args) l), moved_param froms b is.1 (max_right (last_param a) (last_param b) (length args) l))
    moved_param froms (Not a) is l = moved_param froms a is l
    moved_param froms (Compare cmp a b) is l = (opnd_param_in froms a is.0 (max_left (opnd_param a) (opnd_param b) (length args) l), opnd_param_in froms b is.1 (max_right (opnd_param a) (opnd_param b) (length args) l))
    moved_param froms (Bare col) is l = tt
    moved_param froms (Exists from f) is l = moved_filter_param (froms ++ from) f is.1 l
    moved_param froms (Within a negated col from f) is l = (opnd_param_in froms a is.0 (max_left (opnd_param a) (filter_param f) (length args) l), moved_filter_param (froms ++ from) f is.3 (max_right (opnd_param a) (filter_param f) (length args) l))

    pub moved_filter_param : (froms : List FromItem) (f : Filter) → IsFilterOf schema froms f → filter_param f ≤ length args → FilterParam P (moved_filter n args f)
    moved_filter_param froms Everything is l = tt
    moved_filter_param froms (Where a) is l = moved_param froms a is l

pub known_there : (schema : Schema) (types : List Ty) (qs : List PlainQuery) (args : List (List ℕ)) → AreKnown schema types qs args → (n : ℕ) (q : PlainQuery) → slice_get qs n ≡ Some q → IsKnownQuery schema types q (args_of (slice_get args n))
known_there schema types [] args known n q e = absurd cc
known_there schema types (p ∷ qs) [] known n q e = absurd known
known_there schema types (p ∷ qs) (ks ∷ args) known zero q e = let same : p ≡ q = cc in subst (λ x. IsKnownQuery schema types x ks) same known.0
known_there schema types (p ∷ qs) (ks ∷ args) known (suc n) q e = known_there schema types qs args known.1 n q e

abbrev pub listing_params : PlainQuery → List Ty
listing_params (Listing q) = q.params
listing_params (Number q) = []
listing_params (Truth q) = []

all_append : {X : Type 0} (P : X → Type 0) (xs ys : List X) → AllByRecursion P xs → AllByRecursion P ys → AllByRecursion P (xs ++ ys)
all_append P [] ys a b = b
all_append P (x ∷ xs) ys a b = (a.0, all_append P xs ys a.1 b)

atoms_there : (f : Fragment) → IsValid f → list_all (atom_is_there f) f.atoms ≡ true
unfolding atoms_are_there
atoms_there f v = v.names

-- ---- what is emitted

module _ (schema : Schema) (f : Fragment) (cand : List ℕ) (known : List PlainQuery) (args : List (List ℕ)) (valid : IsValid f) (are : AreKnown schema f.entries known args) where
  abbrev g : Ground
  g = ground schema f cand known args

  abbrev IsEntry : ℕ → Type 0
  IsEntry k = k < length f.entries

  side_param : (s : Scope) (a : Operand) → operand_is_there f a ≡ true → OpndParam IsEntry (side g s a)
  side_param s (operands.Field j c) h = tt
  side_param s (operands.Entry k) h = lt_of k (length f.entries) h
  side_param s (operands.Lit x) h = tt

  within_listing : (s : Scope) (a : Operand) (ks : List ℕ) (q : PlainListing) (h : Bool) → operand_is_there f a ≡ true → IsKnownQuery schema f.entries (Listing q) ks → EachParam IsEntry (within_query g s a ks (Some (Listing q)) h)
  within_listing s a ks q h i k =
      let params : map (slice_get f.entries) ks ≡ map Some q.params = k.entries ∙ ap (λ x. map Some (listing_params x)) (sym k.is) in
      let count : length ks ≡ filter_param q.filter = maps_length f.entries ks q.params params ∙ bound (ty_of_param schema q.from q.filter) (filter_param q.filter) q.params k.valid.params in
      (side_param s a i, moved_filter_param IsEntry schema s.count ks (args_within f.entries ks q.params params) q.from q.filter k.valid.names.filter_ (omega (arith, count)))

  within_param : (s : Scope) (a : Operand) (n : ℕ) (h : Bool) → operand_is_there f a ≡ true → EachParam IsEntry (within_query g s a (args_of (slice_get args n)) (slice_get known n) h)
  within_param s a n h i = go (slice_get known n) refl
    where
      go : (o : Option PlainQuery) → slice_get known n ≡ o → EachParam IsEntry (within_query g s a (args_of (slice_get args n)) o h)
      go None e = (tt, tt)
      go (Some (Listing q)) e = within_listing s a (args_of (slice_get args n)) q h i (known_there schema f.entries known args are n (Listing q) e)
      go (Some (Number q)) e = (tt, tt)
      go (Some (Truth q)) e = (tt, tt)

  signed_param : (h : Bool) (t : Condition) → EachParam IsEntry t → EachParam IsEntry (signed h t)
  signed_param true t p = p
  signed_param false t p = p

  module _ (flag : FlagCondition) (flags : (s : Scope) (k : ℕ) → EachParam IsEntry (flag s k)) where
    less_param : (s : Scope) (a b : Operand) (h left : Bool) → operand_is_there f a ≡ true → operand_is_there f b ≡ true → EachParam IsEntry (cond left (Compare (less_test h) (side g s a) (side g s b)) (Compare (greater_test h) (side g s b) (side g s a)))
    less_param s a b h true i j = (side_param s a i, side_param s b j)
    less_param s a b h false i j = (side_param s b j, side_param s a i)

    atom_param : (s : Scope) (a : Atom) (h : Bool) → atom_is_there f a ≡ true → EachParam IsEntry (literal flag g s (Some a) h)
    atom_param s (atoms.Less a b) h i = less_param s a b h (is_field a || not (is_field b)) (and_left (operand_is_there f a) (operand_is_there f b) i) (and_right (operand_is_there f a) (operand_is_there f b) i)
    atom_param s (atoms.Same a b) h i = (side_param s a (and_left (operand_is_there f a) (operand_is_there f b) i), side_param s b (and_right (operand_is_there f a) (operand_is_there f b) i))
    atom_param s (atoms.Truth a) h i = (side_param s a i, tt)
    atom_param s (atoms.Member a n) h i = within_param s a n h (and_left (operand_is_there f a) (nat_lt n f.known) i)
    atom_param s (atoms.Flag k loops) h i = signed_param h (flag s k) (flags s k)

    literal_param : (s : Scope) (k : ℕ) (h : Bool) → list_all (atom_is_there f) f.atoms ≡ true → EachParam IsEntry (literal flag g s (slice_get f.atoms k) h)
    literal_param s k h all = go (slice_get f.atoms k) refl
      where
        go : (o : Option Atom) → slice_get f.atoms k ≡ o → EachParam IsEntry (literal flag g s o h)
        go None e = (tt, tt)
        go (Some a) e = atom_param s a h (list_all_at (atom_is_there f) f.atoms k a all e)

    formula_param : (s : Scope) (p : Form) → list_all (atom_is_there f) f.atoms ≡ true → EachParam IsEntry (formula flag g s p)
    formula_param s (Is k h) all = literal_param s k h all
    formula_param s (Both p q) all = (formula_param s p all, formula_param s q all)
    formula_param s (Either p q) all = (formula_param s p all, formula_param s q all)

    formulas_param : (s : Scope) (fs : List Form) → list_all (atom_is_there f) f.atoms ≡ true → AllByRecursion (EachParam IsEntry) (map (formula flag g s) fs)
    formulas_param s [] all = tt
    formulas_param s (p ∷ fs) all = (formula_param s p all, formulas_param s fs all)

    best_param : (s : Scope) (u : Update) (start : Option Scalar) → AllByRecursion (EachParam IsEntry) (best_tests g s u start)
    best_param s (updates.Best way e) (Some x) = ((tt, tt), tt)
    best_param s (updates.Best way e) None = tt
    best_param s (updates.Push e) start = tt
    best_param s (updates.PushNew e) start = tt
    best_param s updates.Tick start = tt
    best_param s (updates.Plus e) start = tt
    best_param s updates.Mark start = tt

    conditions_param : (s : Scope) (n : ℕ) (own : List ℕ) (m : Member) → AllByRecursion (EachParam IsEntry) (conditions flag g s n own m)
    conditions_param s n own m =
        all_append (EachParam IsEntry) (limits g n own) (map (formula flag g s) m.1 ++ best_tests g s m.0.update m.0.start) (limits_param n own)
        (all_append (EachParam IsEntry) (map (formula flag g s) m.1) (best_tests g s m.0.update m.0.start) (formulas_param s m.1 (atoms_there f valid)) (best_param s m.0.update m.0.start))
      where
        tests_param : (n : ℕ) (keys : List Col) (limit : Option ℕ) → AllByRecursion (EachParam IsEntry) (limit_tests n keys limit)
        tests_param n [] None = tt
        tests_param n [] (Some l) = ((tt, tt), tt)
        tests_param n (k ∷ keys) limit = tt

        limits_param : (n : ℕ) (js : List ℕ) → AllByRecursion (EachParam IsEntry) (limits g n js)
        limits_param n [] = tt
        limits_param n (j ∷ js) = all_append (EachParam IsEntry) (limit_tests (suc n) (list_of g j).keys (list_of g j).limit) (limits g (suc n) js) (tests_param (suc n) (list_of g j).keys (list_of g j).limit) (limits_param (suc n) js)

  joined_param : (ds : List Condition) → AllByRecursion (EachParam IsEntry) ds → FilterParam IsEntry (joined ds)
  joined_param [] h = tt
  joined_param (d ∷ ds) h = go d ds h.0 h.1
    where
      go : (d : Condition) (ds : List Condition) → EachParam IsEntry d → AllByRecursion (EachParam IsEntry) ds → EachParam IsEntry (joined_from d ds)
      go d [] h k = h
      go d (e ∷ ds) h k = go (sql.Both d e) ds (h, k.0) k.1

  flag_param : (s : Scope) (o : Option Member) → EachParam IsEntry (flag_exists g s o)
  flag_param s None = (tt, tt)
  flag_param s (Some m) = joined_param (conditions no_flag g (inner s (flag_loops m)) s.count (flag_loops m) m) (conditions_param no_flag (λ s k. (tt, tt)) (inner s (flag_loops m)) s.count (flag_loops m) m)

  pub where_param : (m : Member) → FilterParam IsEntry (where_of g m)
  where_param m =
      joined_param (conditions (flag_condition g) g (outermost m.0.chain) 0 m.0.chain m) (conditions_param (flag_condition g) (λ s k. flag_param s (slice_get (members f cand) k)) (outermost m.0.chain) 0 m.0.chain m)

  pub filter_is : (m : Member) → filter_in (query_of g m) ≡ where_of g m
  filter_is m = go m.0.update
    where
      go : (u : Update) → filter_in (query_by u g m (where_of g m)) ≡ where_of g m
      go (updates.Push e) = refl
      go (updates.PushNew e) = refl
      go updates.Tick = refl
      go (updates.Plus e) = refl
      go (updates.Best way e) = refl
      go updates.Mark = refl
