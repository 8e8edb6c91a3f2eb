-- The variables that have types at a place are those whose names are visible there.
use Rattle.std.proofs.Common.{◌≡◌, ℕ, Bool, true, false, List, [], ◌∷◌, Option, Some, None, refl, sym, ap, ◌∙◌, cond}
use Rattle.std.specs.Prelude.{◌||◌, ◌++◌, bytes_eq}
use Rattle.std.proofs.Math.Bool.{or_assoc}
use Rattle.std.proofs.lemmas.List.Folds.{list_any-append}
use Rattle.qbs_base.specs.Values.{Schema}
use Rattle.java_ast.specs.Tree.{Statement, Statements, PlainParam}
use Rattle.java_mean.specs.Refines.{Hole, Around, at_here, at_past, at_if, at_then, at_else, at_each, at_each_new, at_while}
use Rattle.java_mean.specs.declared.types.JavaType.{JavaType}
use Rattle.java_mean.specs.declared.types.JavaType.TheVariants.{Of}
use Rattle.java_mean.specs.Types.{Types, with_type, type_spelled}
use Rattle.java_mean.specs.Typing.{Frame, TypedStatement, declare, assign, add, sort, when, choose, for_each, for_each_new, while_true, print, return_none, return_value, leave, TypedStatements, done as nothing, next}
use Rattle.java_mean.specs.Visible.{Visible, is_visible, declared_in, with_params}
use Rattle.java_mean.proofs.Faultless.{Got, Sees, seen, unseen}
use Rattle.java_mean.proofs.Puts.{names_equal, name_same}
use Rattle.java_ast.specs.Names.{Names, is_among, with_name, with_names, declared_by, declared_among, names_of_params}
use Rattle.loop_text.specs.Sites.Sites.{is_some}
use Rattle.java_loops.proofs.Placing.Place.{names_at}

-- ---- Names

bool_same : (a b : Bool) → (a ≡ true → b ≡ true) → (b ≡ true → a ≡ true) → a ≡ b
bool_same true b f g = sym (f refl)
bool_same false true f g = g refl
bool_same false false f g = refl

name_back : (x y : List ℕ) → bytes_eq x y ≡ true → bytes_eq y x ≡ true
name_back x y p = ap (bytes_eq y) (names_equal x y p) ∙ name_same y

pub names_back : (x y : List ℕ) → bytes_eq x y ≡ bytes_eq y x
names_back x y = bool_same (bytes_eq x y) (bytes_eq y x) (name_back x y) (name_back y x)

or_itself : (a b : Bool) → (b ≡ true → a ≡ true) → a ≡ (a || b)
or_itself true b h = refl
or_itself false true h = h refl
or_itself false false h = refl

or_none : (a : Bool) → (a || false) ≡ a
or_none true = refl
or_none false = refl

or_swap : (a b c : Bool) → (a || (b || c)) ≡ (b || (a || c))
or_swap true true c = refl
or_swap true false c = refl
or_swap false b c = refl

-- a name that is put behind others where it isn't among them
name_at_end : (xs : Names) (x y : List ℕ) (b : Bool) → is_among xs x ≡ b → is_among (cond b xs (xs ++ x ∷ [])) y ≡ (is_among xs y || bytes_eq y x)
name_at_end xs x y true e = or_itself (is_among xs y) (bytes_eq y x) (λ q. ap (is_among xs) (names_equal y x q) ∙ e)
name_at_end xs x y false e = list_any-append (bytes_eq y) xs (x ∷ []) ∙ ap (λ b. is_among xs y || b) (or_none (bytes_eq y x))

pub with_name_among : (xs : Names) (x y : List ℕ) → is_among (with_name xs x) y ≡ (is_among xs y || bytes_eq y x)
with_name_among xs x y = name_at_end xs x y (is_among xs x) refl

-- ---- Types and names

-- the variables with types are those with these names
pub record AreNamed (g : Types) (names : Names) : Type 0 where
  pub by : (y : List ℕ) → is_some (g y) ≡ is_among names y

declared_type : (b : Bool) (k : JavaType) (o : Option JavaType) → is_some (cond b (Some k) o) ≡ (is_some o || b)
declared_type true k None = refl
declared_type true k (Some j) = refl
declared_type false k o = sym (or_none (is_some o))

pub named_with : (g : Types) (names : Names) (x : List ℕ) (k : JavaType) → AreNamed g names → AreNamed (with_type x (Some k) g) (with_name names x)
named_with g names x k s =
    record { by = λ y. declared_type (bytes_eq x y) k (g y) ∙ ap (λ b. b || bytes_eq x y) (s.by y) ∙ ap (λ b. is_among names y || b) (names_back x y) ∙ sym (with_name_among names x y) }

pub named_after : (c : Frame) (l : Option Types) (g h : Types) (a : Statement) (names : Names) → TypedStatement c l g a h → AreNamed g names → AreNamed h (with_names names (declared_by a))
named_after c _ _ _ _ names (declare l g at ty x e k n q t) s = named_with g names x k s
named_after c _ _ _ _ names (assign l g at x e k n t) s = s
named_after c _ _ _ _ names (add l g at x e k b n has t) s = s
named_after c _ _ _ _ names (sort l g at x keys down b n) s = s
named_after c _ _ _ _ names (when l g h at e p t q) s = s
named_after c _ _ _ _ names (choose l g h h' at e p q t u v) s = s
named_after c _ _ _ _ names (for_each l g h at ty x e p k b n t has q) s = s
named_after c _ _ _ _ names (for_each_new l g h at ty x e p k n q new t) s = s
named_after c _ _ _ _ names (while_true l g h at e p t q) s = s
named_after c _ _ _ _ names (print l g at e ty t) s = s
named_after c _ _ _ _ names (return_none l g at n) s = s
named_after c _ _ _ _ names (return_value l g at e k n t) s = s
named_after c _ _ _ _ names (leave b g at ex) s = s

-- a name that a statement of the block declares has a type behind it, and no other name has a new one
pub typed_past_named : (c : Frame) (l : Option Types) (g h : Types) (p : Statements) → TypedStatements c l g p h → (y : List ℕ) → is_some (h y) ≡ (is_some (g y) || is_among (declared_among p) y)
typed_past_named c _ _ _ _ (nothing l g) y = sym (or_none (is_some (g y)))
typed_past_named c _ _ _ _ (next l g h m a p t u) y =
    typed_past_named c l h m p u y
    ∙ ap (λ b. b || is_among (declared_among p) y) (typed_after_named c l g h a t y)
    ∙ or_assoc (is_some (g y)) (is_among (declared_by a) y) (is_among (declared_among p) y)
    ∙ ap (λ b. is_some (g y) || b) (sym (list_any-append (bytes_eq y) (declared_by a) (declared_among p)))
  where
    typed_after_named : (c : Frame) (l : Option Types) (g h : Types) (a : Statement) → TypedStatement c l g a h → (y : List ℕ) → is_some (h y) ≡ (is_some (g y) || is_among (declared_by a) y)
    typed_after_named c _ _ _ _ (declare l g at ty x e k n q t) y = declared_type (bytes_eq x y) k (g y) ∙ ap (λ b. is_some (g y) || b) (names_back x y ∙ sym (or_none (bytes_eq y x)))
    typed_after_named c _ _ _ _ (assign l g at x e k n t) y = sym (or_none (is_some (g y)))
    typed_after_named c _ _ _ _ (add l g at x e k b n has t) y = sym (or_none (is_some (g y)))
    typed_after_named c _ _ _ _ (sort l g at x keys down b n) y = sym (or_none (is_some (g y)))
    typed_after_named c _ _ _ _ (when l g h at e p t q) y = sym (or_none (is_some (g y)))
    typed_after_named c _ _ _ _ (choose l g h h' at e p q t u v) y = sym (or_none (is_some (g y)))
    typed_after_named c _ _ _ _ (for_each l g h at ty x e p k b n t has q) y = sym (or_none (is_some (g y)))
    typed_after_named c _ _ _ _ (for_each_new l g h at ty x e p k n q new t) y = sym (or_none (is_some (g y)))
    typed_after_named c _ _ _ _ (while_true l g h at e p t q) y = sym (or_none (is_some (g y)))
    typed_after_named c _ _ _ _ (print l g at e ty t) y = sym (or_none (is_some (g y)))
    typed_after_named c _ _ _ _ (return_none l g at n) y = sym (or_none (is_some (g y)))
    typed_after_named c _ _ _ _ (return_value l g at e k n t) y = sym (or_none (is_some (g y)))
    typed_after_named c _ _ _ _ (leave b g at ex) y = sym (or_none (is_some (g y)))

-- on the way to a place names and types go together
pub named_at : (c : Frame) (l : Option Types) (g : Types) (hole : Hole) (i : Option Types) (k m z : Types) (names : Names) → Around c l g hole i k m z → AreNamed g names → AreNamed k (names_at names hole)
named_at c _ _ _ _ _ _ _ names (at_here l k m z q e t) s = s
named_at c _ _ _ _ _ _ _ names (at_past l i g h k m z a p t r) s = named_at c l h p i k m z (with_names names (declared_by a)) r (named_after c l g h a names t s)
named_at c _ _ _ _ _ _ _ names (at_if l i g k m y z at e p q t r u) s = named_at c l g p i k m y names r s
named_at c _ _ _ _ _ _ _ names (at_then l i g k m y y' z at e p b q t r u v) s = named_at c l g p i k m y names r s
named_at c _ _ _ _ _ _ _ names (at_else l i g k m y y' z at e a p q t u r v) s = named_at c l g p i k m y names r s
named_at c _ _ _ _ _ _ _ names (at_each l i g k m y z at ty x e p q t a n f has r u) s = named_at c (Some (with_type x (Some (Of a)) g)) (with_type x (Some (Of a)) g) p i k m y (with_name names x) r (named_with g names x (Of a) s)
named_at c _ _ _ _ _ _ _ names (at_each_new l i g k m y z at ty x e p q t n f new r u) s = named_at c (Some (with_type x (Some t) g)) (with_type x (Some t) g) p i k m y (with_name names x) r (named_with g names x t s)
named_at c _ _ _ _ _ _ _ names (at_while l i g k m y z at e p q t r u) s = named_at c (Some g) g p i k m y names r s

-- ---- Parameters

cond_self : (b : Bool) → cond b true false ≡ b
cond_self true = refl
cond_self false = refl

visible_step : (b v s u : Bool) → s ≡ (v || u) → cond b true s ≡ (cond b true v || u)
visible_step true v s u p = refl
visible_step false v s u p = p

visible_end : (vs : Visible) (x y : List ℕ) (o : Option JavaType) → is_visible (vs ++ (x, o) ∷ []) y ≡ (is_visible vs y || bytes_eq y x)
visible_end [] x y o = cond_self (bytes_eq y x)
visible_end (v ∷ vs) x y o = visible_step (bytes_eq y v.0) (is_visible vs y) (is_visible (vs ++ (x, o) ∷ []) y) (bytes_eq y x) (visible_end vs x y o)

visible_declared : (vs : Visible) (x y : List ℕ) (o : Option JavaType) (b : Bool) → is_visible vs x ≡ b → is_visible (cond b vs (vs ++ (x, o) ∷ [])) y ≡ (is_visible vs y || bytes_eq y x)
visible_declared vs x y o true e = or_itself (is_visible vs y) (bytes_eq y x) (λ q. ap (is_visible vs) (names_equal y x q) ∙ e)
visible_declared vs x y o false e = visible_end vs x y o

params_visible : (schema : Schema) (vs : Visible) (ps : List PlainParam) (y : List ℕ) → is_visible (with_params schema vs ps) y ≡ (is_visible vs y || is_among (names_of_params ps) y)
params_visible schema vs [] y = sym (or_none (is_visible vs y))
params_visible schema vs (p ∷ ps) y =
    params_visible schema (declared_in vs p.name (type_spelled schema p.ty)) ps y
    ∙ ap (λ b. b || is_among (names_of_params ps) y) (visible_declared vs p.name y (type_spelled schema p.ty) (is_visible vs p.name) refl)
    ∙ or_assoc (is_visible vs y) (bytes_eq y p.name) (is_among (names_of_params ps) y)

got_is : (o : Option JavaType) → Got o → is_some o ≡ true
got_is o k = ap is_some k.is

seen_named : (vs : Visible) (g : Types) (y : List ℕ) (b : Bool) → Sees vs g → is_visible vs y ≡ b → is_some (g y) ≡ b
seen_named vs g y true s e = got_is (g y) (seen vs g y s e)
seen_named vs g y false s e = ap is_some (unseen vs g y s e)

pub params_named : (schema : Schema) (g : Types) (ps : List PlainParam) → Sees (with_params schema [] ps) g → AreNamed g (names_of_params ps)
params_named schema g ps s = record { by = λ y. seen_named (with_params schema [] ps) g y (is_visible (with_params schema [] ps) y) s refl ∙ params_visible schema [] ps y }
