-- What is known of variables where the statements of a method have no fault.
use Rattle.std.proofs.Common.{◌≡◌, ◌⊎◌, inl, inr, ℕ, Bool, true, false, cond, not, List, [], ◌∷◌, ◌++◌, Option, Some, None, refl, sym, ap, ◌∙◌, subst}
use Rattle.std.specs.Prelude.{◌&&◌, ◌||◌, bytes_eq}
use Rattle.std.specs.Option.{option_map}
use Rattle.qbs_base.specs.declared.span.Span.{Span}
use Rattle.qbs_base.specs.Values.{Schema}
use Rattle.sql_ast.specs.Tree.{PlainQuery}
use Rattle.java_ast.specs.Names.{is_among, names_of_params}
use Rattle.java_ast.specs.Tree.{Spelled, Var, Statement, Declare, If, IfElse, ForEach, While, Return, Statements, Nothing, Then, PlainParam, PlainMethod}
use Rattle.java_mean.specs.Places.{Around, step, param, whole, in_expression, in_parts, in_statement, in_statements, in_params, in_method, in_for_each, in_while, in_branch, in_body, is_nothing}
use Rattle.java_mean.specs.Refines.{followed_by}
use Rattle.java_mean.specs.declared.types.JavaType.{JavaType}
use Rattle.java_mean.specs.declared.types.Kindred.TheVariants.{Only}
use Rattle.java_mean.specs.Rules.{only_if, same_type, unless_both, returned, taken, unknown_result}
use Rattle.java_mean.specs.Types.{type_spelled}
use Rattle.java_mean.specs.Visible.{Visible, is_visible, type_at, declared_in, after, with_params}
use Rattle.java_mean.specs.WellTyped.{faults_in}
use Rattle.java_mean.proofs.Faultless.{IsFine, none_in, none_at, only_none, not_none, neither, Got, got_some, same_type_is, new_type, new_visible}
use Rattle.java_mean.proofs.Puts.{names_equal, name_same}
use Rattle.java_calls.specs.Fitting.{declares, declares_among, are_apart}
use Rattle.java_calls.specs.Inlining.{returned_by, last_value}

pub clash : (b : Bool) → b ≡ true → b ≡ false → ⊥
clash b e h = absurd cc

no_either : (a b : Bool) → a ≡ false → b ≡ false → (a || b) ≡ false
no_either true b h i = absurd cc
no_either false b h i = i

or_right : (a b : Bool) → (a || b) ≡ false → b ≡ false
or_right true b h = absurd cc
or_right false b h = h

pub or_first : (a b : Bool) → a ≡ true → (a || b) ≡ true
or_first a b e = ap (λ z. z || b) e

pub or_second : (a b : Bool) → b ≡ true → (a || b) ≡ true
or_second true b e = refl
or_second false b e = e

-- ---- Declarations of a block

abbrev pub DeclaresItAs : List ℕ → Spelled → Statement → Type 0
DeclaresItAs v ty (Declare at declared x e) = (x ≡ v) × (declared ≡ ty)
DeclaresItAs v ty _ = ⊥

-- one of the statements of the block itself declares the variable with this type
abbrev pub DeclaresAs : List ℕ → Spelled → Statements → Type 0
DeclaresAs v ty Nothing = ⊥
DeclaresAs v ty (Then a p) = DeclaresItAs v ty a ⊎ DeclaresAs v ty p

pub as_left : (v : List ℕ) (ty : Spelled) (p q : Statements) → DeclaresAs v ty p → DeclaresAs v ty (followed_by p q)
as_left v ty Nothing q h = absurd h
as_left v ty (Then a p) q (inl d) = inl d
as_left v ty (Then a p) q (inr h) = inr (as_left v ty p q h)

pub as_right : (v : List ℕ) (ty : Spelled) (p q : Statements) → DeclaresAs v ty q → DeclaresAs v ty (followed_by p q)
as_right v ty Nothing q h = h
as_right v ty (Then a p) q h = inr (as_right v ty p q h)

it_declares : (v : List ℕ) (ty : Spelled) (a : Statement) → DeclaresItAs v ty a → declares v a ≡ true
it_declares v ty (Declare at declared x e) d = ap (λ z. bytes_eq z v) d.0 ∙ name_same v
it_declares v ty _ d = absurd d

pub then_declares : (v : List ℕ) (ty : Spelled) (p : Statements) → DeclaresAs v ty p → declares_among v p ≡ true
then_declares v ty Nothing h = absurd h
then_declares v ty (Then a p) (inl d) = or_first (declares v a) (declares_among v p) (it_declares v ty a d)
then_declares v ty (Then a p) (inr h) = or_second (declares v a) (declares_among v p) (then_declares v ty p h)

none_behind : (v : List ℕ) (p q : Statements) → declares_among v (followed_by p q) ≡ false → declares_among v q ≡ false
none_behind v Nothing q h = h
none_behind v (Then a p) q h = none_behind v p q (or_right (declares v a) (declares_among v (followed_by p q)) h)

last_behind : (v : List ℕ) (ty : Spelled) (a : Statement) (p : Statements) (b : Span) → DeclaresItAs v ty a → last_value (Then a p) ≡ Some (Var b v) → last_value p ≡ Some (Var b v)
last_behind v ty (Declare at declared x e) Nothing b d h = h
last_behind v ty (Declare at declared x e) (Then c p) b d h = h
last_behind v ty _ p b d h = absurd d

-- ---- What is visible

-- a variable is visible, and has this type
pub record Seen (vs : Visible) (v : List ℕ) (k : JavaType) : Type 0 where
  pub visible : is_visible vs v ≡ true
  pub type : type_at vs v ≡ Some k

still : (vs : Visible) (x v : List ℕ) (o : Option JavaType) → is_visible vs v ≡ true → is_visible (declared_in vs x o) v ≡ true
still vs x v o s = by (is_visible vs x) refl
  where
    by : (b : Bool) → is_visible vs x ≡ b → is_visible (declared_in vs x o) v ≡ true
    by true e = ap (λ b. is_visible (cond b vs (vs ++ (x, o) ∷ [])) v) e ∙ s
    by false e = new_visible vs x v o e ∙ ap (λ b. b || bytes_eq x v) s

still_typed : (vs : Visible) (x v : List ℕ) (o : Option JavaType) (k : JavaType) → Seen vs v k → type_at (declared_in vs x o) v ≡ Some k
still_typed vs x v o k s = by (is_visible vs x) refl
  where
    by : (b : Bool) → is_visible vs x ≡ b → type_at (declared_in vs x o) v ≡ Some k
    by true e = ap (λ b. type_at (cond b vs (vs ++ (x, o) ∷ [])) v) e ∙ s.type
    by false e = new_type vs x v o e ∙ ap (λ b. cond b (type_at vs v) (cond (bytes_eq x v) o None)) s.visible ∙ s.type

still_after : (schema : Schema) (vs : Visible) (a : Statement) (v : List ℕ) → is_visible vs v ≡ true → is_visible (after schema vs a) v ≡ true
still_after schema vs (Declare at ty x e) v s = still vs x v (type_spelled schema ty) s
still_after schema vs _ v s = s

seen_after : (schema : Schema) (vs : Visible) (a : Statement) (v : List ℕ) (k : JavaType) → Seen vs v k → Seen (after schema vs a) v k
seen_after schema vs (Declare at ty x e) v k s = record { visible = still vs x v (type_spelled schema ty) s.visible; type = still_typed vs x v (type_spelled schema ty) k s }
seen_after schema vs _ v k s = s

-- what is declared is visible from there on
seen_new : (vs : Visible) (x v : List ℕ) (o : Option JavaType) (k : JavaType) → x ≡ v → is_visible vs x ≡ false → o ≡ Some k → Seen (declared_in vs x o) v k
seen_new vs x v o k is new e =
    let same : bytes_eq x v ≡ true = ap (λ z. bytes_eq z v) is ∙ name_same v in
    let not_yet : is_visible vs v ≡ false = ap (is_visible vs) (sym is) ∙ new in
    record {
      visible = new_visible vs x v o new ∙ or_second (is_visible vs v) (bytes_eq x v) same;
      type = new_type vs x v o new ∙ ap (λ b. cond b (type_at vs v) (cond (bytes_eq x v) o None)) not_yet ∙ ap (λ b. cond b o None) same ∙ e;
    }

-- a name that is visible is no name that is new
is_other : (vs : Visible) (x v : List ℕ) (at : Span) → is_visible vs v ≡ true → only_if (taken vs x) at ≡ [] → bytes_eq x v ≡ false
is_other vs x v at s h = by (bytes_eq x v) refl
  where
    new : is_visible vs x ≡ false
    new = (neither (is_visible vs x) _ (only_none (taken vs x) at h)).left

    by : (b : Bool) → bytes_eq x v ≡ b → bytes_eq x v ≡ false
    by true e = absurd (clash (is_visible vs v) s (ap (is_visible vs) (sym (names_equal x v e)) ∙ new))
    by false e = e

other_way : (x v : List ℕ) → bytes_eq x v ≡ false → bytes_eq v x ≡ false
other_way x v h = by (bytes_eq v x) refl
  where
    by : (b : Bool) → bytes_eq v x ≡ b → bytes_eq v x ≡ false
    by true e = absurd (clash (bytes_eq x v) (ap (bytes_eq x) (names_equal v x e) ∙ name_same x) h)
    by false e = e

module _ (schema : Schema) (read : List ℕ → Option PlainQuery) (r : Option Spelled) where
  -- no place of a block has a fault
  abbrev pub AreFine : Visible → Around → Statements → Type 0
  AreFine vs w p = faults_in schema read r (in_statements schema vs w p) ≡ []

  record IsFineFirst (vs : Visible) (w : Around) (a : Statement) (p : Statements) : Type 0 where
    step : IsFine schema read r (step vs w (is_nothing p) a)
    parts : faults_in schema read r (in_parts schema vs w a) ≡ []
    rest : AreFine (after schema vs a) w p

  first_fine : (vs : Visible) (w : Around) (a : Statement) (p : Statements) → AreFine vs w (Then a p) → IsFineFirst vs w a p
  first_fine vs w a p h =
      let two = none_in schema read r (in_statement schema vs w (is_nothing p) a) (in_statements schema (after schema vs a) w p) h in
      let one = none_at schema read r (step vs w (is_nothing p) a) (in_parts schema vs w a) two.left in
      record { step = one.left; parts = one.right; rest = two.right }

  pub fine_behind : (p q : Statements) (vs : Visible) (w : Around) → AreFine vs w (followed_by p q) → (us : Visible) × AreFine us w q
  fine_behind Nothing q vs w h = (vs, h)
  fine_behind (Then a p) q vs w h = fine_behind p q (after schema vs a) w (first_fine vs w a (followed_by p q) h).rest

  -- ---- What is visible isn't declared again

  mutual
    undeclared_in : (a : Statement) (vs : Visible) (w : Around) (last : Bool) (v : List ℕ) → is_visible vs v ≡ true → IsFine schema read r (step vs w last a) → faults_in schema read r (in_parts schema vs w a) ≡ [] → declares v a ≡ false
    undeclared_in (Declare at ty x e) vs w last v s f h = is_other vs x v at s f.single
    undeclared_in (If at c a) vs w last v s f h = undeclared a vs (in_branch w) v s (none_in schema read r (in_expression vs c) (in_statements schema vs (in_branch w) a) h).right
    undeclared_in (IfElse at c a b) vs w last v s f h =
        let parts = none_in schema read r (in_expression vs c) (in_statements schema vs (in_branch w) a ++ in_statements schema vs (in_branch w) b) h in
        let two = none_in schema read r (in_statements schema vs (in_branch w) a) (in_statements schema vs (in_branch w) b) parts.right in
        no_either (declares_among v a) (declares_among v b) (undeclared a vs (in_branch w) v s two.left) (undeclared b vs (in_branch w) v s two.right)
    undeclared_in (ForEach at ty x e body) vs w last v s f h =
        let parts = none_in schema read r (in_expression vs e) (in_statements schema (declared_in vs x (type_spelled schema ty)) (in_for_each e w) body) h in
        no_either (bytes_eq x v) (declares_among v body) (is_other vs x v at s f.single) (undeclared body (declared_in vs x (type_spelled schema ty)) (in_for_each e w) v (still vs x v (type_spelled schema ty) s) parts.right)
    undeclared_in (While at c body) vs w last v s f h = undeclared body vs (in_while w) v s (none_in schema read r (in_expression vs c) (in_statements schema vs (in_while w) body) h).right
    undeclared_in _ vs w last v s f h = refl

    pub undeclared : (p : Statements) (vs : Visible) (w : Around) (v : List ℕ) → is_visible vs v ≡ true → AreFine vs w p → declares_among v p ≡ false
    undeclared Nothing vs w v s h = refl
    undeclared (Then a p) vs w v s h =
        let f = first_fine vs w a p h in
        no_either (declares v a) (declares_among v p) (undeclared_in a vs w (is_nothing p) v s f.step f.parts) (undeclared p (after schema vs a) w v (still_after schema vs a v s) f.rest)

  -- a declared variable is visible behind its declaration with the declared type
  record Known (us : Visible) (v : List ℕ) (ty : Spelled) : Type 0 where
    type : JavaType
    spelled : type_spelled schema ty ≡ Some type
    seen : Seen us v type

  now_known : (a : Statement) (vs : Visible) (w : Around) (last : Bool) (v : List ℕ) (ty : Spelled) → DeclaresItAs v ty a → IsFine schema read r (step vs w last a) → Known (after schema vs a) v ty
  now_known (Declare at declared x e) vs w last v ty d f =
      let k = got_some (type_spelled schema declared) at f.known in
      let new = neither (is_visible vs x) _ (only_none (taken vs x) at f.single) in
      record { type = k.value; spelled = ap (type_spelled schema) (sym d.1) ∙ k.is; seen = seen_new vs x v (type_spelled schema declared) k.value d.0 new.left k.is }
  now_known _ vs w last v ty d f = absurd d

  -- nothing behind a declaration declares the variable again
  pub undeclared_behind : (p q : Statements) (vs : Visible) (w : Around) (v : List ℕ) (ty : Spelled) → DeclaresAs v ty p → AreFine vs w (followed_by p q) → declares_among v q ≡ false
  undeclared_behind Nothing q vs w v ty d h = absurd d
  undeclared_behind (Then a p) q vs w v ty (inl d) h =
      let f = first_fine vs w a (followed_by p q) h in
      none_behind v p q (undeclared (followed_by p q) (after schema vs a) w v (now_known a vs w (is_nothing (followed_by p q)) v ty d f.step).seen.visible f.rest)
  undeclared_behind (Then a p) q vs w v ty (inr d) h = undeclared_behind p q (after schema vs a) w v ty d (first_fine vs w a (followed_by p q) h).rest

  -- ---- What is returned is of the result's type

  pub record IsResult (o : Option JavaType) : Type 0 where
    pub result : Spelled
    pub is : r ≡ Some result
    pub same : type_spelled schema result ≡ o

  same_of : (o : Option JavaType) (k : JavaType) (at : Span) → Got o → unless_both (Some (Only k)) o at ≡ [] → o ≡ Some k
  same_of None k at g h = absurd cc
  same_of (Some j) k at g h = ap Some (sym (same_type_is k j (not_none (same_type k j) at h)))

  module _ (fine_result : (ty : Spelled) → r ≡ Some ty → Got (type_spelled schema ty)) where
    result_by : (o : Option Spelled) → r ≡ o → (vs : Visible) (at b : Span) (v : List ℕ) (k : JavaType) → type_at vs v ≡ Some k → returned schema vs o at (Some (Var b v)) ≡ [] → IsResult (Some k)
    result_by None e vs at b v k t h = absurd cc
    result_by (Some ty) e vs at b v k t h =
        record { result = ty; is = e; same = same_of (type_spelled schema ty) k b (fine_result ty e) (ap (λ o. unless_both (option_map Only o) (type_spelled schema ty) b) (sym t) ∙ h) }

    returns_it : (a : Statement) (vs : Visible) (w : Around) (last : Bool) (b : Span) (v : List ℕ) (k : JavaType) → type_at vs v ≡ Some k → IsFine schema read r (step vs w last a) → returned_by a ≡ Some (Var b v) → IsResult (Some k)
    returns_it (Return at o) vs w last b v k t f h = result_by r refl vs at b v k t (ap (returned schema vs r at) (sym h) ∙ f.matched)
    returns_it _ vs w last b v k t f h = absurd cc

    returns_at_end : (p : Statements) (vs : Visible) (w : Around) (b : Span) (v : List ℕ) (k : JavaType) → Seen vs v k → AreFine vs w p → last_value p ≡ Some (Var b v) → IsResult (Some k)
    returns_at_end Nothing vs w b v k s h l = absurd cc
    returns_at_end (Then a Nothing) vs w b v k s h l = returns_it a vs w true b v k s.type (first_fine vs w a Nothing h).step l
    returns_at_end (Then a (Then c p)) vs w b v k s h l = returns_at_end (Then c p) (after schema vs a) w b v k (seen_after schema vs a v k s) (first_fine vs w a (Then c p) h).rest l

    -- the variable that a block declares and returns is of the result's type
    pub declared_returned : (p : Statements) (vs : Visible) (w : Around) (b : Span) (v : List ℕ) (ty : Spelled) → DeclaresAs v ty p → AreFine vs w p → last_value p ≡ Some (Var b v) → IsResult (type_spelled schema ty)
    declared_returned Nothing vs w b v ty d h l = absurd d
    declared_returned (Then a p) vs w b v ty (inl d) h l =
        let f = first_fine vs w a p h in
        let k = now_known a vs w (is_nothing p) v ty d f.step in
        subst IsResult (sym k.spelled) (returns_at_end p (after schema vs a) w b v k.type k.seen f.rest (last_behind v ty a p b d l))
    declared_returned (Then a Nothing) vs w b v ty (inr d) h l = absurd d
    declared_returned (Then a (Then c p)) vs w b v ty (inr d) h l = declared_returned (Then c p) (after schema vs a) w b v ty d (first_fine vs w a (Then c p) h).rest l

  -- ---- Parameters

  unnamed : (ps : List PlainParam) (vs : Visible) (at : Span) (v : List ℕ) → is_visible vs v ≡ true → faults_in schema read r (in_params schema vs at ps) ≡ [] → is_among (names_of_params ps) v ≡ false
  unnamed [] vs at v s h = refl
  unnamed (p ∷ ps) vs at v s h =
      let n = none_at schema read r (param vs at p) (in_params schema (declared_in vs p.name (type_spelled schema p.ty)) at ps) h in
      no_either (bytes_eq v p.name) (is_among (names_of_params ps) v) (other_way p.name v (is_other vs p.name v at s n.left.single)) (unnamed ps (declared_in vs p.name (type_spelled schema p.ty)) at v (still vs p.name v (type_spelled schema p.ty) s) n.right)

  both : (a b : Bool) → a ≡ false → b ≡ true → (not a && b) ≡ true
  both true b h i = absurd cc
  both false b h i = i

  now_visible : (vs : Visible) (x : List ℕ) (o : Option JavaType) → is_visible (declared_in vs x o) x ≡ true
  now_visible vs x o = by (is_visible vs x) refl
    where
      by : (b : Bool) → is_visible vs x ≡ b → is_visible (declared_in vs x o) x ≡ true
      by true e = still vs x x o e
      by false e = new_visible vs x x o e ∙ or_second (is_visible vs x) (bytes_eq x x) (name_same x)

  pub params_apart : (ps : List PlainParam) (vs : Visible) (at : Span) → faults_in schema read r (in_params schema vs at ps) ≡ [] → are_apart (names_of_params ps) ≡ true
  params_apart [] vs at h = refl
  params_apart (p ∷ ps) vs at h =
      let n = none_at schema read r (param vs at p) (in_params schema (declared_in vs p.name (type_spelled schema p.ty)) at ps) h in
      both (is_among (names_of_params ps) p.name) (are_apart (names_of_params ps)) (unnamed ps (declared_in vs p.name (type_spelled schema p.ty)) at p.name (now_visible vs p.name (type_spelled schema p.ty)) n.right) (params_apart ps (declared_in vs p.name (type_spelled schema p.ty)) at n.right)

  params_still : (ps : List PlainParam) (vs : Visible) (v : List ℕ) → is_visible vs v ≡ true → is_visible (with_params schema vs ps) v ≡ true
  params_still [] vs v s = s
  params_still (p ∷ ps) vs v s = params_still ps (declared_in vs p.name (type_spelled schema p.ty)) v (still vs p.name v (type_spelled schema p.ty) s)

  params_visible : (ps : List PlainParam) (vs : Visible) (v : List ℕ) → is_among (names_of_params ps) v ≡ true → is_visible (with_params schema vs ps) v ≡ true
  params_visible [] vs v h = absurd cc
  params_visible (p ∷ ps) vs v h = by (bytes_eq v p.name) refl (params_visible ps (declared_in vs p.name (type_spelled schema p.ty)) v) h
    where
      by : (b : Bool) → bytes_eq v p.name ≡ b → (is_among (names_of_params ps) v ≡ true → is_visible (with_params schema vs (p ∷ ps)) v ≡ true) → (b || is_among (names_of_params ps) v) ≡ true → is_visible (with_params schema vs (p ∷ ps)) v ≡ true
      by true e ih i = params_still ps (declared_in vs p.name (type_spelled schema p.ty)) v (ap (is_visible (declared_in vs p.name (type_spelled schema p.ty))) (names_equal v p.name e) ∙ now_visible vs p.name (type_spelled schema p.ty))
      by false e ih i = ih i

  -- a variable that the body declares is no parameter
  pub no_parameter : (ps : List PlainParam) (p : Statements) (w : Around) (v : List ℕ) (ty : Spelled) → DeclaresAs v ty p → AreFine (with_params schema [] ps) w p → is_among (names_of_params ps) v ≡ false
  no_parameter ps p w v ty d h = by (is_among (names_of_params ps) v) refl
    where
      by : (b : Bool) → is_among (names_of_params ps) v ≡ b → is_among (names_of_params ps) v ≡ false
      by true e = absurd (clash (declares_among v p) (then_declares v ty p d) (undeclared p (with_params schema [] ps) w v (params_visible ps [] v e) h))
      by false e = e

-- ---- Methods

known_by : (schema : Schema) (o : Option Spelled) (at : Span) → unknown_result schema o at ≡ [] → (ty : Spelled) → o ≡ Some ty → Got (type_spelled schema ty)
known_by schema None at h ty e = absurd cc
known_by schema (Some z) at h ty e = subst (λ y. Got (type_spelled schema y)) (some_is z ty e) (got_some (type_spelled schema z) at h)
  where
    some_is : (a b : Spelled) → Some a ≡ Some b → a ≡ b
    some_is a b e = cc

-- a method none of whose places has a fault
pub record IsFineMethod (schema : Schema) (read : List ℕ → Option PlainQuery) (m : PlainMethod) : Type 0 where
  pub result : (ty : Spelled) → m.result ≡ Some ty → Got (type_spelled schema ty)
  pub params : faults_in schema read m.result (in_params schema [] m.span m.params) ≡ []
  pub body : faults_in schema read m.result (in_statements schema (with_params schema [] m.params) in_body m.body) ≡ []

pub method_fine : (schema : Schema) (read : List ℕ → Option PlainQuery) (double : Bool) (m : PlainMethod) → faults_in schema read m.result (whole double m ∷ in_method schema m) ≡ [] → IsFineMethod schema read m
method_fine schema read double m h =
    let n = none_at schema read m.result (whole double m) (in_method schema m) h in
    let two = none_in schema read m.result (in_params schema [] m.span m.params) (in_statements schema (with_params schema [] m.params) in_body m.body) n.right in
    record { result = known_by schema m.result m.span n.left.known; params = two.left; body = two.right }
