-- The arguments of a call.
use Rattle.std.proofs.Common.{rules, ◌≡◌, ◌≢◌, ℕ, zero, suc, ◌+◌, ◌<◌, ◌++◌, Bool, true, false, cond, List, [], ◌∷◌, length, map, take, drop, get_or, append_assoc, arith, Option, Some, None, Ok, Err, refl, sym, ap, subst, ◌∙◌}
use Rattle.std.specs.Prelude.{position, not, ◌==◌}
use Rattle.std.specs.List.{prefix_len}
use Rattle.std.proofs.lemmas.List.{append-nil}
use Rattle.java_ast.specs.declared.tree.Param.{Param}
use Rattle.java_ast.specs.declared.tree.Method.{Method}
use Rattle.java_ast.specs.Reading.{param as plain_param, method as plain_method}
use Rattle.std.specs.Str.{bytes_eq}
use Rattle.qbs_base.specs.declared.scalar.Scalar.{Scalar}
use Rattle.qbs_base.specs.declared.scalar.Ty.{Ty}
use Rattle.qbs_base.specs.declared.scalar.Ty.TheVariants as tys
use Rattle.qbs_base.specs.Values.{Schema, HasTy}
use Rattle.java_ast.specs.Tree.{Spelled, Int, Long, Boolean, String, BoxedInteger, BoxedLong, BoxedBoolean, Table, ListOf, SetOf, PlainParam, PlainMethod}
use Rattle.java_mean.specs.declared.types.Single.TheVariants.{ScalarOf}
use Rattle.java_mean.specs.Types.{IsArgument, AreArguments, single_spelled}
use Rattle.schema.specs.declared.fault.DataRule.{DataRule}
use Rattle.schema.specs.Rows.{cell_of}
use Rattle.plans.specs.Calls.{param_type, found, argument_of, with_argument, fields_of, method_at, method_named, word_refusal}
use Rattle.java_mean.specs.declared.rule.TypeRule.TheVariants as types
use Rattle.deliveries.specs.declared.fetch.Stop.{Stop}
use Rattle.deliveries.specs.Code.{StopsWith}
use Rattle.plans.specs.Words.{IsTaken, AreTaken, ReadsArguments}

pub scalar_param : (schema : Schema) (ty : Spelled) (t : Ty) → param_type ty ≡ Some t → single_spelled schema ty ≡ Some (ScalarOf t)
scalar_param schema Int t e = let same : tys.Long ≡ t = cc in ap (λ (u : Ty). Some (ScalarOf u)) same
scalar_param schema Long t e = let same : tys.Long ≡ t = cc in ap (λ (u : Ty). Some (ScalarOf u)) same
scalar_param schema Boolean t e = let same : tys.Bool ≡ t = cc in ap (λ (u : Ty). Some (ScalarOf u)) same
scalar_param schema String t e = let same : tys.Text ≡ t = cc in ap (λ (u : Ty). Some (ScalarOf u)) same
scalar_param schema BoxedInteger t e = absurd cc
scalar_param schema BoxedLong t e = absurd cc
scalar_param schema BoxedBoolean t e = absurd cc
scalar_param schema (Table name) t e = absurd cc
scalar_param schema (ListOf ty) t e = absurd cc
scalar_param schema (SetOf ty) t e = absurd cc

pub none_taken : (p : PlainParam) (word : List ℕ) → param_type p.ty ≡ None → IsTaken None p word
none_taken p word e = record { is = ap (λ (o : Option Ty). argument_of o word) (sym e); typed = tt }

pub is_taken : (p : PlainParam) (word : List ℕ) (ty : Ty) (x : Scalar) → param_type p.ty ≡ Some ty → cell_of ty word ≡ Ok x → HasTy ty x → IsTaken (Some x) p word
is_taken p word ty x e read typed = record {
  is = sym (ap (λ (o : Option Ty). argument_of o word) e ∙ ap found read);
  typed = λ schema. subst (λ (o : _). IsArgument o x) (sym (scalar_param schema p.ty ty e)) typed;
}

pub not_taken : (p : PlainParam) (word : List ℕ) (ty : Ty) (rule : DataRule) → param_type p.ty ≡ Some ty → cell_of ty word ≡ Err rule → IsTaken None p word
not_taken p word ty rule e read = record { is = sym (ap (λ (o : Option Ty). argument_of o word) e ∙ ap found read); typed = tt }

-- ---- a method by its name

prefix_mapped : {A B : Type 0} (f : A → B) (q : B → Bool) (xs : List A) → prefix_len q (map f xs) ≡ prefix_len (λ x. q (f x)) xs
prefix_mapped f q [] = refl
prefix_mapped f q (x ∷ xs) = ap (λ (n : ℕ). cond (q (f x)) (1 + n) 0) (prefix_mapped f q xs)

many_mapped : {A B : Type 0} (f : A → B) (xs : List A) → length (map f xs) ≡ length xs
many_mapped f [] = refl
many_mapped f (x ∷ xs) = ap suc (many_mapped f xs)

pub position_mapped : {A B : Type 0} (f : A → B) (p : B → Bool) (xs : List A) → position p (map f xs) ≡ position (λ x. p (f x)) xs
position_mapped f p xs = rw (prefix_mapped f (λ y. not (p y)) xs, many_mapped f xs) refl

pub place_found : (ms : List Method) (name : List ℕ) (place : Option ℕ) → place ≡ position (λ m. bytes_eq m.name name) ms → method_at (map plain_method ms) place ≡ method_named name (map plain_method ms)
place_found ms name place e = ap (method_at (map plain_method ms)) (e ∙ sym (position_mapped plain_method (λ (m : PlainMethod). bytes_eq m.name name) ms))

-- ---- arguments one after the other

abbrev pub with_front : List Scalar → Option (List Scalar) → Option (List Scalar)
with_front xs None = None
with_front xs (Some ys) = Some (xs ++ ys)

abbrev some_scalars : List Scalar → Option (List Scalar)
some_scalars xs = Some xs

front_on : (xs : List Scalar) (x : Scalar) (further : Option (List Scalar)) → with_front xs (with_argument (Some x) further) ≡ with_front (xs ++ x ∷ []) further
front_on xs x (Some ys) = ap some_scalars (sym (append_assoc xs (x ∷ []) ys))
front_on xs x None = refl

drop_at : {A : Type 0} (xs : List A) (n : ℕ) (x : A) → n < length xs → x ≡ get_or xs n x → drop n xs ≡ x ∷ drop (suc n) xs
drop_at [] n x lt is = absurd (omega arith)
drop_at (y ∷ ys) zero x lt is = ap (λ z. z ∷ ys) (sym is)
drop_at (y ∷ ys) (suc n) x lt is = let less : n < length ys = omega arith in drop_at ys n x less is

take_at : {A : Type 0} (xs : List A) (n : ℕ) (x : A) → n < length xs → x ≡ get_or xs n x → take (suc n) xs ≡ take n xs ++ x ∷ []
take_at [] n x lt is = absurd (omega arith)
take_at (y ∷ ys) zero x lt is = ap (λ z. z ∷ []) (sym is)
take_at (y ∷ ys) (suc n) x lt is = let less : n < length ys = omega arith in ap (λ zs. y ∷ zs) (take_at ys n x less is)

drop_mapped : {A B : Type 0} (f : A → B) (xs : List A) (n : ℕ) → drop n (map f xs) ≡ map f (drop n xs)
drop_mapped f [] zero = refl
drop_mapped f [] (suc n) = refl
drop_mapped f (x ∷ xs) zero = refl
drop_mapped f (x ∷ xs) (suc n) = drop_mapped f xs n

fields_at : (ps : List Param) (ws : List (List ℕ)) (n : ℕ) (p : Param) (w : List ℕ) → n < length ps → p ≡ get_or ps n p → n < length ws → w ≡ get_or ws n w →
    fields_of (map plain_param (drop n ps)) (drop n ws) ≡ with_argument (argument_of (param_type (plain_param p).ty) w) (fields_of (map plain_param (drop (suc n) ps)) (drop (suc n) ws))
unfolding fields_of
fields_at ps ws n p w lt is few here = rw (drop_at ps n p lt is, drop_at ws n w few here) refl

arguments_on : (schema : Schema) (ps : List PlainParam) (xs : List Scalar) (p : PlainParam) (x : Scalar) → AreArguments schema ps xs → IsArgument (single_spelled schema p.ty) x → AreArguments schema (ps ++ p ∷ []) (xs ++ x ∷ [])
arguments_on schema [] [] p x h k = (k, tt)
arguments_on schema [] (y ∷ ys) p x h k = absurd h
arguments_on schema (q ∷ qs) [] p x h k = absurd h
arguments_on schema (q ∷ qs) (y ∷ ys) p x h k = (h.0, arguments_on schema qs ys p x h.1 k)

map_on : (ps : List Param) (p : Param) → map plain_param (ps ++ p ∷ []) ≡ map plain_param ps ++ plain_param p ∷ []
map_on [] p = refl
map_on (q ∷ qs) p = ap (λ rest. plain_param q ∷ rest) (map_on qs p)

pub record Taking (ps : List Param) (ws : List (List ℕ)) (n : ℕ) (taken : List Scalar) : Type 0 where
  pub are : with_front taken (fields_of (map plain_param (drop n ps)) (drop n ws)) ≡ fields_of (map plain_param ps) ws
  pub typed : (schema : Schema) → AreArguments schema (map plain_param (take n ps)) taken

pub taking_begins : (ps : List Param) (ws : List (List ℕ)) → Taking ps ws 0 []
taking_begins ps ws = record { are = by (fields_of (map plain_param ps) ws); typed = λ schema. tt }
  where
    by : (o : Option (List Scalar)) → with_front [] o ≡ o
    by (Some xs) = refl
    by None = refl

pub taking_on : (ps : List Param) (ws : List (List ℕ)) (n : ℕ) (taken new : List Scalar) (p : Param) (w : List ℕ) (x : Scalar) → new ≡ taken ++ x ∷ [] → n < length ps → p ≡ get_or ps n p → n < length ws → w ≡ get_or ws n w →
    IsTaken (Some x) (plain_param p) w → Taking ps ws n taken → Taking ps ws (suc n) new
taking_on ps ws n taken new p w x pushed lt is few here t h = subst (Taking ps ws (suc n)) (sym pushed) (record {
  are = sym (front_on taken x (fields_of (map plain_param (drop (suc n) ps)) (drop (suc n) ws)))
      ∙ ap (λ (o : Option Scalar). with_front taken (with_argument o (fields_of (map plain_param (drop (suc n) ps)) (drop (suc n) ws)))) t.is
      ∙ ap (with_front taken) (sym (fields_at ps ws n p w lt is few here)) ∙ h.are;
  typed = λ schema. rw (take_at ps n p lt is, map_on (take n ps) p) (arguments_on schema (map plain_param (take n ps)) taken (plain_param p) x (h.typed schema) (t.typed schema));
})

pub taking_stops : (ps : List Param) (ws : List (List ℕ)) (n : ℕ) (taken : List Scalar) (p : Param) (w : List ℕ) → n < length ps → p ≡ get_or ps n p → n < length ws → w ≡ get_or ws n w →
    IsTaken None (plain_param p) w → Taking ps ws n taken → AreTaken None (map plain_param ps) ws
taking_stops ps ws n taken p w lt is few here t h = record {
  are = ap (λ (o : Option Scalar). with_front taken (with_argument o (fields_of (map plain_param (drop (suc n) ps)) (drop (suc n) ws)))) t.is
      ∙ ap (with_front taken) (sym (fields_at ps ws n p w lt is few here)) ∙ h.are;
  typed = tt;
}

all_of : {A : Type 0} (xs : List A) (n : ℕ) → n ≡ length xs → (drop n xs ≡ []) × (take n xs ≡ xs)
all_of [] zero e = (refl, refl)
all_of [] (suc n) e = absurd cc
all_of (x ∷ xs) zero e = absurd cc
all_of (x ∷ xs) (suc n) e = let less : n ≡ length xs = omega arith in let rest = all_of xs n less in (rest.0, ap (λ ys. x ∷ ys) rest.1)

pub taking_ends : (ps : List Param) (ws : List (List ℕ)) (n : ℕ) (taken : List Scalar) → n ≡ length ps → length ps ≡ length ws → Taking ps ws n taken → AreTaken (Some taken) (map plain_param ps) ws
unfolding fields_of
taking_ends ps ws n taken e same h =
    let all = all_of ps n e in
    record {
      are = ap some_scalars (sym (append-nil taken)) ∙ ap (λ (qs : List Param). with_front taken (fields_of (map plain_param qs) (drop n ws))) (sym all.0) ∙ h.are;
      typed = λ schema. subst (λ (qs : List Param). AreArguments schema (map plain_param qs) taken) all.1 (h.typed schema);
    }

-- ---- the words of a call

pub too_many : (params : List PlainParam) (words : List (List ℕ)) (stop : Stop) → length params ≢ length words → StopsWith (word_refusal types.Arity) stop → ReadsArguments (Err stop) params words
too_many params words (Stop.Due plan) e due = (types.Arity, (let no : (length params == length words) ≡ false = search rules in rw no refl), due)
too_many params words Stop.Memory e due = tt

pub not_fields : (params : List PlainParam) (words : List (List ℕ)) (stop : Stop) → length params ≡ length words → AreTaken None params words → StopsWith (word_refusal types.Mismatch) stop → ReadsArguments (Err stop) params words
not_fields params words (Stop.Due plan) e t due = (types.Mismatch, (let yes : (length params == length words) ≡ true = search rules in rw (yes, sym t.are) refl), due)
not_fields params words Stop.Memory e t due = tt

pub fields_fit : (params : List PlainParam) (words : List (List ℕ)) (args : List Scalar) → length params ≡ length words → AreTaken (Some args) params words → ReadsArguments (Ok args) params words
fields_fit params words args e t = ((let yes : (length params == length words) ≡ true = search rules in rw (yes, sym t.are) refl), t.typed)

mapped_as_many : (ps : List Param) (slice words : List (List ℕ)) → slice ≡ words → length ps ≡ length slice → length (map plain_param ps) ≡ length words
mapped_as_many ps slice words is e = many_mapped plain_param ps ∙ e ∙ ap (λ (ws : List (List ℕ)). length ws) is

pub too_many_words : (ps : List Param) (slice words : List (List ℕ)) (stop : Stop) → slice ≡ words → length ps ≢ length slice → StopsWith (word_refusal types.Arity) stop → ReadsArguments (Err stop) (map plain_param ps) words
too_many_words ps slice words stop is differ due =
    too_many (map plain_param ps) words stop (λ e. differ (sym (many_mapped plain_param ps) ∙ e ∙ ap (λ (ws : List (List ℕ)). length ws) (sym is))) due

pub words_not_fields : (ps : List Param) (slice words : List (List ℕ)) (stop : Stop) (found : Option (List Scalar)) → slice ≡ words → length ps ≡ length slice → found ≡ None → AreTaken found (map plain_param ps) slice → StopsWith (word_refusal types.Mismatch) stop → ReadsArguments (Err stop) (map plain_param ps) words
words_not_fields ps slice words stop found is same none t due =
    not_fields (map plain_param ps) words stop (mapped_as_many ps slice words is same) (subst (λ (o : Option (List Scalar)). AreTaken o (map plain_param ps) words) none (subst (AreTaken found (map plain_param ps)) is t)) due
