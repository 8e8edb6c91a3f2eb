-- Reading words finds exactly the command that they are the plain words of.
use Rattle.std.proofs.Common.{◌≡◌, ℕ, ◌≤◌, lit<, Bool, true, false, ◌&&◌, not, if◌then◌else◌, List, [], ◌∷◌, ◌++◌, refl, sym, ap, ◌∙◌, subst, arith, Some, None, codes, append_assoc, length, get_or, take, drop, ◌-◌, Bor, Result, IfOk}
use Rattle.std.proofs.lemmas.Grind.{common_steps}
use Rattle.std.specs.declared.option.Option.{Option}
use Rattle.std.specs.Fmt.{decimal}
use Rattle.std.specs.Str.{bytes_eq}
use Rattle.word_values.specs.Values.{behind, number_within}
use Rattle.words.specs.declared.command.Command.{Command}
use Rattle.words.specs.declared.command.Command.TheVariants as commands
use Rattle.words.specs.declared.command.Key.{Key}
use Rattle.words.specs.declared.command.Key.TheVariants.{Size, Candidates, Turns, Rewritten, Store, View, Tables, Columns, Check, Schema}
use Rattle.words.specs.declared.command.Options.{Options}
use Rattle.words.specs.declared.command.Verb.{Verb}
use Rattle.words.specs.declared.command.Verb.TheVariants as verbs
use Rattle.words.specs.Options.{name_of, word_of, has_value, takes, unset}
use Rattle.words.specs.Plain.{Spells, flag, next, same, Sets, HasOptions, none, more, all_bare, begins_with_dash, HasOthers, bare, dashed, Names, HasWords, plainly}
use Rattle.words.specs.Plain as has
use Rattle.words.specs.Reading.{verb_of, Spelled, Flag, Next, Same, Other, value_or, spelled, set_number, set_text, set_flag, set, set_for, with, options_of, value_then, seen, others_of, made, two_names, three_names, run_names, make_names, schema_names, checked_names, map_names, command_of, plain, ReadsPlainWords}
use Rattle.word_values.proofs.Numbers.{bytes_equal, IsWithin, number_within_decimal, number_within_is}
use Rattle.word_values.proofs.Spelt.{behind_is}

abbrev pub Word : Type 0
Word = List ℕ

-- tests and look-ups
chosen : {A : Type 0} (P : A → Type 0) (b : Bool) (x y : A) → (b ≡ true → P x) → P y → P (if b then x else y)
chosen P true x y f g = f refl
chosen P false x y f g = g

with_some : {A B : Type 0} (o : Option A) (f : A → Option B) (c : B) → with o f ≡ Some c → (x : A) × (o ≡ Some x) × (f x ≡ Some c)
with_some None f c e = absurd cc
with_some (Some x) f c e = (x, refl, e)

-- what a word spells
abbrev Speaks : List ℕ → Spelled → Type 0
Speaks w (Flag k) = (has_value k ≡ false) × (w ≡ word_of k)
Speaks w (Next k) = (has_value k ≡ true) × (w ≡ word_of k)
Speaks w (Same k v) = (has_value k ≡ true) × (w ≡ word_of k ++ (61 ∷ v))
Speaks w Other = Unit {0}

valued : (w : List ℕ) (k : Key) (o : Option (List ℕ)) (rest : Spelled) → has_value k ≡ true →
    ((v : List ℕ) → o ≡ Some v → w ≡ word_of k ++ (61 ∷ v)) → Speaks w rest → Speaks w (value_or k o rest)
valued w k (Some v) rest h f g = (h, f v refl)
valued w k None rest h f g = g

speaks : (w : List ℕ) → Speaks w (spelled w)
speaks w =
    chosen (Speaks w) (bytes_eq w (codes "--rewritten")) (Flag Rewritten) _ (λ e. (refl, bytes_equal w (codes "--rewritten") e))
    (chosen (Speaks w) (bytes_eq w (codes "--check")) (Flag Check) _ (λ e. (refl, bytes_equal w (codes "--check") e))
    (chosen (Speaks w) (bytes_eq w (codes "--schema")) (Flag Schema) _ (λ e. (refl, bytes_equal w (codes "--schema") e))
    (chosen (Speaks w) (bytes_eq w (codes "--size")) (Next Size) _ (λ e. (refl, bytes_equal w (codes "--size") e))
    (chosen (Speaks w) (bytes_eq w (codes "--candidates")) (Next Candidates) _ (λ e. (refl, bytes_equal w (codes "--candidates") e))
    (chosen (Speaks w) (bytes_eq w (codes "--turns")) (Next Turns) _ (λ e. (refl, bytes_equal w (codes "--turns") e))
    (chosen (Speaks w) (bytes_eq w (codes "--store")) (Next Store) _ (λ e. (refl, bytes_equal w (codes "--store") e))
    (chosen (Speaks w) (bytes_eq w (codes "--view")) (Next View) _ (λ e. (refl, bytes_equal w (codes "--view") e))
    (chosen (Speaks w) (bytes_eq w (codes "--tables")) (Next Tables) _ (λ e. (refl, bytes_equal w (codes "--tables") e))
    (chosen (Speaks w) (bytes_eq w (codes "--columns")) (Next Columns) _ (λ e. (refl, bytes_equal w (codes "--columns") e))
    (valued w Size (behind (codes "--size=") w) _ refl (λ v. behind_is (codes "--size=") w v)
    (valued w Candidates (behind (codes "--candidates=") w) _ refl (λ v. behind_is (codes "--candidates=") w v)
    (valued w Turns (behind (codes "--turns=") w) _ refl (λ v. behind_is (codes "--turns=") w v)
    (valued w Store (behind (codes "--store=") w) _ refl (λ v. behind_is (codes "--store=") w v)
    (valued w View (behind (codes "--view=") w) _ refl (λ v. behind_is (codes "--view=") w v)
    (valued w Tables (behind (codes "--tables=") w) _ refl (λ v. behind_is (codes "--tables=") w v)
    (valued w Columns (behind (codes "--columns=") w) Other refl (λ v. behind_is (codes "--columns=") w v) tt))))))))))))))))

spelled_next : (k : Key) → has_value k ≡ true → spelled (word_of k) ≡ Next k
spelled_next Size h = refl
spelled_next Candidates h = refl
spelled_next Turns h = refl
spelled_next Rewritten h = absurd cc
spelled_next Store h = refl
spelled_next View h = refl
spelled_next Tables h = refl
spelled_next Columns h = refl
spelled_next Check h = absurd cc
spelled_next Schema h = absurd cc

spelled_flag : (k : Key) → has_value k ≡ false → spelled (word_of k) ≡ Flag k
spelled_flag Size h = absurd cc
spelled_flag Candidates h = absurd cc
spelled_flag Turns h = absurd cc
spelled_flag Rewritten h = refl
spelled_flag Store h = absurd cc
spelled_flag View h = absurd cc
spelled_flag Tables h = absurd cc
spelled_flag Columns h = absurd cc
spelled_flag Check h = refl
spelled_flag Schema h = refl

spelled_same : (k : Key) (v : List ℕ) → has_value k ≡ true → spelled (word_of k ++ (61 ∷ v)) ≡ Same k v
spelled_same Size v h = refl
spelled_same Candidates v h = refl
spelled_same Turns v h = refl
spelled_same Rewritten v h = absurd cc
spelled_same Store v h = refl
spelled_same View v h = refl
spelled_same Tables v h = refl
spelled_same Columns v h = refl
spelled_same Check v h = absurd cc
spelled_same Schema v h = absurd cc

-- a word that doesn't begin with `-` spells no option
spelled_bare : (w : List ℕ) → begins_with_dash w ≡ false → spelled w ≡ Other
spelled_bare [] e = refl
spelled_bare (b ∷ bs) e = rw e refl

-- setting
sets_number : (k : Key) (low high : ℕ) (held : Option ℕ) (v : List ℕ) (make : ℕ → Options) (o p : Options) →
    ((n : ℕ) → held ≡ None → low ≤ n → n ≤ high → Sets k (decimal n) o (make n)) →
    set_number held (number_within low high v) make ≡ Some p → Sets k v o p
sets_number k low high held v make o p f = go held (number_within low high v) refl refl
  where
    go : (h : Option ℕ) (n : Option ℕ) → held ≡ h → number_within low high v ≡ n → set_number h n make ≡ Some p → Sets k v o p
    go None (Some n) a b e =
        let w : IsWithin n low high v = number_within_is low high n v b in
        let is : make n ≡ p = cc in
        subst (λ u. Sets k u o p) (sym w.digits) (subst (λ q. Sets k (decimal n) o q) is (f n a w.low_le w.le_high))
    go None None a b e = absurd cc
    go (Some h) n a b e = absurd cc

sets_text : (k : Key) (held : Option (List ℕ)) (v : List ℕ) (made o p : Options) →
    (held ≡ None → Sets k v o made) → set_text held made ≡ Some p → Sets k v o p
sets_text k None v made o p f e = let is : made ≡ p = cc in subst (λ q. Sets k v o q) is (f refl)
sets_text k (Some h) v made o p f e = absurd cc

sets_flag : (k : Key) (held : Bool) (v : List ℕ) (made o p : Options) →
    (held ≡ false → Sets k [] o made) → set_flag held v made ≡ Some p → Sets k v o p
sets_flag k false [] made o p f e = let is : made ≡ p = cc in subst (λ q. Sets k [] o q) is (f refl)
sets_flag k false (b ∷ bs) made o p f e = absurd cc
sets_flag k true v made o p f e = absurd cc

pub set_is : (k : Key) (v : List ℕ) (o p : Options) → set k v o ≡ Some p → Sets k v o p
set_is Size v o p e = sets_number Size 0 8 o.size v (λ n. record o { size = Some n }) o p (λ n a l h. has.size a h) e
set_is Candidates v o p e = sets_number Candidates 1 1000000 o.candidates v (λ n. record o { candidates = Some n }) o p (λ n a l h. has.candidates a l h) e
set_is Turns v o p e = sets_number Turns 1 100000000 o.turns v (λ n. record o { turns = Some n }) o p (λ n a l h. has.turns a l h) e
set_is Rewritten v o p e = sets_flag Rewritten o.rewritten v (record o { rewritten = true }) o p (λ a. has.rewritten a) e
set_is Store v o p e = sets_text Store o.store v (record o { store = Some v }) o p (λ a. has.store a) e
set_is View v o p e = sets_text View o.view v (record o { view = Some v }) o p (λ a. has.view a) e
set_is Tables v o p e = sets_text Tables o.tables v (record o { tables = Some v }) o p (λ a. has.tables a) e
set_is Columns v o p e = sets_text Columns o.columns v (record o { columns = Some v }) o p (λ a. has.columns a) e
set_is Check v o p e = sets_flag Check o.check v (record o { check = true }) o p (λ a. has.check a) e
set_is Schema v o p e = sets_flag Schema o.schema v (record o { schema = true }) o p (λ a. has.schema a) e

pub set_all : (k : Key) (v : List ℕ) (o p : Options) → Sets k v o p → set k v o ≡ Some p
set_all k v o p (has.size {n} {o = q} a h) = rw (a, number_within_decimal 0 8 n (lit< tt) (omega arith) h) refl
set_all k v o p (has.candidates {n} {o = q} a l h) = rw (a, number_within_decimal 1 1000000 n (lit< tt) l h) refl
set_all k v o p (has.turns {n} {o = q} a l h) = rw (a, number_within_decimal 1 100000000 n (lit< tt) l h) refl
set_all k v o p (has.rewritten {o = q} a) = rw a refl
set_all k v o p (has.store {v = w} {o = q} a) = rw a refl
set_all k v o p (has.view {v = w} {o = q} a) = rw a refl
set_all k v o p (has.tables {v = w} {o = q} a) = rw a refl
set_all k v o p (has.columns {v = w} {o = q} a) = rw a refl
set_all k v o p (has.check {o = q} a) = rw a refl
set_all k v o p (has.schema {o = q} a) = rw a refl

-- a command's word
abbrev IsNamed : List ℕ → Option Verb → Type 0
IsNamed w None = Unit {0}
IsNamed w (Some v) = w ≡ name_of v

all_named : (w : List ℕ) → IsNamed w (verb_of w)
all_named w =
    chosen (IsNamed w) (bytes_eq w (codes "rewrite")) (Some verbs.Rewrite) _ (bytes_equal w (codes "rewrite"))
    (chosen (IsNamed w) (bytes_eq w (codes "prove")) (Some verbs.Prove) _ (bytes_equal w (codes "prove"))
    (chosen (IsNamed w) (bytes_eq w (codes "check")) (Some verbs.Check) _ (bytes_equal w (codes "check"))
    (chosen (IsNamed w) (bytes_eq w (codes "run")) (Some verbs.Run) _ (bytes_equal w (codes "run"))
    (chosen (IsNamed w) (bytes_eq w (codes "sql")) (Some verbs.Sql) _ (bytes_equal w (codes "sql"))
    (chosen (IsNamed w) (bytes_eq w (codes "make")) (Some verbs.Make) _ (bytes_equal w (codes "make"))
    (chosen (IsNamed w) (bytes_eq w (codes "unnest")) (Some verbs.Unnest) _ (bytes_equal w (codes "unnest"))
    (chosen (IsNamed w) (bytes_eq w (codes "narrow")) (Some verbs.Narrow) _ (bytes_equal w (codes "narrow"))
    (chosen (IsNamed w) (bytes_eq w (codes "inline")) (Some verbs.Inline) _ (bytes_equal w (codes "inline"))
    (chosen (IsNamed w) (bytes_eq w (codes "gather")) (Some verbs.Gather) _ (bytes_equal w (codes "gather"))
    (chosen (IsNamed w) (bytes_eq w (codes "schema")) (Some verbs.Schema) _ (bytes_equal w (codes "schema"))
    (chosen (IsNamed w) (bytes_eq w (codes "view")) (Some verbs.View) _ (bytes_equal w (codes "view"))
    (chosen (IsNamed w) (bytes_eq w (codes "map")) (Some verbs.Map) None (bytes_equal w (codes "map"))
    tt))))))))))))

verb_is : (w : List ℕ) (verb : Verb) → verb_of w ≡ Some verb → w ≡ name_of verb
verb_is w verb e = subst (IsNamed w) e (all_named w)

verb_all : (verb : Verb) → verb_of (name_of verb) ≡ Some verb
verb_all verbs.Rewrite = refl
verb_all verbs.Prove = refl
verb_all verbs.Check = refl
verb_all verbs.Run = refl
verb_all verbs.Sql = refl
verb_all verbs.Make = refl
verb_all verbs.Unnest = refl
verb_all verbs.Narrow = refl
verb_all verbs.Inline = refl
verb_all verbs.Gather = refl
verb_all verbs.Schema = refl
verb_all verbs.View = refl
verb_all verbs.Map = refl

-- options one after the other
set_for_is : (verb : Verb) (k : Key) (v : List ℕ) (o p : Options) → set_for verb k v o ≡ Some p → (takes verb k ≡ true) × Sets k v o p
set_for_is verb k v o p = go (takes verb k)
  where
    go : (b : Bool) → (if b then set k v o else None) ≡ Some p → (b ≡ true) × Sets k v o p
    go true e = (refl, set_is k v o p e)
    go false e = absurd cc

set_for_all : (verb : Verb) (k : Key) (v : List ℕ) (o p : Options) → takes verb k ≡ true → Sets k v o p → set_for verb k v o ≡ Some p
set_for_all verb k v o p t s = rw t (set_all k v o p s)

at_flag : (verb : Verb) (w : List ℕ) (ws : List (List ℕ)) (o : Options) (k : Key) → spelled w ≡ Flag k →
    options_of verb (w ∷ ws) o ≡ with (set_for verb k [] o) (λ p. options_of verb ws p)
unfolding options_of
at_flag verb w ws o k e = rw (options_of, e) refl

pub at_same : (verb : Verb) (w : List ℕ) (ws : List (List ℕ)) (o : Options) (k : Key) (v : List ℕ) → spelled w ≡ Same k v →
    options_of verb (w ∷ ws) o ≡ with (set_for verb k v o) (λ p. options_of verb ws p)
unfolding options_of
at_same verb w ws o k v e = rw (options_of, e) refl

at_next : (verb : Verb) (w : List ℕ) (ws : List (List ℕ)) (o : Options) (k : Key) → spelled w ≡ Next k →
    options_of verb (w ∷ ws) o ≡ value_then verb k ws o
unfolding options_of value_then
at_next verb w ws o k e = rw (options_of, e) refl

at_value : (verb : Verb) (k : Key) (v : List ℕ) (vs : List (List ℕ)) (o : Options) →
    value_then verb k (v ∷ vs) o ≡ with (set_for verb k v o) (λ p. options_of verb vs p)
unfolding value_then
at_value verb k v vs o = refl

at_no_value : (verb : Verb) (k : Key) (o : Options) → value_then verb k [] o ≡ None
unfolding value_then
at_no_value verb k o = refl

-- no option stands at the front
abbrev Stops : List (List ℕ) → Type 0
Stops [] = Unit {0}
Stops (w ∷ ws) = spelled w ≡ Other

at_stop : (verb : Verb) (ts : List (List ℕ)) (o : Options) → Stops ts → options_of verb ts o ≡ Some (o, ts)
unfolding options_of
at_stop verb [] o s = refl
at_stop verb (w ∷ ws) o s = rw (options_of, s) refl

options_all : (verb : Verb) (os ts : List (List ℕ)) (o p : Options) → HasOptions verb os o p → Stops ts → options_of verb (os ++ ts) o ≡ Some (p, ts)
options_all verb os ts o p (none {o = q}) s = at_stop verb ts q s
options_all verb os ts o p (more {us} {ws} {k} {v} {o = a} {p = b} {q = c} t (flag {k = l} hv) h rest) s =
    at_flag verb (word_of l) (ws ++ ts) a l (spelled_flag l hv)
    ∙ (ap (λ x. with x (λ q. options_of verb (ws ++ ts) q)) (set_for_all verb l [] a b t h) ∙ options_all verb ws ts b c rest s)
options_all verb os ts o p (more {us} {ws} {k} {v} {o = a} {p = b} {q = c} t (next {k = l} {v = u} hv) h rest) s =
    at_next verb (word_of l) (u ∷ (ws ++ ts)) a l (spelled_next l hv) ∙ at_value verb l u (ws ++ ts) a
    ∙ (ap (λ x. with x (λ q. options_of verb (ws ++ ts) q)) (set_for_all verb l u a b t h) ∙ options_all verb ws ts b c rest s)
options_all verb os ts o p (more {us} {ws} {k} {v} {o = a} {p = b} {q = c} t (same {k = l} {v = u} hv) h rest) s =
    at_same verb (word_of l ++ (61 ∷ u)) (ws ++ ts) a l u (spelled_same l u hv)
    ∙ (ap (λ x. with x (λ q. options_of verb (ws ++ ts) q)) (set_for_all verb l u a b t h) ∙ options_all verb ws ts b c rest s)

-- what is found at the front
pub record Found (verb : Verb) (ws : List (List ℕ)) (o : Options) (r : Options × List (List ℕ)) : Type 0 where
  pub os : List (List ℕ)
  pub parts : ws ≡ os ++ r.1
  pub options : HasOptions verb os o r.0

found_none : (verb : Verb) (ws : List (List ℕ)) (o : Options) (r : Options × List (List ℕ)) → Some (o, ws) ≡ Some r → Found verb ws o r
found_none verb ws o r e = let is : (o, ws) ≡ r = cc in subst (λ r. Found verb ws o r) is (record { os = []; parts = refl; options = none })

found_more : (verb : Verb) (us ws : List (List ℕ)) (k : Key) (v : List ℕ) (o p : Options) (r : Options × List (List ℕ)) →
    (takes verb k ≡ true) × Sets k v o p → Spells us k v → Found verb ws p r → Found verb (us ++ ws) o r
found_more verb us ws k v o p r h s f =
    record {
      os = us ++ f.os;
      parts = ap (λ x. us ++ x) f.parts ∙ sym (append_assoc us f.os r.1);
      options = more h.0 s h.1 f.options;
    }

-- one option at the front
found_flag : (verb : Verb) (w : List ℕ) (ws : List (List ℕ)) (o : Options) (r : Options × List (List ℕ)) (k : Key) →
    ((p : Options) → options_of verb ws p ≡ Some r → Found verb ws p r) →
    spelled w ≡ Flag k → (has_value k ≡ false) × (w ≡ word_of k) → options_of verb (w ∷ ws) o ≡ Some r → Found verb (w ∷ ws) o r
found_flag verb w ws o r k later e is h =
    let s : (x : Options) × (set_for verb k [] o ≡ Some x) × (options_of verb ws x ≡ Some r) =
    with_some (set_for verb k [] o) (λ p. options_of verb ws p) r (sym (at_flag verb w ws o k e) ∙ h) in
    subst (λ u. Found verb (u ∷ ws) o r) (sym is.1)
    (found_more verb (word_of k ∷ []) ws k [] o s.0 r (set_for_is verb k [] o s.0 s.1) (flag is.0) (later s.0 s.2))

found_same : (verb : Verb) (w : List ℕ) (ws : List (List ℕ)) (o : Options) (r : Options × List (List ℕ)) (k : Key) (v : List ℕ) →
    ((p : Options) → options_of verb ws p ≡ Some r → Found verb ws p r) →
    spelled w ≡ Same k v → (has_value k ≡ true) × (w ≡ word_of k ++ (61 ∷ v)) → options_of verb (w ∷ ws) o ≡ Some r → Found verb (w ∷ ws) o r
found_same verb w ws o r k v later e is h =
    let s : (x : Options) × (set_for verb k v o ≡ Some x) × (options_of verb ws x ≡ Some r) =
    with_some (set_for verb k v o) (λ p. options_of verb ws p) r (sym (at_same verb w ws o k v e) ∙ h) in
    subst (λ u. Found verb (u ∷ ws) o r) (sym is.1)
    (found_more verb ((word_of k ++ (61 ∷ v)) ∷ []) ws k v o s.0 r (set_for_is verb k v o s.0 s.1) (same is.0) (later s.0 s.2))

found_next : (verb : Verb) (w u : List ℕ) (us : List (List ℕ)) (o : Options) (r : Options × List (List ℕ)) (k : Key) →
    ((p : Options) → options_of verb us p ≡ Some r → Found verb us p r) →
    spelled w ≡ Next k → (has_value k ≡ true) × (w ≡ word_of k) → options_of verb (w ∷ u ∷ us) o ≡ Some r → Found verb (w ∷ u ∷ us) o r
found_next verb w u us o r k later e is h =
    let s : (x : Options) × (set_for verb k u o ≡ Some x) × (options_of verb us x ≡ Some r) =
    with_some (set_for verb k u o) (λ p. options_of verb us p) r (sym (at_next verb w (u ∷ us) o k e ∙ at_value verb k u us o) ∙ h) in
    subst (λ x. Found verb (x ∷ u ∷ us) o r) (sym is.1)
    (found_more verb (word_of k ∷ u ∷ []) us k u o s.0 r (set_for_is verb k u o s.0 s.1) (next is.0) (later s.0 s.2))

found_other : (verb : Verb) (ws : List (List ℕ)) (o : Options) (r : Options × List (List ℕ)) → Stops ws → options_of verb ws o ≡ Some r → Found verb ws o r
found_other verb ws o r s h = found_none verb ws o r (sym (at_stop verb ws o s) ∙ h)

found_one : (verb : Verb) (w : List ℕ) (o : Options) (r : Options × List (List ℕ)) → (x : Spelled) → spelled w ≡ x → Speaks w x →
    options_of verb (w ∷ []) o ≡ Some r → Found verb (w ∷ []) o r
found_one verb w o r (Flag k) e is h = found_flag verb w [] o r k (λ p g. found_other verb [] p r tt g) e is h
found_one verb w o r (Next k) e is h = let none_is : options_of verb (w ∷ []) o ≡ None = at_next verb w [] o k e ∙ at_no_value verb k o in absurd cc
found_one verb w o r (Same k v) e is h = found_same verb w [] o r k v (λ p g. found_other verb [] p r tt g) e is h
found_one verb w o r Other e is h = found_other verb (w ∷ []) o r e h

found_two : (verb : Verb) (w u : List ℕ) (us : List (List ℕ)) (o : Options) (r : Options × List (List ℕ)) →
    ((p : Options) → options_of verb (u ∷ us) p ≡ Some r → Found verb (u ∷ us) p r) →
    ((p : Options) → options_of verb us p ≡ Some r → Found verb us p r) →
    (x : Spelled) → spelled w ≡ x → Speaks w x → options_of verb (w ∷ u ∷ us) o ≡ Some r → Found verb (w ∷ u ∷ us) o r
found_two verb w u us o r one two (Flag k) e is h = found_flag verb w (u ∷ us) o r k one e is h
found_two verb w u us o r one two (Next k) e is h = found_next verb w u us o r k two e is h
found_two verb w u us o r one two (Same k v) e is h = found_same verb w (u ∷ us) o r k v one e is h
found_two verb w u us o r one two Other e is h = found_other verb (w ∷ u ∷ us) o r e h

options_is : (verb : Verb) (ws : List (List ℕ)) (o : Options) (r : Options × List (List ℕ)) → options_of verb ws o ≡ Some r → Found verb ws o r
options_is verb [] o r h = found_other verb [] o r tt h
options_is verb (w ∷ []) o r h = found_one verb w o r (spelled w) refl (speaks w) h
options_is verb (w ∷ u ∷ us) o r h =
    found_two verb w u us o r (λ p g. options_is verb (u ∷ us) p r g) (λ p g. options_is verb us p r g) (spelled w) refl (speaks w) h

-- the other words
not_dashes : (w : List ℕ) → begins_with_dash w ≡ false → bytes_eq w (codes "--") ≡ false
not_dashes [] e = refl
not_dashes (b ∷ bs) e = rw e refl

bare_first : (w : List ℕ) (ws : List (List ℕ)) → all_bare (w ∷ ws) ≡ true → begins_with_dash w ≡ false
bare_first w ws = go (begins_with_dash w)
  where
    go : (b : Bool) → (not b && all_bare ws) ≡ true → b ≡ false
    go true e = absurd cc
    go false e = refl

others_is : (ts names : List (List ℕ)) → others_of ts ≡ Some names → HasOthers ts names
others_is [] names e = let is : [] ≡ names = cc in subst (λ ns. HasOthers [] ns) is (bare refl)
others_is (w ∷ ws) names e = go (bytes_eq w (codes "--")) (all_bare (w ∷ ws)) (bytes_equal w (codes "--")) refl e
  where
    go : (a b : Bool) → (a ≡ true → w ≡ codes "--") → all_bare (w ∷ ws) ≡ b →
        (if a then Some ws else (if b then Some (w ∷ ws) else None)) ≡ Some names → HasOthers (w ∷ ws) names
    go true b f g e = let is : ws ≡ names = cc in subst (λ u. HasOthers (u ∷ ws) names) (sym (f refl)) (subst (λ ns. HasOthers (codes "--" ∷ ws) ns) is dashed)
    go false true f g e = let is : w ∷ ws ≡ names = cc in subst (λ ns. HasOthers (w ∷ ws) ns) is (bare g)
    go false false f g e = absurd cc

others_all : (ts names : List (List ℕ)) → HasOthers ts names → (others_of ts ≡ Some names) × Stops ts
others_all ts names (bare {ws = []} h) = (refl, tt)
others_all ts names (bare {ws = w ∷ ws} h) =
    let d : begins_with_dash w ≡ false = bare_first w ws h in
    let f : bytes_eq w (codes "--") ≡ false = not_dashes w d in
    ((rw (f, h) refl), spelled_bare w d)
others_all ts names dashed = (refl, refl)

-- the names of a command
two_is : (names : List (List ℕ)) (make : List ℕ → List ℕ → Command) (c : Command) → two_names names make ≡ Some c →
    (s : List ℕ) × (p : List ℕ) × (names ≡ s ∷ p ∷ []) × (make s p ≡ c)
two_is [] make c e = absurd cc
two_is (s ∷ []) make c e = absurd cc
two_is (s ∷ p ∷ []) make c e = (s, p, refl, (let is : make s p ≡ c = cc in is))
two_is (s ∷ p ∷ q ∷ qs) make c e = absurd cc

three_is : (names : List (List ℕ)) (make : List ℕ → List ℕ → List ℕ → Command) (c : Command) → three_names names make ≡ Some c →
    (s : List ℕ) × (p : List ℕ) × (b : List ℕ) × (names ≡ s ∷ p ∷ b ∷ []) × (make s p b ≡ c)
three_is [] make c e = absurd cc
three_is (s ∷ []) make c e = absurd cc
three_is (s ∷ p ∷ []) make c e = absurd cc
three_is (s ∷ p ∷ b ∷ []) make c e = (s, p, b, refl, (let is : make s p b ≡ c = cc in is))
three_is (s ∷ p ∷ b ∷ q ∷ qs) make c e = absurd cc

at_two : (verb : Verb) (o : Options) (names : List (List ℕ)) (make : List ℕ → List ℕ → Command) (c : Command) →
    ((s p : List ℕ) → Names verb o (s ∷ p ∷ []) (make s p)) → two_names names make ≡ Some c → Names verb o names c
at_two verb o names make c f e =
    let t : (s : List ℕ) × (p : List ℕ) × (names ≡ s ∷ p ∷ []) × (make s p ≡ c) = two_is names make c e in
    subst (λ d. Names verb o names d) t.3 (subst (λ ns. Names verb o ns (make t.0 t.1)) (sym t.2) (f t.0 t.1))

at_three : (verb : Verb) (o : Options) (names : List (List ℕ)) (make : List ℕ → List ℕ → List ℕ → Command) (c : Command) →
    ((s p b : List ℕ) → Names verb o (s ∷ p ∷ b ∷ []) (make s p b)) → three_names names make ≡ Some c → Names verb o names c
at_three verb o names make c f e =
    let t : (s : List ℕ) × (p : List ℕ) × (b : List ℕ) × (names ≡ s ∷ p ∷ b ∷ []) × (make s p b ≡ c) = three_is names make c e in
    subst (λ d. Names verb o names d) t.4 (subst (λ ns. Names verb o ns (make t.0 t.1 t.2)) (sym t.3) (f t.0 t.1 t.2))

at_run : (o : Options) (names : List (List ℕ)) (c : Command) → run_names names o ≡ Some c → Names verbs.Run o names c
at_run o [] c e = absurd cc
at_run o (s ∷ []) c e = absurd cc
at_run o (s ∷ p ∷ []) c e = absurd cc
at_run o (s ∷ p ∷ d ∷ []) c e = absurd cc
at_run o (s ∷ p ∷ d ∷ m ∷ args) c e =
    let is : commands.Run o s p d m args ≡ c = cc in subst (λ x. Names verbs.Run o (s ∷ p ∷ d ∷ m ∷ args) x) is has.run

at_make_one : (o : Options) (w : List ℕ) (c : Command) (n : Option ℕ) → number_within 1 100000 w ≡ n → made n ≡ Some c → Names verbs.Make o (w ∷ []) c
at_make_one o w c None a e = absurd cc
at_make_one o w c (Some n) a e =
    let i : IsWithin n 1 100000 w = number_within_is 1 100000 n w a in
    let is : commands.Make n ≡ c = cc in
    subst (λ x. Names verbs.Make o (w ∷ []) x) is
    (subst (λ u. Names verbs.Make o (u ∷ []) (commands.Make n)) (sym i.digits) (has.make i.low_le i.le_high))

at_make : (o : Options) (names : List (List ℕ)) (c : Command) → make_names names ≡ Some c → Names verbs.Make o names c
at_make o [] c e = absurd cc
at_make o (w ∷ []) c e = at_make_one o w c (number_within 1 100000 w) refl e
at_make o (w ∷ u ∷ us) c e = absurd cc

at_schema : (o : Options) (names : List (List ℕ)) (c : Command) → schema_names names o ≡ Some c → Names verbs.Schema o names c
at_schema o [] c e = absurd cc
at_schema o (d ∷ []) c e = let is : commands.Schema o d ≡ c = cc in subst (λ x. Names verbs.Schema o (d ∷ []) x) is has.schema
at_schema o (d ∷ u ∷ us) c e = absurd cc

at_checked : (o : Options) → o.check ≡ true → o.schema ≡ false → (names : List (List ℕ)) (c : Command) → checked_names names ≡ Some c → Names verbs.Map o names c
at_checked o h f [] c e = absurd cc
at_checked o h f (m ∷ []) c e = absurd cc
at_checked o h f (m ∷ s ∷ []) c e = let is : commands.CheckMap m s None ≡ c = cc in subst (λ x. Names verbs.Map o (m ∷ s ∷ []) x) is (has.check_map h f)
at_checked o h f (m ∷ s ∷ p ∷ []) c e = let is : commands.CheckMap m s (Some p) ≡ c = cc in subst (λ x. Names verbs.Map o (m ∷ s ∷ p ∷ []) x) is (has.check_map_in h f)
at_checked o h f (m ∷ s ∷ p ∷ q ∷ qs) c e = absurd cc

at_map : (o : Options) (check schema : Bool) → o.check ≡ check → o.schema ≡ schema → (names : List (List ℕ)) (c : Command) → map_names check schema names ≡ Some c → Names verbs.Map o names c
at_map o false false h f [] c e = absurd cc
at_map o false false h f (n ∷ ns) c e = let is : commands.Map (n ∷ ns) ≡ c = cc in subst (λ x. Names verbs.Map o (n ∷ ns) x) is (has.map h f)
at_map o false true h f [] c e = absurd cc
at_map o false true h f (n ∷ ns) c e = let is : commands.MapSchema (n ∷ ns) ≡ c = cc in subst (λ x. Names verbs.Map o (n ∷ ns) x) is (has.map_schema h f)
at_map o true false h f names c e = at_checked o h f names c e
at_map o true true h f names c e = absurd cc

names_is : (verb : Verb) (o : Options) (names : List (List ℕ)) (c : Command) → command_of verb o names ≡ Some c → Names verb o names c
names_is verbs.Rewrite o names c e = at_two verbs.Rewrite o names (commands.Rewrite o) c (λ s p. has.rewrite) e
names_is verbs.Prove o names c e = at_two verbs.Prove o names (commands.Prove o) c (λ s p. has.prove) e
names_is verbs.Check o names c e = at_three verbs.Check o names (commands.Check o) c (λ s p b. has.check) e
names_is verbs.Run o names c e = at_run o names c e
names_is verbs.Sql o names c e = at_three verbs.Sql o names commands.Sql c (λ s p b. has.sql) e
names_is verbs.Make o names c e = at_make o names c e
names_is verbs.Unnest o names c e = at_two verbs.Unnest o names (commands.Unnest o) c (λ s p. has.unnest) e
names_is verbs.Narrow o names c e = at_two verbs.Narrow o names (commands.Narrow o) c (λ s p. has.narrow) e
names_is verbs.Inline o names c e = at_two verbs.Inline o names commands.Inline c (λ s p. has.inline) e
names_is verbs.Gather o names c e = at_two verbs.Gather o names (commands.Gather o) c (λ s p. has.gather) e
names_is verbs.Schema o names c e = at_schema o names c e
names_is verbs.View o names c e = at_three verbs.View o names commands.View c (λ m s p. has.view) e
names_is verbs.Map o names c e = at_map o o.check o.schema refl refl names c e

names_all : (verb : Verb) (o : Options) (names : List (List ℕ)) (c : Command) → Names verb o names c → command_of verb o names ≡ Some c
names_all verb o names c has.rewrite = refl
names_all verb o names c has.prove = refl
names_all verb o names c has.check = refl
names_all verb o names c has.run = refl
names_all verb o names c has.sql = refl
names_all verb o names c (has.make {n = n} l h) = ap made (number_within_decimal 1 100000 n (lit< tt) l h)
names_all verb o names c has.unnest = refl
names_all verb o names c has.narrow = refl
names_all verb o names c has.inline = refl
names_all verb o names c has.gather = refl
names_all verb o names c has.schema = refl
names_all verb o names c has.view = refl
names_all verb o names c (has.map h f) = rw (h, f) refl
names_all verb o names c (has.map_schema h f) = rw (h, f) refl
names_all verb o names c (has.check_map h f) = rw (h, f) refl
names_all verb o names c (has.check_map_in h f) = rw (h, f) refl

-- the whole
plain_is : (ws : List (List ℕ)) (c : Command) → plain ws ≡ Some c → HasWords ws c
plain_is [] c e = absurd cc
plain_is (w ∷ ws) c e =
    let v : (verb : Verb) × (verb_of w ≡ Some verb) × (with (options_of verb ws unset) (λ r. with (others_of r.1) (λ names. command_of verb r.0 names)) ≡ Some c) =
    with_some (verb_of w) (λ verb. with (options_of verb ws unset) (λ r. with (others_of r.1) (λ names. command_of verb r.0 names))) c e in
    let r : (r : Options × List (List ℕ)) × (options_of v.0 ws unset ≡ Some r) × (with (others_of r.1) (λ names. command_of v.0 r.0 names) ≡ Some c) =
    with_some (options_of v.0 ws unset) (λ r. with (others_of r.1) (λ names. command_of v.0 r.0 names)) c v.2 in
    let n : (names : List (List ℕ)) × (others_of r.0.1 ≡ Some names) × (command_of v.0 r.0.0 names ≡ Some c) =
    with_some (others_of r.0.1) (λ names. command_of v.0 r.0.0 names) c r.2 in
    let f : Found v.0 ws unset r.0 = options_is v.0 ws unset r.0 r.1 in
    subst (λ u. HasWords (u ∷ ws) c) (sym (verb_is w v.0 v.1))
    (subst (λ us. HasWords (name_of v.0 ∷ us) c) (sym f.parts)
    (plainly f.options (others_is r.0.1 n.0 n.1) (names_is v.0 r.0.0 n.0 c n.2)))

plain_all : (ws : List (List ℕ)) (c : Command) → HasWords ws c → plain ws ≡ Some c
plain_all ws c (plainly {verb} {os} {ts} {others} {o} a b n) =
    let t : (others_of ts ≡ Some others) × Stops ts = others_all ts others b in
    ap (λ v. with v (λ verb. with (options_of verb (os ++ ts) unset) (λ r. with (others_of r.1) (λ names. command_of verb r.0 names)))) (verb_all verb)
    ∙ (ap (λ r. with r (λ r. with (others_of r.1) (λ names. command_of verb r.0 names))) (options_all verb os ts unset o a t.1)
    ∙ (ap (λ n. with n (λ names. command_of verb o names)) t.0 ∙ names_all verb o others c n))

pub reads_plain_words : ReadsPlainWords
reads_plain_words ws c = (plain_is ws c, plain_all ws c)

-- the value stands behind `=` in the first word
pub same_arm : {E : Type 0} (verb : Verb) (words : List (List ℕ)) (first : List ℕ) (o : Options) (k : Key) (v : List ℕ)
    (r : Result (Option (Options × Bor (List (List ℕ)))) E) → 1 ≤ length words → first ≡ get_or words 0 first → Same k v ≡ spelled first →
    IfOk r (λ x. seen x ≡ with (set_for verb k v o) (λ p. options_of verb (take (length words - 1) (drop 1 words)) p)) →
    IfOk r (λ x. seen x ≡ options_of verb words o)
same_arm verb [] first o k v r len is e h = absurd (omega arith)
same_arm verb (w ∷ ws) first o k v r len is e h =
    let all : take (length (w ∷ ws) - 1) ws ≡ ws = grind (arith, common_steps) in
    let at : options_of verb (w ∷ ws) o ≡ with (set_for verb k v o) (λ p. options_of verb ws p) = at_same verb w ws o k v (ap spelled (sym is) ∙ sym e) in
    subst (λ a. IfOk r (λ x. seen x ≡ a)) (sym at)
    (subst (λ us. IfOk r (λ x. seen x ≡ with (set_for verb k v o) (λ p. options_of verb us p))) all h)

-- the first word is a flag
pub flag_arm : {E : Type 0} (verb : Verb) (words : List (List ℕ)) (first : List ℕ) (o : Options) (k : Key)
    (r : Result (Option (Options × Bor (List (List ℕ)))) E) → 1 ≤ length words → first ≡ get_or words 0 first → Flag k ≡ spelled first →
    IfOk r (λ x. seen x ≡ with (set_for verb k [] o) (λ p. options_of verb (take (length words - 1) (drop 1 words)) p)) →
    IfOk r (λ x. seen x ≡ options_of verb words o)
flag_arm verb [] first o k r len is e h = absurd (omega arith)
flag_arm verb (w ∷ ws) first o k r len is e h =
    let all : take (length (w ∷ ws) - 1) ws ≡ ws = grind (arith, common_steps) in
    let at : options_of verb (w ∷ ws) o ≡ with (set_for verb k [] o) (λ p. options_of verb ws p) = at_flag verb w ws o k (ap spelled (sym is) ∙ sym e) in
    subst (λ a. IfOk r (λ x. seen x ≡ a)) (sym at)
    (subst (λ us. IfOk r (λ x. seen x ≡ with (set_for verb k [] o) (λ p. options_of verb us p))) all h)
