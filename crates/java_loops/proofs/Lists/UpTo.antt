-- Lists that are found up to a limit, part by part.
use Rattle.std.proofs.Common.{◌≡◌, ℕ, ◌+◌, ◌<◌, ◌≤◌, Bool, true, false, List, [], ◌∷◌, ◌++◌, length, refl, sym, ap, ◌∙◌, subst, cond, arith, length-append}
use Rattle.std.specs.List.{list_any}
use Rattle.java_ast.specs.Tree.{Expression, Statements}
use Rattle.tor_terms.specs.declared.term.Atom.{Atom}
use Rattle.loop_text.specs.Kernel.KernelConditions.{asked_for}
use Rattle.java_ast.specs.Names.{Names}
use Rattle.java_loops.specs.Lowering.Numbering.{with_new, with_all_new, Leaf, same_entry, entries_in, entries_among, arguments_asked, with_arguments, reading_of, same_atom, atoms_among}
use Rattle.java_loops.specs.Kernel.Setting.{Setting}
use Rattle.loop_text.specs.Sites.Sites.{Site}
use Rattle.java_loops.specs.Lowering.UpTo.{Reaches, goes, passes, IsUpTo}

-- ---- Up to a limit

-- more is found than the limit allows
pub stopped : {A : Type 0} (n : ℕ) (found now whole : List A) → length found ≤ length now → n < length found → Reaches n found now whole → IsUpTo n found whole
stopped n found now whole grows more (goes e) = let h : length now ≡ length whole = ap length e in passes more (omega arith)
stopped n found now whole grows more (passes a b) = passes a b

-- no more is found than the limit allows
pub goes_on : {A : Type 0} (n : ℕ) (found now whole : List A) → length found ≤ n → Reaches n found now whole → now ≡ whole
goes_on n found now whole few (goes e) = e
goes_on n found now whole few (passes a b) = absurd (omega arith)

-- a part is found, behind which the rest follows
pub part_found : {A : Type 0} (n : ℕ) (rest : List A → List A) (new part whole : List A) → length part ≤ length (rest part) → IsUpTo n new part → rest part ≡ whole → Reaches n new (rest new) whole
part_found n rest new part whole grows (goes e) h = goes (ap rest e ∙ h)
part_found n rest new part whole grows (passes a b) h = let e : length (rest part) ≡ length whole = ap length h in passes a (omega arith)

-- the rest is found
pub rest_found : {A : Type 0} (n : ℕ) (found now new whole : List A) → length found ≤ length now → Reaches n found now whole → IsUpTo n new now → IsUpTo n new whole
rest_found n found now new whole grows (goes e) r = subst (λ (l : List _). IsUpTo n new l) e r
rest_found n found now new whole grows (passes a b) (goes e) = let h : length new ≡ length now = ap length e in passes (omega arith) b
rest_found n found now new whole grows (passes a b) (passes c d) = passes c b

pub few_found : {A : Type 0} (n : ℕ) (found whole : List A) → length found ≤ n → IsUpTo n found whole → (found ≡ whole) × (length found ≤ n)
few_found n found whole few r = (goes_on n found found whole few r, few)

pub many_found : {A : Type 0} (n : ℕ) (found whole : List A) → n < length found → IsUpTo n found whole → n < length whole
many_found n found whole more (goes e) = let h : length found ≡ length whole = ap length e in omega arith
many_found n found whole more (passes a b) = b

-- ---- Lists without repetition grow

new_step : {A : Type 0} (xs : List A) (x : A) (b : Bool) → length xs ≤ length (cond b xs (xs ++ x ∷ []))
new_step xs x true = omega arith
new_step xs x false = let h : length (xs ++ x ∷ []) ≡ length xs + 1 = length-append xs (x ∷ []) in omega arith

pub new_grows : {A : Type 0} (same : A → A → Bool) (xs : List A) (x : A) → length xs ≤ length (with_new same xs x)
new_grows same xs x = new_step xs x (list_any (same x) xs)

pub all_grows : {A : Type 0} (same : A → A → Bool) (xs ys : List A) → length xs ≤ length (with_all_new same xs ys)
all_grows same xs [] = omega arith
all_grows same xs (y ∷ ys) =
    let a : length xs ≤ length (with_new same xs y) = new_grows same xs y in
    let b : length (with_new same xs y) ≤ length (with_all_new same (with_new same xs y) ys) = all_grows same (with_new same xs y) ys in
    omega arith

pub all_put : {A : Type 0} (same : A → A → Bool) (xs ys zs : List A) → with_all_new same xs (ys ++ zs) ≡ with_all_new same (with_all_new same xs ys) zs
all_put same xs [] zs = refl
all_put same xs (y ∷ ys) zs = all_put same (with_new same xs y) ys zs

pub entries_grow : (sites : List Site) (es : List Expression) (ls : List Leaf) → length es ≤ length (entries_among sites es ls)
entries_grow sites es [] = omega arith
entries_grow sites es (l ∷ ls) =
    let more : List Expression = with_all_new same_entry es (entries_in sites l.number l.expression) in
    let a : length es ≤ length (with_all_new same_entry es (entries_in sites l.number l.expression)) = all_grows same_entry es (entries_in sites l.number l.expression) in
    let b : length (with_all_new same_entry es (entries_in sites l.number l.expression)) ≤ length (entries_among sites (with_all_new same_entry es (entries_in sites l.number l.expression)) ls) = entries_grow sites more ls in
    omega arith

pub arguments_grow : (run : Statements) (es : List Expression) (xs : Names) → length es ≤ length (with_arguments run es xs)
arguments_grow run es [] = omega arith
arguments_grow run es (x ∷ xs) =
    let a : length es ≤ length (with_all_new same_entry es (arguments_asked (asked_for run x))) = all_grows same_entry es (arguments_asked (asked_for run x)) in
    let b : length (with_all_new same_entry es (arguments_asked (asked_for run x))) ≤ length (with_arguments run (with_all_new same_entry es (arguments_asked (asked_for run x))) xs) = arguments_grow run (with_all_new same_entry es (arguments_asked (asked_for run x))) xs in
    omega arith

pub atoms_grow : (w : Setting) (entries : List Expression) (known : Names) (all : List Atom) (ls : List Leaf) → length all ≤ length (atoms_among w entries known all ls)
atoms_grow w entries known all [] = omega arith
atoms_grow w entries known all (l ∷ ls) =
    let a : length all ≤ length (with_new same_atom all (reading_of w entries known l.number l.expression).atom) = new_grows same_atom all (reading_of w entries known l.number l.expression).atom in
    let b : length (with_new same_atom all (reading_of w entries known l.number l.expression).atom) ≤ length (atoms_among w entries known (with_new same_atom all (reading_of w entries known l.number l.expression).atom) ls) = atoms_grow w entries known (with_new same_atom all (reading_of w entries known l.number l.expression).atom) ls in
    omega arith

-- the arguments of one query more
pub query_found : (run : Statements) (xs rest : Names) (x : List ℕ) (old new whole : List Expression) → xs ≡ x ∷ rest → length old ≤ 9 → Reaches 9 old (with_arguments run old xs) whole → IsUpTo 9 new (with_all_new same_entry old (arguments_asked (asked_for run x))) → Reaches 9 new (with_arguments run new rest) whole
query_found run xs rest x old new whole is few h found =
    let more : List Expression = with_all_new same_entry old (arguments_asked (asked_for run x)) in
    part_found 9 (λ es. with_arguments run es rest) new more whole (arguments_grow run more rest) found (sym (ap (with_arguments run old) is) ∙ goes_on 9 old (with_arguments run old xs) whole few h)

-- the entry values in leaves, and then the arguments
pub entries_found : (run : Statements) (sites : List Site) (ls : List Leaf) (known : Names) (start first second : List Expression) → start ≡ [] → IsUpTo 9 first (entries_among sites start ls) → IsUpTo 9 second (with_arguments run first known) → IsUpTo 9 second (with_arguments run (entries_among sites [] ls) known)
entries_found run sites ls known start first second empty h k =
    let middle : List Expression = entries_among sites [] ls in
    let g : IsUpTo 9 first (entries_among sites [] ls) = subst (λ (es : List Expression). IsUpTo 9 first (entries_among sites es ls)) empty h in
    rest_found 9 first (with_arguments run first known) second (with_arguments run middle known) (arguments_grow run first known)
    (part_found 9 (λ es. with_arguments run es known) first middle (with_arguments run middle known) (arguments_grow run middle known) g refl) k
