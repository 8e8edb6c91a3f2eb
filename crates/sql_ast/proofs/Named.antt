-- FROM items in sight: the innermost of an alias, and the only one.
use Rattle.std.proofs.Common.{◌≡◌, ℕ, suc, ◌+◌, ◌≤◌, ◌≢◌, Bool, true, false, List, [], ◌∷◌, ◌++◌, length, take, drop, get_or, Some, None, refl, sym, ap, ◌∙◌, arith}
use Rattle.std.specs.Prelude.{if◌then◌else◌}
use Rattle.std.specs.Str.{bytes_eq}
use Rattle.std.proofs.lemmas.List.{length-map, length-drop, length-take, drop-map}
use Rattle.sql_ast.specs.declared.known.Known.{Known}
use Rattle.sql_ast.specs.Knowns.{known_of, knowns_of, own_of}
use Rattle.sql_ast.specs.Names.{innermost, only_item}
use Rattle.sql_ast.specs.Names as names

-- ---- the innermost item of an alias

pub last_first : (n : ℕ) (alias : List ℕ) (xs : List names.Known) (x : names.Known) → (v : Bool) → bytes_eq x.alias alias ≡ v
    → innermost n alias (xs ++ x ∷ []) ≡ (if v then Some (n + length xs, x) else innermost n alias xs)
last_first n alias [] x true e = rw e (ap (λ (m : ℕ). Some (m, x)) (omega arith))
last_first n alias [] x false e = rw e refl
last_first n alias (y ∷ ys) x true e = rw (last_first (suc n) alias ys x true e) (ap (λ (m : ℕ). Some (m, x)) (omega arith))
last_first n alias (y ∷ ys) x false e = rw (last_first (suc n) alias ys x false e) refl

-- ---- the only item

len_more : (around : ℕ) (ks own : List Known) → around ≤ length ks → own ≡ drop around ks → length own ≡ 1 → suc (length (take around (knowns_of ks))) ≡ length ks
len_more around ks own within e one = omega (arith, length-take around (knowns_of ks), length-map ks known_of, length-drop around ks, ap length e, one, within)

one_item : (n : ℕ) (own : List Known) (k : Known) → length own ≡ 1 → k ≡ get_or own 0 k → only_item n (knowns_of own) ≡ Some (n, known_of k)
one_item n [] k one e = absurd (omega (arith, one))
one_item n (x ∷ []) k one e = ap (λ (y : Known). Some (n, known_of y)) (sym e)
one_item n (x ∷ y ∷ own) k one e = absurd (omega (arith, one))

no_item : (n : ℕ) (own : List Known) → length own ≢ 1 → only_item n (knowns_of own) ≡ None
no_item n [] other = refl
no_item n (x ∷ []) other = absurd (other refl)
no_item n (x ∷ y ∷ own) other = refl

dropped : (around : ℕ) (ks own : List Known) → own ≡ drop around ks → drop around (knowns_of ks) ≡ knowns_of own
dropped around ks own e = drop-map known_of around ks ∙ ap knowns_of (sym e)

pub single_own : (around : ℕ) (ks own : List Known) (k : Known) → around ≤ length ks → own ≡ drop around ks → length own ≡ 1 → k ≡ get_or own 0 k → Some (length ks, known_of k) ≡ own_of around (knowns_of ks)
unfolding own_of
single_own around ks own k within e one item =
    sym (ap (only_item (suc (length (take around (knowns_of ks))))) (dropped around ks own e)
    ∙ ap (λ (n : ℕ). only_item n (knowns_of own)) (len_more around ks own within e one)
    ∙ one_item (length ks) own k one item)

pub other_own : (around : ℕ) (ks own : List Known) → own ≡ drop around ks → length own ≢ 1 → None ≡ own_of around (knowns_of ks)
unfolding own_of
other_own around ks own e other =
    sym (ap (only_item (suc (length (take around (knowns_of ks))))) (dropped around ks own e) ∙ no_item (suc (length (take around (knowns_of ks)))) own other)
