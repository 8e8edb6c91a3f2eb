-- What is noted of names tells which marks they end in.
use Rattle.std.proofs.Common.{◌≡◌, ℕ, suc, ◌+◌, Bool, true, false, ◌||◌, List, [], ◌∷◌, ◌++◌, length, map, refl, sym, ap, ◌∙◌, subst, arith}
use Rattle.std.specs.Prelude.{bytes_eq, if◌then◌else◌}
use Rattle.std.specs.Borrow.{Bor}
use Rattle.std.specs.List.{list_any}
use Rattle.std.proofs.lemmas.List.Folds.{list_any-append}
use Rattle.std.proofs.lemmas.Slice.Eq.{bytes_eq-Decides}
use Rattle.java_ast.specs.Names.{Names, is_among, with_name}
use Rattle.call_parts.specs.Marks.{mark_of, ends_in, is_marked}
use Rattle.call_rules.proofs.Numbers.{sym_eq}
use Rattle.inlining.specs.Endings.{Endings, tail_of, noted, all_noted}
use Rattle.inlining.proofs.Ends.{ends_in_mark}

or_false : (b : Bool) → b || false ≡ b
or_false true = refl
or_false false = refl

or_true : (b : Bool) → b || true ≡ true
or_true true = refl
or_true false = refl

or_assoc : (x y z : Bool) → x || (y || z) ≡ (x || y) || z
or_assoc true y z = refl
or_assoc false y z = refl

same_among : (xs : Names) (x y : List ℕ) → bytes_eq x y ≡ true → is_among xs y ≡ true → is_among xs x ≡ true
same_among xs x y e h = subst (λ (z : List ℕ). is_among xs z ≡ true) (sym ((bytes_eq-Decides x y).0 e)) h

more_by : (i b : Bool) (xs : Names) (y m : List ℕ) → is_among xs y ≡ i → bytes_eq m y ≡ b → is_among (if i then xs else xs ++ y ∷ []) m ≡ is_among xs m || b
more_by false b xs y m h e = list_any-append (bytes_eq m) xs (y ∷ []) ∙ ap (λ (c : Bool). is_among xs m || c) (or_false (bytes_eq m y) ∙ e)
more_by true true xs y m h e = same_among xs m y e h ∙ sym (or_true (is_among xs m))
more_by true false xs y m h e = sym (or_false (is_among xs m))

noted_among : (ns : Names) (t : Endings) (m : List ℕ) → is_among (all_noted t ns).0 m ≡ is_among t.0 m || list_any (λ n. bytes_eq m (tail_of n)) ns
noted_among [] t m = sym (or_false (is_among t.0 m))
noted_among (n ∷ ns) t m =
    noted_among ns (noted t n) m
    ∙ ap (λ (b : Bool). b || list_any (λ n. bytes_eq m (tail_of n)) ns) (more_by (is_among t.0 (tail_of n)) (bytes_eq m (tail_of n)) t.0 (tail_of n) m refl refl)
    ∙ sym (or_assoc (is_among t.0 m) (bytes_eq m (tail_of n)) (list_any (λ n. bytes_eq m (tail_of n)) ns))

marked_same : (ns : Names) (c : ℕ) → list_any (λ n. bytes_eq (mark_of c) (tail_of n)) ns ≡ is_marked ns c
marked_same [] c = refl
marked_same (n ∷ ns) c =
    ap (λ (b : Bool). b || list_any (λ n. bytes_eq (mark_of c) (tail_of n)) ns) (sym_eq (mark_of c) (tail_of n) ∙ sym (ends_in_mark c n))
    ∙ ap (λ (b : Bool). ends_in (mark_of c) n || b) (marked_same ns c)

pub marked_is : (ns : Names) (c : ℕ) → is_among (all_noted ([], 0) ns).0 (mark_of c) ≡ is_marked ns c
marked_is ns c = noted_among ns ([], 0) (mark_of c) ∙ marked_same ns c

count_by : (ns : Names) (t : Endings) → (all_noted t ns).1 ≡ t.1 + length ns
count_by [] t = omega arith
count_by (n ∷ ns) t = let e : suc t.1 + length ns ≡ t.1 + suc (length ns) = omega arith in count_by ns (noted t n) ∙ e

pub count_is : (ns : Names) → (all_noted ([], 0) ns).1 ≡ length ns
count_is ns = let e : 0 + length ns ≡ length ns = omega arith in count_by ns ([], 0) ∙ e

-- ---- The set that is kept

pub has_lent : (x : List ℕ) (ks : List (Bor (List ℕ))) → list_any (λ k. bytes_eq x k.now) ks ≡ is_among (map (λ k. k.now) ks) x
has_lent x [] = refl
has_lent x (k ∷ ks) = ap (λ (b : Bool). bytes_eq x k.now || b) (has_lent x ks)

put_by : (b : Bool) (x : Bor (List ℕ)) (ks : List (Bor (List ℕ))) → map (λ k. k.now) (if b then ks else ks ++ x ∷ []) ≡ (if b then map (λ k. k.now) ks else map (λ k. k.now) ks ++ x.now ∷ [])
put_by true x ks = refl
put_by false x [] = refl
put_by false x (k ∷ ks) = ap (λ (l : Names). k.now ∷ l) (put_by false x ks)

pub put_lent : (x : Bor (List ℕ)) (ks : List (Bor (List ℕ))) → map (λ k. k.now) (if list_any (λ (k : Bor (List ℕ)). bytes_eq x.now k.now) ks then ks else ks ++ x ∷ []) ≡ with_name (map (λ k. k.now) ks) x.now
put_lent x ks =
    put_by (list_any (λ (k : Bor (List ℕ)). bytes_eq x.now k.now) ks) x ks
    ∙ ap (λ (b : Bool). if b then map (λ k. k.now) ks else map (λ k. k.now) ks ++ x.now ∷ []) (has_lent x.now ks)

pub told : (names : Names) (t : Endings) (m : List ℕ) (c : ℕ) (b : Bool) → t ≡ all_noted ([], 0) names → m ≡ mark_of c → b ≡ is_among t.0 m → b ≡ is_marked names c
told names t m c b is mark e = e ∙ ap (λ (t : Endings). is_among t.0 m) is ∙ ap (is_among (all_noted ([], 0) names).0) mark ∙ marked_is names c

pub ruleset marks = (told)
