-- Items in sight that hide others, as they come and go.
use Rattle.std.proofs.Common.{◌≡◌, ℕ, ◌+◌, ◌-◌, ◌<◌, ◌≤◌, zero, suc, Bool, true, false, List, [], ◌∷◌, ◌++◌, length, map, take, drop, get_or, Option, Some, None, refl, sym, ap, ap₂, ◌∙◌, arith, append_assoc}
use Rattle.std.specs.Prelude.{if◌then◌else◌, slice_get}
use Rattle.std.specs.Option.{option_map}
use Rattle.std.specs.Str.{bytes_eq}
use Rattle.std.proofs.lemmas.List.{map-append, length-map, length-append, length-drop}
use Rattle.std.proofs.lemmas.Slice.Eq.{bytes_eq-Decides}
use Rattle.sql_ast.specs.declared.places.Places.{Places}
use Rattle.sql_ast.specs.declared.sight.Sighted.{Sighted}
use Rattle.sql_ast.specs.Knowns.{known_of, knowns_of, own_of}
use Rattle.sql_ast.specs.Names.{innermost}
use Rattle.sql_ast.specs.Names as names
use Rattle.sql_ast.specs.Places.{number_of, replaced}
use Rattle.sql_ast.specs.Sights.{items_in, hidden_numbers, place_of}
use Rattle.sql_ast.proofs.Named.{last_first, single_own, other_own}

-- ---- one item more

abbrev pub hides_of : List Sighted → List (Option ℕ)
hides_of ss = map (λ s. s.hides) ss

abbrev pub plain_of : List Sighted → List names.Known
plain_of ss = knowns_of (items_in ss)

abbrev pub alias_of : Sighted → List ℕ
alias_of s = s.item.alias.now

place_last : (alias : List ℕ) (ks : List names.Known) (k : names.Known) (v : Bool) → bytes_eq k.alias alias ≡ v → place_of alias (ks ++ k ∷ []) ≡ (if v then Some (1 + length ks) else place_of alias ks)
unfolding place_of
place_last alias ks k true e = ap (option_map (λ found. found.0)) (last_first 1 alias ks k true e)
place_last alias ks k false e = ap (option_map (λ found. found.0)) (last_first 1 alias ks k false e)

none_more : {A : Type 0} (xs : List A) → xs ++ [] ≡ xs
none_more [] = refl
none_more (x ∷ xs) = ap (λ (ys : List _). x ∷ ys) (none_more xs)

hidden_last : (before ks : List names.Known) (k : names.Known) → hidden_numbers before (ks ++ k ∷ []) ≡ hidden_numbers before ks ++ place_of k.alias (before ++ ks) ∷ []
unfolding hidden_numbers
hidden_last before [] k = ap (λ (ys : List names.Known). place_of k.alias ys ∷ []) (sym (none_more before))
hidden_last before (y ∷ ks) k =
    ap (λ (hs : List (Option ℕ)). place_of y.alias before ∷ hs)
    (hidden_last (before ++ y ∷ []) ks k ∙ ap (λ (ys : List names.Known). hidden_numbers (before ++ y ∷ []) ks ++ place_of k.alias ys ∷ []) (append_assoc before (y ∷ []) ks))

plain_last : (ss ts : List Sighted) (s : Sighted) → ts ≡ ss ++ s ∷ [] → plain_of ts ≡ plain_of ss ++ known_of s.item ∷ []
plain_last ss ts s e =
    ap plain_of e
    ∙ ap knowns_of (map-append (λ (x : Sighted). x.item) ss (s ∷ []))
    ∙ map-append known_of (items_in ss) (s.item ∷ [])

hides_last : (ss ts : List Sighted) (s : Sighted) → ts ≡ ss ++ s ∷ [] → hides_of ts ≡ hides_of ss ++ s.hides ∷ []
hides_last ss ts s e = ap hides_of e ∙ map-append (λ (x : Sighted). x.hides) ss (s ∷ [])

hidden_then : (ss ts : List Sighted) (s : Sighted) → ts ≡ ss ++ s ∷ [] → hidden_numbers [] (plain_of ts) ≡ hidden_numbers [] (plain_of ss) ++ place_of (alias_of s) (plain_of ss) ∷ []
hidden_then ss ts s e = ap (hidden_numbers []) (plain_last ss ts s e) ∙ hidden_last [] (plain_of ss) (known_of s.item)

place_then : (ss ts : List Sighted) (s : Sighted) (alias : List ℕ) (v : Bool) → ts ≡ ss ++ s ∷ [] → bytes_eq (alias_of s) alias ≡ v → place_of alias (plain_of ts) ≡ (if v then Some (1 + length (plain_of ss)) else place_of alias (plain_of ss))
place_then ss ts s alias v e b = ap (place_of alias) (plain_last ss ts s e) ∙ place_last alias (plain_of ss) (known_of s.item) v b

-- ---- an item comes

pub comes_hiding : (ss ts : List Sighted) (s : Sighted) → ts ≡ ss ++ s ∷ [] → hides_of ss ≡ hidden_numbers [] (plain_of ss) → s.hides ≡ place_of (alias_of s) (plain_of ss) → hides_of ts ≡ hidden_numbers [] (plain_of ts)
comes_hiding ss ts s e h here =
    hides_last ss ts s e ∙ ap₂ (λ (hs : List (Option ℕ)) (x : Option ℕ). hs ++ x ∷ []) h here ∙ sym (hidden_then ss ts s e)

pub comes_found : (p q : Places) (ss ts : List Sighted) (s : Sighted) (number : ℕ) → ts ≡ ss ++ s ∷ [] → number ≡ length ts
    → ((alias : List ℕ) → number_of p alias ≡ place_of alias (plain_of ss))
    → ((other : List ℕ) → number_of q other ≡ replaced (number_of p) (alias_of s) (Some number) other)
    → (alias : List ℕ) → number_of q alias ≡ place_of alias (plain_of ts)
comes_found p q ss ts s number e len found up alias = by (bytes_eq (alias_of s) alias) refl
  where
    last : number ≡ 1 + length (plain_of ss)
    last = omega (arith, len, ap length e, length-append ss (s ∷ []), length-map (items_in ss) known_of, length-map ss (λ (x : Sighted). x.item))

    by : (v : Bool) → bytes_eq (alias_of s) alias ≡ v → number_of q alias ≡ place_of alias (plain_of ts)
    by true b = up alias ∙ rw b (ap (λ (n : ℕ). Some n) last) ∙ sym (place_then ss ts s alias true e b)
    by false b = up alias ∙ rw b (found alias) ∙ sym (place_then ss ts s alias false e b)

-- ---- an item goes

last_same : {A : Type 0} (xs ys : List A) (x y : A) → xs ++ x ∷ [] ≡ ys ++ y ∷ [] → (xs ≡ ys) × (x ≡ y)
last_same [] [] x y e = (refl, cc)
last_same [] (z ∷ []) x y e = absurd cc
last_same [] (z ∷ w ∷ ys) x y e = absurd cc
last_same (z ∷ []) [] x y e = absurd cc
last_same (z ∷ w ∷ xs) [] x y e = absurd cc
last_same (z ∷ xs) (w ∷ ys) x y e = let rest : xs ++ x ∷ [] ≡ ys ++ y ∷ [] = cc in let more = last_same xs ys x y rest in let first : z ≡ w = cc in (ap₂ (λ (v : _) (vs : List _). v ∷ vs) first more.0, more.1)

goes : (ss ts : List Sighted) (s : Sighted) → ts ≡ ss ++ s ∷ [] → hides_of ts ≡ hidden_numbers [] (plain_of ts) → (hides_of ss ≡ hidden_numbers [] (plain_of ss)) × (s.hides ≡ place_of (alias_of s) (plain_of ss))
goes ss ts s e h =
    last_same (hides_of ss) (hidden_numbers [] (plain_of ss)) s.hides (place_of (alias_of s) (plain_of ss)) (sym (hides_last ss ts s e) ∙ h ∙ hidden_then ss ts s e)

pub goes_hiding : (ss ts : List Sighted) (s : Sighted) → ts ≡ ss ++ s ∷ [] → hides_of ts ≡ hidden_numbers [] (plain_of ts) → hides_of ss ≡ hidden_numbers [] (plain_of ss)
goes_hiding ss ts s e h = (goes ss ts s e h).0

pub goes_found : (p q : Places) (ss ts : List Sighted) (s : Sighted) → ts ≡ ss ++ s ∷ [] → hides_of ts ≡ hidden_numbers [] (plain_of ts)
    → ((alias : List ℕ) → number_of p alias ≡ place_of alias (plain_of ts))
    → ((other : List ℕ) → number_of q other ≡ replaced (number_of p) (alias_of s) s.hides other)
    → (alias : List ℕ) → number_of q alias ≡ place_of alias (plain_of ss)
goes_found p q ss ts s e h found up alias = by (bytes_eq (alias_of s) alias) refl
  where
    by : (v : Bool) → bytes_eq (alias_of s) alias ≡ v → number_of q alias ≡ place_of alias (plain_of ss)
    by true b = up alias ∙ rw b (goes ss ts s e h).1 ∙ ap (λ (name : List ℕ). place_of name (plain_of ss)) ((bytes_eq-Decides (alias_of s) alias).0 b)
    by false b = up alias ∙ rw b (found alias) ∙ place_then ss ts s alias false e b

-- ---- nothing is in sight

pub nothing_hides : (ss : List Sighted) → ss ≡ [] → hides_of ss ≡ hidden_numbers [] (plain_of ss)
unfolding hidden_numbers
nothing_hides ss e = rw e refl

pub nothing_found : (p : Places) (ss : List Sighted) → ss ≡ [] → ((alias : List ℕ) → number_of p alias ≡ None) → (alias : List ℕ) → number_of p alias ≡ place_of alias (plain_of ss)
unfolding place_of
nothing_found p ss e none alias = none alias ∙ rw e refl

last_part : (ts : List Sighted) (s : Sighted) → Some s ≡ slice_get ts (length ts - 1) → ts ≡ take (length ts - 1) ts ++ s ∷ []
last_part [] s e = absurd cc
last_part (x ∷ []) s e = let same : Some s ≡ Some x = e in ap (λ (y : Sighted). y ∷ []) cc
last_part (x ∷ y ∷ ts) s e =
    let step : length (x ∷ y ∷ ts) - 1 ≡ suc (length (y ∷ ts) - 1) = omega arith in
    rw step (ap (λ (us : List Sighted). x ∷ us) (last_part (y ∷ ts) s (rw step at e)))

pub gone_last : (ts held front : List Sighted) (s : Sighted) (n : ℕ) → Some s ≡ slice_get held (length held - 1) → held ≡ ts → front ≡ take (n - 1) ts → n ≡ length ts → ts ≡ front ++ s ∷ []
gone_last ts held front s n e same cut len =
    last_part ts s (rw same at e)
    ∙ ap (λ (us : List Sighted). us ++ s ∷ []) (ap (λ (m : ℕ). take (m - 1) ts) (sym len) ∙ sym cut)

-- ---- an item is found

pub record IsAt (m : ℕ) (ks : List names.Known) (n : ℕ) (k : names.Known) : Type 0 where
  pub from : m ≤ n
  pub to : n < m + length ks
  pub held : slice_get ks (n - m) ≡ Some k

deeper : (m : ℕ) (y : names.Known) (ks : List names.Known) (n : ℕ) (k : names.Known) → IsAt (suc m) ks n k → IsAt m (y ∷ ks) n k
deeper m y ks n k h = let step : n - m ≡ suc (n - suc m) = omega (arith, h.from) in record { from = omega (arith, h.from); to = omega (arith, h.to); held = rw step h.held }

abbrev number_or : Option (ℕ × names.Known) → ℕ
number_or None = 0
number_or (Some x) = x.0

abbrev here_or : ℕ → names.Known → Bool → Option (ℕ × names.Known)
here_or m y v = if v then Some (m, y) else None

found_here : (m : ℕ) (y : names.Known) (ks : List names.Known) (n : ℕ) (k : names.Known) (v : Bool) → here_or m y v ≡ Some (n, k) → IsAt m (y ∷ ks) n k
found_here m y ks n k true e =
    let number : m ≡ n = ap number_or e in
    let place : n - m ≡ 0 = omega (arith, number) in
    let item : Some y ≡ Some k = ap (option_map (λ x. x.1)) e in
    record { from = omega (arith, number); to = omega (arith, number); held = rw place item }
found_here m y ks n k false e = absurd cc

abbrev found_or : ℕ → List ℕ → names.Known → Option (ℕ × names.Known) → Option (ℕ × names.Known)
found_or m alias y (Some found) = Some found
found_or m alias y None = here_or m y (bytes_eq y.alias alias)

found_step : (m : ℕ) (alias : List ℕ) (y : names.Known) (ks : List names.Known) (n : ℕ) (k : names.Known) → (innermost (suc m) alias ks ≡ Some (n, k) → IsAt (suc m) ks n k)
    → (o : Option (ℕ × names.Known)) → innermost (suc m) alias ks ≡ o → found_or m alias y o ≡ Some (n, k) → IsAt m (y ∷ ks) n k
found_step m alias y ks n k ih (Some x) g e = deeper m y ks n k (ih (g ∙ e))
found_step m alias y ks n k ih None g e = found_here m y ks n k (bytes_eq y.alias alias) e

found_within : (m : ℕ) (alias : List ℕ) (ks : List names.Known) (n : ℕ) (k : names.Known) → innermost m alias ks ≡ Some (n, k) → IsAt m ks n k
found_within m alias [] n k e = absurd cc
found_within m alias (y ∷ ks) n k e = found_step m alias y ks n k (found_within (suc m) alias ks n k) (innermost (suc m) alias ks) refl e

pub place_none : (alias : List ℕ) (ks : List names.Known) → None ≡ place_of alias ks → None ≡ innermost 1 alias ks
unfolding place_of
place_none alias ks e = by (innermost 1 alias ks) refl
  where
    by : (o : Option (ℕ × names.Known)) → innermost 1 alias ks ≡ o → None ≡ innermost 1 alias ks
    by None g = sym g
    by (Some x) g = let h : None ≡ Some x.0 = e ∙ ap (option_map (λ found. found.0)) g in absurd cc

place_some : (alias : List ℕ) (ks : List names.Known) (n : ℕ) → Some n ≡ place_of alias ks → (k : names.Known) × (innermost 1 alias ks ≡ Some (n, k))
unfolding place_of
place_some alias ks n e = by (innermost 1 alias ks) refl
  where
    by : (o : Option (ℕ × names.Known)) → innermost 1 alias ks ≡ o → (k : names.Known) × (innermost 1 alias ks ≡ Some (n, k))
    by None g = let h : Some n ≡ None = e ∙ ap (option_map (λ found. found.0)) g in absurd cc
    by (Some x) g = let h : Some n ≡ Some x.0 = e ∙ ap (option_map (λ found. found.0)) g in let number : x.0 ≡ n = cc in (x.1, g ∙ ap (λ (m : ℕ). Some (m, x.1)) number)

plain_at : (ss : List Sighted) (i : ℕ) (s : Sighted) → i < length ss → s ≡ get_or ss i s → slice_get (plain_of ss) i ≡ Some (known_of s.item)
plain_at [] i s h e = absurd (omega (arith, h))
plain_at (x ∷ ss) zero s h e = ap (λ (y : Sighted). Some (known_of y.item)) (sym e)
plain_at (x ∷ ss) (suc i) s h e = plain_at ss i s (omega (arith, h)) e

plain_len : (ss : List Sighted) → length (plain_of ss) ≡ length ss
plain_len ss = length-map (items_in ss) known_of ∙ length-map ss (λ (x : Sighted). x.item)

pub found_from : (alias : List ℕ) (ss : List Sighted) (n : ℕ) → Some n ≡ place_of alias (plain_of ss) → 1 ≤ n
found_from alias ss n e = let p = place_some alias (plain_of ss) n e in (found_within 1 alias (plain_of ss) n p.0 p.1).from

pub found_to : (alias : List ℕ) (ss : List Sighted) (n : ℕ) → Some n ≡ place_of alias (plain_of ss) → n - 1 < length ss
found_to alias ss n e = let p = place_some alias (plain_of ss) n e in omega (arith, found_from alias ss n e, (found_within 1 alias (plain_of ss) n p.0 p.1).to, plain_len ss)

pub found_item : (alias : List ℕ) (ss : List Sighted) (n : ℕ) (s : Sighted) → Some n ≡ place_of alias (plain_of ss) → s ≡ get_or ss (n - 1) s → Some (n, known_of s.item) ≡ innermost 1 alias (plain_of ss)
found_item alias ss n s e item =
    let p = place_some alias (plain_of ss) n e in
    let same : Some (known_of s.item) ≡ Some p.0 = sym (plain_at ss (n - 1) s (found_to alias ss n e) item) ∙ (found_within 1 alias (plain_of ss) n p.0 p.1).held in
    let known : known_of s.item ≡ p.0 = cc in
    ap (λ (k : names.Known). Some (n, k)) known ∙ sym p.1

-- ---- the only item

item_at : (ss : List Sighted) (i : ℕ) (s : Sighted) → i < length ss → s ≡ get_or ss i s → s.item ≡ get_or (drop i (items_in ss)) 0 s.item
item_at [] i s h e = absurd (omega (arith, h))
item_at (x ∷ ss) zero s h e = ap (λ (y : Sighted). y.item) e
item_at (x ∷ ss) (suc i) s h e = item_at ss i s (omega (arith, h)) e

pub no_only : (before : ℕ) (ss : List Sighted) (n : ℕ) → n ≡ length ss → (n - before ≡ 1 → ⊥) → None ≡ own_of before (plain_of ss)
no_only before ss n len more =
    other_own before (items_in ss) (drop before (items_in ss)) refl (λ e. more (omega (arith, len, e, length-drop before (items_in ss), length-map ss (λ (x : Sighted). x.item))))

pub one_only : (before : ℕ) (ss : List Sighted) (n : ℕ) (s : Sighted) → n ≡ length ss → n - before ≡ 1 → before ≤ length (items_in ss) → s ≡ get_or ss before s → Some (n, known_of s.item) ≡ own_of before (plain_of ss)
one_only before ss n s len one within e =
    let items : length (items_in ss) ≡ length ss = length-map ss (λ (x : Sighted). x.item) in
    ap (λ (m : ℕ). Some (m, known_of s.item)) (len ∙ sym items)
    ∙ single_own before (items_in ss) (drop before (items_in ss)) s.item within refl (omega (arith, len, one, length-drop before (items_in ss), items)) (item_at ss before s (omega (arith, len, one)) e)
