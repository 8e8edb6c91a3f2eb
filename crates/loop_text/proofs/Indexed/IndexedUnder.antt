-- The updates under `if`s.
use Rattle.std.specs.List.{list_any}
use Rattle.std.proofs.Common.{◌≡◌, ◌≤◌, ◌<◌, ◌+◌, ℕ, Bool, true, false, not, ◌&&◌, ◌||◌, List, [], ◌∷◌, ◌++◌, length, drop, map, get_or, nat_eq, refl, sym, ap, ◌∙◌, arith, append-nil, eq-eqb}
use Rattle.std.proofs.lemmas.Bool.Decides.{nat_tests}
use Rattle.loop_text.specs.declared.sites.list.Site as code
use Rattle.loop_text.specs.declared.sites.list.Test as test
use Rattle.loop_text.specs.Sites.Groups.{under_number}
use Rattle.loop_text.specs.Sites.Indexed.{with_number, passing, updates_under, is_other, is_last, with_last, last_where}
use Rattle.loop_text.specs.Sites.Reading.{site_of, test_of}
use Rattle.loop_text.specs.Sites.Sites.{Test, Site, is_update, is_under, any_site}
use Rattle.loop_text.proofs.Indexed.GroupedNumbers.{Lists, both_same}
use Rattle.loop_text.proofs.Indexed.IndexedSites.{any_where, next_passing}
use Rattle.loop_text.proofs.Trees.Walked.{next_item}

-- ---- The last of some numbers

pub last_behind : (n m : ℕ) (ns : List ℕ) → is_last n (ns ++ m ∷ []) ≡ nat_eq m n
last_behind n m [] = refl
last_behind n m (k ∷ []) = refl
last_behind n m (k ∷ j ∷ ns) = last_behind n m (j ∷ ns)

there_already : (n : ℕ) (ns : List ℕ) → is_last n ns ≡ true → with_last n ns ≡ ns
there_already n ns h = ap (λ (b : Bool). ns ++ with_number (not b) n []) h ∙ append-nil ns

put_behind : (n : ℕ) (ns : List ℕ) → is_last n ns ≡ false → with_last n ns ≡ ns ++ n ∷ []
put_behind n ns h = ap (λ (b : Bool). ns ++ with_number (not b) n []) h

last_twice : (n : ℕ) (ns : List ℕ) (b : Bool) → is_last n ns ≡ b → with_last n (with_last n ns) ≡ with_last n ns
last_twice n ns true h = ap (with_last n) (there_already n ns h)
last_twice n ns false h =
    ap (with_last n) (put_behind n ns h)
    ∙ there_already n (ns ++ n ∷ []) (last_behind n n ns ∙ eq-eqb n n refl)
    ∙ sym (put_behind n ns h)

-- what is put twice is there once
last_where_either : (b c : Bool) (n : ℕ) (ns : List ℕ) → last_where c n (last_where b n ns) ≡ last_where (b || c) n ns
last_where_either true true n ns = last_twice n ns (is_last n ns) refl
last_where_either true false n ns = refl
last_where_either false c n ns = refl

-- ---- A number that is put under the `if`s round a site

pub next_tested : (old new : Lists) (n i : ℕ) (tests : List test.Test) (k : ℕ) (t : test.Test) (whole : List ℕ) → k < length tests → t ≡ get_or tests k t → under_number new i ≡ last_where (nat_eq i t.number) n (under_number old i) → last_where (list_any (λ (q : Test). nat_eq i q.number) (map test_of (drop k tests))) n (under_number old i) ≡ whole → last_where (list_any (λ (q : Test). nat_eq i q.number) (map test_of (drop (k + 1) tests))) n (under_number new i) ≡ whole
next_tested old new n i tests k t whole h is put before =
    let rest = list_any (λ (q : Test). nat_eq i q.number) (map test_of (drop (k + 1) tests)) in
    ap (last_where rest n) put
    ∙ last_where_either (nat_eq i t.number) rest n (under_number old i)
    ∙ sym (ap (λ (l : List test.Test). last_where (list_any (λ (q : Test). nat_eq i q.number) (map test_of l)) n (under_number old i)) (next_item tests k t h is))
    ∙ before

-- ---- The updates of all sites

-- the updates under an `if` are those of the sites before a number, so that it isn't the last of them
abbrev pub UndersBefore : Lists → ℕ → List code.Site → Type 0
UndersBefore found n all = (i : ℕ) → (under_number found i ++ passing (updates_under i) n (map site_of (drop n all)) ≡ passing (updates_under i) 0 (map site_of all)) × ((m : ℕ) → n ≤ m → is_last m (under_number found i) ≡ false)

apart : (n m : ℕ) → n < m → nat_eq n m ≡ false
apart n m h = grind (arith, nat_tests)

added_by : (t : Bool) (n : ℕ) (old : List ℕ) → is_last n old ≡ false → last_where t n old ≡ old ++ with_number t n []
added_by true n old h = put_behind n old h
added_by false n old h = sym (append-nil old)

last_by : (t : Bool) (n m : ℕ) (old : List ℕ) → n < m → is_last m old ≡ false → is_last m (old ++ with_number t n []) ≡ false
last_by true n m old h none = last_behind m n old ∙ apart n m h
last_by false n m old h none = ap (is_last m) (append-nil old) ∙ none

pub next_unders : (old new : Lists) (n : ℕ) (all : List code.Site) (s : code.Site) → n < length all → s ≡ get_or all n s → ((i : ℕ) → under_number new i ≡ last_where (updates_under i n (site_of s)) n (under_number old i)) → UndersBefore old n all → UndersBefore new (n + 1) all
next_unders old new n all s h is put before i =
    let t = updates_under i n (site_of s) in
    let b = before i in
    let added : under_number new i ≡ under_number old i ++ with_number t n [] = put i ∙ added_by t n (under_number old i) (b.1 n (omega arith)) in (
      next_passing (updates_under i) (under_number old i) (under_number new i) t n all s (passing (updates_under i) 0 (map site_of all)) h is refl added b.0,
      λ m l. ap (is_last m) added ∙ last_by t n m (under_number old i) (omega (arith, l)) (b.1 m (omega (arith, l))),
    )

-- ---- What is asked of the updates

and_apart : (a b c : Bool) → (a && (b && c)) ≡ ((a && c) && b)
and_apart true true true = refl
and_apart true true false = refl
and_apart true false true = refl
and_apart true false false = refl
and_apart false b c = refl

other_under : (n i m : ℕ) (s : Site) → (is_update s.statement && (not (nat_eq m n) && is_under i s)) ≡ (updates_under i m s && is_other n m)
other_under n i m s =
    ap (λ (b : Bool). is_update s.statement && (not b && is_under i s)) (both_same m n)
    ∙ and_apart (is_update s.statement) (not (nat_eq n m)) (is_under i s)

-- another update stands under an `if` where one of its updates has another number
pub others_under : (sites : List Site) (n i : ℕ) (ns : List ℕ) (b : Bool) → ns ≡ passing (updates_under i) 0 sites → b ≡ list_any (is_other n) ns → b ≡ any_site (λ m s. is_update s.statement && (not (nat_eq m n) && is_under i s)) 0 sites
others_under sites n i ns b is found =
    found
    ∙ ap (list_any (is_other n)) is
    ∙ sym (any_where (λ m s. is_update s.statement && (not (nat_eq m n) && is_under i s)) (updates_under i) (is_other n) (other_under n i) 0 sites)
