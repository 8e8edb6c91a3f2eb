-- The least candidate is the fault that is kept.
use Rattle.std.proofs.Common.{◌≡◌, ◌≢◌, ◌⊎◌, inl, inr, ℕ, zero, suc, ◌+◌, ◌<◌, ◌≤◌, List, [], ◌∷◌, ◌++◌, Bool, true, false, not, ◌&&◌, ◌||◌, refl, sym, ap, ◌∙◌, subst, Option, Some, None, slice_get, nat_eq, nat_lt, map, length, arith}
use Rattle.std.specs.Prelude.{if◌then◌else◌, IsTrue}
use Rattle.std.specs.Option.{option_map}
use Rattle.std.specs.List.{list_all}
use Rattle.std.proofs.lemmas.Bool.Decides.{nat_tests}
use Rattle.qbs_base.specs.declared.span.Span.{Span}
use Rattle.java_ast.specs.declared.tree.Method.{Method}
use Rattle.java_ast.specs.declared.tree.Program.{Program}
use Rattle.java_ast.specs.Reading.{method, program}
use Rattle.java_ast.specs.Tree.{Expressions, Statement, PlainMethod, PlainProgram}
use Rattle.java_calls.specs.Called.{method_named}
use Rattle.java_calls.specs.Rules.{HelperRule, NoMethod, Arguments, Result as ResultRule, Recursive, TooLarge, rule_number, Site, sites_of, how_many, has_result_for, may_take_from, returns_at_its_end, CallsMethod, Reaches, directly as reaches_directly, through as reaches_through, Breaks, Broken, BreaksNone, IsFault, is_earlier}
use Rattle.call_rules.specs.declared.rule.HelperRule.TheVariants as coded
use Rattle.call_rules.specs.declared.rule.HelperRule.{HelperRule as Coded}
use Rattle.call_rules.specs.declared.rule.HelperFault.{HelperFault}
use Rattle.call_rules.specs.declared.faults.Candidate.{Candidate}
use Rattle.call_rules.specs.declared.notes.Noted.{Noted}
use Rattle.call_rules.specs.Faults.{plain_rule, AreRanked, IsFound}
use Rattle.call_rules.specs.Noted.{broken_by, broken_of, noted, notes_of, all_notes}
use Rattle.call_rules.specs.Cycles.{Calls, Leads, directly, through, rank_of, falls, sinks, falls_to, sinks_to, all_sink, may_return}
use Rattle.call_rules.specs.Candidates.{candidate, broken_there, broken_in, recursive_in, candidates_in, candidates_from, is_before, lesser, least, fault_in, is_recursive, IsRound, IsLeast}

-- ---- Lists

some_is : {A : Type 0} (a b : A) → Some a ≡ Some b → a ≡ b
some_is a b e = cc

none_some : {A B : Type 0} (a : A) → None ≡ Some a → B
none_some a e = absurd cc

map_get : {X Y : Type 0} (f : X → Y) (xs : List X) (i : ℕ) (x : X) → slice_get xs i ≡ Some x → slice_get (map f xs) i ≡ Some (f x)
map_get f [] i x e = absurd cc
map_get f (y ∷ xs) zero x e = ap Some (ap f (some_is y x e))
map_get f (y ∷ xs) (suc i) x e = map_get f xs i x e

record Behind {X Y : Type 0} (f : X → Y) (xs : List X) (i : ℕ) (y : Y) : Type 0 where
  item : X
  there : slice_get xs i ≡ Some item
  is : f item ≡ y

map_back : {X Y : Type 0} (f : X → Y) (xs : List X) (i : ℕ) (y : Y) → slice_get (map f xs) i ≡ Some y → Behind f xs i y
map_back f [] i y e = absurd cc
map_back f (x ∷ xs) zero y e = record { item = x; there = refl; is = some_is (f x) y e }
map_back f (x ∷ xs) (suc i) y e = let b = map_back f xs i y e in record { item = b.item; there = b.there; is = b.is }

and_by : (b c : Bool) → b && c ≡ true → (b ≡ true) × (c ≡ true)
and_by true c e = (refl, e)
and_by false c e = absurd cc

all_get : {X : Type 0} (p : X → Bool) (xs : List X) (i : ℕ) (x : X) → list_all p xs ≡ true → slice_get xs i ≡ Some x → p x ≡ true
all_get p [] i x h e = absurd cc
all_get p (y ∷ xs) zero x h e = subst (λ z. p z ≡ true) (some_is y x e) (and_by (p y) (list_all p xs) h).0
all_get p (y ∷ xs) (suc i) x h e = all_get p xs i x (and_by (p y) (list_all p xs) h).1 e

-- ---- Candidates in a row

abbrev Has : Candidate → List Candidate → Type 0
Has c [] = ⊥
Has c (x ∷ xs) = (x ≡ c) ⊎ Has c xs

has_left : (c : Candidate) (xs ys : List Candidate) → Has c xs → Has c (xs ++ ys)
has_left c [] ys h = absurd h
has_left c (x ∷ xs) ys (inl e) = inl e
has_left c (x ∷ xs) ys (inr h) = inr (has_left c xs ys h)

has_right : (c : Candidate) (xs ys : List Candidate) → Has c ys → Has c (xs ++ ys)
has_right c [] ys h = h
has_right c (x ∷ xs) ys h = inr (has_right c xs ys h)

has_one : (c : Candidate) (xs ys : List Candidate) → Has c (xs ++ ys) → Has c xs ⊎ Has c ys
has_one c [] ys h = inr h
has_one c (x ∷ xs) ys (inl e) = inl (inl e)
has_one c (x ∷ xs) ys (inr h) = on (has_one c xs ys h)
  where
    on : Has c xs ⊎ Has c ys → Has c (x ∷ xs) ⊎ Has c ys
    on (inl k) = inl (inr k)
    on (inr k) = inr k

-- ---- The order of places and numbers

abbrev earlier : ℕ → ℕ → ℕ → ℕ → Bool
earlier a r b s = if nat_lt a b then true else (nat_eq a b && nat_lt r s)

not_before : (a r b s c t : ℕ) → earlier a r b s ≡ false → earlier b s c t ≡ false → earlier a r c t ≡ false
not_before a r b s c t e h = grind (arith, nat_tests)

before_that : (a r b s c t : ℕ) → earlier a r b s ≡ true → earlier a r c t ≡ false → earlier b s c t ≡ false
before_that a r b s c t e h = grind (arith, nat_tests)

with_greater : (a r b s q : ℕ) → earlier a r b s ≡ false → r ≤ q → earlier a q b s ≡ false
with_greater a r b s q e h = grind (arith, nat_tests)

abbrev AreAfter : Candidate → List Candidate → Type 0
AreAfter d cs = (e : Candidate) → Has e cs → is_before e d ≡ false

abbrev IsAfter : Candidate → Option Candidate → Type 0
IsAfter d o = (e : Candidate) → o ≡ Some e → is_before e d ≡ false

record Kept (o : Option Candidate) (cs : List Candidate) (d : Candidate) : Type 0 where
  there : (o ≡ Some d) ⊎ Has d cs
  first : IsAfter d o
  others : AreAfter d cs

same_not_before : (d e : Candidate) → d ≡ e → is_before e d ≡ false
same_not_before d e h = subst (λ z. is_before z d ≡ false) h (not_itself d.at.start (rule_number (plain_rule d.rule)))
  where
    not_itself : (a r : ℕ) → earlier a r a r ≡ false
    not_itself a r = grind (arith, nat_tests)

abbrev pick : Bool → Candidate → Candidate → Option Candidate
pick b c o = if b then Some c else Some o

kept_on : (b : Bool) (o c : Candidate) (cs : List Candidate) (d : Candidate) → is_before c o ≡ b → Kept (pick b c o) cs d → Kept (Some o) (c ∷ cs) d
kept_on true o c cs d is k =
    let after_c : is_before c d ≡ false = k.first c refl in
    record {
      there = inr (moved k.there);
      first = λ e h. subst (λ z. is_before z d ≡ false) (some_is o e h) (before_that c.at.start (rule_number (plain_rule c.rule)) o.at.start (rule_number (plain_rule o.rule)) d.at.start (rule_number (plain_rule d.rule)) is after_c);
      others = λ e h. one_of e h after_c;
    }
  where
    moved : (Some c ≡ Some d) ⊎ Has d cs → Has d (c ∷ cs)
    moved (inl e) = inl (some_is c d e)
    moved (inr h) = inr h

    one_of : (e : Candidate) → Has e (c ∷ cs) → is_before c d ≡ false → is_before e d ≡ false
    one_of e (inl h) after_c = subst (λ z. is_before z d ≡ false) h after_c
    one_of e (inr h) after_c = k.others e h
kept_on false o c cs d is k =
    let after_o : is_before o d ≡ false = k.first o refl in
    record {
      there = moved k.there;
      first = λ e h. subst (λ z. is_before z d ≡ false) (some_is o e h) after_o;
      others = λ e h. one_of e h after_o;
    }
  where
    moved : (Some o ≡ Some d) ⊎ Has d cs → (Some o ≡ Some d) ⊎ Has d (c ∷ cs)
    moved (inl e) = inl e
    moved (inr h) = inr (inr h)

    one_of : (e : Candidate) → Has e (c ∷ cs) → is_before o d ≡ false → is_before e d ≡ false
    one_of e (inl h) after_o = subst (λ z. is_before z d ≡ false) h (not_before c.at.start (rule_number (plain_rule c.rule)) o.at.start (rule_number (plain_rule o.rule)) d.at.start (rule_number (plain_rule d.rule)) is after_o)
    one_of e (inr h) after_o = k.others e h

kept_first : (c : Candidate) (cs : List Candidate) (d : Candidate) → Kept (Some c) cs d → Kept None (c ∷ cs) d
kept_first c cs d k =
    record {
      there = inr (moved k.there);
      first = λ e h. none_some e h;
      others = λ e h. one_of e h (k.first c refl);
    }
  where
    moved : (Some c ≡ Some d) ⊎ Has d cs → Has d (c ∷ cs)
    moved (inl e) = inl (some_is c d e)
    moved (inr h) = inr h

    one_of : (e : Candidate) → Has e (c ∷ cs) → is_before c d ≡ false → is_before e d ≡ false
    one_of e (inl h) after_c = subst (λ z. is_before z d ≡ false) h after_c
    one_of e (inr h) after_c = k.others e h

kept_is : (o : Option Candidate) (cs : List Candidate) (d : Candidate) → least o cs ≡ Some d → Kept o cs d
kept_is o [] d e = record { there = inl e; first = λ c h. same_not_before d c (some_is d c (sym e ∙ h)); others = λ c h. absurd h }
kept_is None (c ∷ cs) d e = kept_first c cs d (kept_is (Some c) cs d e)
kept_is (Some o) (c ∷ cs) d e = kept_on (is_before c o) o c cs d refl (kept_is (lesser (Some o) c) cs d e)

lesser_some : (b : Bool) (o c : Candidate) (cs : List Candidate) → ((x : Candidate) → least (Some x) cs ≡ None → ⊥) → least (pick b c o) cs ≡ None → ⊥
lesser_some true o c cs h e = h c e
lesser_some false o c cs h e = h o e

some_stays : (o : Candidate) (cs : List Candidate) → least (Some o) cs ≡ None → ⊥
some_stays o [] e = none_some o (sym e)
some_stays o (c ∷ cs) e = lesser_some (is_before c o) o c cs (λ x h. some_stays x cs h) e

none_has : (cs : List Candidate) → least None cs ≡ None → (c : Candidate) → Has c cs → ⊥
none_has [] e c h = h
none_has (x ∷ cs) e c h = some_stays x cs e

-- ---- Calls and ranks

module _ (ms : List PlainMethod) where
  abbrev notes : List (List Noted)
  notes = all_notes ms ms

  abbrev of_method : PlainMethod → List Noted
  of_method m = notes_of ms m.body

  to_calls : (i j : ℕ) → CallsMethod ms i j → Calls notes i j
  to_calls i j c =
      record {
        list = of_method c.method;
        there = map_get of_method ms i c.method c.there;
        number = c.number;
        note = noted ms c.site;
        noted = map_get (noted ms) (sites_of c.method.body) c.number c.site c.calls;
        callee = c.named;
      }

  from_calls : (i j : ℕ) → Calls notes i j → CallsMethod ms i j
  from_calls i j c =
      let m = map_back of_method ms i c.list c.there in
      let s = map_back (noted ms) (sites_of m.item.body) c.number c.note (subst (λ l. slice_get l c.number ≡ Some c.note) (sym m.is) c.noted) in
      record { method = m.item; there = m.there; number = c.number; site = s.item; calls = s.there; named = ap (λ (n : Noted). n.callee) s.is ∙ c.callee }

  to_leads : (i j : ℕ) → Reaches ms i j → Leads notes i j
  to_leads _ _ (reaches_directly i j c) = directly i j (to_calls i j c)
  to_leads _ _ (reaches_through i j k c r) = through i j k (to_calls i j c) (to_leads j k r)

  from_leads : (i j : ℕ) → Leads notes i j → Reaches ms i j
  from_leads _ _ (directly i j c) = reaches_directly i j (from_calls i j c)
  from_leads _ _ (through i j k c r) = reaches_through i j k (from_calls i j c) (from_leads j k r)

sinks_at : (ranks : List ℕ) (k : ℕ) (ls : List (List Noted)) → all_sink ranks k ls ≡ true → (i : ℕ) (l : List Noted) → slice_get ls i ≡ Some l → list_all (sinks ranks (rank_of ranks (k + i))) l ≡ true
sinks_at ranks k [] h i l e = absurd cc
sinks_at ranks k (x ∷ ls) h zero l e =
    let z : k ≡ k + 0 = omega arith in
    subst (λ n. list_all (sinks ranks (rank_of ranks n)) l ≡ true) z (subst (λ y. list_all (sinks ranks (rank_of ranks k)) y ≡ true) (some_is x l e) (and_by (list_all (sinks ranks (rank_of ranks k)) x) (all_sink ranks (suc k) ls) h).0)
sinks_at ranks k (x ∷ ls) h (suc i) l e =
    let z : suc k + i ≡ k + suc i = omega arith in
    subst (λ n. list_all (sinks ranks (rank_of ranks n)) l ≡ true) z (sinks_at ranks (suc k) ls (and_by (list_all (sinks ranks (rank_of ranks k)) x) (all_sink ranks (suc k) ls) h).1 i l e)

not_above : (r s : ℕ) → not (nat_lt r s) ≡ true → s ≤ r
not_above r s e = grind (arith, nat_tests)

below : (r s : ℕ) → nat_lt s r ≡ true → s < r
below r s e = grind (arith, nat_tests)

zero_and : (i : ℕ) → 0 + i ≡ i
zero_and i = omega arith

falls_at : (ranks : List ℕ) (calls : List (List Noted)) (i : ℕ) (l : List Noted) → slice_get calls i ≡ Some l → list_all (falls ranks (rank_of ranks i)) l ≡ true → (j : ℕ) → Calls calls i j → rank_of ranks j < rank_of ranks i
falls_at ranks calls i l there h j c =
    let same : l ≡ c.list = some_is l c.list (sym there ∙ c.there) in
    let f : list_all (falls ranks (rank_of ranks i)) c.list ≡ true = subst (λ l. list_all (falls ranks (rank_of ranks i)) l ≡ true) same h in
    below (rank_of ranks i) (rank_of ranks j) (at_it (all_get (falls ranks (rank_of ranks i)) c.list c.number c.note f c.noted))
  where
    at_it : falls ranks (rank_of ranks i) c.note ≡ true → nat_lt (rank_of ranks j) (rank_of ranks i) ≡ true
    at_it h = subst (λ o. falls_to ranks (rank_of ranks i) o ≡ true) c.callee h

module _ (ranks : List ℕ) (calls : List (List Noted)) (sink : all_sink ranks 0 calls ≡ true) where
  never_above : (i j : ℕ) → Calls calls i j → rank_of ranks j ≤ rank_of ranks i
  never_above i j c =
      let s : list_all (sinks ranks (rank_of ranks i)) c.list ≡ true = subst (λ n. list_all (sinks ranks (rank_of ranks n)) c.list ≡ true) (zero_and i) (sinks_at ranks 0 calls sink i c.list c.there) in
      not_above (rank_of ranks i) (rank_of ranks j) (at_it (all_get (sinks ranks (rank_of ranks i)) c.list c.number c.note s c.noted))
    where
      at_it : sinks ranks (rank_of ranks i) c.note ≡ true → not (nat_lt (rank_of ranks i) (rank_of ranks j)) ≡ true
      at_it h = subst (λ o. sinks_to ranks (rank_of ranks i) o ≡ true) c.callee h

  leads_down : (i j : ℕ) → Leads calls i j → rank_of ranks j ≤ rank_of ranks i
  leads_down _ _ (directly i j c) = never_above i j c
  leads_down _ _ (through i j k c r) = let a : rank_of ranks j ≤ rank_of ranks i = never_above i j c in let b : rank_of ranks k ≤ rank_of ranks j = leads_down j k r in omega (arith, a, b)

  never_back : (i k : ℕ) (l : List Noted) → slice_get calls i ≡ Some l → list_all (falls ranks (rank_of ranks i)) l ≡ true → Leads calls i k → rank_of ranks k < rank_of ranks i
  never_back _ _ l there h (directly i k c) = falls_at ranks calls i l there h k c
  never_back _ _ l there h (through i j k c r) = let a : rank_of ranks j < rank_of ranks i = falls_at ranks calls i l there h j c in let b : rank_of ranks k ≤ rank_of ranks j = leads_down j k r in omega (arith, a, b)

  no_way_back : (i : ℕ) (l : List Noted) → slice_get calls i ≡ Some l → Leads calls i i → may_return ranks i l ≡ true
  no_way_back i l there r = by (list_all (falls ranks (rank_of ranks i)) l) refl
    where
      by : (b : Bool) → list_all (falls ranks (rank_of ranks i)) l ≡ b → not b ≡ true
      by false e = refl
      by true e = let a : rank_of ranks i < rank_of ranks i = never_back i i l there e r in absurd (omega (arith, a))

-- ---- Candidates of calls

broken_has : (i : ℕ) (l : List Noted) (n : ℕ) (c : Noted) (r : Coded) → slice_get l n ≡ Some c → c.breaks ≡ Some r → Has (candidate r c.at i) (broken_in i l)
broken_has i [] n c r e h = absurd cc
broken_has i (x ∷ l) zero c r e h =
    let here : Has (candidate r c.at i) (broken_there i c.at c.breaks) = subst (λ o. Has (candidate r c.at i) (broken_there i c.at o)) (sym h) (inl refl) in
    has_left (candidate r c.at i) (broken_there i x.at x.breaks) (broken_in i l) (subst (λ (y : Noted). Has (candidate r c.at i) (broken_there i y.at y.breaks)) (sym (some_is x c e)) here)
broken_has i (x ∷ l) (suc n) c r e h = has_right (candidate r c.at i) (broken_there i x.at x.breaks) (broken_in i l) (broken_has i l n c r e h)

first_has : (i : ℕ) (l : List Noted) (c : Noted) → slice_get l 0 ≡ Some c → (flag : Bool) → flag ≡ true → Has (candidate coded.Recursive c.at i) (recursive_in flag i l)
first_has i [] c e flag h = absurd cc
first_has i (x ∷ l) c e true h = inl (ap (λ (y : Noted). candidate coded.Recursive y.at i) (some_is x c e))
first_has i (x ∷ l) c e false h = absurd cc

all_have : (ranks : List ℕ) (k : ℕ) (ls : List (List Noted)) (i : ℕ) (l : List Noted) (c : Candidate) → slice_get ls i ≡ Some l → Has c (candidates_in (k + i) (may_return ranks (k + i) l) l) → Has c (candidates_from ranks k ls)
all_have ranks k [] i l c e h = absurd cc
all_have ranks k (x ∷ ls) zero l c e h =
    let z : k + 0 ≡ k = omega arith in
    has_left c (candidates_in k (may_return ranks k x) x) (candidates_from ranks (suc k) ls)
    (subst (λ y. Has c (candidates_in k (may_return ranks k y) y)) (sym (some_is x l e)) (subst (λ n. Has c (candidates_in n (may_return ranks n l) l)) z h))
all_have ranks k (x ∷ ls) (suc i) l c e h =
    let z : k + suc i ≡ suc k + i = omega arith in
    has_right c (candidates_in k (may_return ranks k x) x) (candidates_from ranks (suc k) ls)
    (all_have ranks (suc k) ls i l c e (subst (λ n. Has c (candidates_in n (may_return ranks n l) l)) z h))

-- where a candidate comes from
record Among (ranks : List ℕ) (k : ℕ) (ls : List (List Noted)) (c : Candidate) : Type 0 where
  i : ℕ
  list : List Noted
  there : slice_get ls i ≡ Some list
  has : Has c (candidates_in (k + i) (may_return ranks (k + i) list) list)

comes_from : (ranks : List ℕ) (k : ℕ) (ls : List (List Noted)) (c : Candidate) → Has c (candidates_from ranks k ls) → Among ranks k ls c
comes_from ranks k [] c h = absurd h
comes_from ranks k (x ∷ ls) c h = by (λ h. comes_from ranks (suc k) ls c h) (has_one c (candidates_in k (may_return ranks k x) x) (candidates_from ranks (suc k) ls) h)
  where
    by : (Has c (candidates_from ranks (suc k) ls) → Among ranks (suc k) ls c) → Has c (candidates_in k (may_return ranks k x) x) ⊎ Has c (candidates_from ranks (suc k) ls) → Among ranks k (x ∷ ls) c
    by on (inl h) = let z : k ≡ k + 0 = omega arith in record { i = 0; list = x; there = refl; has = subst (λ n. Has c (candidates_in n (may_return ranks n x) x)) z h }
    by on (inr h) =
        let a = on h in
        let z : suc k + a.i ≡ k + suc a.i = omega arith in
        record { i = suc a.i; list = a.list; there = a.there; has = subst (λ n. Has c (candidates_in n (may_return ranks n a.list) a.list)) z a.has }

record BrokenAt (i : ℕ) (l : List Noted) (c : Candidate) : Type 0 where
  n : ℕ
  note : Noted
  there : slice_get l n ≡ Some note
  rule : Coded
  breaks : note.breaks ≡ Some rule
  is : candidate rule note.at i ≡ c

there_at : (i : ℕ) (x : Noted) (l : List Noted) (c : Candidate) (o : Option Coded) → x.breaks ≡ o → Has c (broken_there i x.at o) → BrokenAt i (x ∷ l) c
there_at i x l c None e h = absurd h
there_at i x l c (Some r) e (inl h) = record { n = 0; note = x; there = refl; rule = r; breaks = e; is = h }
there_at i x l c (Some r) e (inr h) = absurd h

broken_at : (i : ℕ) (l : List Noted) (c : Candidate) → Has c (broken_in i l) → BrokenAt i l c
broken_at i [] c h = absurd h
broken_at i (x ∷ l) c h = by (λ h. broken_at i l c h) (has_one c (broken_there i x.at x.breaks) (broken_in i l) h)
  where
    by : (Has c (broken_in i l) → BrokenAt i l c) → Has c (broken_there i x.at x.breaks) ⊎ Has c (broken_in i l) → BrokenAt i (x ∷ l) c
    by on (inl h) = there_at i x l c x.breaks refl h
    by on (inr h) = let b = on h in record { n = suc b.n; note = b.note; there = b.there; rule = b.rule; breaks = b.breaks; is = b.is }

record FirstAt (i : ℕ) (l : List Noted) (c : Candidate) : Type 0 where
  note : Noted
  there : slice_get l 0 ≡ Some note
  is : candidate coded.Recursive note.at i ≡ c

first_at : (flag : Bool) (i : ℕ) (l : List Noted) (c : Candidate) → Has c (recursive_in flag i l) → FirstAt i l c
first_at true i [] c h = absurd h
first_at true i (x ∷ l) c (inl h) = record { note = x; there = refl; is = h }
first_at true i (x ∷ l) c (inr h) = absurd h
first_at false i l c h = absurd h

-- ---- Rules

-- what tells of a broken rule: a candidate at its place whose number isn't greater
record Told (all : List Candidate) (r : HelperRule) (at : Span) : Type 0 where
  c : Candidate
  has : Has c all
  place : c.at ≡ at
  number : rule_number (plain_rule c.rule) ≤ rule_number r

abbrev rule_by : Bool → Bool → Option Coded
rule_by b c = if b then (if c then None else Some coded.Result) else Some coded.Arguments

one_one : 1 ≤ 1
one_one = omega arith

two_two : 2 ≤ 2
two_two = omega arith

two_three : 2 ≤ 3
two_three = omega arith

three_three : 3 ≤ 3
three_three = omega arith

four_four : 4 ≤ 4
four_four = omega arith

module _ (p : PlainProgram) (ranks : List ℕ) (sink : all_sink ranks 0 (all_notes p.methods p.methods) ≡ true) where
  abbrev ms : List PlainMethod
  ms = p.methods

  abbrev all : List Candidate
  all = candidates_from ranks 0 (notes ms)

  in_all : (i : ℕ) (method : PlainMethod) → slice_get ms i ≡ Some method → (c : Candidate) → Has c (candidates_in i (may_return ranks i (of_method ms method)) (of_method ms method)) → Has c all
  in_all i method there c h =
      let z : i ≡ 0 + i = omega arith in
      all_have ranks 0 (notes ms) i (of_method ms method) c (map_get (of_method ms) ms i method there) (subst (λ k. Has c (candidates_in k (may_return ranks k (of_method ms method)) (of_method ms method))) z h)

  module _ (i n : ℕ) (method : PlainMethod) (there : slice_get ms i ≡ Some method) (site : Site) (calls : slice_get (sites_of method.body) n ≡ Some site) where
    told_by : (r : Coded) (q : HelperRule) → broken_of (method_named site.call.name ms) site.call.arguments site.whole ≡ Some r → rule_number (plain_rule r) ≤ rule_number q → Told all q site.at
    told_by r q h number =
        record {
          c = candidate r site.at i;
          has = in_all i method there (candidate r site.at i) (has_right (candidate r site.at i) (recursive_in (may_return ranks i (of_method ms method)) i (of_method ms method)) (broken_in i (of_method ms method))
              (broken_has i (of_method ms method) n (noted ms site) r (map_get (noted ms) (sites_of method.body) n site calls) h));
          place = refl;
          number = number;
        }

    told_of : (m : PlainMethod) → method_named site.call.name ms ≡ Some m → (r : Coded) (q : HelperRule) → broken_by m (returns_at_its_end m) site.call.arguments site.whole ≡ Some r → rule_number (plain_rule r) ≤ rule_number q → Told all q site.at
    told_of m named r q h number = told_by r q (ap (λ o. broken_of o site.call.arguments site.whole) named ∙ h) number

    differ : (a b : ℕ) → a ≢ b → nat_eq a b ≡ false
    differ a b h = grind (arith, nat_tests)

    no_result : (m : PlainMethod) → method_named site.call.name ms ≡ Some m → has_result_for site.whole m ≡ false → (b : Bool) → nat_eq (how_many site.call.arguments) (length m.params) ≡ b → Told all ResultRule site.at
    no_result m named h true e =
        told_of m named coded.Result ResultRule
        (ap (λ (b : Bool). rule_by b (has_result_for site.whole m)) e ∙ ap (rule_by true) h) three_three
    no_result m named h false e =
        told_of m named coded.Arguments ResultRule
        (ap (λ (b : Bool). rule_by b (has_result_for site.whole m)) e) two_three

    told : (r : HelperRule) → Breaks ms i n site r → Told all r site.at
    told NoMethod b = told_by coded.NoMethod NoMethod (ap (λ o. broken_of o site.call.arguments site.whole) b) one_one
    told Arguments b =
        told_of b.0 b.1 coded.Arguments Arguments
        (ap (λ (t : Bool). rule_by t (has_result_for site.whole b.0)) (differ (how_many site.call.arguments) (length b.0.params) b.2)) two_two
    told ResultRule b = no_result b.0 b.1 b.2 (nat_eq (how_many site.call.arguments) (length b.0.params)) refl
    told Recursive b =
        let first : slice_get (sites_of method.body) 0 ≡ Some site = subst (λ k. slice_get (sites_of method.body) k ≡ Some site) b.0 calls in
        record {
          c = candidate coded.Recursive site.at i;
          has = in_all i method there (candidate coded.Recursive site.at i) (has_left (candidate coded.Recursive site.at i) (recursive_in (may_return ranks i (of_method ms method)) i (of_method ms method)) (broken_in i (of_method ms method))
              (first_has i (of_method ms method) (noted ms site) (map_get (noted ms) (sites_of method.body) 0 site first) (may_return ranks i (of_method ms method))
              (no_way_back ranks (notes ms) sink i (of_method ms method) (map_get (of_method ms) ms i method there) (to_leads ms i i b.1))));
          place = refl;
          number = four_four;
        }
    told TooLarge b = absurd b

  is_told : (r : HelperRule) (at : Span) → Broken p r at → Told all r at
  is_told r at b = subst (λ (s : Span). Told all r s) (sym b.place) (told b.i b.n b.method b.there b.site b.calls r b.breaks)

  no_fault : ((c : Candidate) → Has c all → ⊥) → BreaksNone p
  no_fault none r at b = let t = is_told r at b in none t.c t.has

  -- each method that calls some has calls that fall
  all_fall : ((c : Candidate) → Has c all → ⊥) → (i j : ℕ) → CallsMethod ms i j → rank_of ranks j < rank_of ranks i
  all_fall none i j c =
      falls_at ranks (notes ms) i (of_method ms c.method) (map_get (of_method ms) ms i c.method c.there) (fell (list_all (falls ranks (rank_of ranks i)) (of_method ms c.method)) refl) j (to_calls ms i j c)
    where
      first_of : (l : List Site) → slice_get (sites_of c.method.body) c.number ≡ Some c.site → sites_of c.method.body ≡ l → (s : Site) × (slice_get (sites_of c.method.body) 0 ≡ Some s)
      first_of [] h e = none_some c.site (sym (ap (λ (l : List Site). slice_get l c.number) e) ∙ h)
      first_of (s ∷ l) h e = (s, ap (λ (l : List Site). slice_get l 0) e)

      fell : (b : Bool) → list_all (falls ranks (rank_of ranks i)) (of_method ms c.method) ≡ b → b ≡ true
      fell true e = refl
      fell false e =
          let s = first_of (sites_of c.method.body) c.calls refl in
          absurd (none (candidate coded.Recursive s.0.at i) (in_all i c.method c.there (candidate coded.Recursive s.0.at i)
          (has_left (candidate coded.Recursive s.0.at i) (recursive_in (may_return ranks i (of_method ms c.method)) i (of_method ms c.method)) (broken_in i (of_method ms c.method))
          (first_has i (of_method ms c.method) (noted ms s.0) (map_get (noted ms) (sites_of c.method.body) 0 s.0 s.1) (may_return ranks i (of_method ms c.method)) (ap not e)))))

  found_none : ((c : Candidate) → Has c all → ⊥) → BreaksNone p × AreRanked ms
  found_none none = (no_fault none, record { rank = rank_of ranks; falls = all_fall none })

  -- ---- A candidate is a broken rule

  breaks_by : (i n : ℕ) (site : Site) (m : PlainMethod) (b c : Bool) (r : Coded) → method_named site.call.name ms ≡ Some m → nat_eq (how_many site.call.arguments) (length m.params) ≡ b → has_result_for site.whole m ≡ c
      → rule_by b c ≡ Some r → Breaks ms i n site (plain_rule r)
  breaks_by i n site m true true r named e h is = none_some r is
  breaks_by i n site m true false r named e h is = subst (λ r. Breaks ms i n site (plain_rule r)) (some_is coded.Result r is) (m, named, h)
  breaks_by i n site m false c r named e h is = subst (λ r. Breaks ms i n site (plain_rule r)) (some_is coded.Arguments r is) (m, named, λ same. unequal (how_many site.call.arguments) (length m.params) e same)
    where
      unequal : (a b : ℕ) → nat_eq a b ≡ false → a ≡ b → ⊥
      unequal a b e h = grind (arith, nat_tests)

  breaks_of : (i n : ℕ) (site : Site) (o : Option PlainMethod) (r : Coded) → method_named site.call.name ms ≡ o → broken_of o site.call.arguments site.whole ≡ Some r → Breaks ms i n site (plain_rule r)
  breaks_of i n site None r named is = subst (λ r. Breaks ms i n site (plain_rule r)) (some_is coded.NoMethod r is) named
  breaks_of i n site (Some m) r named is = breaks_by i n site m (nat_eq (how_many site.call.arguments) (length m.params)) (has_result_for site.whole m) r named refl refl is

  broken_by_call : (i : ℕ) (m : PlainMethod) → slice_get ms i ≡ Some m → (c : Candidate) → BrokenAt i (of_method ms m) c → Broken p (plain_rule c.rule) c.at
  broken_by_call i m there c b =
      let s = map_back (noted ms) (sites_of m.body) b.n b.note b.there in
      subst (λ (c : Candidate). Broken p (plain_rule c.rule) c.at) b.is
      (record {
        i = i;
        method = m;
        there = there;
        n = b.n;
        site = s.item;
        calls = s.there;
        breaks = breaks_of i b.n s.item (method_named s.item.call.name ms) b.rule refl (ap (λ (n : Noted). n.breaks) s.is ∙ b.breaks);
        place = sym (ap (λ (n : Noted). n.at) s.is);
      })

  broken_by_way : (i : ℕ) (m : PlainMethod) → slice_get ms i ≡ Some m → (c : Candidate) → FirstAt i (of_method ms m) c → (IsTrue (is_recursive c.rule) → Leads (notes ms) c.method c.method) → Broken p (plain_rule c.rule) c.at
  broken_by_way i m there c f round =
      let s = map_back (noted ms) (sites_of m.body) 0 f.note f.there in
      let way : IsTrue true → Leads (notes ms) i i = subst (λ (c : Candidate). IsTrue (is_recursive c.rule) → Leads (notes ms) c.method c.method) (sym f.is) round in
      subst (λ (c : Candidate). Broken p (plain_rule c.rule) c.at) f.is
      (record { i = i; method = m; there = there; n = 0; site = s.item; calls = s.there; breaks = (refl, from_leads ms i i (way refl)); place = sym (ap (λ (n : Noted). n.at) s.is) })

  is_broken : (c : Candidate) → Has c all → IsRound (notes ms) (Some c) → Broken p (plain_rule c.rule) c.at
  is_broken c h round =
      let a = comes_from ranks 0 (notes ms) c h in
      let m = map_back (of_method ms) ms a.i a.list a.there in
      let z : 0 + a.i ≡ a.i = omega arith in
      by a.i m.item m.there
      (subst (λ l. Has c (candidates_in a.i (may_return ranks a.i l) l)) (sym m.is) (subst (λ n. Has c (candidates_in n (may_return ranks n a.list) a.list)) z a.has))
    where
      which : (i : ℕ) (m : PlainMethod) → slice_get ms i ≡ Some m → Has c (recursive_in (may_return ranks i (of_method ms m)) i (of_method ms m)) ⊎ Has c (broken_in i (of_method ms m)) → Broken p (plain_rule c.rule) c.at
      which i m there (inl h) = broken_by_way i m there c (first_at (may_return ranks i (of_method ms m)) i (of_method ms m) c h) round
      which i m there (inr h) = broken_by_call i m there c (broken_at i (of_method ms m) c h)

      by : (i : ℕ) (m : PlainMethod) → slice_get ms i ≡ Some m → Has c (candidates_in i (may_return ranks i (of_method ms m)) (of_method ms m)) → Broken p (plain_rule c.rule) c.at
      by i m there h = which i m there (has_one c (recursive_in (may_return ranks i (of_method ms m)) i (of_method ms m)) (broken_in i (of_method ms m)) h)

  fault_by : (r : HelperRule) (at : Span) → Broken p r at → ((q : HelperRule) (to : Span) → Broken p q to → is_earlier q to r at ≡ false) → IsFault p r at
  fault_by NoMethod at b h = (b, h)
  fault_by Arguments at b h = (b, h)
  fault_by ResultRule at b h = (b, h)
  fault_by Recursive at b h = (b, h)
  fault_by TooLarge at b h = absurd b.breaks

  found_some : (c : Candidate) → Kept None all c → IsRound (notes ms) (Some c) → IsFault p (plain_rule c.rule) c.at
  found_some c k round =
      fault_by (plain_rule c.rule) c.at (is_broken c (has_it k.there) round) (λ q to b.
      let t = is_told q to b in
      subst (λ (s : Span). is_earlier q s (plain_rule c.rule) c.at ≡ false) t.place
      (with_greater t.c.at.start (rule_number (plain_rule t.c.rule)) c.at.start (rule_number (plain_rule c.rule)) (rule_number q) (k.others t.c t.has) t.number))
    where
      has_it : (None ≡ Some c) ⊎ Has c all → Has c all
      has_it (inl e) = none_some c e
      has_it (inr h) = h

pub is_found : (p : PlainProgram) (ranks : List ℕ) (calls : List (List Noted)) (o : Option Candidate) → calls ≡ all_notes p.methods p.methods → IsLeast calls ranks o → IsFound p (option_map fault_in o)
is_found p ranks calls None is l =
    let h : IsLeast (all_notes p.methods p.methods) ranks None = subst (λ (c : List (List Noted)). IsLeast c ranks None) is l in
    found_none p ranks h.sink (none_has (candidates_from ranks 0 (all_notes p.methods p.methods)) (sym h.kept))
is_found p ranks calls (Some c) is l =
    let h : IsLeast (all_notes p.methods p.methods) ranks (Some c) = subst (λ (d : List (List Noted)). IsLeast d ranks (Some c)) is l in
    found_some p ranks h.sink c (kept_is None (candidates_from ranks 0 (all_notes p.methods p.methods)) c (sym h.kept)) h.round

pub is_found_from : (p : Program) (helpers methods : List Method) (calls listed : List (List Noted)) (ranks : List ℕ) (o : Option Candidate) (f : Option HelperFault) → methods ≡ p.methods → helpers ≡ methods → calls ≡ all_notes (map method helpers) (map method methods) → listed ≡ calls
    → IsLeast listed ranks o → f ≡ option_map fault_in o → IsFound (program p) f
is_found_from p helpers methods calls listed ranks o f is same noted lent l given =
    let notes_are : calls ≡ all_notes (map method p.methods) (map method p.methods) =
    noted ∙ ap (λ (l : List Method). all_notes (map method l) (map method methods)) (same ∙ is) ∙ ap (λ (l : List Method). all_notes (map method p.methods) (map method l)) is in
    subst (λ (f : Option HelperFault). IsFound (program p) f) (sym given)
    (is_found (program p) ranks calls o notes_are (subst (λ (c : List (List Noted)). IsLeast c ranks o) lent l))
