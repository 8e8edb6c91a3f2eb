-- One more answer.
use Rattle.std.proofs.Common.{◌≡◌, ℕ, suc, ◌+◌, ◌<◌, ◌≤◌, Bool, true, false, List, [], ◌∷◌, ◌++◌, map, take, drop, length, get_or, Option, Some, sym, ap, subst, append_assoc, ◌∙◌, refl, arith}
use Rattle.std.specs.List.{prefix_len}
use Rattle.std.proofs.lemmas.Bool.{and_parts, and_from, eq-eqb}
use Rattle.std.proofs.lemmas.List.{append-nil, map-append, take-map, drop-map, take_more, take_all}
use Rattle.java_stretches.specs.declared.patch.Patch.{Patch}
use Rattle.java_stretches.specs.Patches.{PlainPatch, plain_patch, plain_patches}
use Rattle.text_patches.specs.declared.patch.TextPatch.{TextPatch}
use Rattle.view_shapes.specs.declared.method.Method.{Method}
use Rattle.view_statements.specs.declared.slice.Slice.{Slice}
use Rattle.view_statements.specs.declared.slice.Sliced.{Sliced}
use Rattle.view_statements.specs.Slices.{PlainSlice, PlainSliced, slice, slices, sliced, all_sliced}
use Rattle.view_spell.specs.declared.fetched.Fetched.{Fetched}
use Rattle.view_spell.specs.declared.origins.Taken.{Taken}
use Rattle.view_spell.specs.declared.spelled.SliceSpelled.{SliceSpelled}
use Rattle.view_spell.specs.declared.spelled.SliceSpelled.TheVariants as spelled
use Rattle.view_spell.specs.Fetched.{fetched_in}
use Rattle.view_spell.specs.Origins.{stretch_taken}
use Rattle.view_spell.specs.Placed.{takes, take_each, is_spelling, is_answer_where, is_answer, is_in_method, own, others, slices_in, slices_with, are_answers, left, AreAnswered}
use Rattle.view_spell.specs.Shared.{SeenAs, any_shared}

pub taken_more : (seen : SeenAs) (s : PlainSlice) (ps : List PlainPatch) (ts : List TextPatch) (p : PlainPatch) (t : TextPatch)
    → take_each seen s ps ts ≡ true → takes (stretch_taken seen.cells seen.items s p.from p.to) t ≡ true → take_each seen s (ps ++ p ∷ []) (ts ++ t ∷ []) ≡ true
taken_more seen s [] [] p t h k = and_from _ _ k refl
taken_more seen s [] (u ∷ ts) p t h k = absurd cc
taken_more seen s (q ∷ ps) [] p t h k = absurd cc
taken_more seen s (q ∷ ps) (u ∷ ts) p t h k =
    let e = and_parts (takes (stretch_taken seen.cells seen.items s q.from q.to) u) (take_each seen s ps ts) h in
    and_from _ _ e.0 (taken_more seen s ps ts p t e.1 k)

answers_more : (seen : SeenAs) (k : ℕ) (ss : List (Method × PlainSlice)) (ps : List PlainPatch) (xs : List SliceSpelled) (m : Method) (s : PlainSlice) (x : SliceSpelled)
    → are_answers seen k ss ps xs ≡ true → is_answer seen m s (own (k + length xs) (left k ss ps)) x ≡ true → are_answers seen k (ss ++ (m, s) ∷ []) ps (xs ++ x ∷ []) ≡ true
answers_more seen k [] ps [] m s x h e = let i : k + 0 ≡ k = omega arith in and_from _ _ (rw i at e) refl
answers_more seen k [] ps (y ∷ xs) m s x h e = absurd cc
answers_more seen k (q ∷ ss) ps [] m s x h e = absurd cc
answers_more seen k (q ∷ ss) ps (y ∷ xs) m s x h e =
    let i : k + suc (length xs) ≡ suc k + length xs = omega arith in
    let f = and_parts (is_answer seen q.0 q.1 (own k ps) y) (are_answers seen (suc k) ss (others k ps) xs) h in
    and_from _ _ f.0 (answers_more seen (suc k) ss (others k ps) xs m s x f.1 (rw i at e))

left_more : (k : ℕ) (ss : List (Method × PlainSlice)) (ps : List PlainPatch) (q : Method × PlainSlice) → left k (ss ++ q ∷ []) ps ≡ others (k + length ss) (left k ss ps)
left_more k [] ps q = let i : k + 0 ≡ k = omega arith in rw i refl
left_more k (r ∷ ss) ps q =
    let i : k + suc (length ss) ≡ suc k + length ss = omega arith in
    rw i (left_more (suc k) ss (others k ps) q)

-- there is an answer for each
pub as_many : (seen : SeenAs) (k : ℕ) (ss : List (Method × PlainSlice)) (ps : List PlainPatch) (xs : List SliceSpelled) → are_answers seen k ss ps xs ≡ true → length ss ≡ length xs
as_many seen k [] ps [] h = refl
as_many seen k [] ps (y ∷ xs) h = absurd cc
as_many seen k (q ∷ ss) ps [] h = absurd cc
as_many seen k (q ∷ ss) ps (y ∷ xs) h =
    let f = and_parts (is_answer seen q.0 q.1 (own k ps) y) (are_answers seen (suc k) ss (others k ps) xs) h in
    ap suc (as_many seen (suc k) ss (others k ps) xs f.1)

pub answered_more : (seen : SeenAs) (ss : List (Method × PlainSlice)) (ps : List PlainPatch) (xs : List SliceSpelled) (rest : List PlainPatch) (m : Method) (s : PlainSlice) (x : SliceSpelled)
    → AreAnswered seen ss ps xs rest → is_answer seen m s (own (length xs) rest) x ≡ true → AreAnswered seen (ss ++ (m, s) ∷ []) ps (xs ++ x ∷ []) (others (length xs) rest)
answered_more seen ss ps xs rest m s x h e =
    let i : 0 + length xs ≡ length xs = omega arith in
    let k : length xs ≡ 0 + length ss = omega (arith, as_many seen 0 ss ps xs h.answers) in
    let f : is_answer seen m s (own (length xs) (left 0 ss ps)) x ≡ true = subst (λ (qs : List PlainPatch). is_answer seen m s (own (length xs) qs) x ≡ true) h.are_left e in
    let g : is_answer seen m s (own (0 + length xs) (left 0 ss ps)) x ≡ true = subst (λ (n : ℕ). is_answer seen m s (own n (left 0 ss ps)) x ≡ true) (sym i) f in
    record {
      answers = answers_more seen 0 ss ps xs m s x h.answers g;
      are_left =
          ap (λ (qs : List PlainPatch). others (length xs) qs) h.are_left
          ∙ ap (λ (n : ℕ). others n (left 0 ss ps)) k
          ∙ sym (left_more 0 ss ps (m, s));
    }

-- at first there is none
pub answered_none : (seen : SeenAs) (ps : List PlainPatch) → AreAnswered seen [] ps [] ps
answered_none seen ps = record { answers = refl; are_left = refl }

-- ---- Slices, as code has them

abbrev pub slices_of : Method → List Slice → List (Method × PlainSlice)
slices_of m ss = map (λ s. (m, s)) (slices ss)

pub taken_on : (seen : SeenAs) (s : PlainSlice) (all : List Patch) (i : ℕ) (p : Patch) (t : TextPatch) (taken : Taken) (ts us : List TextPatch)
    → i < length all → p ≡ get_or all i p → take_each seen s (plain_patches (take i all)) ts ≡ true → Some taken ≡ stretch_taken seen.cells seen.items s p.from p.to
    → t.from ≡ taken.at.from → t.to ≡ taken.at.to → us ≡ ts ++ t ∷ [] → take_each seen s (plain_patches (take (i + 1) all)) us ≡ true
taken_on seen s all i p t taken ts us lt at h is from to more =
    let e : take (i + 1) all ≡ take i all ++ p ∷ [] = take_more all i p lt ∙ ap (λ (q : Patch). take i all ++ q ∷ []) (sym at) in
    let k : takes (Some taken) t ≡ true = and_from _ _ (eq-eqb t.from taken.at.from from) (eq-eqb t.to taken.at.to to) in
    rw (e, map-append plain_patch (take i all) (p ∷ []), more)
    (taken_more seen s (plain_patches (take i all)) ts (plain_patch p) t h (subst (λ (o : Option Taken). takes o t ≡ true) is k))

pub slice_on : (seen : SeenAs) (ss : List (Method × PlainSlice)) (ps : List PlainPatch) (m : Method) (all : List Slice) (i : ℕ) (s : Slice) (xs ys : List SliceSpelled) (x : SliceSpelled)
    (rest mine behind : List Patch) (n : ℕ) (fetched : List Fetched)
    → i < length all → s ≡ get_or all i s → AreAnswered seen (ss ++ slices_of m (take i all)) ps xs (plain_patches rest)
    → n ≡ prefix_len (is_in_method (length xs)) (plain_patches rest) → mine ≡ take n rest → behind ≡ drop n rest → fetched ≡ fetched_in seen.map seen.items m
    → is_answer_where seen (slice s) (any_shared seen (slice s) fetched (plain_patches mine)) (plain_patches mine) x ≡ true → ys ≡ xs ++ x ∷ []
    → AreAnswered seen (ss ++ slices_of m (take (i + 1) all)) ps ys (plain_patches behind)
slice_on seen ss ps m all i s xs ys x rest mine behind n fetched lt at h count is_mine is_behind is_fetched answer more =
    let own_is : own (length xs) (plain_patches rest) ≡ plain_patches mine =
    ap (λ (j : ℕ). take j (plain_patches rest)) (sym count) ∙ take-map plain_patch n rest ∙ ap plain_patches (sym is_mine) in
    let others_are : others (length xs) (plain_patches rest) ≡ plain_patches behind =
    ap (λ (j : ℕ). drop j (plain_patches rest)) (sym count) ∙ drop-map plain_patch n rest ∙ ap plain_patches (sym is_behind) in
    let e : take (i + 1) all ≡ take i all ++ s ∷ [] = take_more all i s lt ∙ ap (λ (q : Slice). take i all ++ q ∷ []) (sym at) in
    let pair : PlainSlice → Method × PlainSlice = λ p. (m, p) in
    let f : slices_of m (take i all ++ s ∷ []) ≡ slices_of m (take i all) ++ (m, slice s) ∷ [] =
    ap (map pair) (map-append slice (take i all) (s ∷ [])) ∙ map-append pair (slices (take i all)) (slice s ∷ []) in
    let all_are : ss ++ slices_of m (take (i + 1) all) ≡ (ss ++ slices_of m (take i all)) ++ (m, slice s) ∷ [] =
    ap (λ (t : List Slice). ss ++ slices_of m t) e ∙ ap (λ (t : List (Method × PlainSlice)). ss ++ t) f ∙ sym (append_assoc ss (slices_of m (take i all)) ((m, slice s) ∷ [])) in
    let g : is_answer seen m (slice s) (plain_patches mine) x ≡ true =
    subst (λ (fs : List Fetched). is_answer_where seen (slice s) (any_shared seen (slice s) fs (plain_patches mine)) (plain_patches mine) x ≡ true) is_fetched answer in
    let k : is_answer seen m (slice s) (own (length xs) (plain_patches rest)) x ≡ true = subst (λ (qs : List PlainPatch). is_answer seen m (slice s) qs x ≡ true) (sym own_is) g in
    rw (all_are, more, ← others_are) (answered_more seen (ss ++ slices_of m (take i all)) ps xs (plain_patches rest) m (slice s) x h k)

-- a method's slices, at first and at last
pub slices_first : (seen : SeenAs) (ss : List (Method × PlainSlice)) (ps : List PlainPatch) (m : Method) (all : List Slice) (xs : List SliceSpelled) (rest : List PlainPatch)
    → AreAnswered seen ss ps xs rest → AreAnswered seen (ss ++ slices_of m (take 0 all)) ps xs rest
slices_first seen ss ps m all xs rest h = rw (append-nil ss) h

pub slices_last : (seen : SeenAs) (ss : List (Method × PlainSlice)) (ps : List PlainPatch) (x : Sliced) (i : ℕ) (xs : List SliceSpelled) (rest : List PlainPatch)
    → length x.slices ≤ i → AreAnswered seen (ss ++ slices_of x.read.method (take i x.slices)) ps xs rest → AreAnswered seen (ss ++ slices_in (sliced x)) ps xs rest
slices_last seen ss ps x i xs rest le h = rw (take_all i x.slices le) at h

slices_joined : (xs : List PlainSliced) (x : PlainSliced) → slices_with (xs ++ x ∷ []) ≡ slices_with xs ++ slices_in x
slices_joined [] x = append-nil (slices_in x)
slices_joined (y ∷ xs) x = rw (slices_joined xs x) (sym (append_assoc (slices_in y) (slices_with xs) (slices_in x)))

-- one method more
pub method_on : (seen : SeenAs) (ps : List PlainPatch) (all : List Sliced) (i : ℕ) (x : Sliced) (xs : List SliceSpelled) (rest : List PlainPatch) → i < length all → x ≡ get_or all i x
    → AreAnswered seen (slices_with (all_sliced (take i all)) ++ slices_in (sliced x)) ps xs rest → AreAnswered seen (slices_with (all_sliced (take (i + 1) all))) ps xs rest
method_on seen ps all i x xs rest lt at h =
    let e : take (i + 1) all ≡ take i all ++ x ∷ [] = take_more all i x lt ∙ ap (λ (q : Sliced). take i all ++ q ∷ []) (sym at) in
    rw (e, map-append sliced (take i all) (x ∷ []), slices_joined (all_sliced (take i all)) (sliced x)) h

pub methods_last : (seen : SeenAs) (ps : List PlainPatch) (all : List Sliced) (i : ℕ) (xs : List SliceSpelled) (rest : List PlainPatch) → length all ≤ i
    → AreAnswered seen (slices_with (all_sliced (take i all))) ps xs rest → are_answers seen 0 (slices_with (all_sliced all)) ps xs ≡ true
methods_last seen ps all i xs rest le h = let k : AreAnswered seen (slices_with (all_sliced all)) ps xs rest = rw (take_all i all le) at h in k.answers

-- ---- One answer

pub answer_left : (seen : SeenAs) (s : PlainSlice) (shared : Bool) (ps : List Patch) → ps ≡ [] → is_answer_where seen s shared (plain_patches ps) spelled.Left ≡ true
answer_left seen s shared [] h = refl
answer_left seen s shared (p ∷ ps) h = absurd cc

pub answer_shared : (seen : SeenAs) (s : PlainSlice) (shared : Bool) (ps : List Patch) → 0 < length ps → shared ≡ true → is_answer_where seen s shared (plain_patches ps) spelled.Shared ≡ true
answer_shared seen s shared [] lt h = absurd (omega (arith, lt))
answer_shared seen s shared (p ∷ ps) lt h = rw h refl

pub answer_spelled : (seen : SeenAs) (s : PlainSlice) (shared : Bool) (ps : List Patch) (x : SliceSpelled) → 0 < length ps → shared ≡ false → is_spelling seen s (plain_patches ps) x ≡ true
    → is_answer_where seen s shared (plain_patches ps) x ≡ true
answer_spelled seen s shared [] x lt h k = absurd (omega (arith, lt))
answer_spelled seen s shared (p ∷ ps) x lt h k = rw h k
