-- Slices that have patches are left as they are.
use Rattle.std.proofs.Common.{◌≡◌, ℕ, zero, suc, ◌+◌, ◌<◌, Bool, true, false, List, [], ◌∷◌, map, set, length, slice_get, Some, Result, Ok, Err, IfOk, sym, ap, subst, refl, ◌∙◌, arith, le-leb}
use Rattle.std.proofs.lemmas.Bool.{and_parts, and_from}
use Rattle.std.proofs.lemmas.List.{length-append, length-map}
use Rattle.qbs_base.specs.declared.memory.NoMemory.{NoMemory}
use Rattle.qbs_base.specs.Values.{Schema}
use Rattle.java_ast.specs.Tree.{PlainMethod}
use Rattle.java_stretches.specs.Patches.{PlainPatch}
use Rattle.text_patches.specs.Patching.{with_texts}
use Rattle.view_map.specs.declared.model.ViewMap.{ViewMap}
use Rattle.view_shapes.specs.declared.method.Method.{Method}
use Rattle.view_slices.specs.Slices.{File, PlainSlice}
use Rattle.view_slices.specs.Views.{PlainSliced, file_in}
use Rattle.view_spell.specs.declared.marks.Mark.{Mark}
use Rattle.view_spell.specs.declared.spelled.SliceSpelled.{SliceSpelled}
use Rattle.view_spell.specs.declared.spelled.SliceSpelled.TheVariants as fates
use Rattle.view_spell.specs.Placed.{are_apart, patches_of, is_answer_where, is_answer, own, others, are_answers, slices_with}
use Rattle.view_spell.specs.Placed as answers
use Rattle.view_spell.specs.Shared.{SeenAs, is_shared}
use Rattle.view_spell.proofs.Apart.{apart_grows}
use Rattle.qbs.specs.declared.written.Settled.{Settled}
use Rattle.qbs.specs.Looks.{is_patched, is_patched_some, unpatched, AreFewer}
use Rattle.qbs.specs.SeenAgain.{Stood, stood_in, slices_in, patched_slices, around, AreSeenAgain, none, stays, first_mark, IsSettled}

-- ---- Fewer slices

pub same_fewer : (xs : List SliceSpelled) → AreFewer xs xs
same_fewer xs = record { answers = λ seen k ss ps h. h; apart = λ from to h. h; many = refl }

pub fewer_then : (xs ys zs : List SliceSpelled) → AreFewer xs ys → AreFewer ys zs → AreFewer xs zs
fewer_then xs ys zs h e =
    record {
      answers = λ seen k ss ps a. e.answers seen k ss ps (h.answers seen k ss ps a);
      apart = λ from to a. e.apart from to (h.apart from to a);
      many = h.many ∙ e.many;
    }

pub many_fewer : (n : ℕ) (xs ys : List SliceSpelled) → AreFewer xs ys → n ≡ length xs → n ≡ length ys
many_fewer n xs ys h e = e ∙ h.many

pub fewer_behind : (r : Result Settled NoMemory) (xs ys : List SliceSpelled) → AreFewer xs ys → IfOk r (λ s. AreFewer ys s.spelled) → IfOk r (λ s. AreFewer xs s.spelled)
fewer_behind (Err e) xs ys h b = tt
fewer_behind (Ok s) xs ys h b = fewer_then xs ys s.spelled h b

-- what was said of more slices is so of fewer
pub answers_fewer : (r : Result Settled NoMemory) (xs : List SliceSpelled) (seen : SeenAs) (k : ℕ) (ss : List (Method × PlainSlice)) (ps : List PlainPatch)
    → IfOk r (λ s. AreFewer xs s.spelled) → IfOk r (λ s. are_answers seen k ss ps xs ≡ true → are_answers seen k ss ps s.spelled ≡ true)
answers_fewer (Err e) xs seen k ss ps h = tt
answers_fewer (Ok s) xs seen k ss ps h = λ a. h.answers seen k ss ps a

pub apart_fewer : (r : Result Settled NoMemory) (xs : List SliceSpelled) (to : ℕ) → IfOk r (λ s. AreFewer xs s.spelled)
    → IfOk r (λ s. are_apart 0 to (patches_of xs) ≡ true → are_apart 0 to (patches_of s.spelled) ≡ true)
apart_fewer (Err e) xs to h = tt
apart_fewer (Ok s) xs to h = λ a. h.apart 0 to a

-- ---- One slice

-- the patches of a slice may be any that can't be said
unlike_where : (seen : SeenAs) (s : PlainSlice) (shared : Bool) (ps : List PlainPatch) (x : SliceSpelled) → is_patched x ≡ true → is_answer_where seen s shared ps x ≡ true
    → is_answer_where seen s shared ps fates.Unlike ≡ true
unlike_where seen s shared [] (fates.Patched ts) p h = absurd cc
unlike_where seen s shared ps fates.Left p h = absurd cc
unlike_where seen s shared ps fates.Unlike p h = absurd cc
unlike_where seen s shared ps fates.Shared p h = absurd cc
unlike_where seen s true (q ∷ ps) (fates.Patched ts) p h = absurd cc
unlike_where seen s false (q ∷ ps) (fates.Patched ts) p h = refl

one_answer : (seen : SeenAs) (k : ℕ) (ss : List (Method × PlainSlice)) (ps : List PlainPatch) (xs : List SliceSpelled) (n : ℕ) → is_patched_some (slice_get xs n) ≡ true
    → are_answers seen k ss ps xs ≡ true → are_answers seen k ss ps (set xs n fates.Unlike) ≡ true
one_answer seen k ss ps [] n p h = absurd cc
one_answer seen k [] ps (x ∷ xs) n p h = absurd cc
one_answer seen k (q ∷ ss) ps (x ∷ xs) zero p h =
    let f = and_parts (is_answer seen q.0 q.1 (own k ps) x) (are_answers seen (suc k) ss (others k ps) xs) h in
    and_from _ _ (unlike_where seen q.1 (is_shared seen q.0 q.1 (own k ps)) (own k ps) x p f.0) f.1
one_answer seen k (q ∷ ss) ps (x ∷ xs) (suc n) p h =
    let f = and_parts (is_answer seen q.0 q.1 (own k ps) x) (are_answers seen (suc k) ss (others k ps) xs) h in
    and_from _ _ f.0 (one_answer seen (suc k) ss (others k ps) xs n p f.1)

one_length : (xs : List SliceSpelled) (n : ℕ) (x : SliceSpelled) → length xs ≡ length (set xs n x)
one_length [] n x = refl
one_length (y ∷ xs) zero x = refl
one_length (y ∷ xs) (suc n) x = ap suc (one_length xs n x)

pub patched_within : (xs : List SliceSpelled) (n : ℕ) → is_patched_some (slice_get xs n) ≡ true → n < length xs
patched_within [] n p = absurd cc
patched_within (x ∷ xs) zero p = omega arith
patched_within (x ∷ xs) (suc n) p = let lt = patched_within xs n p in omega (arith, lt)

pub one_fewer : (xs ys : List SliceSpelled) (n : ℕ) → is_patched_some (slice_get xs n) ≡ true → ys ≡ set xs n fates.Unlike
    → ((from to : ℕ) → are_apart from to (patches_of xs) ≡ true → are_apart from to (patches_of ys) ≡ true) → AreFewer xs ys
one_fewer xs ys n p is apart =
    record {
      answers = λ seen k ss ps h. subst (λ (zs : List SliceSpelled). are_answers seen k ss ps zs ≡ true) (sym is) (one_answer seen k ss ps xs n p h);
      apart = apart;
      many = one_length xs n fates.Unlike ∙ ap length (sym is);
    }

-- ---- All slices

unpatched_where : (seen : SeenAs) (s : PlainSlice) (shared : Bool) (ps : List PlainPatch) (x : SliceSpelled) → is_answer_where seen s shared ps x ≡ true
    → is_answer_where seen s shared ps (unpatched x) ≡ true
unpatched_where seen s shared ps (fates.Patched ts) h = unlike_where seen s shared ps (fates.Patched ts) refl h
unpatched_where seen s shared ps fates.Left h = h
unpatched_where seen s shared ps fates.Unlike h = h
unpatched_where seen s shared ps fates.Shared h = h

all_answers : (seen : SeenAs) (k : ℕ) (ss : List (Method × PlainSlice)) (ps : List PlainPatch) (xs : List SliceSpelled) → are_answers seen k ss ps xs ≡ true
    → are_answers seen k ss ps (map unpatched xs) ≡ true
all_answers seen k [] ps [] h = refl
all_answers seen k [] ps (x ∷ xs) h = absurd cc
all_answers seen k (q ∷ ss) ps [] h = absurd cc
all_answers seen k (q ∷ ss) ps (x ∷ xs) h =
    let f = and_parts (is_answer seen q.0 q.1 (own k ps) x) (are_answers seen (suc k) ss (others k ps) xs) h in
    and_from _ _ (unpatched_where seen q.1 (is_shared seen q.0 q.1 (own k ps)) (own k ps) x f.0) (all_answers seen (suc k) ss (others k ps) xs f.1)

no_patches : (xs : List SliceSpelled) → patches_of (map unpatched xs) ≡ []
no_patches [] = refl
no_patches (fates.Left ∷ xs) = no_patches xs
no_patches (fates.Unlike ∷ xs) = no_patches xs
no_patches (fates.Shared ∷ xs) = no_patches xs
no_patches (fates.Patched ps ∷ xs) = no_patches xs

pub all_fewer : (xs : List SliceSpelled) → AreFewer xs (map unpatched xs)
all_fewer xs =
    record {
      answers = λ seen k ss ps h. all_answers seen k ss ps xs h;
      apart = λ from to h. rw (no_patches xs) (le-leb from to (apart_grows from to (patches_of xs) h));
      many = sym (length-map xs unpatched);
    }

-- each slice stays
all_stay : (m : ViewMap) (tables : Schema) (read file : File) (methods : List PlainMethod) (mark : Mark) (k : ℕ) (sts : List Stood) (xs : List SliceSpelled) → length sts ≡ length xs
    → AreSeenAgain m tables read file methods mark k sts (map unpatched xs) []
all_stay m tables read file methods mark k [] [] e = none mark k
all_stay m tables read file methods mark k [] (x ∷ xs) e = absurd (omega (arith, e))
all_stay m tables read file methods mark k (st ∷ sts) [] e = absurd (omega (arith, e))
all_stay m tables read file methods mark k (st ∷ sts) (fates.Left ∷ xs) e =
    stays mark k st sts fates.Left (map unpatched xs) [] refl (all_stay m tables read file methods mark (k + 1) sts xs (omega (arith, e)))
all_stay m tables read file methods mark k (st ∷ sts) (fates.Unlike ∷ xs) e =
    stays mark k st sts fates.Unlike (map unpatched xs) [] refl (all_stay m tables read file methods mark (k + 1) sts xs (omega (arith, e)))
all_stay m tables read file methods mark k (st ∷ sts) (fates.Shared ∷ xs) e =
    stays mark k st sts fates.Shared (map unpatched xs) [] refl (all_stay m tables read file methods mark (k + 1) sts xs (omega (arith, e)))
all_stay m tables read file methods mark k (st ∷ sts) (fates.Patched ps ∷ xs) e =
    stays mark k st sts fates.Unlike (map unpatched xs) [] refl (all_stay m tables read file methods mark (k + 1) sts xs (omega (arith, e)))

none_patched : (sts : List Stood) (xs : List SliceSpelled) → patched_slices sts (map unpatched xs) ≡ []
none_patched [] xs = refl
none_patched (st ∷ sts) [] = refl
none_patched (st ∷ sts) (fates.Left ∷ xs) = none_patched sts xs
none_patched (st ∷ sts) (fates.Unlike ∷ xs) = none_patched sts xs
none_patched (st ∷ sts) (fates.Shared ∷ xs) = none_patched sts xs
none_patched (st ∷ sts) (fates.Patched ps ∷ xs) = none_patched sts xs

many_in : (s : PlainSliced) → length (answers.slices_in s) ≡ length (map (stood_in s.read) s.slices)
many_in s = length-map s.slices (λ (t : PlainSlice). (s.read.method, t)) ∙ sym (length-map s.slices (stood_in s.read))

-- as many slices, each with its method or with what may be read there too
as_many_slices : (ss : List PlainSliced) → length (slices_with ss) ≡ length (slices_in ss)
as_many_slices [] = refl
as_many_slices (s ∷ ss) =
    let a = length-append (answers.slices_in s) (slices_with ss) in
    let b = length-append (map (stood_in s.read) s.slices) (slices_in ss) in
    omega (arith, a, b, many_in s, as_many_slices ss)

pub settled_left : (m : ViewMap) (tables : Schema) (source : List ℕ) (read : File) (methods : List PlainMethod) (ss : List PlainSliced) (xs : List SliceSpelled) (out : List ℕ)
    → file_in m source ≡ Some read → length (slices_with ss) ≡ length xs → out ≡ with_texts source 0 (patches_of (map unpatched xs))
    → IsSettled m tables source read methods (slices_in ss) (map unpatched xs) out
settled_left m tables source read methods ss xs out is many e =
    let same : out ≡ source = e ∙ ap (with_texts source 0) (no_patches xs) in
    record {
      output = e;
      file = read;
      is_file = ap (file_in m) same ∙ is;
      agains = [];
      each = all_stay m tables read read methods first_mark 0 (slices_in ss) xs (sym (as_many_slices ss) ∙ many);
      round = ap (around read.items 0) (sym (none_patched (slices_in ss) xs));
    }
