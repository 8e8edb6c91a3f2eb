-- After all tries of a program's loops, those that stand are those that were tried and found no candidate, where they stood then.
use Rattle.std.proofs.Common.{◌≡◌, ℕ, zero, suc, ◌+◌, ◌≤◌, ◌<◌, List, [], ◌∷◌, ◌++◌, length, map, take, slice_get, Option, Some, None, refl, sym, ap, ap₂, ◌∙◌, subst, arith, append_assoc, append-nil}
use Rattle.std.specs.List.{AllByRecursion}
use Rattle.std.proofs.lemmas.List.{length-take-le, map-append}
use Rattle.std.proofs.Math.Seq.{take-length}
use Rattle.qbs_base.specs.declared.span.Span.{Span}
use Rattle.qbs_base.specs.Values.{Schema}
use Rattle.query_search.specs.Verdicts.{Found, NoneOf, Budget}
use Rattle.sql_ast.proofs.Tools.{all_at}
use Rattle.java_ast.specs.Path.{found_in, statement_at}
use Rattle.java_ast.specs.Spans.{place_of}
use Rattle.java_ast.specs.Tree as tree
use Rattle.java_ast.specs.Tree.{Statement, Statements, Nothing, Then, PlainProgram}
use Rattle.java_mean.specs.Queries.{Reader}
use Rattle.java_mean.specs.Refines.{Hole, Here, Past, InIf, InThen, InElse, InEach, InWhile, first_of, path_of, fill, types_at}
use Rattle.java_mean.specs.Types.{Types, with_type, type_spelled, types_after, visible_at, visible_in, types_of_params}
use Rattle.java_types.specs.Texts.{read_by}
use Rattle.java_types.proofs.Found.{found_exactly}
use Rattle.loop_text.specs.Statements.Fragment.{Fragment}
use Rattle.loop_text.specs.Statements.Loops.{loops_of}
use Rattle.loop_text.specs.Statements.Walking.{IsLoopOf}
use Rattle.java_loops.specs.Kernel.Kernel as kernel
use Rattle.java_loops.specs.Kernel.Kernel.{types_in_method, setting_there, setting_at, broken}
use Rattle.java_loops.specs.Kernel.Setting.{Setting, setting_of}
use Rattle.java_loops.proofs.Placing.PathsLead.{loop_has_fragment, listed_is_loop}
use Rattle.java_loops.proofs.Placing.Place.{behind_all, fill_behind, IsPlacedIn, placed_at}
use Rattle.loop_lists.proofs.LoopSites.{Site, site, sites_of, paths_of, paths_joined, paths_are, StandsAt, all_stand_at}
use Rattle.rewrite_core.specs.Asked.{Place, replaced}
use Rattle.rewrite_core.specs.TriedAsking.{MayBeAskedBy, AllMayBeAsked, standing_path, standing_paths, standing_left}
use Rattle.rewrite_core.specs.Trying.{Answer, Outside, Searched, answer_unless, Tried, tried_in, tried_at, program_by, program_after, standing_after, and_further, trying, all_tried, left_of, rewritten}
use Rattle.rewrite_core.specs.Rewriting.{loop_place, left_standing, standing_tries, StandsIn}
use Rattle.rewrite_core.proofs.EarlierLoops.{earlier_sites_stay, earlier_loops_stay, fewer_loops, how_many_loops}
use Rattle.rewrite_core.proofs.LoopThere.{loop_there}

-- ---- Lists

below_length : {A : Type 0} (xs : List A) (n : ℕ) (x : A) → slice_get xs n ≡ Some x → n < length xs
below_length [] n x e = absurd cc
below_length (y ∷ ys) zero x e = omega arith
below_length (y ∷ ys) (suc n) x e = let h : n < length ys = below_length ys n x e in omega arith

pub past_length : {A : Type 0} (xs : List A) (n : ℕ) → slice_get xs n ≡ None → length xs ≤ n
past_length [] n e = omega arith
past_length (y ∷ ys) zero e = absurd cc
past_length (y ∷ ys) (suc n) e = let h : length ys ≤ n = past_length ys n e in omega arith

one_more : {A : Type 0} (xs : List A) (n : ℕ) (x : A) → slice_get xs n ≡ Some x → take (suc n) xs ≡ take n xs ++ x ∷ []
one_more [] n x e = absurd cc
one_more (y ∷ []) zero x e = let same : y ≡ x = cc in ap (λ z. z ∷ []) same
one_more (y ∷ z ∷ zs) zero x e = let same : y ≡ x = cc in ap (λ z. z ∷ []) same
one_more (y ∷ ys) (suc n) x e = ap (λ zs. y ∷ zs) (one_more ys n x e)

pub got_mapped : {A B : Type 0} (f : A → B) (xs : List A) (n : ℕ) (y : B) → slice_get (map f xs) n ≡ Some y → (x : A) × (slice_get xs n ≡ Some x) × (f x ≡ y)
got_mapped f [] n y e = absurd cc
got_mapped f (x ∷ xs) zero y e = (x, refl, (let same : f x ≡ y = cc in same))
got_mapped f (x ∷ xs) (suc n) y e = got_mapped f xs n y e

all_unmapped : {A B : Type 0} (P : B → Type 0) (f : A → B) (xs : List A) → AllByRecursion P (map f xs) → AllByRecursion (λ (x : A). P (f x)) xs
all_unmapped P f [] h = tt
all_unmapped P f (x ∷ xs) h = (h.0, all_unmapped P f xs h.1)

-- ---- Settings of loops

module _ (schema : Schema) where
  visible_first : (g : Types) (a : Statement) → visible_in schema g a [] ≡ Some g
  visible_first g (tree.Declare at ty x e) = refl
  visible_first g (tree.Assign at x e) = refl
  visible_first g (tree.Add at x e) = refl
  visible_first g (tree.Sort at x keys down) = refl
  visible_first g (tree.If at e p) = refl
  visible_first g (tree.IfElse at e p q) = refl
  visible_first g (tree.ForEach at ty x e p) = refl
  visible_first g (tree.While at e p) = refl
  visible_first g (tree.Print at e) = refl
  visible_first g (tree.Return at e) = refl
  visible_first g (tree.Break at) = refl

  visible_there : (g : Types) (hole : Hole) (a : Statement) (p : Statements) → visible_at schema g (fill hole (Then a p)) (first_of hole) (path_of hole) ≡ Some (types_at schema g hole)
  visible_there g (Here q) a p = visible_first g a
  visible_there g (Past b h) a p = visible_there (types_after schema g b) h a p
  visible_there g (InIf at e h q) a p = visible_there g h a p
  visible_there g (InThen at e h b q) a p = visible_there g h a p
  visible_there g (InElse at e b h q) a p = visible_there g h a p
  visible_there g (InEach at ty x e h q) a p = visible_there (with_type x (type_spelled schema ty) g) h a p
  visible_there g (InWhile at e h q) a p = visible_there g h a p

  types_there : (p : PlainProgram) (path : List ℕ) (f : Fragment) → IsPlacedIn p path f → (g : Types) × (kernel.types_at schema path p ≡ Some g)
  types_there p path f k =
      let start : Types = types_of_params schema k.method.params in
      let hole : Hole = behind_all f.run k.placed.hole in
      let is : k.method.body ≡ fill hole (Then f.loop Nothing) = k.placed.is ∙ fill_behind k.placed.hole f.run (Then f.loop Nothing) in (
        types_at schema start hole,
        ap (λ z. kernel.types_at schema z p) k.is
            ∙ ap (found_in (types_in_method schema k.first k.down)) k.found
            ∙ ap (λ b. visible_at schema start b k.first k.down) is
            ∙ ap (λ i. visible_at schema start (fill hole (Then f.loop Nothing)) i k.down) (sym k.placed.first)
            ∙ ap (visible_at schema start (fill hole (Then f.loop Nothing)) (first_of hole)) (sym k.placed.down)
            ∙ visible_there start hole f.loop Nothing,
      )

  -- each loop of a program has a setting
  setting_found : (p : PlainProgram) (path : List ℕ) (n : ℕ) → slice_get (loops_of p) n ≡ Some path → (w : Setting) × (setting_at schema (read_by schema) path p ≡ Some w)
  setting_found p path n e =
      let is : IsLoopOf p path = listed_is_loop p n path e in
      let f = loop_has_fragment p path is in
      let g = types_there p path f.0 (placed_at path p f.0 f.1) in
      (setting_of schema (read_by schema) g.0 f.0, ap₂ (setting_there schema (read_by schema)) g.1 f.1)

-- ---- One try

-- the site of a loop that was tried
abbrev tried_site : Tried → Site
tried_site t = site t.path (loop_place t)

abbrev sites_tried : List Tried → List Site
sites_tried ts = map tried_site ts

same_statement : (o : Option Statement) (a b : Statement) → o ≡ Some a → o ≡ Some b → a ≡ b
same_statement o a b e h = cc

-- the loop of a setting stands at its site
pub site_there : (schema : Schema) (p : PlainProgram) (path : List ℕ) (n : ℕ) (w : Setting) → slice_get (loops_of p) n ≡ Some path → setting_at schema (read_by schema) path p ≡ Some w → slice_get (sites_of p) n ≡ Some (site path (place_of w.fragment.loop))
site_there schema p path n w e there =
    let got = got_mapped (λ (s : Site). s.path) (sites_of p) n path (ap (λ xs. slice_get xs n) (paths_are p) ∙ e) in
    let stands : StandsAt p got.0 = all_at (StandsAt p) (sites_of p) n got.0 (all_stand_at p) got.1 in
    let loop : statement_at path p ≡ Some stands.0 = sym (ap (λ q. statement_at q p) got.2) ∙ stands.1 in
    let same : stands.0 ≡ w.fragment.loop = same_statement (statement_at path p) stands.0 w.fragment.loop loop (loop_there schema (read_by schema) p path w there) in
    let at : got.0.at ≡ place_of w.fragment.loop = sym stands.2 ∙ ap place_of same in
    got.1 ∙ ap₂ (λ (q : List ℕ) (s : Span). Some (site q s)) got.2 at

-- a program and the one after a try of its loop with the number n
record Next (n : ℕ) (t : Tried) (p q : PlainProgram) (a : Answer) : Type 0 where
  reach : standing_after n a ≤ length (loops_of q)
  few : length (loops_of q) + n < length (loops_of p) + standing_after n a
  front : take (standing_after n a) (sites_of q) ≡ take n (sites_of p) ++ sites_tried (left_standing t a)

module _ (schema : Schema) where
  abbrev reader : Reader schema
  reader = record { read = read_by schema; exact = found_exactly schema }

  stands : (n : ℕ) (t : Tried) → slice_get (loops_of t.program) n ≡ Some t.path → setting_at schema (read_by schema) t.path t.program ≡ Some t.setting
      → (take (suc n) (sites_of t.program) ≡ take n (sites_of t.program) ++ tried_site t ∷ []) × (suc n ≤ length (loops_of t.program)) × (length (loops_of t.program) + n < length (loops_of t.program) + suc n)
  stands n t e there =
      let h : n < length (loops_of t.program) = below_length (loops_of t.program) n t.path e in
      (one_more (sites_of t.program) n (tried_site t) (site_there schema t.program t.path n t.setting e there), omega arith, omega arith)

  next : (n : ℕ) (t : Tried) (a : Answer) → slice_get (loops_of t.program) n ≡ Some t.path → setting_at schema (read_by schema) t.path t.program ≡ Some t.setting → MayBeAskedBy schema t a → Next n t t.program (program_by t a) a
  next n t (Searched f (Found h)) e there may =
      let l : Place = record { program = t.program; path = t.path; setting = t.setting; candidate = h.candidate } in
      let same : take n (loops_of (replaced l)) ≡ take n (loops_of t.program) = earlier_loops_stay schema reader l n may.loop e in
      let fewer : length (loops_of (replaced l)) < length (loops_of t.program) = fewer_loops schema reader l may.loop in
      let below : n < length (loops_of t.program) = below_length (loops_of t.program) n t.path e in
      let long : length (take n (loops_of (replaced l))) ≡ n = ap length same ∙ length-take-le n (loops_of t.program) (omega (arith, below)) in
      record { reach = reached (loops_of (replaced l)) n long; few = omega arith; front = earlier_sites_stay schema reader l n may.loop e ∙ sym (append-nil (take n (sites_of t.program))) }
    where
      reached : {A : Type 0} (xs : List A) (n : ℕ) → length (take n xs) ≡ n → n ≤ length xs
      reached [] zero e = omega arith
      reached [] (suc n) e = absurd (let none : 0 ≡ suc n = e in omega arith)
      reached (x ∷ xs) zero e = omega arith
      reached (x ∷ xs) (suc n) e = let less : length (take n xs) ≡ n = (let k : suc (length (take n xs)) ≡ suc n = e in omega arith) in let ih : n ≤ length xs = reached xs n less in omega arith
  next n t (Searched f (NoneOf m)) e there may = let k = stands n t e there in record { reach = k.1; few = k.2; front = k.0 }
  next n t (Searched f (Budget b m)) e there may = let k = stands n t e there in record { reach = k.1; few = k.2; front = k.0 }
  next n t (Outside b) e there may = let k = stands n t e there in record { reach = k.1; few = k.2; front = k.0 }

-- ---- All tries

-- after these tries the first n loops stand, and those that were tried and stand
record Stand (p : PlainProgram) (n : ℕ) (ts : List Tried) : Type 0 where
  sites : sites_of (left_of p ts) ≡ take n (sites_of p) ++ sites_tried (standing_tries ts)
  count : standing_left n ts ≡ length (loops_of (left_of p ts))

none_left : (p : PlainProgram) (n : ℕ) → n ≡ length (loops_of p) → Stand p n []
none_left p n e = record { sites = sym (append-nil (take n (sites_of p)) ∙ ap (λ k. take k (sites_of p)) (e ∙ how_many_loops p) ∙ take-length (sites_of p)); count = e }

one_stands : (p : PlainProgram) (n : ℕ) (t : Tried) (ts : List Tried) → Next n t p (program_after t) t.answer → Stand (program_after t) (standing_after n t.answer) ts → Stand p n (t ∷ ts)
one_stands p n t ts k s =
    record {
      sites =
          s.sites ∙ ap (λ xs. xs ++ sites_tried (standing_tries ts)) k.front
          ∙ append_assoc (take n (sites_of p)) (sites_tried (left_standing t t.answer)) (sites_tried (standing_tries ts))
          ∙ ap (λ xs. take n (sites_of p) ++ xs) (sym (map-append tried_site (left_standing t t.answer) (standing_tries ts)));
      count = s.count;
    }

module _ (schema : Schema) (size budget : ℕ) where
  module _ (left : ℕ) (p : PlainProgram) (n : ℕ) (further : PlainProgram → ℕ → List Tried) (reach : n ≤ length (loops_of p)) (few : length (loops_of p) ≤ suc left + n) (ih : (q : PlainProgram) (m : ℕ) → AllMayBeAsked schema (further q m) → m ≤ length (loops_of q) → length (loops_of q) ≤ left + m → Stand q m (further q m)) where
    abbrev tries : Option Tried → List Tried
    tries o = and_further o (λ t. further (program_after t) (standing_after n t.answer))

    by_setting : (path : List ℕ) (o : Option Setting) → slice_get (loops_of p) n ≡ Some path → setting_at schema (read_by schema) path p ≡ o → AllMayBeAsked schema (tries (tried_in size budget p path o)) → Stand p n (tries (tried_in size budget p path o))
    by_setting path None e s h = let w = setting_found schema p path n e in absurd (let none : Some w.0 ≡ None = sym w.1 ∙ s in cc)
    by_setting path (Some w) e s h =
        let t : Tried = record { program = p; path = path; setting = w; answer = answer_unless size budget w (broken w) } in
        let k : Next n t p (program_after t) t.answer = next schema n t t.answer e s h.0 in
        let less : length (loops_of (program_after t)) + n < length (loops_of p) + standing_after n t.answer = k.few in
        one_stands p n t (further (program_after t) (standing_after n t.answer)) k (ih (program_after t) (standing_after n t.answer) h.1 k.reach (omega arith))

    by_path : (o : Option (List ℕ)) → slice_get (loops_of p) n ≡ o → AllMayBeAsked schema (tries (tried_at schema size budget p o)) → Stand p n (tries (tried_at schema size budget p o))
    by_path None e h = none_left p n (let past : length (loops_of p) ≤ n = past_length (loops_of p) n e in omega arith)
    by_path (Some path) e h = by_setting path (setting_at schema (read_by schema) path p) e refl h

  all_stand : (left : ℕ) (p : PlainProgram) (n : ℕ) → AllMayBeAsked schema (trying left schema size budget p n) → n ≤ length (loops_of p) → length (loops_of p) ≤ left + n → Stand p n (trying left schema size budget p n)
  unfolding trying
  all_stand zero p n h reach few = none_left p n (omega arith)
  all_stand (suc left) p n h reach few = by_path left p n (λ q m. trying left schema size budget q m) reach few (λ q m k r f. all_stand left q m k r f) (slice_get (loops_of p) n) refl h

  all_tried_stand : (p : PlainProgram) → AllMayBeAsked schema (all_tried schema size budget p) → Stand p 0 (all_tried schema size budget p)
  unfolding all_tried
  all_tried_stand p h = all_stand (length (loops_of p)) p 0 h (omega arith) (omega arith)

no_first : {A : Type 0} (xs : List A) → take 0 xs ≡ []
no_first [] = refl
no_first (x ∷ xs) = refl

module _ (schema : Schema) (size budget : ℕ) (p : PlainProgram) (h : AllMayBeAsked schema (all_tried schema size budget p)) where
  sites_stand : sites_of (rewritten schema size budget p) ≡ sites_tried (standing_tries (all_tried schema size budget p))
  sites_stand = (all_tried_stand schema size budget p h).sites ∙ ap (λ xs. xs ++ sites_tried (standing_tries (all_tried schema size budget p))) (no_first (sites_of p))

  stand_at : AllByRecursion (StandsAt (rewritten schema size budget p)) (sites_tried (standing_tries (all_tried schema size budget p)))
  stand_at = subst (AllByRecursion (StandsAt (rewritten schema size budget p))) sites_stand (all_stand_at (rewritten schema size budget p))

-- ---- Paths

one_path : (t : Tried) (a : Answer) → paths_of (sites_tried (left_standing t a)) ≡ standing_path t.path a
one_path t (Searched f (Found h)) = refl
one_path t (Searched f (NoneOf n)) = refl
one_path t (Searched f (Budget b n)) = refl
one_path t (Outside b) = refl

paths_tried : (ts : List Tried) → paths_of (sites_tried (standing_tries ts)) ≡ standing_paths ts
paths_tried [] = refl
paths_tried (t ∷ ts) =
    ap paths_of (map-append tried_site (left_standing t t.answer) (standing_tries ts))
    ∙ paths_joined (sites_tried (left_standing t t.answer)) (sites_tried (standing_tries ts))
    ∙ ap₂ (λ xs ys. xs ++ ys) (one_path t t.answer) (paths_tried ts)

-- The loops that stand after all tries are those that were tried and found no candidate.
pub standing_tried : (schema : Schema) (size budget : ℕ) (p : PlainProgram) → AllMayBeAsked schema (all_tried schema size budget p) → loops_of (rewritten schema size budget p) ≡ standing_paths (all_tried schema size budget p)
standing_tried schema size budget p h = sym (paths_are (rewritten schema size budget p)) ∙ ap paths_of (sites_stand schema size budget p h) ∙ paths_tried (all_tried schema size budget p)

-- They stand where they stood when they were tried.
pub standing_in_place : (schema : Schema) (size budget : ℕ) (p : PlainProgram) → AllMayBeAsked schema (all_tried schema size budget p) → AllByRecursion (StandsIn (rewritten schema size budget p)) (standing_tries (all_tried schema size budget p))
standing_in_place schema size budget p h = all_unmapped (StandsAt (rewritten schema size budget p)) tried_site (standing_tries (all_tried schema size budget p)) (stand_at schema size budget p h)

-- They are as many as were tried and stand.
pub nothing_left : (schema : Schema) (size budget : ℕ) (p : PlainProgram) → AllMayBeAsked schema (all_tried schema size budget p) → standing_left 0 (all_tried schema size budget p) ≡ length (loops_of (rewritten schema size budget p))
nothing_left schema size budget p h = (all_tried_stand schema size budget p h).count
