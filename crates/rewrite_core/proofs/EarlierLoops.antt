-- Where a loop gives way, the loops before it stay where they were, and the program has fewer.
use Rattle.std.proofs.Common.{◌≡◌, ℕ, suc, ◌+◌, ◌<◌, true, List, [], ◌∷◌, ◌++◌, length, take, slice_get, Some, None, refl, sym, ap, ◌∙◌, subst, arith, append_assoc, append-nil}
use Rattle.std.proofs.lemmas.List.{length-append, length-map, take-map}
use Rattle.std.proofs.Math.Seq.{take-append_seam}
use Rattle.qbs_base.specs.Values.{Schema}
use Rattle.qbs_base.specs.declared.span.Span.{Span}
use Rattle.java_ast.specs.Spans.{place_of}
use Rattle.java_ast.specs.Tree.{Statement, Statements, Nothing, Then, PlainMethod, PlainProgram}
use Rattle.java_mean.specs.Numbers.{NumbersFit}
use Rattle.java_mean.specs.Queries.{Reader}
use Rattle.java_mean.specs.Refines.{Hole, fill, first_of, path_of, behind}
use Rattle.java_mean.specs.Types.{Types}
use Rattle.java_mean.specs.WellTyped.{IsWellTyped}
use Rattle.loop_text.specs.Statements.Fragment.{Fragment, are_simple, fragment_at}
use Rattle.loop_text.specs.Statements.KeptStatements.{how_many, first_at}
use Rattle.loop_text.specs.Statements.Loops.{loops_of}
use Rattle.java_loops.specs.Kernel.Kernel as kernel
use Rattle.java_loops.specs.Kernel.Kernel.{broken, lowering}
use Rattle.java_loops.specs.Kernel.Setting.{Setting, setting_of}
use Rattle.java_ast.specs.Names.{names_read}
use Rattle.java_loops.specs.Meant.Asking.{rewritten_at}
use Rattle.java_loops.specs.Meant.KeptNumbers.{kept_set, kept_numbers}
use Rattle.java_loops.specs.Walks.Replacing.{Ask, replacement, run_and_loop}
use Rattle.java_loops.proofs.Kept.KeptPath.{rewritten_is, setting_fragment}
use Rattle.java_loops.proofs.Kept.KeptRuns.{kept_numbers_kept}
use Rattle.java_loops.proofs.Lowering.LowerChains.{at_setting}
use Rattle.java_loops.proofs.Meant.MeanReplaced.{with_statements}
use Rattle.java_loops.proofs.Placing.Place.{behind_all}
use Rattle.java_loops.proofs.Placing.PlaceTyped.{FragmentThere}
use Rattle.lowering.specs.Asked.{IsKernelLoop}
use Rattle.loop_lists.proofs.LoopSites.{Site, site, sites_in, sites_among, sites_of, paths_of, paths_joined, paths_are}
use Rattle.rewrite_core.specs.Asked.{Place, asks_of, number_of, replaced}
use Rattle.rewrite_core.proofs.DistinctLoops.{loop_number}
use Rattle.rewrite_core.proofs.LoopsAround.{loops_followed, no_loops, replacement_simple, as_many, IsOuter, outer_first, Spot, spot, MethodLoops, method_loops}
use Rattle.rewrite_core.proofs.StaysTyped.{first_there}

-- ---- Lists

at_seam : {A : Type 0} (front rest : List A) (x : A) → slice_get (front ++ x ∷ rest) (length front) ≡ Some x
at_seam [] rest x = refl
at_seam (y ∷ front) rest x = at_seam front rest x

-- The first loops of two programs are the same before one of the first, which with those inside it is missing in the second.
record Vanishes (p q : PlainProgram) (path : List ℕ) : Type 0 where
  at : Span
  front : List Site
  old : List Site
  new : List Site
  was : sites_of p ≡ front ++ site path at ∷ old
  is : sites_of q ≡ front ++ new
  fewer : length new < suc (length old)

module _ (p q : PlainProgram) (path : List ℕ) (v : Vanishes p q path) where
  old_paths : loops_of p ≡ paths_of v.front ++ path ∷ paths_of v.old
  old_paths = sym (paths_are p) ∙ ap paths_of v.was ∙ paths_joined v.front (site path v.at ∷ v.old)

  number_is : (n : ℕ) → slice_get (loops_of p) n ≡ Some path → length v.front ≡ n
  number_is n there =
      sym (length-map v.front (λ (s : Site). s.path))
      ∙ loop_number p path (length (paths_of v.front)) n (ap (λ xs. slice_get xs (length (paths_of v.front))) old_paths ∙ at_seam (paths_of v.front) (paths_of v.old) path) there

  vanished : (n : ℕ) → slice_get (loops_of p) n ≡ Some path → take n (sites_of q) ≡ take n (sites_of p)
  vanished n there =
      let number : length v.front ≡ n = number_is n there in
      sym (ap (λ k. take k (sites_of q)) number) ∙ ap (take (length v.front)) v.is ∙ take-append_seam v.front v.new
      ∙ sym (take-append_seam v.front (site path v.at ∷ v.old)) ∙ sym (ap (take (length v.front)) v.was) ∙ ap (λ k. take k (sites_of p)) number

  shortened : length (sites_of q) < length (sites_of p)
  shortened =
      let a : length (sites_of q) ≡ length v.front + length v.new = ap length v.is ∙ length-append v.front v.new in
      let b : length (sites_of p) ≡ length v.front + suc (length v.old) = ap length v.was ∙ length-append v.front (site path v.at ∷ v.old) in
      let c : length v.new < suc (length v.old) = v.fewer in
      omega arith

-- ---- At a place

module _ (pre : List ℕ) (hole : Hole) (run new : Statements) (loop : Statement) (k : Spot pre 0 hole) (simple : are_simple run ≡ true) (simple_too : are_simple new ≡ true) (o : IsOuter (k.at ++ (k.number + how_many run) ∷ []) loop) where
  abbrev here : List ℕ
  here = k.at ++ (k.number + how_many run) ∷ []

  abbrev old_behind : List Site
  old_behind = sites_among k.at (k.number + how_many (run_and_loop run loop)) (behind hole)

  abbrev new_behind : List Site
  new_behind = sites_among k.at (k.number + how_many new) (behind hole)

  abbrev own : Site
  own = site here (place_of loop)

  loop_there : sites_among k.at k.number (run_and_loop run loop) ≡ own ∷ o.inside
  loop_there =
      loops_followed run (Then loop Nothing) k.at k.number
      ∙ ap (λ xs. xs ++ (sites_in here loop ++ [])) (no_loops run k.at k.number simple)
      ∙ append-nil (sites_in here loop)
      ∙ o.is

  old_loops : sites_among pre 0 (fill hole (run_and_loop run loop)) ≡ k.before ++ own ∷ (o.inside ++ (old_behind ++ k.after))
  old_loops =
      k.loops (run_and_loop run loop)
      ∙ ap (λ xs. k.before ++ (xs ++ k.after)) (loops_followed (run_and_loop run loop) (behind hole) k.at k.number ∙ ap (λ xs. xs ++ old_behind) loop_there)
      ∙ ap (λ xs. k.before ++ own ∷ xs) (append_assoc o.inside old_behind k.after)

  new_loops : sites_among pre 0 (fill hole new) ≡ k.before ++ (new_behind ++ k.after)
  new_loops =
      k.loops new
      ∙ ap (λ xs. k.before ++ (xs ++ k.after)) (loops_followed new (behind hole) k.at k.number ∙ ap (λ xs. xs ++ new_behind) (no_loops new k.at k.number simple_too))

  as_many_behind : length new_behind ≡ length old_behind
  as_many_behind = as_many (behind hole) k.at k.at (k.number + how_many new) (k.number + how_many (run_and_loop run loop))

-- ---- The loop of a program

module _ (schema : Schema) (reader : Reader schema) (p : PlainProgram) (path : List ℕ) (f : Fragment) (g : Types) (well : IsWellTyped schema reader.read p) (numbers : NumbersFit p) (there : FragmentThere schema reader.read p path f g) (rules : broken (setting_of schema reader.read g f) ≡ None) where
  abbrev w : Setting
  w = setting_of schema reader.read g f

  abbrev m : PlainMethod
  m = there.place.method

  abbrev hole : Hole
  hole = there.place.placed.hole

  abbrev pre : List ℕ
  pre = (0 + there.place.number) ∷ []

  round : Spot pre 0 hole
  round = spot hole pre 0

  outer : IsOuter (round.at ++ (round.number + how_many f.run) ∷ []) f.loop
  outer = outer_first f.loop (round.at ++ (round.number + how_many f.run) ∷ []) there.place.placed.loops

  -- the loop's path
  path_is : round.at ++ (round.number + how_many f.run) ∷ [] ≡ path
  path_is =
      let number : 0 + there.place.number ≡ there.place.number = omega arith in
      let first : 0 + first_of (behind_all f.run hole) ≡ there.place.first = (let e : first_of (behind_all f.run hole) ≡ there.place.first = there.place.placed.first in omega arith) in
      round.path f.run
      ∙ ap (λ i. i ∷ (0 + first_of (behind_all f.run hole)) ∷ path_of (behind_all f.run hole)) number
      ∙ ap (λ i. there.place.number ∷ i ∷ path_of (behind_all f.run hole)) first
      ∙ ap (λ ps. there.place.number ∷ there.place.first ∷ ps) there.place.placed.down
      ∙ sym there.place.is

  methods : MethodLoops 0 there.place.number p.methods m
  methods = method_loops 0 there.place.number p.methods m there.place.found

  -- with other statements in place of the run and the loop
  vanishes : (new : Statements) → are_simple new ≡ true → Vanishes p (with_statements p there.place.number hole new) path
  vanishes new simple =
      let old_behind : List Site = sites_among round.at (round.number + how_many (run_and_loop f.run f.loop)) (behind hole) in
      let new_behind : List Site = sites_among round.at (round.number + how_many new) (behind hole) in
      let own : Site = site (round.at ++ (round.number + how_many f.run) ∷ []) (place_of f.loop) in
      let many : length (sites_among round.at (round.number + how_many new) (behind hole)) ≡ length (sites_among round.at (round.number + how_many (run_and_loop f.run f.loop)) (behind hole)) = as_many_behind pre hole f.run new f.loop round there.place.placed.simple simple outer in
      let all_old : length ((outer.inside ++ (old_behind ++ round.after)) ++ methods.after) ≡ length outer.inside + (length old_behind + length round.after) + length methods.after =
      length-append (outer.inside ++ (old_behind ++ round.after)) methods.after ∙ ap (λ i. i + length methods.after) (length-append outer.inside (old_behind ++ round.after) ∙ ap (λ i. length outer.inside + i) (length-append old_behind round.after)) in
      let all_new : length ((new_behind ++ round.after) ++ methods.after) ≡ length new_behind + length round.after + length methods.after =
      length-append (new_behind ++ round.after) methods.after ∙ ap (λ i. i + length methods.after) (length-append new_behind round.after) in
      record {
        at = place_of f.loop;
        front = methods.before ++ round.before;
        old = (outer.inside ++ (old_behind ++ round.after)) ++ methods.after;
        new = (new_behind ++ round.after) ++ methods.after;
        was =
            methods.is
            ∙ ap (λ b. methods.before ++ (sites_among pre 0 b ++ methods.after)) there.place.placed.is
            ∙ ap (λ xs. methods.before ++ (xs ++ methods.after)) (old_loops pre hole f.run new f.loop round there.place.placed.simple simple outer)
            ∙ ap (λ xs. methods.before ++ xs) (append_assoc round.before (own ∷ (outer.inside ++ (old_behind ++ round.after))) methods.after)
            ∙ sym (append_assoc methods.before round.before (own ∷ ((outer.inside ++ (old_behind ++ round.after)) ++ methods.after)))
            ∙ ap (λ x. (methods.before ++ round.before) ++ site x (place_of f.loop) ∷ ((outer.inside ++ (old_behind ++ round.after)) ++ methods.after)) path_is;
        is =
            methods.changed (fill hole new)
            ∙ ap (λ xs. methods.before ++ (xs ++ methods.after)) (new_loops pre hole f.run new f.loop round there.place.placed.simple simple outer)
            ∙ ap (λ xs. methods.before ++ xs) (append_assoc round.before (new_behind ++ round.after) methods.after)
            ∙ sym (append_assoc methods.before round.before ((new_behind ++ round.after) ++ methods.after));
        fewer = omega arith;
      }

  rewritten_vanishes : (first : ℕ) (ks : List Ask) → fragment_at path p ≡ Some f → first_at path p ≡ Some first → Vanishes p (rewritten_at path first (kept_numbers f (names_read (lowering w).entries) first f.run) w ks p) path
  rewritten_vanishes first ks leads begins =
      subst (λ q. Vanishes p q path) (sym (rewritten_is schema reader p path f g well numbers there rules leads first begins (kept_numbers f (names_read (lowering w).entries) first f.run) (kept_numbers_kept f (names_read (lowering w).entries) first f.run) ks))
      (vanishes (replacement (kept_set f (names_read (lowering w).entries)) f.run ks) (replacement_simple (kept_set f (names_read (lowering w).entries)) f.run ks there.place.placed.simple))

-- ---- By the path to the loop

replaced_vanishes : (schema : Schema) (reader : Reader schema) (l : Place) → IsKernelLoop schema reader.read l.program l.path l.setting → Vanishes l.program (replaced l) l.path
replaced_vanishes schema reader l k =
    let leads : fragment_at l.path l.program ≡ Some l.setting.fragment = setting_fragment schema reader.read l.program l.path l.setting (kernel.types_at schema l.path l.program) (fragment_at l.path l.program) refl k.there in
    let begins = first_there l.path l.program l.setting.fragment leads in
    subst (λ n. Vanishes l.program (rewritten_at l.path n (kept_numbers l.setting.fragment (names_read (lowering l.setting).entries) n l.setting.fragment.run) l.setting (asks_of l) l.program) l.path) (sym (ap number_of begins.1))
    (at_setting (λ (z : Setting). fragment_at l.path l.program ≡ Some z.fragment → Vanishes l.program (rewritten_at l.path begins.0 (kept_numbers z.fragment (names_read (lowering z).entries) begins.0 z.fragment.run) z (asks_of l) l.program) l.path) schema reader.read l.program l.path l.setting k.typed k.numbers
    (λ f g there rules leads'. rewritten_vanishes schema reader l.program l.path f g k.typed k.numbers there rules begins.0 (asks_of l) leads' begins.1) k.there k.unbroken leads)

-- Where a loop gives way, the loops before it are those that were there, at the same places.
pub earlier_sites_stay : (schema : Schema) (reader : Reader schema) (l : Place) (n : ℕ) → IsKernelLoop schema reader.read l.program l.path l.setting → slice_get (loops_of l.program) n ≡ Some l.path → take n (sites_of (replaced l)) ≡ take n (sites_of l.program)
earlier_sites_stay schema reader l n k = vanished l.program (replaced l) l.path (replaced_vanishes schema reader l k) n

paths_taken : (p : PlainProgram) (n : ℕ) → take n (loops_of p) ≡ paths_of (take n (sites_of p))
paths_taken p n = ap (take n) (sym (paths_are p)) ∙ take-map (λ (s : Site). s.path) n (sites_of p)

pub earlier_loops_stay : (schema : Schema) (reader : Reader schema) (l : Place) (n : ℕ) → IsKernelLoop schema reader.read l.program l.path l.setting → slice_get (loops_of l.program) n ≡ Some l.path → take n (loops_of (replaced l)) ≡ take n (loops_of l.program)
earlier_loops_stay schema reader l n k there = paths_taken (replaced l) n ∙ ap paths_of (earlier_sites_stay schema reader l n k there) ∙ sym (paths_taken l.program n)

pub how_many_loops : (p : PlainProgram) → length (loops_of p) ≡ length (sites_of p)
how_many_loops p = ap length (sym (paths_are p)) ∙ length-map (sites_of p) (λ (s : Site). s.path)

-- And the program has fewer loops.
pub fewer_loops : (schema : Schema) (reader : Reader schema) (l : Place) → IsKernelLoop schema reader.read l.program l.path l.setting → length (loops_of (replaced l)) < length (loops_of l.program)
fewer_loops schema reader l k =
    let fewer : length (sites_of (replaced l)) < length (sites_of l.program) = shortened l.program (replaced l) l.path (replaced_vanishes schema reader l k) in
    let new : length (loops_of (replaced l)) ≡ length (sites_of (replaced l)) = how_many_loops (replaced l) in
    let old : length (loops_of l.program) ≡ length (sites_of l.program) = how_many_loops l.program in
    omega arith
