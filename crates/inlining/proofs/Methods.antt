-- Methods one after the other, with the last number handed on.
use Rattle.std.proofs.Common.{◌≡◌, ℕ, zero, suc, ◌+◌, ◌<◌, ◌≤◌, List, [], ◌∷◌, ◌++◌, length, take, drop, Option, Some, None, refl, sym, ap, ◌∙◌, option_map, slice_get, append_assoc, arith}
use Rattle.qbs_base.specs.declared.span.Span.{Span}
use Rattle.java_ast.specs.Path.{with_body, with_methods}
use Rattle.java_ast.specs.Tree.{PlainMethod, PlainProgram}
use Rattle.java_calls.specs.Inlining.{Made, AllMade, made_method, inlined_methods, inlined_within, expand_at}
use Rattle.java_calls.specs.ProgramNames.{names_of}
use Rattle.java_calls.specs.Renaming.{as_they_are}
use Rattle.java_calls.specs.Rules.{total_of, sum_of, most_statements, IsTooLarge}
use Rattle.inlining.specs.declared.counts.Counts.{Counts}
use Rattle.inlining.specs.Walked.{block_makes, IsPast, AreMade, IsPastAt, IsMethod}
use Rattle.inlining.proofs.Totals.{sum_appended}
use Rattle.inlining.proofs.Pushing.{Mapped, map_some}

abbrev pub ahead : List PlainMethod → AllMade → AllMade
ahead done all = record { methods = done ++ all.methods; taken = all.taken }

abbrev pub methods_make : PlainProgram → ℕ → List PlainMethod → ℕ → Option AllMade
methods_make p taken ms depth = inlined_methods (expand_at depth (names_of p) p.methods) taken ms

append_nothing : (xs : List PlainMethod) → xs ++ [] ≡ xs
append_nothing [] = refl
append_nothing (x ∷ xs) = ap (λ (l : List PlainMethod). x ∷ l) (append_nothing xs)

ahead_nothing : (o : Option AllMade) → option_map (ahead []) o ≡ o
ahead_nothing None = refl
ahead_nothing (Some all) = refl

ahead_both : (xs : List PlainMethod) (m : PlainMethod) (o : Option AllMade) → option_map (ahead xs) (option_map (λ (all : AllMade). record { methods = m ∷ all.methods; taken = all.taken }) o) ≡ option_map (ahead (xs ++ m ∷ [])) o
ahead_both xs m None = refl
ahead_both xs m (Some all) = ap (λ (l : List PlainMethod). Some (record { methods = l; taken = all.taken })) (sym (append_assoc xs (m ∷ []) all.methods))

-- what is made of all methods is what is made so far, and behind it what is made of the rest
pub record AreSoFar (room : ℕ) (p : PlainProgram) (i : ℕ) (rest : List PlainMethod) (counts : Counts) (done : List PlainMethod) : Type 0 where
  pub so : (depth : ℕ) → room ≤ depth → methods_make p 0 p.methods depth ≡ option_map (ahead done) (methods_make p counts.taken rest depth)
  pub spent : most_statements ≡ counts.left + sum_of done
  pub long : length done ≡ i

pub methods_none : (room : ℕ) (p : PlainProgram) (counts : Counts) → counts.taken ≡ 0 → counts.left ≡ most_statements → AreSoFar room p 0 p.methods counts []
methods_none room p counts none all =
    record {
      so = λ d le. sym (ahead_nothing (methods_make p 0 p.methods d)) ∙ ap (λ (k : ℕ). option_map (ahead []) (methods_make p k p.methods d)) (sym none);
      spent = omega arith;
      long = refl;
    }

long_one : (xs : List PlainMethod) (m : PlainMethod) (i : ℕ) → length xs ≡ i → length (xs ++ m ∷ []) ≡ i + 1
long_one [] m i h = omega (arith, h)
long_one (x ∷ xs) m zero h = absurd (omega (arith, h))
long_one (x ∷ xs) m (suc i) h = let ih : length (xs ++ m ∷ []) ≡ i + 1 = long_one xs m i (omega (arith, h)) in omega arith

pub methods_next : (room : ℕ) (p : PlainProgram) (i : ℕ) (m made : PlainMethod) (rest : List PlainMethod) (old new : Counts) (done : List PlainMethod)
    → AreSoFar room p i (m ∷ rest) old done → IsMethod room (block_makes p as_they_are old.taken m.body) m made old new → AreSoFar room p (i + 1) rest new (done ++ made ∷ [])
methods_next room p i m made rest old new done h n =
    let one : most_statements ≡ old.left + sum_of done = h.spent in
    let two : old.left ≡ new.left + total_of n.block = n.spent in
    let same : total_of made.body ≡ total_of n.block = ap (λ (x : PlainMethod). total_of x.body) n.is in
    let alone : sum_of (made ∷ []) ≡ total_of made.body = omega arith in
    record {
      so = λ d le.
          h.so d le
          ∙ ap (λ (o : Option Made). option_map (ahead done) (made_method m o (λ k. methods_make p k rest d))) (n.makes_it d le)
          ∙ ahead_both done (with_body m n.block) (methods_make p new.taken rest d)
          ∙ ap (λ (x : PlainMethod). option_map (ahead (done ++ x ∷ [])) (methods_make p new.taken rest d)) (sym n.is);
      spent = omega (arith, sum_appended done (made ∷ []));
      long = long_one done made i h.long;
    }

pub methods_all : (room : ℕ) (p : PlainProgram) (i : ℕ) (counts : Counts) (done : List PlainMethod) → AreSoFar room p i [] counts done → AreMade room p done
methods_all room p i counts done h =
    let spent : most_statements ≡ counts.left + sum_of done = h.spent in
    record {
      made = λ d le. ap (option_map (λ (all : AllMade). with_methods p all.methods)) (h.so d le) ∙ ap (λ (l : List PlainMethod). Some (with_methods p l)) (append_nothing done);
      small = omega arith;
    }

record MethodMade (m : PlainMethod) (o : Option Made) (f : ℕ → Option AllMade) (all : AllMade) : Type 0 where
  pub made : Made
  pub made_is : o ≡ Some made
  pub further : AllMade
  pub gives : with_body m made.block ∷ further.methods ≡ all.methods

method_some : (m : PlainMethod) (o : Option Made) (f : ℕ → Option AllMade) (all : AllMade) → made_method m o f ≡ Some all → MethodMade m o f all
method_some m None f all h = absurd cc
method_some m (Some made) f all h =
    let r : Mapped (λ (all : AllMade). record { methods = with_body m made.block ∷ all.methods; taken = all.taken }) (f made.taken) all = map_some (λ (all : AllMade). record { methods = with_body m made.block ∷ all.methods; taken = all.taken }) (f made.taken) all h in
    record { made = made; made_is = refl; further = r.from; gives = ap (λ (all : AllMade). all.methods) r.gives }

take_done : (xs ys : List PlainMethod) (i : ℕ) → length xs ≡ i → take i (xs ++ ys) ≡ xs
take_done [] [] zero h = refl
take_done [] (y ∷ ys) zero h = refl
take_done [] ys (suc i) h = absurd (omega (arith, h))
take_done (x ∷ xs) ys zero h = absurd (omega (arith, h))
take_done (x ∷ xs) ys (suc i) h = ap (λ (l : List PlainMethod). x ∷ l) (take_done xs ys i (omega (arith, h)))

at_drop : (xs rest : List PlainMethod) (i : ℕ) (m : PlainMethod) → drop i xs ≡ m ∷ rest → slice_get xs i ≡ Some m
at_drop [] rest zero m h = absurd cc
at_drop [] rest (suc i) m h = absurd cc
at_drop (x ∷ xs) rest zero m h = let same : x ≡ m = cc in ap Some same
at_drop (x ∷ xs) rest (suc i) m h = at_drop xs rest i m h

pub methods_past : (room : ℕ) (p : PlainProgram) (i : ℕ) (m : PlainMethod) (rest : List PlainMethod) (counts : Counts) (done : List PlainMethod) (at : Span)
    → drop i p.methods ≡ m ∷ rest → at ≡ m.span → AreSoFar room p i (m ∷ rest) counts done → IsPast room (block_makes p as_they_are counts.taken m.body) counts.left → IsPastAt room p at
methods_past room p i m rest counts done at is place h n = record { past = by }
  where
    by : (d : ℕ) → room ≤ d → (whole : PlainProgram) → inlined_within d p ≡ Some whole → IsTooLarge p at
    by d le whole e =
        let a : Mapped (λ (all : AllMade). with_methods p all.methods) (methods_make p 0 p.methods d) whole = map_some (λ (all : AllMade). with_methods p all.methods) (methods_make p 0 p.methods d) whole e in
        let b : Mapped (ahead done) (methods_make p counts.taken (m ∷ rest) d) a.from = map_some (ahead done) (methods_make p counts.taken (m ∷ rest) d) a.from (sym (h.so d le) ∙ a.is) in
        let t : MethodMade m (block_makes p as_they_are counts.taken m.body d) (λ k. methods_make p k rest d) b.from = method_some m (block_makes p as_they_are counts.taken m.body d) (λ k. methods_make p k rest d) b.from b.is in
        let lt : counts.left < total_of t.made.block = n.past d le t.made t.made_is in
        let spent : most_statements ≡ counts.left + sum_of done = h.spent in
        let here : PlainMethod = with_body m t.made.block in
        let listed : done ++ (with_body m t.made.block ∷ t.further.methods) ≡ whole.methods =
        ap (λ (l : List PlainMethod). done ++ l) t.gives ∙ ap (λ (all : AllMade). all.methods) b.gives ∙ ap (λ (q : PlainProgram). q.methods) a.gives in
        let first : take i whole.methods ≡ done = ap (take i) (sym listed) ∙ take_done done (with_body m t.made.block ∷ t.further.methods) i h.long in
        let l1 : length (done ++ with_body m t.made.block ∷ []) ≡ i + 1 = long_one done (with_body m t.made.block) i h.long in
        let second : take (suc i) whole.methods ≡ done ++ with_body m t.made.block ∷ [] =
        ap (take (suc i)) (sym listed ∙ sym (append_assoc done (with_body m t.made.block ∷ []) t.further.methods)) ∙ take_done (done ++ with_body m t.made.block ∷ []) t.further.methods (suc i) (omega arith) in
        let sum1 : sum_of (take i whole.methods) ≡ sum_of done = ap sum_of first in
        let sum2 : sum_of (take (suc i) whole.methods) ≡ sum_of (done ++ with_body m t.made.block ∷ []) = ap sum_of second in
        let sum3 : sum_of (done ++ with_body m t.made.block ∷ []) ≡ sum_of done + sum_of (with_body m t.made.block ∷ []) = sum_appended done (with_body m t.made.block ∷ []) in
        let sum4 : sum_of (with_body m t.made.block ∷ []) ≡ total_of t.made.block = omega arith in
        record {
          depth = d;
          whole = whole;
          inlined = e;
          i = i;
          method = m;
          there = at_drop p.methods rest i m is;
          before = omega arith;
          passed = omega arith;
          place = place;
        }
