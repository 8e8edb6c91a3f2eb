-- The methods of a program, walked one after the other, and what is answered of them.
use Rattle.std.proofs.Common.{◌≡◌, ℕ, zero, suc, ◌+◌, ◌<◌, ◌≤◌, List, [], ◌∷◌, ◌++◌, Option, Some, None, Box, map, drop, length, get_or, refl, sym, ap, ◌∙◌, subst, arith}
use Rattle.std.specs.declared.alloc.Global.{Global}
use Rattle.std.proofs.lemmas.List.{map-append}
use Rattle.qbs_base.specs.declared.span.Span.{Span}
use Rattle.java_ast.specs.declared.tree.Method.{Method}
use Rattle.java_ast.specs.declared.tree.Program.{Program}
use Rattle.java_ast.specs.Path.{with_methods}
use Rattle.java_ast.specs.Reading.{method, program}
use Rattle.java_ast.specs.Tree.{PlainMethod, PlainProgram}
use Rattle.java_calls.specs.Renaming.{as_they_are}
use Rattle.java_calls.specs.Rules.{sum_of, most_statements, BreaksNone, IsTooLarge}
use Rattle.call_rules.specs.declared.rule.HelperFault.{HelperFault}
use Rattle.call_rules.specs.Faults.{IsFound}
use Rattle.call_rules.proofs.Numbers.{drop_item}
use Rattle.inlining.specs.declared.counts.Counts.{Counts}
use Rattle.inlining.specs.declared.inlined.Bodies.{Bodies}
use Rattle.inlining.specs.declared.inlined.Bodies.TheVariants as bodies
use Rattle.inlining.specs.Inlined.{IsWhole}
use Rattle.inlining.specs.Walked.{block_makes, IsMethodOf, AreMade, IsPastAt, IsBodies, most_open}
use Rattle.inlining.proofs.Arms.{method_none, method_some}
use Rattle.inlining.proofs.Methods.{AreSoFar, methods_none, methods_next, methods_past}
use Rattle.inlining.proofs.There.{IsDeep, program_deep}

drop_map : (xs : List Method) (i : ℕ) → drop i (map method xs) ≡ map method (drop i xs)
drop_map [] zero = refl
drop_map [] (suc i) = refl
drop_map (x ∷ xs) zero = refl
drop_map (x ∷ xs) (suc i) = drop_map xs i

pub listed_none : (room : ℕ) (p : Program) (all : List Method) → all ≡ [] → AreSoFar room (program p) 0 (map method p.methods) (record { taken = 0; left = most_statements; deep = 64 }) (map method all)
listed_none room p all none =
    subst (λ (l : List Method). AreSoFar room (program p) 0 (map method p.methods) (record { taken = 0; left = most_statements; deep = 64 }) (map method l)) (sym none)
    (methods_none room (program p) (record { taken = 0; left = most_statements; deep = 64 }) refl refl)

module _ (room : ℕ) (p q : Program) (same : q ≡ p) (i : ℕ) (m : Method) (old new : Counts) (all : List Method) (lt : i < length p.methods) (is : m ≡ get_or p.methods i m)
    (h : AreSoFar room (program p) i (map method (drop i p.methods)) old (map method all)) (o : Option (Box Method Global)) (n : IsMethodOf o room (block_makes (program q) as_they_are old.taken (method m).body) (method m) old new) where
  so : AreSoFar room (program p) i (method m ∷ map method (drop (i + 1) p.methods)) old (map method all)
  so = subst (λ (l : List Method). AreSoFar room (program p) i (map method l) old (map method all)) (drop_item p.methods i m lt is) h

  here : IsMethodOf o room (block_makes (program p) as_they_are old.taken (method m).body) (method m) old new
  here = subst (λ (r : Program). IsMethodOf o room (block_makes (program r) as_they_are old.taken (method m).body) (method m) old new) same n

  pub listed_past : o ≡ None → IsPastAt room (program p) m.span
  listed_past none =
      methods_past room (program p) i (method m) (map method (drop (i + 1) p.methods)) old (map method all) m.span
      (drop_map p.methods i ∙ ap (map method) (drop_item p.methods i m lt is)) refl so
      (method_none o room (block_makes (program p) as_they_are old.taken (method m).body) (method m) old new none here)

  pub listed_next : (b : Box Method Global) (x : Method) (more : List Method) → o ≡ Some b → more ≡ all ++ x ∷ [] → x ≡ b.value → AreSoFar room (program p) (i + 1) (map method (drop (i + 1) p.methods)) new (map method more)
  listed_next b x more some longer item =
      subst (λ (l : List PlainMethod). AreSoFar room (program p) (i + 1) (map method (drop (i + 1) p.methods)) new l)
      (sym (ap (map method) longer ∙ map-append method all (x ∷ []) ∙ ap (λ (y : Method). map method all ++ method y ∷ []) item))
      (methods_next room (program p) i (method m) (method b.value) (map method (drop (i + 1) p.methods)) old new (map method all) so
      (method_some o b room (block_makes (program p) as_they_are old.taken (method m).body) (method m) old new some here))

-- ---- Answers

found_none : (p : PlainProgram) (o : Option HelperFault) → o ≡ None → IsFound p o → IsFound p None
found_none p o none h = subst (λ (o : Option HelperFault). IsFound p o) none h

pub too_large : (p : PlainProgram) (o : Option HelperFault) (b : Bodies) (at : Span) → o ≡ None → IsFound p o → b ≡ bodies.TooLarge at → IsBodies b p → IsTooLarge p at × BreaksNone p
too_large p o b at none h is i =
    let found : IsFound p None = found_none p o none h in
    let past : IsPastAt most_open p at = subst (λ (b : Bodies). IsBodies b p) is i in
    let deep : IsDeep most_open p = program_deep p found.0 found.1 most_open in
    (past.past deep.depth deep.high deep.whole deep.is, found.0)

pub whole_is : (p : PlainProgram) (o : Option HelperFault) (b : Bodies) (ms : List Method) (q : PlainProgram) → o ≡ None → IsFound p o → b ≡ bodies.Whole ms → IsBodies b p → q ≡ with_methods p (map method ms) → IsWhole p q
whole_is p o b ms q none h is i same =
    let found : IsFound p None = found_none p o none h in
    let made : AreMade most_open p (map method ms) = subst (λ (b : Bodies). IsBodies b p) is i in
    record {
      inlined = (most_open, made.made most_open (omega arith) ∙ ap (λ (r : PlainProgram). Some r) (sym same));
      rules = found.0;
      small = subst (λ (r : PlainProgram). sum_of r.methods ≤ most_statements) (sym same) made.small;
    }
