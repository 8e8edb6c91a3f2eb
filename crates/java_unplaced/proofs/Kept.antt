-- Programs that are equal but for places keep each other.
use Rattle.std.specs.Prelude.{ℕ, List, [], ◌∷◌, Option, Result, Ok, Err}
use Rattle.std.proofs.Common.{◌≡◌, refl, sym, ap, ◌∙◌}
use Rattle.qbs_base.specs.declared.scalar.Scalar.{Scalar}
use Rattle.qbs_base.specs.declared.scalar.Value.{Value}
use Rattle.qbs_base.specs.Values.{Schema}
use Rattle.java_ast.specs.Tree.{PlainMethod, PlainProgram}
use Rattle.java_ast.specs.Unplaced.{unplaced_method, unplaced_methods, unplaced_program}
use Rattle.java_mean.specs.declared.ending.Ending.{Ending}
use Rattle.java_mean.specs.declared.ending.Ending.TheVariants as endings
use Rattle.java_mean.specs.Keeps.{KeepsMethod, KeepsMethods, Keeps}
use Rattle.java_mean.specs.Outcome.{Outcome, Done, Faulted, OutOfTurns, Stuck, start, finished, outcome, world}
use Rattle.java_mean.specs.Statement.{Passed, GoesOn, Leaves, Returns, meanings}
use Rattle.java_mean.specs.World.{World}
use Rattle.java_unplaced.specs.Outcomes.{outcome_nowhere}
use Rattle.java_unplaced.proofs.Bare.{bare, meanings_bare}

finished_bare : (r : Result Passed Ending) → finished (bare r) ≡ outcome_nowhere (finished r)
finished_bare (Ok (GoesOn s)) = refl
finished_bare (Ok (Leaves s)) = refl
finished_bare (Ok (Returns s v)) = refl
finished_bare (Err (endings.Faulted fault at)) = refl
finished_bare (Err endings.OutOfTurns) = refl
finished_bare (Err endings.Stuck) = refl

method_bare : (w : World) (m : PlainMethod) (args : List Scalar) (n : ℕ) → outcome w (unplaced_method m) args n ≡ outcome_nowhere (outcome w m args n)
method_bare w m args n = ap finished (meanings_bare m.body w (start m args n)) ∙ finished_bare (meanings m.body w (start m args n))

pub outcomes_alike : (w : World) (m m' : PlainMethod) (args : List Scalar) (n : ℕ) → unplaced_method m ≡ unplaced_method m' → outcome_nowhere (outcome w m args n) ≡ outcome_nowhere (outcome w m' args n)
outcomes_alike w m m' args n e = sym (method_bare w m args n) ∙ (ap (λ (x : PlainMethod). outcome w x args n) e ∙ method_bare w m' args n)

-- what is done with its place left aside is done
done_back : (o : Outcome) (lines : List (List ℕ)) (value : Option Value) → outcome_nowhere o ≡ Done lines value → o ≡ Done lines value
done_back (Done ls v) lines value e = e
done_back (Faulted fault at) lines value e = absurd cc
done_back OutOfTurns lines value e = absurd cc
done_back Stuck lines value e = absurd cc

method_kept : (schema : Schema) (m m' : PlainMethod) → unplaced_method m ≡ unplaced_method m' → KeepsMethod schema m m'
method_kept schema m m' e = record {
  name = ap (λ (x : PlainMethod). x.name) e;
  params = ap (λ (x : PlainMethod). x.params) e;
  result = ap (λ (x : PlainMethod). x.result) e;
  done = λ reader db is args fit n lines value has.
      done_back (outcome (world schema reader db) m' args n) lines value (sym (outcomes_alike (world schema reader db) m m' args n e) ∙ ap outcome_nowhere has);
}

methods_kept : (schema : Schema) (ms ns : List PlainMethod) → unplaced_methods ms ≡ unplaced_methods ns → KeepsMethods schema ms ns
methods_kept schema [] [] e = tt
methods_kept schema [] (n ∷ ns) e = absurd cc
methods_kept schema (m ∷ ms) [] e = absurd cc
methods_kept schema (m ∷ ms) (n ∷ ns) e =
    let first : unplaced_method m ≡ unplaced_method n = cc in
    let rest : unplaced_methods ms ≡ unplaced_methods ns = cc in
    (method_kept schema m n first, methods_kept schema ms ns rest)

pub keep_alike : (schema : Schema) (p q : PlainProgram) → unplaced_program p ≡ unplaced_program q → Keeps p q schema
keep_alike schema p q e = methods_kept schema p.methods q.methods (ap (λ (x : PlainProgram). x.methods) e)
