-- Keeping is reflexive and transitive, and follows from methods that are done alike.
use Rattle.std.proofs.Common.{List, [], ◌∷◌, ◌++◌, refl, ◌∙◌, subst}
use Rattle.qbs_base.specs.Values.{Schema}
use Rattle.java_ast.specs.Tree.{PlainParam, PlainMethod, PlainProgram, Statements}
use Rattle.java_ast.specs.Path.{with_body, with_methods}
use Rattle.java_mean.specs.Types.{AreArguments}
use Rattle.java_mean.specs.Keeps.{IsDoneAlike, KeepsMethod, KeepsMethods, Keeps}

method_kept : (schema : Schema) (m : PlainMethod) → KeepsMethod schema m m
method_kept schema m = record { name = refl; params = refl; result = refl; done = λ reader db d args a n lines value e. e }

pub methods_kept : (schema : Schema) (ms : List PlainMethod) → KeepsMethods schema ms ms
methods_kept schema [] = tt
methods_kept schema (m ∷ ms) = (method_kept schema m, methods_kept schema ms)

method_through : (schema : Schema) (l m n : PlainMethod) → KeepsMethod schema l m → KeepsMethod schema m n → KeepsMethod schema l n
method_through schema l m n h k =
    record {
      name = h.name ∙ k.name;
      params = h.params ∙ k.params;
      result = h.result ∙ k.result;
      done = λ reader db d args a t lines value e. k.done reader db d args (subst (λ (ps : List PlainParam). AreArguments schema ps args) h.params a) t lines value (h.done reader db d args a t lines value e);
    }

pub methods_through : (schema : Schema) (ls ms ns : List PlainMethod) → KeepsMethods schema ls ms → KeepsMethods schema ms ns → KeepsMethods schema ls ns
methods_through schema [] [] [] h k = tt
methods_through schema [] [] (n ∷ ns) h k = absurd k
methods_through schema [] (m ∷ ms) ns h k = absurd h
methods_through schema (l ∷ ls) [] ns h k = absurd h
methods_through schema (l ∷ ls) (m ∷ ms) [] h k = absurd k
methods_through schema (l ∷ ls) (m ∷ ms) (n ∷ ns) h k = (method_through schema l m n h.0 k.0, methods_through schema ls ms ns h.1 k.1)

pub keeps_itself : (schema : Schema) (p : PlainProgram) → Keeps p p schema
keeps_itself schema p = methods_kept schema p.methods

pub keeps_through : (schema : Schema) (p q r : PlainProgram) → Keeps p q schema → Keeps q r schema → Keeps p r schema
keeps_through schema p q r h k = methods_through schema p.methods q.methods r.methods h k

methods_replaced : (schema : Schema) (before after : List PlainMethod) (m : PlainMethod) (body : Statements) → IsDoneAlike schema m (with_body m body) → KeepsMethods schema (before ++ m ∷ after) (before ++ with_body m body ∷ after)
methods_replaced schema [] after m body h = (record { name = refl; params = refl; result = refl; done = h }, methods_kept schema after)
methods_replaced schema (n ∷ before) after m body h = (method_kept schema n, methods_replaced schema before after m body h)

pub keeps_replaced : (schema : Schema) (p : PlainProgram) (before after : List PlainMethod) (m : PlainMethod) (body : Statements) → IsDoneAlike schema m (with_body m body) → Keeps (with_methods p (before ++ m ∷ after)) (with_methods p (before ++ with_body m body ∷ after)) schema
keeps_replaced schema p before after m body h = methods_replaced schema before after m body h
