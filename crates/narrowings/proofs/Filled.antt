-- A program with other statements at a place is of the grammar and can be written, where these are and can.
use Rattle.std.proofs.Common.{List, [], ◌∷◌, ◌++◌}
use Rattle.java_ast.specs.Path.{with_body, with_methods}
use Rattle.java_ast.specs.Tree.{Statements, Nothing, Then, PlainMethod, PlainProgram}
use Rattle.java_grammar.specs.InGrammar.{InStatements, InMethods, IsInGrammar}
use Rattle.java_grammar.specs.Written.{WrittenStatements, WrittenMethods, IsWritten}
use Rattle.java_mean.specs.Refines.{Hole, Here, Past, InIf, InThen, InElse, InEach, InWhile, fill, followed_by}

-- ---- Of the grammar

first_in : (p q : Statements) → InStatements (followed_by p q) → InStatements p
first_in Nothing q h = tt
first_in (Then a p) q h = (h.0, first_in p q h.1)

rest_in : (p q : Statements) → InStatements (followed_by p q) → InStatements q
rest_in Nothing q h = h
rest_in (Then a p) q h = rest_in p q h.1

both_in : (p q : Statements) → InStatements p → InStatements q → InStatements (followed_by p q)
both_in Nothing q h k = k
both_in (Then a p) q h k = (h.0, both_in p q h.1 k)

filled_in : (hole : Hole) (old new : Statements) → (InStatements old → InStatements new) → InStatements (fill hole old) → InStatements (fill hole new)
filled_in (Here q) old new f h = both_in new q (f (first_in old q h)) (rest_in old q h)
filled_in (Past a k) old new f h = (h.0, filled_in k old new f h.1)
filled_in (InIf at e k q) old new f h = ((h.0.0, filled_in k old new f h.0.1), h.1)
filled_in (InThen at e k b q) old new f h = ((h.0.0, filled_in k old new f h.0.1, h.0.2), h.1)
filled_in (InElse at e a k q) old new f h = ((h.0.0, h.0.1, filled_in k old new f h.0.2), h.1)
filled_in (InEach at ty x e k q) old new f h = ((h.0.0, h.0.1, h.0.2, filled_in k old new f h.0.3), h.1)
filled_in (InWhile at e k q) old new f h = ((h.0.0, filled_in k old new f h.0.1), h.1)

methods_in : (before after : List PlainMethod) (m : PlainMethod) (old new : Statements) → (InStatements old → InStatements new) → InMethods (before ++ with_body m old ∷ after) → InMethods (before ++ with_body m new ∷ after)
methods_in [] after m old new f h = (record { result = h.0.result; name = h.0.name; params = h.0.params; body = f h.0.body }, h.1)
methods_in (k ∷ before) after m old new f h = (h.0, methods_in before after m old new f h.1)

pub program_in : (p : PlainProgram) (before after : List PlainMethod) (m : PlainMethod) (hole : Hole) (old new : Statements) → (InStatements old → InStatements new) → IsInGrammar (with_methods p (before ++ with_body m (fill hole old) ∷ after)) → IsInGrammar (with_methods p (before ++ with_body m (fill hole new) ∷ after))
program_in p before after m hole old new f h = record { «package» = h.«package»; imports = h.imports; name = h.name; methods = methods_in before after m (fill hole old) (fill hole new) (filled_in hole old new f) h.methods }

-- ---- Written

first_written : (p q : Statements) → WrittenStatements (followed_by p q) → WrittenStatements p
first_written Nothing q h = tt
first_written (Then a p) q h = (h.0, first_written p q h.1)

rest_written : (p q : Statements) → WrittenStatements (followed_by p q) → WrittenStatements q
rest_written Nothing q h = h
rest_written (Then a p) q h = rest_written p q h.1

both_written : (p q : Statements) → WrittenStatements p → WrittenStatements q → WrittenStatements (followed_by p q)
both_written Nothing q h k = k
both_written (Then a p) q h k = (h.0, both_written p q h.1 k)

filled_written : (hole : Hole) (old new : Statements) → (WrittenStatements old → WrittenStatements new) → WrittenStatements (fill hole old) → WrittenStatements (fill hole new)
filled_written (Here q) old new f h = both_written new q (f (first_written old q h)) (rest_written old q h)
filled_written (Past a k) old new f h = (h.0, filled_written k old new f h.1)
filled_written (InIf at e k q) old new f h = ((h.0.0, filled_written k old new f h.0.1), h.1)
filled_written (InThen at e k b q) old new f h = ((h.0.0, filled_written k old new f h.0.1, h.0.2), h.1)
filled_written (InElse at e a k q) old new f h = ((h.0.0, h.0.1, filled_written k old new f h.0.2), h.1)
filled_written (InEach at ty x e k q) old new f h = ((h.0.0, h.0.1, h.0.2, filled_written k old new f h.0.3), h.1)
filled_written (InWhile at e k q) old new f h = ((h.0.0, filled_written k old new f h.0.1), h.1)

methods_written : (before after : List PlainMethod) (m : PlainMethod) (old new : Statements) → (WrittenStatements old → WrittenStatements new) → WrittenMethods (before ++ with_body m old ∷ after) → WrittenMethods (before ++ with_body m new ∷ after)
methods_written [] after m old new f h = ((h.0.0, h.0.1, h.0.2, f h.0.3), h.1)
methods_written (k ∷ before) after m old new f h = (h.0, methods_written before after m old new f h.1)

pub program_written : (p : PlainProgram) (before after : List PlainMethod) (m : PlainMethod) (hole : Hole) (old new : Statements) → (WrittenStatements old → WrittenStatements new) → IsWritten (with_methods p (before ++ with_body m (fill hole old) ∷ after)) → IsWritten (with_methods p (before ++ with_body m (fill hole new) ∷ after))
program_written p before after m hole old new f h = record { «package» = h.«package»; imports = h.imports; name = h.name; methods = methods_written before after m (fill hole old) (fill hole new) (filled_written hole old new f) h.methods }
