-- The class, made of its name and its methods.
use Rattle.std.proofs.Common.{◌≡◌, ℕ, List, [], ◌∷◌, false, codes, ap, ◌∙◌}
use Rattle.std.specs.declared.option.Option.TheVariants.{None}
use Rattle.java_ast.specs.Tree.{PlainMethod, PlainProgram}
use Rattle.sample.specs.Class.{evens, pairs, total, names, sample_program}

abbrev made : List (List ℕ) → List ℕ → List PlainMethod → PlainProgram
made imports name methods = record { «package» = None; imports = imports; public = false; name = name; methods = methods }

pub made_is : (imports : List (List ℕ)) (name : List ℕ) (methods : List PlainMethod) → imports ≡ [] → name ≡ codes "M" → methods ≡ evens ∷ pairs ∷ total ∷ names ∷ [] → made imports name methods ≡ sample_program
unfolding sample_program
made_is imports name methods i n m =
    ap (λ x. made x name methods) i
    ∙ ap (λ x. made [] x methods) n
    ∙ ap (λ x. made [] (codes "M") x) m
