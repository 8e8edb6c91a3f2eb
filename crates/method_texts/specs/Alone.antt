-- A program with one method, whose canonical text is that method between two lines.
use Rattle.std.specs.Prelude.{◌≡◌, ℕ, List, [], ◌∷◌, ◌++◌, false, codes}
use Rattle.std.specs.declared.option.Option.TheVariants.{None}
use Rattle.java_ast.specs.Tree.{PlainMethod, PlainProgram}
use Rattle.java_text.specs.Canonical.{line_end, indent}

abbrev pub alone : PlainMethod → PlainProgram
alone m = record { «package» = None; imports = []; public = false; name = codes "C"; methods = m ∷ [] }

-- what stands in its text before the method, and behind it
abbrev pub opening : List ℕ
opening = codes "class C {" ++ line_end ++ indent

abbrev pub closing : List ℕ
closing = line_end ++ codes "}" ++ line_end

abbrev pub Encloses : List ℕ → List ℕ → Type 0
Encloses text inner = text ≡ opening ++ (inner ++ closing)
