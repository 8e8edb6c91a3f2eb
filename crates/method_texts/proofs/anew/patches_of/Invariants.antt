use Rattle.std.proofs.Common.{◌≡◌, ◌++◌, drop, map}
use Rattle.java_ast.specs.Reading.{method}
use Rattle.method_texts.specs.Anew.{methods_anew}
use Rattle.method_texts.proofs.anew.patches_of.Given as goal

-- what was made and what is left are all
abbrev pub invariant-loop-m : goal.invariant-loop-m
invariant-loop-m l = l.patches ++ methods_anew (map method (drop l.m-index l.methods)) (map method l.rest) ≡ methods_anew (map method l.methods) (map method l.others)
