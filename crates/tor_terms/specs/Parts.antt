-- Terms by how many parts they have.
use Rattle.std.specs.Prelude.{List}
use Rattle.std.specs.declared.option.Option.{Option}
use Rattle.tor_terms.specs.declared.env.Env.{Env}
use Rattle.tor_terms.specs.declared.eval_found.Found.{Found}
use Rattle.tor_terms.specs.declared.term.Atom.{Atom}
use Rattle.tor_terms.specs.Plain.{Tree, Top, Cat, Join, Sel, Proj, Uniq, Insert, Count, Sum, Any, Best, Pick, Add, Or}
use Rattle.tor_terms.specs.Fits.{has_whole}
use Rattle.tor_terms.specs.Evaluation.{join_found, sel_found, proj_found, uniq_found, count_found, sum_found, any_found, best_found, pick_found, add_found, or_found}

-- a tree as another with one child alone, over this child
abbrev pub over_tree : Tree → Tree → Tree
over_tree (Top index _) r = Top index r
over_tree (Proj e _) r = Proj e r
over_tree (Uniq _) r = Uniq r
over_tree (Insert _ e) r = Insert r e
over_tree (Count _) r = Count r
over_tree (Sum _) r = Sum r
over_tree _ r = Any r

-- a tree as another with two children, over these
abbrev pub over_trees : Tree → Tree → Tree → Tree
over_trees (Cat _ _) r s = Cat r s
over_trees (Join _ _) r s = Join r s
over_trees (Best way _ _) r s = Best way r s
over_trees (Pick way _ _) r s = Pick way r s
over_trees (Add _ _) r s = Add r s
over_trees _ r s = Or r s

-- a term with one part, from what this is found to be
abbrev pub of_part : Env → List Atom → Tree → Option Found → Option Found
of_part env atoms (Sel fs _) o = sel_found env atoms fs o
of_part env atoms (Proj e _) o = proj_found env e o
of_part env atoms (Uniq _) o = uniq_found o
of_part env atoms (Count _) o = count_found o
of_part env atoms (Sum r) o = sum_found (has_whole r) o
of_part env atoms _ o = any_found o

-- a term with two parts, from what these are found to be
abbrev pub of_parts : Tree → Option Found → Option Found → Option Found
of_parts (Join _ _) o p = join_found o p
of_parts (Best way _ r) o p = best_found way (has_whole r) o p
of_parts (Pick way _ _) o p = pick_found way o p
of_parts (Add _ _) o p = add_found o p
of_parts _ o p = or_found o p
