-- The conditions of a candidate: what has to hold at each level of each accumulator's loops, so that what
-- is claimed of its first turns is so at entry, stays so in a turn, and says at exit what is claimed of all.
use Rattle.std.specs.Prelude.{ℕ, ◌+◌, Bool, true, false, List, [], ◌∷◌, ◌++◌, map, length}
use Rattle.std.specs.List.{flat_map}
use Rattle.tor_terms.specs.declared.term.Atom.{Atom}
use Rattle.tor_terms.specs.declared.term.Index.TheVariants.{Zero, At, Next, Len}
use Rattle.tor_terms.specs.Plain.{Form, Tree, Hold}
use Rattle.tor_axioms.specs.declared.derivation.Vc.{Vc}
use Rattle.tor_axioms.specs.declared.facts.Literal.{Literal}
use Rattle.tor_axioms.specs.Accepts.{Claim, claim_of}
use Rattle.tor_axioms.specs.Decide.{literal}
use Rattle.kernel_lang.specs.declared.parts.Update.{Update}
use Rattle.kernel_lang.specs.Paths.{Path, each_with, guard_paths}
use Rattle.kernel_lang.specs.Plain.{Fragment}
use Rattle.kernel_lang.specs.Pools.{Member, members}
use Rattle.kernel_lang.specs.Postcondition.{loops_of, start_term, whole, part}
use Rattle.kernel_lang.specs.Running.{Layer, outside, inside}

-- a path as facts
abbrev pub fact : ℕ × Bool → Literal
fact x = literal x.0 x.1

abbrev pub facts_of : Path → List Literal
facts_of p = map fact p

-- two terms are to have one value where the path's atoms have their truth
abbrev pub claim : List Atom → Path → Tree → Tree → Claim
claim atoms p l r = record { atoms = atoms; facts = facts_of p; left = l; right = r }

-- one for each of the paths, each behind F
abbrev pub by_paths : List Atom → Path → Tree → Tree → List Path → List Claim
by_paths atoms F l r [] = []
by_paths atoms F l r (p ∷ ps) = claim atoms (F ++ p) l r ∷ by_paths atoms F l r ps

-- At a level, `outer` are the loops round it, w is what the accumulator has at entry, y is the level's own
-- layer, ys are those inside, and F is a way through the guards round it.

-- before its first turn nothing has changed
abbrev pub entry : List Atom → Update → List Form → List ℕ → Tree → Layer → List Layer → Path → Claim
entry atoms u fs outer w y ys F = claim atoms F (part u fs outer w y ys Zero) w

-- a turn in which the guard holds does what is inside to what was before it
abbrev pub true_steps : List Atom → Update → List Form → List ℕ → Tree → Layer → List Layer → Path → List Claim
true_steps atoms u fs outer w y ys F =
    by_paths atoms F (part u fs outer w y ys (Next y.over)) (whole u fs (outer ++ y.over ∷ []) (part u fs outer w y ys (At y.over)) ys) (guard_paths y.guard true)

-- a turn in which it doesn't hold changes nothing
abbrev pub false_steps : List Atom → Update → List Form → List ℕ → Tree → Layer → List Layer → Path → List Claim
false_steps atoms u fs outer w y ys F = by_paths atoms F (part u fs outer w y ys (Next y.over)) (part u fs outer w y ys (At y.over)) (guard_paths y.guard false)

-- after its last turn all is done
abbrev pub exit : List Atom → Update → List Form → List ℕ → Tree → Layer → List Layer → Path → Claim
exit atoms u fs outer w y ys F = claim atoms F (part u fs outer w y ys (Len y.over)) (whole u fs outer w (y ∷ ys))

abbrev pub at_level : List Atom → Update → List Form → List ℕ → Tree → Layer → List Layer → Path → List Claim
at_level atoms u fs outer w y ys F = entry atoms u fs outer w y ys F ∷ (true_steps atoms u fs outer w y ys F ++ (false_steps atoms u fs outer w y ys F ++ exit atoms u fs outer w y ys F ∷ []))

-- once for each way through the guards round the level
abbrev pub level : List Atom → Update → List Form → List ℕ → List Path → Tree → Layer → List Layer → List Claim
level atoms u fs outer Fs w y ys = flat_map (at_level atoms u fs outer w y ys) Fs

-- of these layers and those inside: a level inside another begins with what it holds, by the level's number
abbrev pub conditions_in : List Atom → Update → List Form → List ℕ → List Path → Tree → List Layer → List Claim
conditions_in atoms u fs outer Fs w [] = []
conditions_in atoms u fs outer Fs w (y ∷ ys) =
    level atoms u fs outer Fs w y ys ++ conditions_in atoms u fs (outer ++ y.over ∷ []) (each_with Fs (guard_paths y.guard true)) (Hold (length outer + 2)) ys

-- the ways of Fs, each followed by a way through the guards of these layers
abbrev pub ways_through : List Path → List Layer → List Path
ways_through Fs [] = Fs
ways_through Fs (y ∷ ys) = ways_through (each_with Fs (guard_paths y.guard true)) ys

-- of an accumulator with its choice: of the levels inside its declaration
abbrev pub own_conditions : List Atom → Member → List Claim
own_conditions atoms m =
    conditions_in atoms m.0.update m.1 (loops_of (outside m.0)) (ways_through ([] ∷ []) (outside m.0)) (start_term m.0.start) (inside m.0)

abbrev pub all_conditions : List Atom → List Member → List Claim
all_conditions atoms [] = []
all_conditions atoms (m ∷ ms) = own_conditions atoms m ++ all_conditions atoms ms

-- the conditions of a fragment and a candidate
abbrev pub conditions : Fragment → List ℕ → List Claim
conditions f c = all_conditions f.atoms (members f c)

-- conditions with plain terms
abbrev pub claims_of : List Vc → List Claim
claims_of vcs = map claim_of vcs
