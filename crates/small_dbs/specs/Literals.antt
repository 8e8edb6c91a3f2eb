-- The values of each type from which small databases are made: in ascending order, each once.
use Rattle.std.specs.Prelude.{if◌then◌else◌, ℤ, pos, ◌+ℤ◌, ◌-ℤ◌, List, [], ◌∷◌, ◌++◌, codes, true, false}
use Rattle.std.specs.List.{flat_map}
use Rattle.std.specs.declared.option.Option.{Option}
use Rattle.std.specs.declared.option.Option.TheVariants.{Some, None}
use Rattle.qbs_base.specs.declared.scalar.Scalar.{Scalar}
use Rattle.qbs_base.specs.declared.scalar.Scalar.TheVariants as scalars
use Rattle.qbs_base.specs.declared.scalar.Ty.{Ty}
use Rattle.qbs_base.specs.declared.scalar.Ty.TheVariants as tys
use Rattle.qbs_base.specs.Values.{fits_long}
use Rattle.tor_terms.specs.declared.term.Atom.{Atom}
use Rattle.tor_terms.specs.declared.term.Atom.TheVariants as atoms
use Rattle.tor_terms.specs.declared.term.Operand.{Operand}
use Rattle.tor_terms.specs.declared.term.Operand.TheVariants as operands
use Rattle.kernel_lang.specs.Plain.{Accumulator, Fragment}
use Rattle.kernel_steps.specs.Put.{put}

abbrev pub operand_literals : Operand → List Scalar
operand_literals (operands.Lit x) = x ∷ []
operand_literals _ = []

abbrev pub atom_literals : Atom → List Scalar
atom_literals (atoms.Less a b) = operand_literals a ++ operand_literals b
atom_literals (atoms.Same a b) = operand_literals a ++ operand_literals b
atom_literals (atoms.Truth a) = operand_literals a
atom_literals (atoms.Member a q) = operand_literals a
atom_literals (atoms.Flag k loops) = []

abbrev pub start_literals : Option Scalar → List Scalar
start_literals None = []
start_literals (Some x) = x ∷ []

-- those of the atoms, and those with which accumulators start
abbrev pub literals_of_atoms : List Atom → List Scalar
literals_of_atoms tests = flat_map atom_literals tests

abbrev pub literals_of_starts : List Accumulator → List Scalar
literals_of_starts accs = flat_map (λ (a : Accumulator). start_literals a.start) accs

abbrev pub long_within : ℤ → List Scalar
long_within n = if fits_long n then scalars.Long n ∷ [] else []

-- a number, the one before and the one behind, as far as they have 64 bits
abbrev pub near : Scalar → List Scalar
near (scalars.Long n) = long_within (n -ℤ pos 1) ++ (long_within n ++ long_within (n +ℤ pos 1))
near _ = []

abbrev pub texts_of : Scalar → List Scalar
texts_of (scalars.Text t) = scalars.Text t ∷ []
texts_of _ = []

-- the values of a type that a literal gives
abbrev pub given_by : Ty → Scalar → List Scalar
given_by tys.Long x = near x
given_by tys.Bool x = []
given_by tys.Text x = texts_of x

abbrev pub put_all : List Scalar → List Scalar → List Scalar
put_all [] ys = ys
put_all (x ∷ xs) ys = put_all xs (put x ys)

-- others with those of a type that literals give
abbrev pub put_given : Ty → List Scalar → List Scalar → List Scalar
put_given ty literals ys = put_all (flat_map (given_by ty) literals) ys

-- 0, 1 and what is near a literal; the empty text, `a` and the texts of the atoms; false and true
abbrev pub candidates : Fragment → Ty → List Scalar
candidates f tys.Long = scalars.Long (pos 0) ∷ scalars.Long (pos 1) ∷ flat_map near (literals_of_atoms f.atoms ++ literals_of_starts f.accs)
candidates f tys.Bool = scalars.Bool false ∷ scalars.Bool true ∷ []
candidates f tys.Text = scalars.Text [] ∷ scalars.Text (codes "a") ∷ flat_map texts_of (literals_of_atoms f.atoms)

-- the values of a type
abbrev pub values : Fragment → Ty → List Scalar
values f ty = put_all (candidates f ty) []
