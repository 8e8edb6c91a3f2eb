-- Fragments as plain records, which contracts and definitions speak of. Lists of rows, updates, atoms
-- and scalars are plain as the code declares them.
use Rattle.std.specs.Prelude.{ℕ, Bool, List, map}
use Rattle.std.specs.declared.option.Option.{Option}
use Rattle.std.specs.Option.{option_map}
use Rattle.qbs_base.specs.declared.scalar.Scalar.{Scalar}
use Rattle.qbs_base.specs.declared.scalar.Ty.{Ty}
use Rattle.tor_terms.specs.declared.term.Atom.{Atom}
use Rattle.tor_terms.specs.declared.term.Formula.{Formula}
use Rattle.tor_terms.specs.Plain.{Form, form_of, forms_of}
use Rattle.kernel_lang.specs.declared.parts.Acc.{Acc}
use Rattle.kernel_lang.specs.declared.parts.ListDef.{ListDef}
use Rattle.kernel_lang.specs.declared.parts.Update.{Update}

pub record Accumulator : Type 0 where
  pub chain : List ℕ
  pub base : ℕ
  pub guards : List (Option Form)
  pub update : Update
  pub start : Option Scalar
  pub opposite : Bool
  pub pool : List Form

pub record Fragment : Type 0 where
  pub lists : List ListDef
  pub atoms : List Atom
  pub accs : List Accumulator
  pub entries : List Ty
  pub known : ℕ

abbrev pub guard_of : Option Formula → Option Form
guard_of g = option_map form_of g

abbrev pub accumulator : Acc → Accumulator
accumulator a =
    record {
      chain = a.chain;
      base = a.base;
      guards = map guard_of a.guards;
      update = a.update;
      start = a.start;
      opposite = a.opposite;
      pool = forms_of a.pool;
    }

abbrev pub fragment : List ListDef → List Atom → List Acc → List Ty → ℕ → Fragment
fragment lists atoms accs entries known = record { lists = lists; atoms = atoms; accs = map accumulator accs; entries = entries; known = known }
