-- K9: what accumulators and flags start with.
use Rattle.std.specs.Prelude.{ℕ, suc, Bool, true, false, not, ◌&&◌, List, [], ◌∷◌, if◌then◌else◌}
use Rattle.std.specs.List.{filter, list_any}
use Rattle.std.specs.declared.option.Option.{Option}
use Rattle.std.specs.declared.option.Option.TheVariants.{Some, None}
use Rattle.qbs_base.specs.Scalar.{scalar_same}
use Rattle.qbs_base.specs.declared.scalar.Scalar.{Scalar}
use Rattle.qbs_base.specs.declared.scalar.Scalar.TheVariants as scalars
use Rattle.qbs_base.specs.declared.span.Span.{Span}
use Rattle.java_ast.specs.Tree.{Expression, Statement, Statements, Nothing, Then}
use Rattle.java_ast.specs.Tree as plain
use Rattle.loop_text.specs.Statements.Fragment.{is_name}
use Rattle.loop_text.specs.Kernel.KernelForms.{Form, adds, counts, sums, takes, marks, other, form_of}
use Rattle.loop_text.specs.Kernel.KernelStatements.{is_none, updates_local}
use Rattle.java_ast.specs.Names.{Names}
use Rattle.loop_text.specs.Statements.Setting.{touches, first_touching, given_by, is_literal_number, is_found}
use Rattle.loop_text.specs.Sites.Sites.{Site, target_of, place_of, place_where, first_place}

-- ---- The updates of accumulators and flags

-- the first site that passes a test, and its number
pub record Numbered : Type 0 where
  pub number : ℕ
  pub site : Site

abbrev pub first_site : (ℕ → Site → Bool) → ℕ → List Site → Option Numbered
first_site test n [] = None
first_site test n (s ∷ ss) = if test n s then Some (record { number = n; site = s }) else first_site test (suc n) ss

-- the update of an accumulator
abbrev pub updates_name : List ℕ → ℕ → Site → Bool
updates_name x n s = is_name (target_of s.statement) x

abbrev pub update_of : List Site → List ℕ → Option Numbered
update_of sites x = first_site (updates_name x) 0 sites

-- the update of the flag that is declared at this number
abbrev pub update_of_flag : List Site → ℕ → Option Numbered
update_of_flag sites d = first_site (updates_local sites d) 0 sites

abbrev pub form_found : List Site → Option Numbered → Form
form_found sites (Some u) = form_of sites u.number u.site.statement
form_found sites None = other

-- ---- Starts

abbrev pub is_empty_collection : Expression → Bool
is_empty_collection (plain.NewList at) = true
is_empty_collection (plain.NewSet at) = true
is_empty_collection _ = false

abbrev pub is_long : Scalar → Bool
is_long (scalars.Long n) = true
is_long _ = false

abbrev pub is_integer : Expression → Bool
is_integer (plain.Lit at value) = is_long value
is_integer _ = false

abbrev pub is_truth_of : Bool → Expression → Bool
is_truth_of b (plain.Lit at value) = scalar_same value (scalars.Bool b)
is_truth_of b _ = false

-- a value with which an update of this form may start
abbrev pub may_start : Form → Expression → Bool
may_start (adds t) e = is_empty_collection e
may_start counts e = is_literal_number 0 e
may_start (sums c) e = is_literal_number 0 e
may_start (takes c) e = is_integer e
may_start (marks b) e = is_truth_of (not b) e
may_start other e = false

abbrev pub may_start_so : Form → Option Expression → Bool
may_start_so form (Some e) = may_start form e
may_start_so form None = false

-- A statement of a run starts an accumulator: nothing behind it mentions that.
abbrev pub starts : List Site → Statement → Statements → List ℕ → Bool
starts sites s behind x = may_start_so (form_found sites (update_of sites x)) (given_by x s) && not (is_found (first_touching x behind))

-- the first statement of a run that mentions one of these accumulators and doesn't start it; the loop where no statement mentions one
abbrev pub broken_starts_of : List Site → Span → Names → Statements → Option Span
broken_starts_of sites loop xs Nothing = place_where (not (is_none xs)) loop
broken_starts_of sites loop xs (Then s ss) =
    first_place
    (place_where (list_any (λ x. touches x s && not (starts sites s ss x)) xs) (place_of s))
    (broken_starts_of sites loop (filter (λ x. not (touches x s)) xs) ss)

-- a flag is declared with the opposite of its update
abbrev pub starts_flag : List Site → ℕ → Statement → Bool
starts_flag sites d (plain.Declare at ty x e) = may_start (form_found sites (update_of_flag sites d)) e
starts_flag sites d _ = true

abbrev pub broken_flag_start : List Site → ℕ → Site → Option Span
broken_flag_start sites d s = place_where (not (starts_flag sites d s.statement)) (place_of s.statement)
