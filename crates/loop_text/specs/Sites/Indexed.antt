-- The sites that pass tests, listed by the names and numbers that the tests are of.
use Rattle.std.specs.Prelude.{◌≡◌, ℕ, suc, Bool, true, false, ◌&&◌, not, List, [], ◌∷◌, ◌++◌, nat_eq, nat_lt, slice_get, if◌then◌else◌}
use Rattle.std.specs.List.{list_any}
use Rattle.std.specs.declared.option.Option.{Option}
use Rattle.std.specs.declared.option.Option.TheVariants.{Some, None}
use Rattle.loop_text.specs.Sites.Bound.{Lists, AreBound}
use Rattle.loop_text.specs.Statements.Fragment.{is_name}
use Rattle.loop_text.specs.Sites.Groups.{under_name, under_number}
use Rattle.loop_text.specs.Kernel.KernelConditions.{is_taking, updates_flag_under}
use Rattle.loop_text.specs.Kernel.KernelForms.{Form, other, form_of}
use Rattle.loop_text.specs.Kernel.KernelStarts.{Numbered, updates_name}
use Rattle.loop_text.specs.Kernel.KernelStatements.{is_break, updates_local}
use Rattle.loop_text.specs.Sites.Sites.{Test, Site, Binding, Row, Local, Outer, binding_at, innermost, inner_tests, has_number, any_site, is_update, is_under}

abbrev pub with_number : Bool → ℕ → List ℕ → List ℕ
with_number true n ns = n ∷ ns
with_number false n ns = ns

-- the numbers of the sites that pass a test, for sites from a number on
abbrev pub passing : (ℕ → Site → Bool) → ℕ → List Site → List ℕ
passing test n [] = []
passing test n (s ∷ ss) = with_number (test n s) n (passing test (suc n) ss)

-- ---- Tests

abbrev pub is_number : Option ℕ → ℕ → Bool
is_number None m = false
is_number (Some n) m = nat_eq m n

-- the loop that a site ends
abbrev pub ended_by : Site → Option ℕ
ended_by s = if is_break s.statement then innermost s.round.loops else None

abbrev pub ends : ℕ → ℕ → Site → Bool
ends l n s = is_number (ended_by s) l

-- an update in a branch of this `if`, or further down in one
abbrev pub updates_under : ℕ → ℕ → Site → Bool
updates_under i n s = is_update s.statement && is_under i s

-- the number of the declaration of a local variable
abbrev pub local_of : Binding → Option ℕ
local_of (Local d) = Some d
local_of _ = None

-- ---- What is listed

-- what names are bound to by the sites; the updates of each name; the updates of each flag, by its declaration; the
-- `break`s of each loop; the updates under each `if`; and the `if`s round the update of some flag
pub record IsIndex (binders : Lists) (updates : List (List ℕ × List ℕ)) (flags breaks unders : List (ℕ × List ℕ)) (guards : List ℕ) (sites : List Site) : Type 0 where
  pub bound : AreBound binders sites
  pub updated : (x : List ℕ) → under_name updates x ≡ passing (updates_name x) 0 sites
  pub raised : (d : ℕ) → under_number flags d ≡ passing (updates_local sites d) 0 sites
  pub ended : (l : ℕ) → under_number breaks l ≡ passing (ends l) 0 sites
  pub under : (i : ℕ) → under_number unders i ≡ passing (updates_under i) 0 sites
  pub guarded : (i : ℕ) → has_number guards i ≡ any_site (updates_flag_under sites i) 0 sites

abbrev pub AddsName : List (List ℕ × List ℕ) → Option (List ℕ) → ℕ → List (List ℕ × List ℕ) → Type 0
AddsName old o n new = (x : List ℕ) → under_name new x ≡ under_name old x ++ with_number (is_name o x) n []

abbrev pub AddsNumber : List (ℕ × List ℕ) → Option ℕ → ℕ → List (ℕ × List ℕ) → Type 0
AddsNumber old o n new = (i : ℕ) → under_number new i ≡ under_number old i ++ with_number (is_number o i) n []

-- a number is the last of some
abbrev pub is_last : ℕ → List ℕ → Bool
is_last n [] = false
is_last n (m ∷ []) = nat_eq m n
is_last n (m ∷ k ∷ ms) = is_last n (k ∷ ms)

-- a number stands behind others, of which it may be the last already
abbrev pub with_last : ℕ → List ℕ → List ℕ
with_last n ns = ns ++ with_number (not (is_last n ns)) n []

abbrev pub last_where : Bool → ℕ → List ℕ → List ℕ
last_where true n ns = with_last n ns
last_where false n ns = ns

-- ---- What is asked of the lists

-- an update before a site of what is bound as the target there
abbrev pub repeated_by : List Site → ℕ → List ℕ → Binding → Bool
repeated_by sites n x (Row j) = false
repeated_by sites n x (Local d) = list_any (λ m. nat_lt m n) (passing (updates_local sites d) 0 sites)
repeated_by sites n x Outer = list_any (λ m. nat_lt m n) (passing (updates_name x) 0 sites)

abbrev pub repeated_name : List Site → ℕ → Option (List ℕ) → Bool
repeated_name sites n None = false
repeated_name sites n (Some x) = repeated_by sites n x (binding_at sites n x)

-- the site with a number, and the first of some
abbrev pub numbered : ℕ → Option Site → Option Numbered
numbered n (Some s) = Some (record { number = n; site = s })
numbered n None = None

abbrev pub first_of : List Site → List ℕ → Option Numbered
first_of sites [] = None
first_of sites (n ∷ ns) = numbered n (slice_get sites n)

-- the form of the first of some sites
abbrev pub form_there : List Site → ℕ → Option Site → Form
form_there sites n (Some s) = form_of sites n s.statement
form_there sites n None = other

abbrev pub form_of_first : List Site → List ℕ → Form
form_of_first sites [] = other
form_of_first sites (n ∷ ns) = form_there sites n (slice_get sites n)

-- the site takes a best value, and this `if` stands round it inside its innermost loop
abbrev pub takes_there : List Site → ℕ → ℕ → Option Site → Bool
takes_there sites i n (Some s) = list_any (λ (t : Test). nat_eq i t.number) (inner_tests s.round) && is_taking (form_of sites n s.statement)
takes_there sites i n None = false

abbrev pub takes_at : List Site → ℕ → ℕ → Bool
takes_at sites i n = takes_there sites i n (slice_get sites n)

abbrev pub is_other : ℕ → ℕ → Bool
is_other n m = not (nat_eq n m)

-- a `break` ends a loop that doesn't stand directly behind a site
abbrev pub ends_elsewhere : List Site → ℕ → ℕ → Bool
ends_elsewhere sites n l = list_any (is_other (suc n)) (passing (ends l) 0 sites)
