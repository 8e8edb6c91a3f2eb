-- What recorded facts decide, and facts to which literals are added.
use Rattle.std.specs.Prelude.{◌≡◌, ℕ, Bool, true, false, cond, ◌&&◌, List, [], ◌∷◌, ◌++◌, slice_get, nat_eq}
use Rattle.std.specs.declared.option.Option.{Option}
use Rattle.std.specs.declared.option.Option.TheVariants.{Some, None}
use Rattle.tor_terms.specs.declared.term.Atom.{Atom}
use Rattle.tor_terms.specs.declared.term.Atom.TheVariants.{Less, Same, Truth, Member, Flag}
use Rattle.tor_terms.specs.declared.term.Operand.{Operand}
use Rattle.tor_terms.specs.Plain.{Form, Is, Both, Either}
use Rattle.tor_terms.specs.Truth.{World, same_operand, truth}
use Rattle.deriv_parts.specs.declared.known.Known.{Known}
use Rattle.deriv_parts.specs.declared.known.Known.TheVariants.{Yes, No, Open}
pub use Rattle.deriv_parts.specs.Known.{is_yes, denies}
use Rattle.tor_axioms.specs.declared.facts.Literal.{Literal}

abbrev pub or_else : Known → Known → Known
or_else Yes k = Yes
or_else No k = No
or_else Open k = k

-- an operand isn't less than itself, and is the same as itself; an atom that isn't there is false
abbrev pub by_shape : Option Atom → Known
by_shape None = No
by_shape (Some (Less a b)) = cond (same_operand a b) No Open
by_shape (Some (Same a b)) = cond (same_operand a b) Yes Open
by_shape (Some (Truth a)) = Open
by_shape (Some (Member a k)) = Open
by_shape (Some (Flag k loops)) = Open

-- as it is recorded
abbrev pub recorded : List Literal → ℕ → Known
recorded [] k = Open
recorded (l ∷ ls) k = cond (nat_eq l.atom k) (cond l.holds Yes No) (recorded ls k)

abbrev pub is_less : Option Atom → Operand → Operand → Bool
is_less (Some (Less c d)) a b = same_operand c a && same_operand d b
is_less _ a b = false

-- whether one operand is recorded to be less than another
abbrev pub has_less : List Atom → List Literal → Operand → Operand → Bool
has_less atoms [] a b = false
has_less atoms (l ∷ ls) a b = cond (l.holds && is_less (slice_get atoms l.atom) a b) true (has_less atoms ls a b)

-- what is more isn't less
abbrev pub by_order : List Atom → List Literal → Option Atom → Known
by_order atoms facts (Some (Less a b)) = cond (has_less atoms facts b a) No Open
by_order atoms facts _ = Open

-- what facts say of an atom
abbrev pub decide : List Atom → List Literal → ℕ → Known
decide atoms facts k = or_else (by_shape (slice_get atoms k)) (or_else (recorded facts k) (by_order atoms facts (slice_get atoms k)))

abbrev pub if_so : Bool → Known → Known
if_so true k = k
if_so false Yes = No
if_so false No = Yes
if_so false Open = Open

abbrev pub known_both : Known → Known → Known
known_both No k = No
known_both Yes k = k
known_both Open No = No
known_both Open Yes = Open
known_both Open Open = Open

abbrev pub known_either : Known → Known → Known
known_either Yes k = Yes
known_either No k = k
known_either Open Yes = Yes
known_either Open No = Open
known_either Open Open = Open

-- what facts say of a formula
abbrev pub decide_form : List Atom → List Literal → Form → Known
decide_form atoms facts (Is k s) = if_so s (decide atoms facts k)
decide_form atoms facts (Both f g) = known_both (decide_form atoms facts f) (decide_form atoms facts g)
decide_form atoms facts (Either f g) = known_either (decide_form atoms facts f) (decide_form atoms facts g)

abbrev pub is_no : Known → Bool
is_no No = true
is_no _ = false

abbrev pub literal : ℕ → Bool → Literal
literal k s = record { atom = k; holds = s }

-- the facts with one literal more, or none where they contradict it
abbrev pub with_fact : List Atom → List Literal → Literal → Option (List Literal)
with_fact atoms facts l = cond (denies (decide atoms facts l.atom) l.holds) None (Some (facts ++ l ∷ []))

abbrev pub and_then : Option (List Literal) → (List Literal → Option (List Literal)) → Option (List Literal)
and_then None f = None
and_then (Some facts) f = f facts

-- the facts with literals added one by one, or none where they contradict each other
abbrev pub with_facts : List Atom → List Literal → List Literal → Option (List Literal)
with_facts atoms facts [] = Some facts
with_facts atoms facts (l ∷ ls) = and_then (with_fact atoms facts l) (λ more. with_facts atoms more ls)

-- the recorded atoms have their recorded truth at the current rows
abbrev pub Satisfied : World → List Atom → List Literal → Type 0
Satisfied w atoms [] = Unit {0}
Satisfied w atoms (l ∷ ls) = (truth w atoms w.current l.atom ≡ l.holds) × Satisfied w atoms ls

-- what is known is true
abbrev pub Agrees : Known → Bool → Type 0
Agrees Yes b = b ≡ true
Agrees No b = b ≡ false
Agrees Open b = Unit {0}
