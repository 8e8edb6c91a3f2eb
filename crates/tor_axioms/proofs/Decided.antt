-- What facts decide is true where they hold.
use Rattle.std.proofs.Common.{◌≡◌, ℕ, Bool, true, false, cond, ◌&&◌, ◌||◌, List, [], ◌∷◌, ◌++◌, slice_get, nat_eq, refl, sym, ap, ap₂, ◌∙◌, eqb-true}
use Rattle.std.specs.declared.option.Option.{Option}
use Rattle.std.specs.declared.option.Option.TheVariants.{Some, None}
use Rattle.qbs_base.specs.declared.scalar.Scalar.{Scalar}
use Rattle.qbs_base.specs.Scalar.{compared, scalar_same}
use Rattle.tor_terms.specs.declared.term.Atom.{Atom}
use Rattle.tor_terms.specs.declared.term.Atom.TheVariants.{Less, Same, Truth, Member, Flag}
use Rattle.tor_terms.specs.declared.term.Operand.{Operand}
use Rattle.tor_terms.specs.Plain.{Form, Is, Both, Either}
use Rattle.tor_terms.specs.Truth.{World, operand_at, same_operand, less, atom_holds, known_atom_holds, truth, same_bool, holds, all_hold}
use Rattle.tor_terms.proofs.Identical.{same_operand-true}
use Rattle.tor_terms.proofs.Scalars.{less-self, less-back}
use Rattle.deriv_parts.specs.declared.known.Known.{Known}
use Rattle.deriv_parts.specs.declared.known.Known.TheVariants.{Yes, No, Open}
use Rattle.tor_axioms.specs.declared.facts.Literal.{Literal}
use Rattle.tor_axioms.specs.Decide.{or_else, by_shape, recorded, is_less, has_less, by_order, decide, if_so, known_both, known_either, decide_form, is_no, is_yes, denies, with_fact, and_then, with_facts, Satisfied, Agrees}
use Rattle.tor_axioms.specs.Rules.{some_no, all_yes}

pub and_left : (a b : Bool) → (a && b) ≡ true → a ≡ true
and_left true b h = refl
and_left false b h = h

pub and_right : (a b : Bool) → (a && b) ≡ true → b ≡ true
and_right true b h = h
and_right false b h = cc

less_self : (o : Option Scalar) → compared less o o ≡ false
less_self None = refl
less_self (Some x) = less-self x

less_back : (o p : Option Scalar) → compared less o p ≡ true → compared less p o ≡ false
less_back None p h = cc
less_back (Some x) None h = refl
less_back (Some x) (Some y) h = less-back x y h

module _ (w : World) where
  shape_agrees : (o : Option Atom) → Agrees (by_shape o) (known_atom_holds w w.current o)
  shape_agrees None = refl
  shape_agrees (Some (Truth a)) = tt
  shape_agrees (Some (Member a k)) = tt
  shape_agrees (Some (Flag k loops)) = tt
  shape_agrees (Some (Less a b)) = go (same_operand a b) refl
    where
      go : (s : Bool) → same_operand a b ≡ s → Agrees (cond s No Open) (atom_holds w w.current (Less a b))
      go true e = ap (λ x. compared less (operand_at w w.current a) (operand_at w w.current x)) (sym (same_operand-true a b e)) ∙ less_self (operand_at w w.current a)
      go false e = tt
  shape_agrees (Some (Same a b)) = go (same_operand a b)
    where
      go : (s : Bool) → Agrees (cond s Yes Open) (s || compared scalar_same (operand_at w w.current a) (operand_at w w.current b))
      go true = refl
      go false = tt

  recorded_agrees : (atoms : List Atom) (facts : List Literal) (k : ℕ) → Satisfied w atoms facts → Agrees (recorded facts k) (truth w atoms w.current k)
  recorded_agrees atoms [] k h = tt
  recorded_agrees atoms (l ∷ ls) k h = go (nat_eq l.atom k) refl l.holds refl (recorded_agrees atoms ls k h.1)
    where
      go : (b : Bool) → nat_eq l.atom k ≡ b → (s : Bool) → l.holds ≡ s → Agrees (recorded ls k) (truth w atoms w.current k) → Agrees (cond b (cond s Yes No) (recorded ls k)) (truth w atoms w.current k)
      go true e true f r = ap (truth w atoms w.current) (sym (eqb-true l.atom k e)) ∙ h.0 ∙ f
      go true e false f r = ap (truth w atoms w.current) (sym (eqb-true l.atom k e)) ∙ h.0 ∙ f
      go false e s f r = r

  is_less-true : (o : Option Atom) (a b : Operand) → is_less o a b ≡ true → known_atom_holds w w.current o ≡ compared less (operand_at w w.current a) (operand_at w w.current b)
  is_less-true None a b h = cc
  is_less-true (Some (Truth c)) a b h = cc
  is_less-true (Some (Member c k)) a b h = cc
  is_less-true (Some (Flag k loops)) a b h = cc
  is_less-true (Some (Same c d)) a b h = cc
  is_less-true (Some (Less c d)) a b h =
      ap₂ (λ x y. compared less (operand_at w w.current x) (operand_at w w.current y)) (same_operand-true c a (and_left (same_operand c a) (same_operand d b) h)) (same_operand-true d b (and_right (same_operand c a) (same_operand d b) h))

  has_less-true : (atoms : List Atom) (facts : List Literal) (a b : Operand) → Satisfied w atoms facts → has_less atoms facts a b ≡ true → compared less (operand_at w w.current a) (operand_at w w.current b) ≡ true
  has_less-true atoms [] a b h e = cc
  has_less-true atoms (l ∷ ls) a b h e = go (l.holds && is_less (slice_get atoms l.atom) a b) refl e (has_less-true atoms ls a b h.1)
    where
      go : (t : Bool) → (l.holds && is_less (slice_get atoms l.atom) a b) ≡ t → cond t true (has_less atoms ls a b) ≡ true → (has_less atoms ls a b ≡ true → compared less (operand_at w w.current a) (operand_at w w.current b) ≡ true) → compared less (operand_at w w.current a) (operand_at w w.current b) ≡ true
      go true f g r =
          let p = and_left l.holds (is_less (slice_get atoms l.atom) a b) f in
          let q = and_right l.holds (is_less (slice_get atoms l.atom) a b) f in
          sym (is_less-true (slice_get atoms l.atom) a b q) ∙ h.0 ∙ p
      go false f g r = r g

  order_agrees : (atoms : List Atom) (facts : List Literal) (o : Option Atom) → Satisfied w atoms facts → Agrees (by_order atoms facts o) (known_atom_holds w w.current o)
  order_agrees atoms facts None h = tt
  order_agrees atoms facts (Some (Truth a)) h = tt
  order_agrees atoms facts (Some (Member a k)) h = tt
  order_agrees atoms facts (Some (Flag k loops)) h = tt
  order_agrees atoms facts (Some (Same a b)) h = tt
  order_agrees atoms facts (Some (Less a b)) h = go (has_less atoms facts b a) refl
    where
      go : (t : Bool) → has_less atoms facts b a ≡ t → Agrees (cond t No Open) (atom_holds w w.current (Less a b))
      go true e = less_back (operand_at w w.current b) (operand_at w w.current a) (has_less-true atoms facts b a h e)
      go false e = tt

  or_else_agrees : (a b : Known) (t : Bool) → Agrees a t → Agrees b t → Agrees (or_else a b) t
  or_else_agrees Yes b t h g = h
  or_else_agrees No b t h g = h
  or_else_agrees Open b t h g = g

  -- a decided atom has its decided truth
  pub decide_agrees : (atoms : List Atom) (facts : List Literal) (k : ℕ) → Satisfied w atoms facts → Agrees (decide atoms facts k) (truth w atoms w.current k)
  decide_agrees atoms facts k h =
      or_else_agrees (by_shape (slice_get atoms k)) _ _ (shape_agrees (slice_get atoms k)) (or_else_agrees (recorded facts k) _ _ (recorded_agrees atoms facts k h) (order_agrees atoms facts (slice_get atoms k) h))

  if_so_agrees : (s : Bool) (k : Known) (t : Bool) → Agrees k t → Agrees (if_so s k) (same_bool t s)
  if_so_agrees true Yes t h = ap (λ b. same_bool b true) h
  if_so_agrees true No t h = ap (λ b. same_bool b true) h
  if_so_agrees true Open t h = tt
  if_so_agrees false Yes t h = ap (λ b. same_bool b false) h
  if_so_agrees false No t h = ap (λ b. same_bool b false) h
  if_so_agrees false Open t h = tt

  both_agrees : (a b : Known) (s t : Bool) → Agrees a s → Agrees b t → Agrees (known_both a b) (s && t)
  both_agrees No b s t h g = ap (λ x. x && t) h
  both_agrees Yes Yes s t h g = ap₂ (λ x y. x && y) h g
  both_agrees Yes No s t h g = ap₂ (λ x y. x && y) h g
  both_agrees Yes Open s t h g = tt
  both_agrees Open No true t h g = g
  both_agrees Open No false t h g = refl
  both_agrees Open Yes s t h g = tt
  both_agrees Open Open s t h g = tt

  either_agrees : (a b : Known) (s t : Bool) → Agrees a s → Agrees b t → Agrees (known_either a b) (s || t)
  either_agrees Yes b s t h g = ap (λ x. x || t) h
  either_agrees No Yes s t h g = ap₂ (λ x y. x || y) h g
  either_agrees No No s t h g = ap₂ (λ x y. x || y) h g
  either_agrees No Open s t h g = tt
  either_agrees Open Yes true t h g = refl
  either_agrees Open Yes false t h g = g
  either_agrees Open No s t h g = tt
  either_agrees Open Open s t h g = tt

  -- a decided formula has its decided truth
  pub form_agrees : (atoms : List Atom) (facts : List Literal) (f : Form) → Satisfied w atoms facts → Agrees (decide_form atoms facts f) (holds w atoms w.current f)
  form_agrees atoms facts (Is k s) h = if_so_agrees s (decide atoms facts k) (truth w atoms w.current k) (decide_agrees atoms facts k h)
  form_agrees atoms facts (Both f g) h =
      both_agrees (decide_form atoms facts f) (decide_form atoms facts g) _ _ (form_agrees atoms facts f h) (form_agrees atoms facts g h)
  form_agrees atoms facts (Either f g) h =
      either_agrees (decide_form atoms facts f) (decide_form atoms facts g) _ _ (form_agrees atoms facts f h) (form_agrees atoms facts g h)

  pub is_no-false : (k : Known) (t : Bool) → is_no k ≡ true → Agrees k t → t ≡ false
  is_no-false No t e h = h
  is_no-false Yes t e h = cc
  is_no-false Open t e h = cc

  pub is_yes-true : (k : Known) (t : Bool) → is_yes k ≡ true → Agrees k t → t ≡ true
  is_yes-true Yes t e h = h
  is_yes-true No t e h = cc
  is_yes-true Open t e h = cc

  pub some_no-false : (atoms : List Atom) (facts : List Literal) (fs : List Form) → Satisfied w atoms facts → some_no atoms facts fs ≡ true → all_hold w atoms w.current fs ≡ false
  some_no-false atoms facts [] h e = cc
  some_no-false atoms facts (f ∷ fs) h e = go (is_no (decide_form atoms facts f)) refl e (some_no-false atoms facts fs h)
    where
      go : (b : Bool) → is_no (decide_form atoms facts f) ≡ b → cond b true (some_no atoms facts fs) ≡ true → (some_no atoms facts fs ≡ true → all_hold w atoms w.current fs ≡ false) → (holds w atoms w.current f && all_hold w atoms w.current fs) ≡ false
      go true p q r = ap (λ x. x && all_hold w atoms w.current fs) (is_no-false (decide_form atoms facts f) (holds w atoms w.current f) p (form_agrees atoms facts f h))
      go false p q r = and_false (holds w atoms w.current f) (all_hold w atoms w.current fs) (r q)
        where
          and_false : (a b : Bool) → b ≡ false → (a && b) ≡ false
          and_false true b h = h
          and_false false b h = refl

  pub all_yes-true : (atoms : List Atom) (facts : List Literal) (fs : List Form) → Satisfied w atoms facts → all_yes atoms facts fs ≡ true → all_hold w atoms w.current fs ≡ true
  all_yes-true atoms facts [] h e = refl
  all_yes-true atoms facts (f ∷ fs) h e =
      let p = and_left (is_yes (decide_form atoms facts f)) (all_yes atoms facts fs) e in
      let q = and_right (is_yes (decide_form atoms facts f)) (all_yes atoms facts fs) e in
      ap₂ (λ x y. x && y) (is_yes-true (decide_form atoms facts f) (holds w atoms w.current f) p (form_agrees atoms facts f h)) (all_yes-true atoms facts fs h q)

  -- facts that hold, and no contradiction
  abbrev pub Hold : List Atom → Option (List Literal) → Type 0
  Hold atoms None = ⊥
  Hold atoms (Some facts) = Satisfied w atoms facts

  satisfied_more : (atoms : List Atom) (facts : List Literal) (l : Literal) → Satisfied w atoms facts → truth w atoms w.current l.atom ≡ l.holds → Satisfied w atoms (facts ++ l ∷ [])
  satisfied_more atoms [] l h e = (e, tt)
  satisfied_more atoms (f ∷ fs) l h e = (h.0, satisfied_more atoms fs l h.1 e)

  denied : (k : Known) (s t : Bool) → denies k s ≡ true → Agrees k t → t ≡ s → ⊥
  denied Yes true t d a e = cc
  denied Yes false t d a e = cc
  denied No true t d a e = cc
  denied No false t d a e = cc
  denied Open s t d a e = cc

  -- a literal that is true can be added to facts that hold
  pub with_fact-holds : (atoms : List Atom) (facts : List Literal) (l : Literal) → Satisfied w atoms facts → truth w atoms w.current l.atom ≡ l.holds → Hold atoms (with_fact atoms facts l)
  with_fact-holds atoms facts l h e = go (denies (decide atoms facts l.atom) l.holds) refl
    where
      go : (b : Bool) → denies (decide atoms facts l.atom) l.holds ≡ b → Hold atoms (cond b None (Some (facts ++ l ∷ [])))
      go true d = denied (decide atoms facts l.atom) l.holds (truth w atoms w.current l.atom) d (decide_agrees atoms facts l.atom h) e
      go false d = satisfied_more atoms facts l h e

  -- facts that hold don't contradict each other
  pub with_facts-hold : (atoms : List Atom) (ls facts : List Literal) → Satisfied w atoms facts → Satisfied w atoms ls → Hold atoms (with_facts atoms facts ls)
  with_facts-hold atoms [] facts h g = h
  with_facts-hold atoms (l ∷ ls) facts h g = go (with_fact atoms facts l) (with_fact-holds atoms facts l h g.0) (λ more k. with_facts-hold atoms ls more k g.1)
    where
      go : (o : Option (List Literal)) → Hold atoms o → ((more : List Literal) → Satisfied w atoms more → Hold atoms (with_facts atoms more ls)) → Hold atoms (and_then o (λ more. with_facts atoms more ls))
      go None h k = h
      go (Some more) h k = k more h
