-- An assignment or an `add` makes of the variable what the update makes of the fragment's list.
use Rattle.std.proofs.Common.{◌≡◌, ℕ, ℤ, pos, ◌+ℤ◌, Bool, true, false, not, cond, ◌&&◌, ◌||◌, List, [], ◌∷◌, ◌++◌, map, Option, Some, None, Result, Ok, Err, refl, sym, ap, ap₂, ◌∙◌, subst}
use Rattle.std.specs.Prelude.{bytes_eq, slice_get}
use Rattle.std.specs.List.{AllByRecursion, list_any}
use Rattle.std.proofs.Math.IntN.{+ℤ_comm}
use Rattle.qbs_base.specs.declared.span.Span.{Span}
use Rattle.qbs_base.specs.declared.scalar.Kind.{Kind}
use Rattle.qbs_base.specs.declared.scalar.Kind.TheVariants as kinds
use Rattle.qbs_base.specs.declared.scalar.Row.{Row}
use Rattle.qbs_base.specs.declared.scalar.Scalar.{Scalar}
use Rattle.qbs_base.specs.declared.scalar.Scalar.TheVariants as scalars
use Rattle.qbs_base.specs.declared.scalar.Value.{Value}
use Rattle.qbs_base.specs.declared.scalar.Value.TheVariants.{One, Many}
use Rattle.qbs_base.specs.Named.{at_name}
use Rattle.qbs_base.specs.Scalar.{same_cells}
use Rattle.qbs_base.specs.Values.{fits_long}
use Rattle.java_ast.specs.declared.tree.Op.TheVariants as ops
use Rattle.java_ast.specs.Tree as tree
use Rattle.java_ast.specs.Tree.{Expression, Statement}
use Rattle.java_mean.specs.declared.ending.Ending.{Ending}
use Rattle.java_mean.specs.declared.ending.Ending.TheVariants as endings
use Rattle.java_mean.specs.declared.ending.RunFault.TheVariants.{Overflow}
use Rattle.java_mean.specs.Endings.{◌>>=◌, found}
use Rattle.java_mean.specs.Expression.{value_of, as_member, same_member, is_among, number}
use Rattle.java_mean.specs.Store.{Store, Variable, put}
use Rattle.java_mean.specs.World as java
use Rattle.java_mean.proofs.Members.{all_added}
use Rattle.java_mean.proofs.Puts.{name_same, put_same}
use Rattle.tor_terms.specs.declared.term.Atom.{Atom}
use Rattle.tor_terms.specs.declared.term.Elem.{Elem}
use Rattle.tor_terms.specs.declared.term.Elem.TheVariants as elems
use Rattle.tor_terms.specs.Fits.{row_of}
use Rattle.tor_terms.specs.Truth.{Datum, Tup, Element, World}
use Rattle.tor_terms.specs.Value.{plain_row, only, only_number, only_truth, elem_at, same_kind, same_row, same_datum, inserted}
use Rattle.tor_terms.specs.Value as values
use Rattle.kernel_lang.specs.declared.parts.Update.TheVariants as updates
use Rattle.kernel_lang.specs.Running.{within_long}
use Rattle.java_loops.specs.Walks.Effects.{effect, with_member, assigned}
use Rattle.java_loops.specs.Walks.Chains.{Change, By, Takes, IsUpdate, push, push_new, tick, tick_turned, plus, plus_turned, mark, takes}
use Rattle.java_loops.specs.Walks.Carried.{variable_of, IsLong, IsPlain, Suits, Carried, done_by}
use Rattle.java_loops.specs.Walks.Matched.{Matches}
use Rattle.java_loops.specs.Walks.Numbering.{Numbering, Flags}
use Rattle.java_loops.proofs.Walks.ChainForms.{binary_value}
use Rattle.java_loops.proofs.Walks.ChainOperands.{LongField, long_field, element_holds}

-- ---- Lists and sets

map_more : (d : List Datum) (x : Datum) → map row_of (d ++ x ∷ []) ≡ map row_of d ++ row_of x ∷ []
map_more [] x = refl
map_more (y ∷ d) x = ap (λ (rows : List Row). row_of y ∷ rows) (map_more d x)

plain_kind : (o : Option Scalar) → (plain_row o).kind ≡ kinds.Plain
plain_kind (Some x) = refl
plain_kind None = refl

same_plain : (r s : Row) → r.kind ≡ kinds.Plain → s.kind ≡ kinds.Plain → same_row r s ≡ same_member r s
same_plain r s e f = ap₂ (λ (a b : Kind). same_kind a b && same_cells r.cells s.cells) e f

among_plain : (d : List Datum) (r : Row) → r.kind ≡ kinds.Plain → AllByRecursion IsPlain d → is_among (map row_of d) r ≡ list_any (same_datum (Element r)) d
among_plain [] r e h = refl
among_plain (Element s ∷ d) r e h = ap₂ (λ a b. a || b) (sym (same_plain r s e h.0)) (among_plain d r e h.1)
among_plain (Tup t ∷ d) r e h = absurd h.0

inserted_step : (e : Elem) (d : List Datum) (r : Row) (p : Bool) → r.kind ≡ kinds.Plain → AllByRecursion IsPlain d → Carried (By (updates.PushNew e) false) (Some (record { value = Many (cond p (map row_of d) (map row_of d ++ r ∷ [])); is_set = true })) (Some (cond p d (d ++ Element r ∷ [])))
inserted_step e d r true k h = record { is = refl; suits = h }
inserted_step e d r false k h = record { is = ap (λ rows. Some (record { value = Many rows; is_set = true })) (sym (map_more d (Element r))); suits = all_added IsPlain d (Element r) h k }

carried_from : (ch : Change) (p q : Option Variable) (o : Option (List Datum)) → p ≡ q → Carried ch q o → Carried ch p o
carried_from ch p q o e c = record { is = e ∙ c.is; suits = c.suits }

-- ---- Numbers

counted_step : (ch : Change) (at : Span) (n : ℤ) (v : Value) (p : Bool) → fits_long n ≡ p → variable_of ch (only_number n) ≡ record { value = One (scalars.Long n); is_set = false } → (IsLong (only_number n) → Suits ch (only_number n)) → Carried ch (assigned (cond p (Ok (One (scalars.Long n))) (Err (endings.Faulted Overflow at))) (record { value = v; is_set = false })) (cond p (Some (only_number n)) None)
counted_step ch at n v true e same suits = record { is = ap Some (sym same); suits = suits (record { number = n; is = refl; fits = e }) }
counted_step ch at n v false e same suits = record { is = refl; suits = tt }

-- the value of the variable itself
abbrev held_value : Option Variable → Result Value Ending
held_value o = found o >>= λ held. Ok held.value

held_is : (env : Store) (a : List ℕ) (v : Variable) → held_value (at_name (put env a v) a) ≡ Ok v.value
held_is env a v = ap held_value (put_same env a v)

owned : {A : Type 0} (a : List ℕ) (x y : A) → cond (bytes_eq a a) x y ≡ x
owned a x y = ap (λ p. cond p x y) (name_same a)

counted : (at : Span) (n : ℤ) (v : Value) → Carried (By updates.Tick false) (assigned (number at n) (record { value = v; is_set = false })) (within_long (only_number n))
counted at n v = counted_step (By updates.Tick false) at n v (fits_long n) refl refl (λ h. h)

totalled : (x : Elem) (at : Span) (n : ℤ) (v : Value) → Carried (By (updates.Plus x) false) (assigned (number at n) (record { value = v; is_set = false })) (within_long (only_number n))
totalled x at n v = counted_step (By (updates.Plus x) false) at n v (fits_long n) refl refl (λ h. h)

to_fragment : (ch : Change) (p : Option Variable) (q r : Option (List Datum)) → r ≡ q → Carried ch p q → Carried ch p r
to_fragment ch p q r e c = subst (Carried ch p) (sym e) c

marked : (opposite : Bool) → Carried (By updates.Mark opposite) (Some (record { value = One (scalars.Bool (not opposite)); is_set = false })) (Some (only_truth true))
marked true = record { is = refl; suits = record { truth = true; is = refl } }
marked false = record { is = refl; suits = record { truth = true; is = refl } }

module _ (n : Numbering) (flags : Flags) (w : java.World) (k : World) (known : List Atom) (env : Store) (rows : ℕ → Row) where
  abbrev Updates : Statement → List ℕ → Change → List Datum → Type 0
  Updates s a ch d = Carried ch (effect s w a env (variable_of ch d)) (done_by k known ch [] rows d)

  -- an `add`
  pushed : (at : Span) (a : List ℕ) (e : Expression) (x : Elem) (d : List Datum) → (value_of e w (put env a (variable_of (By (updates.Push x) false) d)) >>= as_member) ≡ Ok (elem_at rows x) → Updates (tree.Add at a e) a (By (updates.Push x) false) d
  pushed at a e x d h =
      let v : Variable = variable_of (By (updates.Push x) false) d in
      record {
        is = owned a (with_member (value_of e w (put env a v) >>= as_member) v) (Some v) ∙ ap (λ r. with_member r v) h ∙ ap (λ rs. Some (record { value = Many rs; is_set = false })) (sym (map_more d (Element (elem_at rows x))));
        suits = tt;
      }

  pushed_new : (at : Span) (a : List ℕ) (e : Expression) (j c : ℕ) (d : List Datum) → AllByRecursion IsPlain d → (value_of e w (put env a (variable_of (By (updates.PushNew (elems.Field j c)) false) d)) >>= as_member) ≡ Ok (elem_at rows (elems.Field j c)) → Updates (tree.Add at a e) a (By (updates.PushNew (elems.Field j c)) false) d
  pushed_new at a e j c d all h =
      let ch : Change = By (updates.PushNew (elems.Field j c)) false in
      let v : Variable = variable_of ch d in
      let r : Row = elem_at rows (elems.Field j c) in
      let plain : r.kind ≡ kinds.Plain = plain_kind (slice_get (rows j).cells c) in
      carried_from ch _ _ _ (owned a (with_member (value_of e w (put env a v) >>= as_member) v) (Some v) ∙ ap (λ z. with_member z v) h ∙ ap (λ p. Some (record { value = Many (cond p (map row_of d) (map row_of d ++ r ∷ [])); is_set = true })) (among_plain d r plain all)) (inserted_step (elems.Field j c) d r (list_any (same_datum (Element r)) d) plain all)

  -- a count, from a number
  ticked : (at at' at'' at''' : Span) (a : List ℕ) (z : ℤ) → Updates (tree.Assign at a (tree.Binary at' ops.Add (tree.Var at'' a) (tree.Lit at''' (scalars.Long (pos 1))))) a (By updates.Tick false) (only_number z)
  ticked at at' at'' at''' a z =
      let v : Variable = variable_of (By updates.Tick false) (only_number z) in
      carried_from (By updates.Tick false) _ _ _ (owned a (assigned (binary_value at' ops.Add (held_value (at_name (put env a v) a)) (Ok (One (scalars.Long (pos 1))))) v) (Some v) ∙ ap (λ r. assigned (binary_value at' ops.Add r (Ok (One (scalars.Long (pos 1))))) v) (held_is env a v)) (counted at' (z +ℤ pos 1) v.value)

  ticked_turned : (at at' at'' at''' : Span) (a : List ℕ) (z : ℤ) → Updates (tree.Assign at a (tree.Binary at' ops.Add (tree.Lit at''' (scalars.Long (pos 1))) (tree.Var at'' a))) a (By updates.Tick false) (only_number z)
  ticked_turned at at' at'' at''' a z =
      let v : Variable = variable_of (By updates.Tick false) (only_number z) in
      carried_from (By updates.Tick false) _ _ _ (owned a (assigned (binary_value at' ops.Add (Ok (One (scalars.Long (pos 1)))) (held_value (at_name (put env a v) a))) v) (Some v) ∙ ap (λ r. assigned (binary_value at' ops.Add (Ok (One (scalars.Long (pos 1)))) r) v) (held_is env a v) ∙ ap (λ y. assigned (number at' y) v) (+ℤ_comm (pos 1) z)) (counted at' (z +ℤ pos 1) v.value)

  -- a sum, from a number
  added_to : (at at' at'' : Span) (a : List ℕ) (e : Expression) (j c : ℕ) (z : ℤ) → LongField w k (put env a (variable_of (By (updates.Plus (elems.Field j c)) false) (only_number z))) rows e j c → Updates (tree.Assign at a (tree.Binary at' ops.Add (tree.Var at'' a) e)) a (By (updates.Plus (elems.Field j c)) false) (only_number z)
  added_to at at' at'' a e j c z h =
      let ch : Change = By (updates.Plus (elems.Field j c)) false in
      let v : Variable = variable_of ch (only_number z) in
      to_fragment ch _ _ _ (ap (λ o. within_long (values.added (only_number z) (Element (plain_row o) ∷ []))) h.at) (carried_from ch _ _ _ (owned a (assigned (binary_value at' ops.Add (held_value (at_name (put env a v) a)) (value_of e w (put env a v))) v) (Some v) ∙ ap₂ (λ r s. assigned (binary_value at' ops.Add r s) v) (held_is env a v) h.value) (totalled (elems.Field j c) at' (z +ℤ h.number) v.value))

  added_turned : (at at' at'' : Span) (a : List ℕ) (e : Expression) (j c : ℕ) (z : ℤ) → LongField w k (put env a (variable_of (By (updates.Plus (elems.Field j c)) false) (only_number z))) rows e j c → Updates (tree.Assign at a (tree.Binary at' ops.Add e (tree.Var at'' a))) a (By (updates.Plus (elems.Field j c)) false) (only_number z)
  added_turned at at' at'' a e j c z h =
      let ch : Change = By (updates.Plus (elems.Field j c)) false in
      let v : Variable = variable_of ch (only_number z) in
      to_fragment ch _ _ _ (ap (λ o. within_long (values.added (only_number z) (Element (plain_row o) ∷ []))) h.at) (carried_from ch _ _ _ (owned a (assigned (binary_value at' ops.Add (value_of e w (put env a v)) (held_value (at_name (put env a v) a))) v) (Some v) ∙ ap₂ (λ r s. assigned (binary_value at' ops.Add s r) v) (held_is env a v) h.value ∙ ap (λ y. assigned (number at' y) v) (+ℤ_comm h.number z)) (totalled (elems.Field j c) at' (z +ℤ h.number) v.value))

  taken : (at : Span) (a : List ℕ) (e : Expression) (j c : ℕ) (d : List Datum) → LongField w k (put env a (variable_of (Takes (elems.Field j c)) d)) rows e j c → Updates (tree.Assign at a e) a (Takes (elems.Field j c)) d
  taken at a e j c d h =
      let ch : Change = Takes (elems.Field j c) in
      let v : Variable = variable_of ch d in
      to_fragment ch _ (Some (only_number h.number)) _ (ap (λ o. Some (Element (plain_row o) ∷ [])) h.at) (record {
        is = owned a (assigned (value_of e w (put env a v)) v) (Some v) ∙ ap (λ r. assigned r v) h.value;
        suits = record { number = h.number; is = refl; fits = h.fits };
      })

  pub updated : (s : Statement) (a : List ℕ) (ch : Change) → IsUpdate n s a ch → (d : List Datum) → Suits ch d → Matches n flags w k (put env a (variable_of ch d)) rows → Updates s a ch d
  updated _ _ _ (push at a e x i) d h m = pushed at a e x d (element_holds n flags w k (put env a (variable_of (By (updates.Push x) false) d)) rows e x i m)
  updated _ _ _ (push_new at a e j c i) d h m = pushed_new at a e j c d h (element_holds n flags w k (put env a (variable_of (By (updates.PushNew (elems.Field j c)) false) d)) rows e (elems.Field j c) i m)
  updated _ _ _ (tick at at' at'' at''' a) d h m = subst (Updates (tree.Assign at a (tree.Binary at' ops.Add (tree.Var at'' a) (tree.Lit at''' (scalars.Long (pos 1))))) a (By updates.Tick false)) (sym h.is) (ticked at at' at'' at''' a h.number)
  updated _ _ _ (tick_turned at at' at'' at''' a) d h m = subst (Updates (tree.Assign at a (tree.Binary at' ops.Add (tree.Lit at''' (scalars.Long (pos 1))) (tree.Var at'' a))) a (By updates.Tick false)) (sym h.is) (ticked_turned at at' at'' at''' a h.number)
  updated _ _ _ (plus at at' at'' a e j c i) d h m =
      let P : List Datum → Type 0 = λ z. Matches n flags w k (put env a (variable_of (By (updates.Plus (elems.Field j c)) false) z)) rows in
      subst (Updates (tree.Assign at a (tree.Binary at' ops.Add (tree.Var at'' a) e)) a (By (updates.Plus (elems.Field j c)) false)) (sym h.is) (added_to at at' at'' a e j c h.number (long_field n flags w k _ rows e j c i (subst P h.is m)))
  updated _ _ _ (plus_turned at at' at'' a e j c i) d h m =
      let P : List Datum → Type 0 = λ z. Matches n flags w k (put env a (variable_of (By (updates.Plus (elems.Field j c)) false) z)) rows in
      subst (Updates (tree.Assign at a (tree.Binary at' ops.Add e (tree.Var at'' a))) a (By (updates.Plus (elems.Field j c)) false)) (sym h.is) (added_turned at at' at'' a e j c h.number (long_field n flags w k _ rows e j c i (subst P h.is m)))
  updated _ _ _ (mark at at' a opposite) d h m =
      let v : Variable = variable_of (By updates.Mark opposite) d in
      carried_from (By updates.Mark opposite) _ _ _ (owned a (Some (record { value = One (scalars.Bool (not opposite)); is_set = false })) (Some v)) (marked opposite)
  updated _ _ _ (takes at a e j c i) d h m = taken at a e j c d (long_field n flags w k (put env a (variable_of (Takes (elems.Field j c)) d)) rows e j c i m)
