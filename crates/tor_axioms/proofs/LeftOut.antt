-- Formulas of which the first that is decided to be true is left out, one after the other.
use Rattle.std.proofs.Common.{◌≡◌, Bool, true, false, cond, not, ◌&&◌, List, [], ◌∷◌, ◌++◌, refl, sym, ap, append_assoc}
use Rattle.std.specs.declared.option.Option.{Option}
use Rattle.std.specs.declared.option.Option.TheVariants.{Some, None}
use Rattle.tor_terms.specs.Plain.{Form}
use Rattle.tor_axioms.specs.Rules.{kept_form}

-- the formulas kept so far, and those to come: all of them where one was left out
abbrev pub after_kept : List Form → Option (List Form) → Option (List Form)
after_kept ks None = None
after_kept ks (Some fs) = Some (ks ++ fs)

abbrev pub with_kept : Bool → List Form → List Form → Option (List Form) → Option (List Form)
with_kept true ks fs o = Some (ks ++ fs)
with_kept false ks fs o = after_kept ks o

pub kept_none : (fs : List Form) (o : Option (List Form)) → o ≡ with_kept false [] fs o
kept_none fs None = refl
kept_none fs (Some gs) = refl

pub kept_left_out : (found so : Bool) (ks : List Form) (f : Form) (fs : List Form) (o : Option (List Form)) → (not found && so) ≡ true
    → with_kept found ks (f ∷ fs) (cond so (Some fs) (kept_form f o)) ≡ with_kept true ks fs o
kept_left_out true so ks f fs o h = cc
kept_left_out false true ks f fs o h = refl
kept_left_out false false ks f fs o h = cc

more_kept : (ks : List Form) (f : Form) (o : Option (List Form)) → after_kept ks (kept_form f o) ≡ after_kept (ks ++ f ∷ []) o
more_kept ks f None = refl
more_kept ks f (Some fs) = ap Some (sym (append_assoc ks (f ∷ []) fs))

pub kept_one : (found so : Bool) (ks : List Form) (f : Form) (fs : List Form) (o : Option (List Form)) → (not found && so) ≡ false
    → with_kept found ks (f ∷ fs) (cond so (Some fs) (kept_form f o)) ≡ with_kept found (ks ++ f ∷ []) fs o
kept_one true so ks f fs o h = ap Some (sym (append_assoc ks (f ∷ []) fs))
kept_one false true ks f fs o h = cc
kept_one false false ks f fs o h = more_kept ks f o
