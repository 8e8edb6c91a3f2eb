-- What stands beside a fragment, one by one.
use Rattle.std.specs.Prelude.{ℕ, Bool, true, false, ◌||◌, List, ◌∷◌, ◌++◌, Option, Some, None}
use Rattle.std.proofs.Common.{◌≡◌, refl, sym, ap, ◌∙◌, cond, bytes_eq, append_assoc}
use Rattle.std.proofs.lemmas.List.{map-append}
use Rattle.java_ast.specs.Tree.{Expression, Statement, Statements, Then}
use Rattle.kernel_lang.specs.Plain as kernel
use Rattle.sql_ast.specs.Tree.{PlainQuery}
use Rattle.java_mean.proofs.Puts.{names_equal}
use Rattle.loop_text.specs.Statements.Fragment.{set_by}
use Rattle.java_loops.specs.Lowering.Lowered.{Lowering, found_name, set_in_order}
use Rattle.lowering.specs.InCode.LoweredInCode.{set_among}
use Rattle.java_ast.specs.Names.{Names, is_among}

-- ---- The whole

abbrev made : kernel.Fragment → Names → List Expression → List (Option PlainQuery) → List (List ℕ) → Lowering
made f names entries known arguments = record { fragment = f; names = names; entries = entries; known = known; arguments = arguments }

pub same_lowering : (f g : kernel.Fragment) (a b : Names) (c d : List Expression) (e h : List (Option PlainQuery)) (i j : List (List ℕ)) → f ≡ g → a ≡ b → c ≡ d → e ≡ h → i ≡ j → made f a c e i ≡ made g b d h j
same_lowering f g a b c d e h i j p q r s u =
    ap (λ x. made x a c e i) p ∙ ap (λ x. made g x c e i) q ∙ ap (λ x. made g b x e i) r ∙ ap (λ x. made g b d x i) s ∙ ap (λ x. made g b d h x) u

-- ---- Names in order

pub ruleset beside = (map-append, append_assoc)

-- the first name that a statement sets
pub set_here : (xs rest : Names) (x : List ℕ) (s : Statement) (whole : Option (List ℕ)) → xs ≡ x ∷ rest → bytes_eq (set_by s) x ≡ true → set_among xs s ≡ whole → Some x ≡ whole
set_here xs rest x s whole is h all_of =
    ap Some (sym (names_equal (set_by s) x h))
    ∙ sym (ap (λ b. cond (b || is_among rest (set_by s)) (Some (set_by s)) None) h)
    ∙ sym (ap (λ ys. set_among ys s) is)
    ∙ all_of

ordered_by : (b : Bool) (x : List ℕ) (rest : Names) → cond b (x ∷ rest) rest ≡ found_name (cond b (Some x) None) ++ rest
ordered_by true x rest = refl
ordered_by false x rest = refl

-- one statement more
pub set_next : (xs found next : Names) (run rest : Statements) (s : Statement) (whole : Names) → run ≡ Then s rest → next ≡ found ++ found_name (set_among xs s) → found ++ set_in_order xs run ≡ whole → next ++ set_in_order xs rest ≡ whole
set_next xs found next run rest s whole is pushed all_of =
    ap (λ ys. ys ++ set_in_order xs rest) pushed
    ∙ append_assoc found (found_name (set_among xs s)) (set_in_order xs rest)
    ∙ ap (λ ys. found ++ ys) (sym (ordered_by (is_among xs (set_by s)) (set_by s) (set_in_order xs rest)))
    ∙ ap (λ ss. found ++ set_in_order xs ss) (sym is)
    ∙ all_of
