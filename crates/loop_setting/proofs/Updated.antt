-- What is updated and declared outside of a loop.
use Rattle.std.specs.Prelude.{ℕ, Bool, ◌||◌, List, [], ◌∷◌, ◌++◌}
use Rattle.std.specs.List.{filter}
use Rattle.std.proofs.Common.{◌≡◌, refl, sym, ap, ◌∙◌}
use Rattle.std.proofs.lemmas.List.Elements.{filter-append}
use Rattle.qbs_base.specs.declared.span.Span.{Span}
use Rattle.java_ast.specs.Tree.{Expression, IfElse, Statement, Statements, Then}
use Rattle.java_mean.specs.Visible.{Visible, is_visible, names_seen}
use Rattle.loop_text.specs.Statements.Fragment.{Fragment, is_outer, declared_in_run, counter}
use Rattle.java_ast.specs.Names.{Names, is_among, with_name, with_names, declared_among, updated_in, updated_among}
use Rattle.loop_text.specs.Statements.Updated.{outer_with}
use Rattle.java_mean.proofs.Sets.{among_set, among_with, among_seen}

names_behind : (xs ys zs : Names) → with_names xs (ys ++ zs) ≡ with_names (with_names xs ys) zs
names_behind xs [] zs = refl
names_behind xs (y ∷ ys) zs = names_behind (with_name xs y) ys zs

pub outer_both : (f : Fragment) (xs ys zs : Names) → outer_with f xs (ys ++ zs) ≡ outer_with f (outer_with f xs ys) zs
outer_both f xs ys zs =
    ap (with_names xs) (filter-append (is_outer f.visible (declared_in_run f) (counter f.loop)) ys zs)
    ∙ names_behind xs (filter (is_outer f.visible (declared_in_run f) (counter f.loop)) ys) (filter (is_outer f.visible (declared_in_run f) (counter f.loop)) zs)

pub statement_put : (f : Fragment) (old mid all : Names) (s : Statement) (block ss : Statements) → block ≡ Then s ss → mid ≡ outer_with f old (updated_in s) → outer_with f old (updated_among block) ≡ all → outer_with f mid (updated_among ss) ≡ all
statement_put f old mid all s block ss is put whole =
    ap (λ (m : Names). outer_with f m (updated_among ss)) put
    ∙ sym (outer_both f old (updated_in s) (updated_among ss))
    ∙ sym (ap (λ (b : Statements). outer_with f old (updated_among b)) is)
    ∙ whole

pub if_else_put : (f : Fragment) (old mid new : Names) (t : Statement) (at : Span) (c : Expression) (a b : Statements) → t ≡ IfElse at c a b → mid ≡ outer_with f old (updated_among a) → new ≡ outer_with f mid (updated_among b) → new ≡ outer_with f old (updated_in t)
if_else_put f old mid new t at c a b is first second =
    second
    ∙ ap (λ (m : Names). outer_with f m (updated_among b)) first
    ∙ sym (outer_both f old (updated_among a) (updated_among b))
    ∙ ap (λ (u : Statement). outer_with f old (updated_in u)) (sym is)

-- a variable is visible at the loop where it is visible before the run or declared in it
pub declared_where : (types visible : Visible) (run : Statements) (x : List ℕ) → names_seen types ≡ with_names (names_seen visible) (declared_among run) → is_visible types x ≡ (is_among (names_seen visible) x || is_among (with_names [] (declared_among run)) x)
declared_where types visible run x scoped =
    sym (among_seen types x)
    ∙ ap (λ (xs : Names). is_among xs x) scoped
    ∙ among_with (names_seen visible) (declared_among run) x
    ∙ ap (λ (b : Bool). is_among (names_seen visible) x || b) (sym (among_set (declared_among run) x))

pub ruleset updated = (outer_both)
