-- Patches as code makes them are those that are defined.
use Rattle.std.proofs.Common.{◌≡◌, ℕ, zero, suc, ◌-◌, ◌<◌, true, false, List, [], ◌∷◌, ◌++◌, length, take, drop, map, slice_get, Bool, cond, Option, option_map, refl, sym, ap, ◌∙◌, arith, append_assoc, length-append, codes}
use Rattle.std.specs.Prelude.{filter, nat_le}
use Rattle.std.specs.Str.{IsUtf8}
use Rattle.std.proofs.lemmas.Bool.Decides.{nat_tests}
use Rattle.std.proofs.Math.Seq.{take-append_seam}
use Rattle.std.proofs.lemmas.List.{length-map, map-append}
use Rattle.std.proofs.lemmas.Option.{slice_get-map}
use Rattle.std.proofs.lemmas.Str.{IsUtf8-from_ascii}
use Rattle.java_ast.specs.Tree.{Declare, Assign, Add, Sort, If, IfElse, ForEach, While, Print, Return, Break, Statement, Statements, Nothing, Then}
use Rattle.java_lex.proofs.Ascii.{front_is_ascii}
use Rattle.java_ast.specs.declared.tree.Stmt.{Stmt}
use Rattle.java_ast.specs.Reading.{statements}
use Rattle.java_text.specs.Canonical.{line_end, indent, canonical_expression, canonical_keys, declared_text, walked_text, tested_text, returned_text, braced, canonical_statement, canonical_statements}
use Rattle.java_stretches.specs.declared.patch.Patch.{Patch}
use Rattle.java_stretches.specs.Lines.{is_blank, joined_lines}
use Rattle.java_stretches.specs.Patches.{PlainPatch, plain_patch, plain_patches, blanks_of, earlier, patched, last_of, margin_by, margin_at, patch_of}
use Rattle.java_stretches.specs.Stretch.{sibling}

-- ---- Margins

blank_byte : (b : ℕ) → is_blank b ≡ true → b < 128
blank_byte b h = grind (arith, nat_tests, h)

pub blanks_are_text : (line : List ℕ) → IsUtf8 (blanks_of line)
blanks_are_text line = IsUtf8-from_ascii (blanks_of line) (front_is_ascii is_blank blank_byte line)

-- ---- Lines

-- a text that stands behind a margin and has a line end
abbrev IsLined : List ℕ → List ℕ → Type 0
IsLined margin text = (z : List ℕ) × (text ≡ margin ++ (z ++ line_end))

-- or at least stands behind the margin
abbrev IsLed : List ℕ → List ℕ → Type 0
IsLed margin text = (z : List ℕ) × (text ≡ margin ++ z)

more : (margin text x : List ℕ) → IsLed margin text → IsLed margin (text ++ x)
more margin text x h = (h.0 ++ x, ap (λ (t : List ℕ). t ++ x) h.1 ∙ append_assoc margin h.0 x)

lined : (margin text : List ℕ) → IsLed margin text → IsLined margin (text ++ line_end)
lined margin text h = (h.0, ap (λ (t : List ℕ). t ++ line_end) h.1 ∙ append_assoc margin h.0 line_end)

simple : (margin x : List ℕ) → IsLined margin ((margin ++ x) ++ (codes ";" ++ line_end))
simple margin x =
    let h = lined margin ((margin ++ x) ++ codes ";") (more margin (margin ++ x) (codes ";") (x, refl)) in
    (h.0, sym (append_assoc (margin ++ x) (codes ";") line_end) ∙ h.1)

with_body : (margin x body : List ℕ) → IsLined margin (((margin ++ x) ++ body) ++ line_end)
with_body margin x body = lined margin ((margin ++ x) ++ body) (more margin (margin ++ x) body (x, refl))

with_bodies : (margin x body between other : List ℕ) → IsLined margin (((((margin ++ x) ++ body) ++ between) ++ other) ++ line_end)
with_bodies margin x body between other =
    lined margin ((((margin ++ x) ++ body) ++ between) ++ other)
    (more margin (((margin ++ x) ++ body) ++ between) other (more margin ((margin ++ x) ++ body) between (more margin (margin ++ x) body (x, refl))))

statement_lined : (margin : List ℕ) (s : Statement) → IsLined margin (canonical_statement margin s)
statement_lined margin (Declare at ty name value) = simple margin (declared_text ty name value)
statement_lined margin (Assign at name value) = simple margin (name ++ codes " = " ++ canonical_expression 8 value)
statement_lined margin (Add at name value) = simple margin (name ++ codes ".add(" ++ canonical_expression 8 value ++ codes ")")
statement_lined margin (Sort at name keys downs) = simple margin (name ++ codes ".sort(" ++ canonical_keys false keys downs ++ codes ")")
statement_lined margin (If at cond first) = with_body margin (tested_text (codes "if (") cond) (braced margin (canonical_statements (margin ++ indent) first))
statement_lined margin (IfElse at cond first other) =
    with_bodies margin (tested_text (codes "if (") cond) (braced margin (canonical_statements (margin ++ indent) first)) (codes " else") (braced margin (canonical_statements (margin ++ indent) other))
statement_lined margin (ForEach at ty name list body) = with_body margin (walked_text ty name list) (braced margin (canonical_statements (margin ++ indent) body))
statement_lined margin (While at cond body) = with_body margin (tested_text (codes "while (") cond) (braced margin (canonical_statements (margin ++ indent) body))
statement_lined margin (Print at value) = simple margin (tested_text (codes "System.out.println(") value)
statement_lined margin (Return at value) = simple margin (returned_text value)
statement_lined margin (Break at) = simple margin (codes "break")

both_lined : (margin a b : List ℕ) → IsLined margin a → IsLined margin b → IsLined margin (a ++ b)
both_lined margin a b h k = (
  (h.0 ++ line_end) ++ (margin ++ k.0),
  ap (λ (t : List ℕ). t ++ b) h.1
      ∙ append_assoc margin (h.0 ++ line_end) b
      ∙ ap (λ (t : List ℕ). margin ++ t)
      (ap (λ (t : List ℕ). (h.0 ++ line_end) ++ t) (k.1 ∙ sym (append_assoc margin k.0 line_end)) ∙ sym (append_assoc (h.0 ++ line_end) (margin ++ k.0) line_end)),
)

-- statements stand behind the margin and have a line end
statements_lined : (margin : List ℕ) (s : Statement) (ss : Statements) → IsLined margin (canonical_statements margin (Then s ss))
statements_lined margin s Nothing =
    let h = statement_lined margin s in
    (h.0, append_nil (canonical_statement margin s) ∙ h.1)
  where
    append_nil : (a : List ℕ) → a ++ [] ≡ a
    append_nil [] = refl
    append_nil (x ∷ a) = ap (λ (t : List ℕ). x ∷ t) (append_nil a)
statements_lined margin s (Then t ss) = both_lined margin (canonical_statement margin s) (canonical_statements margin (Then t ss)) (statement_lined margin s) (statements_lined margin t ss)

-- ---- Joined lines

drop_none : (n : ℕ) → drop {A = ℕ} n [] ≡ []
drop_none zero = refl
drop_none (suc n) = refl

none_ends : (a : List ℕ) → [] ≡ a ++ line_end → ⊥
none_ends [] e = cc
none_ends (x ∷ a) e = cc

-- all but the last byte
front_of : (a : List ℕ) → take (length (a ++ line_end) - 1) (a ++ line_end) ≡ a
front_of a =
    let n : length (a ++ line_end) - 1 ≡ length a = omega (arith, length-append a line_end) in
    ap (λ (k : ℕ). take k (a ++ line_end)) n ∙ take-append_seam a line_end

pub no_line_end : (margin lines : List ℕ) (block : Statements) → lines ≡ canonical_statements margin block → ((front : List ℕ) → lines ≡ front ++ line_end → ⊥) → lines ≡ joined_lines margin block
no_line_end margin lines Nothing is none = is ∙ sym (drop_none (length margin))
no_line_end margin lines (Then s ss) is none =
    let h = statements_lined margin s ss in
    absurd (none (margin ++ h.0) (is ∙ h.1 ∙ sym (append_assoc margin h.0 line_end)))

pub no_margin : (margin lines front : List ℕ) (block : Statements) → lines ≡ canonical_statements margin block → front ≡ take (length lines - 1) lines → lines ≡ take (length lines - 1) lines ++ line_end → ((rest : List ℕ) → front ≡ margin ++ rest → ⊥) → ⊥
no_margin margin lines front Nothing is cut ends none = none_ends (take (length lines - 1) lines) (sym is ∙ ends)
no_margin margin lines front (Then s ss) is cut ends none =
    let h = statements_lined margin s ss in
    let whole : lines ≡ (margin ++ h.0) ++ line_end = is ∙ h.1 ∙ sym (append_assoc margin h.0 line_end) in
    none h.0 (cut ∙ ap (λ (t : List ℕ). take (length t - 1) t) whole ∙ front_of (margin ++ h.0))

-- ---- Paths

sibling_behind : (front : List ℕ) (m n : ℕ) → sibling (front ++ m ∷ []) n ≡ front ++ n ∷ []
sibling_behind [] m n = refl
sibling_behind (k ∷ []) m n = refl
sibling_behind (k ∷ j ∷ front) m n = ap (λ (t : List ℕ). k ∷ t) (sibling_behind (j ∷ front) m n)

pub sibling_is : (path front new : List ℕ) (m n : ℕ) → path ≡ front ++ m ∷ [] → new ≡ front ++ n ∷ [] → new ≡ sibling path n
sibling_is path front new m n is e = e ∙ sym (ap (λ (p : List ℕ). sibling p n) is ∙ sibling_behind front m n)

-- ---- Patches

earlier_step : (v : Bool) (p : Patch) (xs : List PlainPatch) (ps : List Patch) → plain_patches ps ≡ xs → plain_patches (cond v (p ∷ ps) ps) ≡ cond v (plain_patch p ∷ xs) xs
earlier_step true p xs ps e = ap (λ (ys : List PlainPatch). plain_patch p ∷ ys) e
earlier_step false p xs ps e = e

-- those of the code that end before a byte are those that are defined
pub earlier_made : (from : ℕ) (ps : List Patch) → plain_patches (filter (λ p. nat_le p.to from) ps) ≡ earlier from (plain_patches ps)
earlier_made from [] = refl
earlier_made from (p ∷ ps) = earlier_step (nat_le p.to from) p (earlier from (plain_patches ps)) (filter (λ q. nat_le q.to from) ps) (earlier_made from ps)

last_is : (ps : List PlainPatch) → last_of ps ≡ slice_get ps (length ps - 1)
last_is [] = refl
last_is (p ∷ []) = refl
last_is (p ∷ q ∷ ps) =
    let n : suc (suc (length ps) - 1) ≡ suc (suc (length ps)) - 1 = omega arith in
    last_is (q ∷ ps) ∙ ap (λ (k : ℕ). slice_get (p ∷ q ∷ ps) k) n

-- the last one of the code's
last_made : (ps : List Patch) → option_map plain_patch (slice_get ps (length ps - 1)) ≡ last_of (plain_patches ps)
last_made ps =
    sym (slice_get-map plain_patch ps (length ps - 1))
    ∙ ap (λ (n : ℕ). slice_get (plain_patches ps) (n - 1)) (sym (length-map ps plain_patch))
    ∙ sym (last_is (plain_patches ps))

abbrev made : ℕ → ℕ → List ℕ → List ℕ → List ℕ → ℕ → List Stmt → Patch
made from to margin text path first block = record { from = from; to = to; margin = margin; text = text; path = path; first = first; block = block }

abbrev meant : ℕ → ℕ → List ℕ → List ℕ → List ℕ → ℕ → Statements → PlainPatch
meant from to margin text path first block = record { from = from; to = to; margin = margin; text = text; path = path; first = first; block = block }

pub patch_is : (source : List ℕ) (old : List PlainPatch) (kept : List Patch) (from to : ℕ) (path : List ℕ) (first : ℕ) (block : Statements) (last : Option Patch) (margin text : List ℕ) (way : List ℕ) (copy : List Stmt)
    → plain_patches kept ≡ earlier from old → last ≡ slice_get kept (length kept - 1) → margin ≡ margin_by source (option_map plain_patch last) from → text ≡ joined_lines margin block → way ≡ path → statements copy ≡ block
    → (new : List Patch) → new ≡ kept ++ made from to margin text way first copy ∷ [] → plain_patches new ≡ patched old (patch_of source old from to path first block)
patch_is source old kept from to path first block last margin text way copy kept_is last_there margin_is text_is way_is copy_is new new_is =
    let behind : margin ≡ margin_at source old from =
    margin_is
    ∙ ap (λ (o : Option Patch). margin_by source (option_map plain_patch o) from) last_there
    ∙ ap (λ (o : Option PlainPatch). margin_by source o from) (last_made kept)
    ∙ ap (λ (ps : List PlainPatch). margin_by source (last_of ps) from) kept_is in
    ap plain_patches new_is
    ∙ map-append plain_patch kept (made from to margin text way first copy ∷ [])
    ∙ ap (λ (ks : List PlainPatch). ks ++ meant from to margin text way first (statements copy) ∷ []) kept_is
    ∙ ap (λ (b : Statements). earlier from old ++ meant from to margin text way first b ∷ []) copy_is
    ∙ ap (λ (w : List ℕ). earlier from old ++ meant from to margin text w first block ∷ []) way_is
    ∙ ap (λ (t : List ℕ). earlier from old ++ meant from to margin t path first block ∷ []) text_is
    ∙ ap (λ (m : List ℕ). earlier from old ++ meant from to m (joined_lines m block) path first block ∷ []) behind
