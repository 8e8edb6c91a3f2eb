-- SELECTs inside a condition, with their names looked up.
use Rattle.std.proofs.Common.{◌≡◌, ℕ, Bool, List, ◌++◌, length, drop, Option, Some, None, refl, sym, ap, ◌∙◌}
use Rattle.std.proofs.Math.Seq.{take-append_seam, drop-append_seam}
use Rattle.std.proofs.lemmas.List.{length-map, take-append-drop}
use Rattle.std.specs.Global.{Box}
use Rattle.qbs_base.specs.Values.{Schema}
use Rattle.sql_ast.specs.declared.known.Known.{Known}
use Rattle.sql_ast.specs.declared.tree.FromItem.{FromItem}
use Rattle.sql_ast.specs.declared.tree.SqlCol.{SqlCol}
use Rattle.sql_ast.specs.declared.tree.SqlOpnd.{SqlOpnd}
use Rattle.sql_ast.specs.Knowns.{known_of, knowns_of}
use Rattle.sql_ast.specs.Names.{◌>>=◌, Scope, known_parts, named_col, named_opnd, named_condition, named_filter, froms_of}
use Rattle.sql_ast.specs.Names as names
use Rattle.sql_ast.specs.Tree.{Condition, Filter}
use Rattle.sql_ast.specs.Tree as plain
use Rattle.sql_ast.specs.Written.{WrittenCol, WrittenPart, WrittenFilter}
use Rattle.sql_parse.specs.declared.fault.Stop.{Stop}
use Rattle.sql_parse.specs.declared.fault.Stop.TheVariants as stops
use Rattle.sql_parse.specs.declared.raw.RawCol.{RawCol}
use Rattle.sql_parse.specs.declared.raw.RawCond.{RawCond}
use Rattle.sql_parse.specs.declared.raw.RawCond.TheViews as views
use Rattle.sql_parse.specs.declared.raw.RawOpnd.{RawOpnd}
use Rattle.sql_parse.specs.declared.raw.RawPart.{RawPart}
use Rattle.sql_parse.specs.Inner.{entered_in, membership_in}
use Rattle.sql_parse.specs.Said.{col_of, opnd_of, parts_of, filter_of, condition_of}
use Rattle.sql_parse.specs.Scopes.{scope_of}
use Rattle.sql_parse.specs.Seen.{Fails}
use Rattle.sql_parse.proofs.RawViews.{exists_is, within_is}

-- the items of a SELECT, behind those of the SELECTs around
abbrev scope_with : List names.Known → List names.Known → Scope
scope_with outer own = record { outer = outer; own = own }

entered_scope : (ks us : List names.Known) → scope_with ks us ≡ scope_of (length ks) (ks ++ us)
entered_scope ks us =
    sym (ap (λ (outer : List names.Known). scope_with outer (drop (length ks) (ks ++ us))) (take-append_seam ks us) ∙ ap (scope_with ks) (drop-append_seam ks us))

abbrev entered_from : List names.Known → Option (List names.Known) → Option (List FromItem × List names.Known)
entered_from outer o = o >>= λ own. Some (froms_of own, outer ++ own)

-- ---- EXISTS

abbrev exists_behind : Schema → ℕ → WrittenFilter → List FromItem × List names.Known → Option Condition
exists_behind schema inner f e = named_filter schema (scope_of inner e.1) f >>= λ g. Some (plain.Exists e.0 g)

exists_parts : (schema : Schema) (outer : List names.Known) (f : WrittenFilter) (o : Option (List names.Known))
    → (o >>= λ own. named_filter schema (scope_with outer own) f >>= λ g. Some (plain.Exists (froms_of own) g))
    ≡ (entered_from outer o >>= exists_behind schema (length outer) f)
exists_parts schema outer f None = refl
exists_parts schema outer f (Some own) = ap (λ (s : Scope). named_filter schema s f >>= λ g. Some (plain.Exists (froms_of own) g)) (entered_scope outer own)

module _ (schema : Schema) (around inner : ℕ) (sight : List Known) (cond : RawCond) (parts : List RawPart) (f : Option (Box RawCond)) (is : cond ≡ views.Exists parts f) (len : inner ≡ length sight) where
  exists_named : named_condition schema (scope_of around (knowns_of sight)) (condition_of cond) ≡ (entered_in schema (knowns_of sight) (parts_of parts) >>= exists_behind schema inner (filter_of f))
  exists_named =
      ap (named_condition schema (scope_of around (knowns_of sight))) (exists_is cond parts f is)
      ∙ ap (λ (outer : List names.Known). known_parts schema (parts_of parts) >>= λ own. named_filter schema (scope_with outer own) (filter_of f) >>= λ g. Some (plain.Exists (froms_of own) g)) (take-append-drop around (knowns_of sight))
      ∙ exists_parts schema (knowns_of sight) (filter_of f) (known_parts schema (parts_of parts))
      ∙ ap (λ (n : ℕ). entered_in schema (knowns_of sight) (parts_of parts) >>= exists_behind schema n (filter_of f)) (length-map sight known_of ∙ sym len)

  pub exists_fails : (s : Stop) → Fails s (entered_in schema (knowns_of sight) (parts_of parts)) → Fails s (named_condition schema (scope_of around (knowns_of sight)) (condition_of cond))
  exists_fails stops.NoMemory h = tt
  exists_fails stops.Broken h = exists_named ∙ ap (λ r. r >>= exists_behind schema inner (filter_of f)) h

  pub exists_stops : (froms : List FromItem) (now : List names.Known) (s : Stop) → entered_in schema (knowns_of sight) (parts_of parts) ≡ Some (froms, now) → Fails s (named_filter schema (scope_of inner now) (filter_of f)) → Fails s (named_condition schema (scope_of around (knowns_of sight)) (condition_of cond))
  exists_stops froms now stops.NoMemory h k = tt
  exists_stops froms now stops.Broken h k = exists_named ∙ ap (λ r. r >>= exists_behind schema inner (filter_of f)) h ∙ ap (λ r. r >>= λ g. Some (plain.Exists froms g)) k

  pub exists_gives : (froms : List FromItem) (now : List names.Known) (g : Filter) (whole : Condition) → entered_in schema (knowns_of sight) (parts_of parts) ≡ Some (froms, now) → named_filter schema (scope_of inner now) (filter_of f) ≡ Some g → whole ≡ plain.Exists froms g → named_condition schema (scope_of around (knowns_of sight)) (condition_of cond) ≡ Some whole
  exists_gives froms now g whole h k w =
      exists_named
      ∙ ap (λ r. r >>= exists_behind schema inner (filter_of f)) h
      ∙ ap (λ r. r >>= λ d. Some (plain.Exists froms d)) k
      ∙ ap (λ (v : Condition). Some v) (sym w)

-- ---- IN

abbrev within_behind : Schema → ℕ → Bool → WrittenFilter → SqlOpnd × SqlCol × List FromItem × List names.Known → Option Condition
within_behind schema inner negated f m = named_filter schema (scope_of inner m.3) f >>= λ g. Some (plain.Within m.0 negated m.1 m.2 g)

abbrev membership_behind : ℕ → WrittenCol → SqlOpnd → List FromItem × List names.Known → Option (SqlOpnd × SqlCol × List FromItem × List names.Known)
membership_behind inner col x e = named_col (scope_of inner e.1) col >>= λ c. Some (x, c, e.0, e.1)

abbrev within_own : Schema → Scope → WrittenCol → WrittenFilter → Bool → SqlOpnd → List FromItem → Option Condition
within_own schema s col f negated x froms = named_col s col >>= λ c. named_filter schema s f >>= λ g. Some (plain.Within x negated c froms g)

within_col : (schema : Schema) (inner : ℕ) (now : List names.Known) (f : WrittenFilter) (negated : Bool) (x : SqlOpnd) (froms : List FromItem) (o : Option SqlCol)
    → (o >>= λ c. named_filter schema (scope_of inner now) f >>= λ g. Some (plain.Within x negated c froms g)) ≡ ((o >>= λ c. Some (x, c, froms, now)) >>= within_behind schema inner negated f)
within_col schema inner now f negated x froms None = refl
within_col schema inner now f negated x froms (Some c) = refl

within_parts : (schema : Schema) (outer : List names.Known) (col : WrittenCol) (f : WrittenFilter) (negated : Bool) (x : SqlOpnd) (o : Option (List names.Known))
    → (o >>= λ own. within_own schema (scope_with outer own) col f negated x (froms_of own))
    ≡ (entered_from outer o >>= membership_behind (length outer) col x >>= within_behind schema (length outer) negated f)
within_parts schema outer col f negated x None = refl
within_parts schema outer col f negated x (Some own) =
    ap (λ (s : Scope). within_own schema s col f negated x (froms_of own)) (entered_scope outer own)
    ∙ within_col schema (length outer) (outer ++ own) f negated x (froms_of own) (named_col (scope_of (length outer) (outer ++ own)) col)

abbrev within_from : Schema → List names.Known → WrittenCol → List WrittenPart → WrittenFilter → Bool → SqlOpnd → Option Condition
within_from schema outer col parts f negated x = known_parts schema parts >>= λ own. within_own schema (scope_with outer own) col f negated x (froms_of own)

within_opnd : (schema : Schema) (outer : List names.Known) (col : WrittenCol) (parts : List WrittenPart) (f : WrittenFilter) (negated : Bool) (o : Option SqlOpnd)
    → (o >>= within_from schema outer col parts f negated)
    ≡ ((o >>= λ x. entered_in schema outer parts >>= membership_behind (length outer) col x) >>= within_behind schema (length outer) negated f)
within_opnd schema outer col parts f negated None = refl
within_opnd schema outer col parts f negated (Some x) = within_parts schema outer col f negated x (known_parts schema parts)

module _ (schema : Schema) (around inner : ℕ) (sight : List Known) (cond : RawCond) (opnd : RawOpnd) (negated : Bool) (col : RawCol) (parts : List RawPart) (f : Option (Box RawCond)) (is : cond ≡ views.Within opnd negated col parts f) (len : inner ≡ length sight) where
  abbrev before : Option (SqlOpnd × SqlCol × List FromItem × List names.Known)
  before = membership_in schema (scope_of around (knowns_of sight)) (knowns_of sight) (opnd_of opnd) (col_of col) (parts_of parts)

  within_named : named_condition schema (scope_of around (knowns_of sight)) (condition_of cond) ≡ (before >>= within_behind schema inner negated (filter_of f))
  within_named =
      ap (named_condition schema (scope_of around (knowns_of sight))) (within_is cond opnd negated col parts f is)
      ∙ ap (λ (outer : List names.Known). named_opnd (scope_of around (knowns_of sight)) (opnd_of opnd) >>= within_from schema outer (col_of col) (parts_of parts) (filter_of f) negated) (take-append-drop around (knowns_of sight))
      ∙ within_opnd schema (knowns_of sight) (col_of col) (parts_of parts) (filter_of f) negated (named_opnd (scope_of around (knowns_of sight)) (opnd_of opnd))
      ∙ ap (λ (n : ℕ). before >>= within_behind schema n negated (filter_of f)) (length-map sight known_of ∙ sym len)

  pub within_fails : (s : Stop) → Fails s before → Fails s (named_condition schema (scope_of around (knowns_of sight)) (condition_of cond))
  within_fails stops.NoMemory h = tt
  within_fails stops.Broken h = within_named ∙ ap (λ r. r >>= within_behind schema inner negated (filter_of f)) h

  pub within_stops : (x : SqlOpnd) (c : SqlCol) (froms : List FromItem) (now : List names.Known) (s : Stop) → before ≡ Some (x, c, froms, now) → Fails s (named_filter schema (scope_of inner now) (filter_of f)) → Fails s (named_condition schema (scope_of around (knowns_of sight)) (condition_of cond))
  within_stops x c froms now stops.NoMemory h k = tt
  within_stops x c froms now stops.Broken h k = within_named ∙ ap (λ r. r >>= within_behind schema inner negated (filter_of f)) h ∙ ap (λ r. r >>= λ g. Some (plain.Within x negated c froms g)) k

  pub within_gives : (x : SqlOpnd) (c : SqlCol) (froms : List FromItem) (now : List names.Known) (g : Filter) (whole : Condition) → before ≡ Some (x, c, froms, now) → named_filter schema (scope_of inner now) (filter_of f) ≡ Some g → whole ≡ plain.Within x negated c froms g → named_condition schema (scope_of around (knowns_of sight)) (condition_of cond) ≡ Some whole
  within_gives x c froms now g whole h k w =
      within_named
      ∙ ap (λ r. r >>= within_behind schema inner negated (filter_of f)) h
      ∙ ap (λ r. r >>= λ d. Some (plain.Within x negated c froms d)) k
      ∙ ap (λ (v : Condition). Some v) (sym w)
