-- What is written inside a SELECT, as the code takes it apart.
use Rattle.std.proofs.Common.{◌≡◌, Bool, List, Option, Some, None, refl, ap, ◌∙◌}
use Rattle.std.specs.Global.{Box}
use Rattle.sql_ast.specs.Written as written
use Rattle.sql_parse.specs.declared.raw.RawCol.{RawCol}
use Rattle.sql_parse.specs.declared.raw.RawCond.{RawCond}
use Rattle.sql_parse.specs.declared.raw.RawCond.TheViews as views
use Rattle.sql_parse.specs.declared.raw.RawOpnd.{RawOpnd}
use Rattle.sql_parse.specs.declared.raw.RawPart.{RawPart}
use Rattle.sql_parse.specs.Said.{col_of, opnd_of, parts_of, filter_of, condition_of}

exists_raw : (parts : List RawPart) (f : Option (Box RawCond)) → condition_of (views.Exists parts f) ≡ written.Exists (parts_of parts) (filter_of f)
exists_raw parts None = refl
exists_raw parts (Some a) = refl

within_raw : (opnd : RawOpnd) (negated : Bool) (col : RawCol) (parts : List RawPart) (f : Option (Box RawCond)) → condition_of (views.Within opnd negated col parts f) ≡ written.Within (opnd_of opnd) negated (col_of col) (parts_of parts) (filter_of f)
within_raw opnd negated col parts None = refl
within_raw opnd negated col parts (Some a) = refl

pub exists_is : (cond : RawCond) (parts : List RawPart) (f : Option (Box RawCond)) → cond ≡ views.Exists parts f → condition_of cond ≡ written.Exists (parts_of parts) (filter_of f)
exists_is cond parts f e = ap condition_of e ∙ exists_raw parts f

pub within_is : (cond : RawCond) (opnd : RawOpnd) (negated : Bool) (col : RawCol) (parts : List RawPart) (f : Option (Box RawCond)) → cond ≡ views.Within opnd negated col parts f → condition_of cond ≡ written.Within (opnd_of opnd) negated (col_of col) (parts_of parts) (filter_of f)
within_is cond opnd negated col parts f e = ap condition_of e ∙ within_raw opnd negated col parts f
