-- A map with its classes, fetch patterns, constants and templates, and maps with a fault, found by hand.
use Rattle.std.specs.Prelude.{◌≡◌, ℕ, Bool, true, false, List, [], ◌∷◌, ◌++◌, codes, Err}
use Rattle.std.specs.declared.option.Option.TheVariants.{Some, None}
use Rattle.qbs_base.specs.declared.columns.Column.{Column}
use Rattle.qbs_base.specs.declared.columns.Table.{Table}
use Rattle.qbs_base.specs.declared.scalar.Ty.{Ty}
use Rattle.qbs_base.specs.declared.scalar.Ty.TheVariants as tys
use Rattle.view_items.specs.declared.item.ItemKind.TheVariants as kinds
use Rattle.view_map.specs.declared.fault.MapRule.{MapRule}
use Rattle.view_map.specs.declared.fault.MapRule.TheVariants as rules
use Rattle.view_map.specs.declared.model.Constant.{Constant}
use Rattle.view_map.specs.declared.model.FetchPattern.{FetchPattern}
use Rattle.view_map.specs.declared.model.Member.{Member}
use Rattle.view_map.specs.declared.model.Part.{Part}
use Rattle.view_map.specs.declared.model.Part.TheVariants as parts
use Rattle.view_map.specs.declared.model.PatternItem.{PatternItem}
use Rattle.view_map.specs.declared.model.QueryKind.TheVariants as queries
use Rattle.view_map.specs.declared.model.RowClass.{RowClass}
use Rattle.view_map.specs.declared.model.ScalarKind.TheVariants as scalars
use Rattle.view_map.specs.declared.model.ScalarType.{ScalarType}
use Rattle.view_map.specs.declared.model.Template.{Template}
use Rattle.view_map.specs.declared.model.ViewMap.{ViewMap}
use Rattle.view_map.specs.Words.{scalar_type}
use Rattle.view_map.specs.Reading.{fault_at}
use Rattle.view_map.specs.Maps.{map_of}

-- ---- A schema

abbrev pub key : List ℕ → Column
key name = record { name = name; ty = tys.Long; not_null = false; primary = true }

abbrev pub filled : List ℕ → Ty → Column
filled name ty = record { name = name; ty = ty; not_null = true; primary = false }

abbrev pub nullable : List ℕ → Ty → Column
nullable name ty = record { name = name; ty = ty; not_null = false; primary = false }

abbrev pub worked_tables : List Table
worked_tables =
    record {
      name = codes "user_account";
      columns = key (codes "id") ∷ filled (codes "login") tys.Text ∷ nullable (codes "role_id") tys.Long ∷ filled (codes "enabled") tys.Bool ∷ [];
    }
    ∷ record { name = codes "line"; columns = key (codes "id") ∷ filled (codes "due_day") tys.Long ∷ [] }
    ∷ record { name = codes "ticket"; columns = key (codes "id") ∷ filled (codes "queue_id") tys.Long ∷ [] } ∷ []

-- ---- A map

abbrev pub worked_text : List ℕ
worked_text =
    codes "table UserAccount = user_account {\n"
    ++ codes "    Long getId() = id;\n"
    ++ codes "    String getLogin() = login;\n"
    ++ codes "    Long getRoleId() = role_id never null; // the schema allows NULL, the application doesn't\n"
    ++ codes "    boolean isEnabled() = enabled;\n"
    ++ codes "}\n"
    ++ codes "table Ticket = ticket by value { long id(); Long queueId() = queue_id; } // a record: rows are compared by their columns\n"
    ++ codes "table Line in InvoiceDao = line { long id; long dueDay = due_day; } // a class nested in InvoiceDao, with public fields\n"
    ++ codes "fetch UserAccount = users.findAll();\n"
    ++ codes "fetch UserAccount = session().createQuery(\"from UserAccount\").list();\n"
    ++ codes "fetch Line in InvoiceDao = loadAll(); // a method of InvoiceDao itself\n"
    ++ codes "constant String Codes.ADMIN = \"admin\";\n"
    ++ codes "query = em.createNativeQuery($sql, $type.class){.setParameter($i, $arg)}.getResultList();\n"
    ++ codes "texts binary;\n"

abbrev pub member : ScalarType → List ℕ → Bool → ℕ → Member
member java name is_call column = record { java = java; name = name; is_call = is_call; column = column }

abbrev pub worked_classes : List RowClass
worked_classes =
    record {
      class = codes "UserAccount";
      within = None;
      table = 0;
      by_value = false;
      members =
          member (scalar_type scalars.Long true) (codes "getId") true 0
          ∷ member (scalar_type scalars.Text true) (codes "getLogin") true 1
          ∷ member (scalar_type scalars.Long true) (codes "getRoleId") true 2
          ∷ member (scalar_type scalars.Boolean false) (codes "isEnabled") true 3 ∷ [];
    }
    ∷ record {
      class = codes "Ticket";
      within = None;
      table = 2;
      by_value = true;
      members = member (scalar_type scalars.Long false) (codes "id") true 0 ∷ member (scalar_type scalars.Long true) (codes "queueId") true 1 ∷ [];
    }
    ∷ record {
      class = codes "Line";
      within = Some (codes "InvoiceDao");
      table = 1;
      by_value = false;
      members = member (scalar_type scalars.Long false) (codes "id") false 0 ∷ member (scalar_type scalars.Long false) (codes "dueDay") false 1 ∷ [];
    } ∷ []

abbrev pub name : List ℕ → PatternItem
name bs = record { kind = kinds.Name; bytes = bs }

abbrev pub sign : List ℕ → PatternItem
sign bs = record { kind = kinds.Sign; bytes = bs }

abbrev pub text : List ℕ → PatternItem
text bs = record { kind = kinds.Text; bytes = bs }

abbrev pub worked_fetches : List FetchPattern
worked_fetches =
    record { table = 0; within = None; items = name (codes "users") ∷ sign (codes ".") ∷ name (codes "findAll") ∷ sign (codes "(") ∷ sign (codes ")") ∷ [] }
    ∷ record {
      table = 0;
      within = None;
      items =
          name (codes "session") ∷ sign (codes "(") ∷ sign (codes ")") ∷ sign (codes ".") ∷ name (codes "createQuery") ∷ sign (codes "(") ∷ text (codes "\"from UserAccount\"") ∷ sign (codes ")") ∷ sign (codes ".") ∷ name (codes "list") ∷ sign (codes "(") ∷ sign (codes ")") ∷ [];
    }
    ∷ record { table = 2; within = Some (codes "InvoiceDao"); items = name (codes "loadAll") ∷ sign (codes "(") ∷ sign (codes ")") ∷ [] } ∷ []

abbrev pub worked_constants : List Constant
worked_constants =
    record {
      kind = scalars.Text;
      names = codes "Codes" ∷ codes "ADMIN" ∷ [];
      value = record { kind = scalars.Text; negative = false; bytes = codes "\"admin\"" };
    } ∷ []

abbrev pub part : PatternItem → Part
part i = parts.Item i

abbrev pub worked_templates : List Template
worked_templates =
    record {
      kind = queries.List;
      front =
          part (name (codes "em")) ∷ part (sign (codes ".")) ∷ part (name (codes "createNativeQuery")) ∷ part (sign (codes "(")) ∷ parts.Sql ∷ part (sign (codes ",")) ∷ parts.Type ∷ part (sign (codes ".")) ∷ part (name (codes "class")) ∷ part (sign (codes ")")) ∷ [];
      each = part (sign (codes ".")) ∷ part (name (codes "setParameter")) ∷ part (sign (codes "(")) ∷ parts.Number ∷ part (sign (codes ",")) ∷ parts.Argument ∷ part (sign (codes ")")) ∷ [];
      back = part (sign (codes ".")) ∷ part (name (codes "getResultList")) ∷ part (sign (codes "(")) ∷ part (sign (codes ")")) ∷ [];
    }
    ∷ record {
      kind = queries.Long;
      front = part (name (codes "db")) ∷ part (sign (codes ".")) ∷ part (name (codes "queryLong")) ∷ part (sign (codes "(")) ∷ parts.Sql ∷ [];
      each = part (sign (codes ",")) ∷ parts.Argument ∷ [];
      back = part (sign (codes ")")) ∷ [];
    }
    ∷ record {
      kind = queries.Boolean;
      front = part (name (codes "db")) ∷ part (sign (codes ".")) ∷ part (name (codes "queryBoolean")) ∷ part (sign (codes "(")) ∷ parts.Sql ∷ [];
      each = part (sign (codes ",")) ∷ parts.Argument ∷ [];
      back = part (sign (codes ")")) ∷ [];
    } ∷ []

abbrev pub worked_map : ViewMap
worked_map = record {
  classes = worked_classes;
  fetches = worked_fetches;
  constants = worked_constants;
  templates = worked_templates;
  texts_binary = true;
}

abbrev pub IsFault : List ℕ → MapRule → ℕ → Type 0
IsFault text rule at = map_of worked_tables text ≡ Err (fault_at rule at)

pub record WorkedFaults : Type 0 where
  pub keyword : IsFault (codes "table class { }") rules.Unexpected 6
  pub at_end : IsFault (codes "table") rules.Unexpected 5
  pub no_braces : IsFault (codes "query = db.q($sql, $type);") rules.Unexpected 8
  pub open_comment : IsFault (codes "/* open") rules.Unexpected 0
  pub no_type : IsFault (codes "constant A.B = x;") rules.Unexpected 9
  pub boxed_type : IsFault (codes "constant Integer A.B = 4;") rules.Unexpected 9
  pub texts_alone : IsFault (codes "texts;") rules.Unexpected 5
  pub by_nothing : IsFault (codes "table Line = line by { }") rules.Unexpected 21
  pub open_bracket : IsFault (codes "table Line = line { } fetch Line = a(;") rules.Unexpected 38
  pub binds_loosely : IsFault (codes "table Line = line { } fetch Line = a() + b();") rules.Unexpected 39
  pub lambda : IsFault (codes "queryLong = q($sql, p -> p {, $arg});") rules.Unexpected 12
  pub no_table : IsFault (codes "table X = nothing { }") rules.Unknown 10
  pub no_column : IsFault (codes "table Line = line { long id() = idd; }") rules.Unknown 32
  pub no_class : IsFault (codes "fetch Role = roles.findAll();") rules.Unknown 6
  pub table_twice : IsFault (codes "table A = line { } table B = line { }") rules.DoubleName 29
  pub member_twice : IsFault (codes "table Line = line { long id; long id; }") rules.DoubleName 34
  pub pattern_twice : IsFault (codes "table Line = line { } fetch Line = a(); fetch Line = a();") rules.DoubleName 53
  pub template_twice : IsFault (codes "queryLong = q($sql {, $arg}); queryLong = q($sql {, $arg});") rules.DoubleName 30
  pub language_class : IsFault (codes "table List = line { }") rules.DoubleName 6
  pub java_class : IsFault (codes "table Objects = line { }") rules.DoubleName 6
  pub front_of_another : IsFault (codes "queryLong = q($sql {, $arg}); queryBoolean = q($sql {, $arg}).get(0);") rules.DoubleName 45
  pub same_without_arguments : IsFault (codes "queryLong = q($sql {, $arg}); queryBoolean = q($sql {, p($arg)});") rules.DoubleName 45
  pub no_number : IsFault (codes "table Line = line { String id; }") rules.Mismatch 20
  pub long_for_int : IsFault (codes "constant int A.B = 5L;") rules.Mismatch 9
  pub may_be_null : IsFault (codes "table UserAccount = user_account { Long role_id; }") rules.Nullable 40
