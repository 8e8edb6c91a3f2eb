-- What the rules of the kernel form ask of: a fragment in its program, and what the statements of its
-- run set and mention.
use Rattle.std.specs.Prelude.{ℕ, List}
use Rattle.std.specs.declared.option.Option.{Option}
use Rattle.qbs_base.specs.Values.{Schema}
use Rattle.java_mean.specs.Types.{Types}
use Rattle.sql_ast.specs.Tree.{PlainQuery}
use Rattle.loop_text.specs.Statements.Fragment.{Fragment}
use Rattle.loop_text.specs.Sites.Sites.{Site, sites_of}

-- A fragment under a schema, with the way that query texts are read, the types of the variables that are
-- visible at the loop, and the sites of the loop.
pub record Setting : Type 0 where
  pub schema : Schema
  pub read : List ℕ → Option PlainQuery
  pub types : Types
  pub fragment : Fragment
  pub sites : List Site

abbrev pub setting_of : Schema → (List ℕ → Option PlainQuery) → Types → Fragment → Setting
setting_of schema read types f = record { schema = schema; read = read; types = types; fragment = f; sites = sites_of f.loop }
