-- A fragment as the code holds it.
use Rattle.java_ast.specs.Reading.{statement, statements}
use Rattle.java_mean.specs.Visible.{names_seen}
use Rattle.loop_setting.specs.declared.places.setting.Fragment as code
use Rattle.loop_text.specs.Statements.Fragment.{Fragment}

abbrev pub fragment_in_code : code.Fragment → Fragment
fragment_in_code f = record { visible = names_seen f.visible.now; run = statements f.run.now; loop = statement f.looped.now; behind = statements f.behind.now }
