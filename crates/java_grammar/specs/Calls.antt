-- The code's calls as those of the grammar.
use Rattle.java_grammar.specs.declared.calls.Called.{Called}
use Rattle.java_grammar.specs.declared.calls.Called.TheVariants as calls
use Rattle.java_grammar.specs.Expressions.{Call, EqualTo, SizeOf, GetFrom, ContainedIn, FetchFrom, QueryOf, QueryOfLong, QueryOfBoolean}

abbrev pub seen : Called → Call
seen calls.EqualTo = EqualTo
seen calls.SizeOf = SizeOf
seen calls.GetFrom = GetFrom
seen calls.ContainedIn = ContainedIn
seen calls.FetchFrom = FetchFrom
seen calls.QueryOf = QueryOf
seen calls.QueryOfLong = QueryOfLong
seen calls.QueryOfBoolean = QueryOfBoolean
