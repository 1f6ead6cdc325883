-- What goals are answered by, as the search holds it.
use Rattle.std.specs.Prelude.{List, map, slice_get}
use Rattle.std.specs.Option.{option_map, option_and_then}
use Rattle.goal_search.specs.Words.{AdtId, Kind as AskedKind, implements, projects, Asked as AskedGoal, Rule as SourceRule, System, term_of}
use Rattle.goal_search.specs.declared.sources.Kind.{Kind}
use Rattle.goal_search.specs.declared.sources.Kind.TheVariants as kind
use Rattle.goal_search.specs.declared.sources.Asked.{Asked}
use Rattle.goal_search.specs.declared.sources.Rule.{Rule}
use Rattle.goal_search.specs.declared.sources.Sources.{Sources}

abbrev pub kind_of : Kind → AskedKind
kind_of (kind.Implements t) = implements t
kind_of (kind.Projects k) = projects k

abbrev pub asked_of : Asked → AskedGoal
asked_of g = record { kind = kind_of g.kind; parts = term_of g.parts }

abbrev pub asked_list : List Asked → List AskedGoal
asked_list = map asked_of

abbrev pub rule_of : Rule → SourceRule
rule_of r = record { head = asked_of r.head; preds = asked_list r.preds.items }

abbrev pub rules_of : List Rule → List SourceRule
rules_of = map rule_of

abbrev pub system : Sources → System
system s = record {
  clauses = rules_of s.clauses.items;
  rules = rules_of s.rules.items;
  sized = s.sized.items;
  copied = s.copied.items;
  last_field = λ (a : AdtId). option_map term_of (option_and_then (λ o. o) (slice_get s.last_fields.items a.0));
  tail = s.tail;
}
