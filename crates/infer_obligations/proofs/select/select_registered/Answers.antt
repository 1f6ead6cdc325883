use Rattle.std.proofs.Common.{◌≡◌, false, subst, ◌∙◌}
use Rattle.infer_obligations.specs.Words.{system, ItemSources, kept_grows, all_grows, AreKept, Went, NoneLeft}
use Rattle.infer_obligations.proofs.select.select_registered.Goals as goal

-- what is kept stays so where integer types alone were put in
pub select_obligations_where_possible-requires-2-clause-kept : goal.select_obligations_where_possible-requires-2-clause-kept
select_obligations_where_possible-requires-2-clause-kept c =
    let first = c.select_obligations_where_possible.new.self in
    kept_grows first.sources.facts (system first.sources.sources) first.table c.fall_back_integers.new.self first.obligations c.in_ok-select_obligations_where_possible.ensures.kept c.fall_back_integers.ensures.grew

pub select_obligations_where_possible-requires-2-clause-all : goal.select_obligations_where_possible-requires-2-clause-all
select_obligations_where_possible-requires-2-clause-all c =
    let first = c.select_obligations_where_possible.new.self in
    all_grows (system first.sources.sources) first.table c.fall_back_integers.new.self first.obligations c.in_ok-select_obligations_where_possible.ensures.all c.fall_back_integers.ensures.grew

pub returns-clause-selected : goal.returns-clause-selected
returns-clause-selected c =
    let start = c.args.goals.now in
    let raw = start.sources.facts in
    let f = system start.sources.sources in
    let one = c.select_obligations_where_possible.new.self in
    let two = c.select_obligations_where_possible-2.new.self in
    let a = c.in_ok-select_obligations_where_possible.ensures in
    let b = c.in_ok-select_obligations_where_possible-2.ensures in
    let same : one.sources ≡ start.sources = c.select_obligations_where_possible.ensures.sources in
    let last : two.sources ≡ start.sources = c.select_obligations_where_possible-2.ensures.sources ∙ same in
    record {
      bounded_table = one.table;
      bounded = one.obligations;
      went = subst (λ z. Went raw f z start.table start.obligations one.table one.obligations) c.requires.bounded a.went;
      most = (subst (λ (z : ItemSources). AreKept z.facts (system z.sources) one.table one.obligations) same a.kept).selected;
      none_left = subst (λ z. NoneLeft raw f z one.table one.obligations) c.requires.bounded (subst (λ (z : ItemSources). NoneLeft z.facts (system z.sources) start.bounded one.table one.obligations) same a.none_left);
      fallen_table = c.fall_back_integers.new.self;
      fell = c.in_ok-fall_back_integers.ensures.fell;
      went_on = subst (λ (z : ItemSources). Went z.facts (system z.sources) false c.fall_back_integers.new.self one.obligations two.table two.obligations) same b.went;
      none_left_at_last = subst (λ (z : ItemSources). NoneLeft z.facts (system z.sources) false two.table two.obligations) last b.none_left;
    }
