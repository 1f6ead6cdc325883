use Rattle.std.proofs.Common.{map, take}
use Rattle.infer_table.specs.Words.{arg_term, parts_of_types}
use Rattle.infer_table.specs.Own.{OpensParts, bounds_terms, OnlyMakes, origins_of}
use Rattle.infer_table.proofs.bindings.Bindings.+open.Given as goal

abbrev pub invariant-open_types-loop-ty : goal.invariant-open_types-loop-ty
invariant-open_types-loop-ty l = record {
  makes : OnlyMakes l.initial.self l.self;
  opens : OpensParts l.initial.self.kinds l.self.kinds (origins_of l.initial.found.items) (origins_of l.found.items) (parts_of_types (take l.ty-index l.types)) (parts_of_types l.made);
}

abbrev pub invariant-open_args-loop-arg : goal.invariant-open_args-loop-arg
invariant-open_args-loop-arg l = record {
  makes : OnlyMakes l.initial.self l.self;
  opens : OpensParts l.initial.self.kinds l.self.kinds (origins_of l.initial.found.items) (origins_of l.found.items) (map arg_term (take l.arg-index l.args)) (map arg_term l.made);
}

abbrev pub invariant-open_bounds-loop-bound : goal.invariant-open_bounds-loop-bound
invariant-open_bounds-loop-bound l = record {
  makes : OnlyMakes l.initial.self l.self;
  opens : OpensParts l.initial.self.kinds l.self.kinds (origins_of l.initial.found.items) (origins_of l.found.items) (bounds_terms (take l.bound-index l.bounds)) (bounds_terms l.made);
}
