use Rattle.std.proofs.Common.{◌≡◌, [], take}
use Rattle.infer_table.specs.Own.{log_of, OnlyAdds, AreSettled, origins_of, BindsSome}
use Rattle.infer_table.proofs.bindings.Bindings.settle_all.Given as goal

-- the origins so far are settled, and only bindings were added
abbrev pub invariant-loop-origin : goal.invariant-loop-origin
invariant-loop-origin l = record {
  binds : OnlyAdds l.initial.self l.self;
  settled : AreSettled (log_of l.self.log) (origins_of (take l.origin-index l.origins));
  least : BindsSome (log_of l.initial.self.log) (log_of l.self.log) (origins_of l.origins);
  nothing : l.origins ≡ [] → l.self ≡ l.initial.self;
}
