use Rattle.std.proofs.Common.{List, ℕ, sym, subst}
use Rattle.infer_goals.specs.Own.{IsAmong, IsListed}
use Rattle.infer_goals.proofs.Waking.{listed_now, listed_still}
use Rattle.infer_goals.proofs.sleepers.push_hole.Goals as goal

pub returns-clause-kept : goal.returns-clause-kept
returns-clause-kept c m i h =
    let room = c.in_ok-make_room.ensures in
    let before = subst (λ xs. IsAmong xs i) (sym (room.same m)) h in
    subst (λ (ls : List (List ℕ)). IsListed ls m i) (sym c.in_ok-push_at.ensures) (listed_still c.make_room.new.lists.items c.args.hole c.args.at room.room m i before)

pub returns-clause-listed : goal.returns-clause-listed
returns-clause-listed c = subst (λ (ls : List (List ℕ)). IsListed ls c.args.hole c.args.at) (sym c.in_ok-push_at.ensures) (listed_now c.make_room.new.lists.items c.args.hole c.args.at c.in_ok-make_room.ensures.room)
