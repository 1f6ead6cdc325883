-- What this crate takes from those below it.
pub use Rattle.goal_facts.proofs.Words.{get_from_take, get_last, get_left, get_more, get_set_other, get_set_same}
