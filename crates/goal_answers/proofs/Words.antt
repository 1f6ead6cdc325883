-- What this crate takes from those below it.
pub use Rattle.infer_table.proofs as infer_table
pub use Rattle.infer_table.proofs.BindingLaws.{binds_of_all, get_from_take, get_last, get_left, get_more, get_set_other, get_set_same, log_of_append, resolved_made}
pub use Rattle.infer_table.proofs.CompletionLaws.{closing_meets}
pub use Rattle.infer_table.proofs.FallingBack.{binds_only_fallen}
pub use Rattle.infer_table.proofs.Heads.{head_decides}
pub use Rattle.infer_table.proofs.HoleLaws.{grew_by_hole, grew_by_nothing, grew_twice}
pub use Rattle.infer_table.proofs.TableLaws.{hole_where_open, is_var_at}
pub use Rattle.infer_table.proofs.UndoLaws.{front_itself, grew_itself}
pub use Rattle.infer_table.proofs.UnifyLaws.{SameUnder, unified_bind, unified_equal, unified_flip, unified_if_left, unified_if_put_in_right, unified_pair}
pub use Rattle.infer_table.proofs.WaitingCounts.{waiting_count}
pub use Rattle.infer_table.proofs.WaitingLaws.{left_from-push}
