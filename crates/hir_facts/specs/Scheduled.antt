-- The numbers of each body.
use Rattle.std.specs.Prelude.{ℕ, ◌≡◌, List, length, slice_get, Some}
use Rattle.hir_facts.specs.Words.{RawBody, Schedule, IsSchedule, AreDepths}

-- one each, in the order of the bodies
pub record AreSchedules (bodies : List RawBody) (schedules : List Schedule) : Type 0 where
  pub size : length schedules ≡ length bodies
  pub each : (i : ℕ) (b : RawBody) (s : Schedule) → slice_get bodies i ≡ Some b → slice_get schedules i ≡ Some s → IsSchedule b s
      × AreDepths b s
