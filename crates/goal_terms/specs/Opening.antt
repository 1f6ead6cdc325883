-- Parts of rules among the holes of a goal: each hole of a part as a type hole of its own, and each alias that is to be read as one more.
use Rattle.std.specs.Prelude.{◌≡◌, ℕ, ◌≤◌, ◌<◌, true, map, Some}
use Rattle.goal_terms.specs.Words.{Hole, Term, hole, apply, hole_number, Log, found, resolved, IsBelow, Fill, role, IsRead, IsFilling, stands, MayRead, IsGeneral}
use Rattle.hir_types.specs.declared.head.Hole.TheVariants as hole_of
use Rattle.goal_terms.specs.Terms.{IsHead, HasHeads}

-- each name is a type hole below `n`
abbrev pub AreNames : ℕ → Log → Type 0
AreNames n l = (k : Hole) (v : Term) → found l k ≡ Some v → (i : ℕ) × (v ≡ hole (hole_of.Ty i)) × (i < n)

-- what stands for the names under `z` is what stands for the part's holes under `q`
abbrev pub Stand : Fill → Fill → Log → Type 0
Stand q z names = (k : Hole) (v : Term) → found names k ≡ Some v → apply z v ≡ q k

-- `z` but for holes from `n` on, under which `u` is `x`
pub record Lifted (n : ℕ) (names : Log) (q z : Fill) (u x : Term) : Type 0 where
  pub at : Fill
  pub filling : IsFilling at
  pub named : Stand q at names
  pub same : (k : Hole) → hole_number k < n → at k ≡ z k
  pub is : apply at u ≡ x

-- `u` is the part `t` with its names and with new holes from `n` to `m` for its aliases: what it is under an assignment is what the part
-- may read as
pub record Opened (n : ℕ) (before : Log) (m : ℕ) (after : Log) (t u : Term) : Type 0 where
  pub grows : n ≤ m
  pub names : AreNames m after
  pub keeps : (k : Hole) (v : Term) → found before k ≡ Some v → found after k ≡ Some v
  pub below : IsBelow m u
  pub roles : role u ≡ role t
  pub head : IsHead t → IsHead u
  pub heads : HasHeads t → HasHeads u
  pub told : (k : Hole) → stands k t ≡ true → (v : Term) × (found after k ≡ Some v)
  pub lowers : (q z : Fill) → Stand q z after → MayRead q t (apply z u)
  pub lifts : (q z : Fill) (x : Term) → Stand q z before → IsFilling z → IsRead x → MayRead q t x → Lifted n after q z u x

abbrev pub resolved_all : Log → Log → Log
resolved_all l = map (λ e. (e.0, resolved l e.1))

-- the fill is the most general under which the part `t` may read as an instance of `w`; it is read and has heads
pub record IsCommon (t w : Term) (p : Fill) : Type 0 where
  pub general : IsGeneral t w p
  pub at : Fill
  pub filling : IsFilling at
  pub reads : MayRead p t (apply at w)
  pub read : (k : Hole) → IsRead (p k)
  pub heads : (k : Hole) → HasHeads (p k)
