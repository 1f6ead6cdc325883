-- Goals that were asked, what each was selected by, and the proofs of those that are done.
use Rattle.std.specs.Prelude.{◌≡◌, ◌⊎◌, ◌<◌, ◌≤◌, ◌+◌, ◌-◌, ◌++◌, ℕ, Bool, false, if◌then◌else◌, List, [], ◌∷◌, length, map, slice_get, slice_set, Option, Some, None, is_none}
use Rattle.goal_tree.specs.Words.{IsFront, ExprOrPatId, Goal, Proof, ProofSource}
use Rattle.goal_tree.specs.declared.obligation.Obligation.{Obligation}
use Rattle.goal_tree.specs.declared.obligation.Standing.{Standing}
use Rattle.goal_tree.specs.declared.obligation.Standing.TheVariants as standing
use Rattle.goal_tree.specs.declared.tree.GoalTree.{GoalTree}

-- ---- one obligation

abbrev pub IsOpenAt : List Standing → ℕ → Type 0
IsOpenAt ss i = slice_get ss i ≡ Some standing.Open

abbrev pub IsProvedAt : List Standing → ℕ → Type 0
IsProvedAt ss i = (k : ℕ) × (m : ℕ) × (n : ℕ) × (slice_get ss i ≡ Some (standing.Proved k m n))

-- it has this source, which asks for `n` obligations from number `m` on
abbrev pub IsSelectedAt : List Standing → ℕ → ProofSource → ℕ → ℕ → Type 0
IsSelectedAt ss i src m n = slice_get ss i ≡ Some (standing.Selected src m n)

abbrev pub IsWaitingAt : List Standing → ℕ → Type 0
IsWaitingAt ss i = (src : ProofSource) × (m : ℕ) × (n : ℕ) × IsSelectedAt ss i src m n

-- the same where it is proved
pub record IsProvedBy (ss : List Standing) (ps : List Proof) (i : ℕ) (src : ProofSource) (m n : ℕ) : Type 0 where
  pub number : ℕ
  pub proof : Proof
  pub proved : slice_get ss i ≡ Some (standing.Proved number m n)
  pub at : slice_get ps number ≡ Some proof
  pub source : proof.source ≡ src

abbrev pub HasSource : GoalTree → ℕ → ProofSource → ℕ → ℕ → Type 0
HasSource t i src m n = IsSelectedAt t.standings.items i src m n ⊎ IsProvedBy t.standings.items t.proofs.items i src m n

-- ---- what holds at any time

-- they stand behind it, and name it
pub record AreAskedBy (os : List Obligation) (i m n : ℕ) : Type 0 where
  pub behind : i < m
  pub within : m + n ≤ length os
  pub name_it : (j : ℕ) (o : Obligation) → m ≤ j → j < m + n → slice_get os j ≡ Some o → o.parent ≡ Some i

-- an obligation that names another is one of those that the other's source asks for; and where the other is proved, so is it
pub record IsAskedBy (ss : List Standing) (i p : ℕ) : Type 0 where
  pub before : p < i
  pub by : ((src : ProofSource) × (m : ℕ) × (n : ℕ) × IsSelectedAt ss p src m n × (m ≤ i) × (i < m + n))
      ⊎ (IsProvedAt ss p × IsProvedAt ss i)

-- the proof's children are those of the obligations from number `m` on, in their order, each before the proof `k`
abbrev pub AreChildren : List Standing → ℕ → List ℕ → ℕ → ℕ → Type 0
AreChildren ss k cs m n = (length cs ≡ n)
    × ((j c : ℕ) → slice_get cs j ≡ Some c → (c < k) × ((a : ℕ) × (b : ℕ) × (slice_get ss (m + j) ≡ Some (standing.Proved c a b))))

pub record IsProofAt (os : List Obligation) (ss : List Standing) (ps : List Proof) (i k m n : ℕ) : Type 0 where
  pub obligation : Obligation
  pub proof : Proof
  pub asked : slice_get os i ≡ Some obligation
  pub at : slice_get ps k ≡ Some proof
  pub goal : proof.goal ≡ obligation.goal
  pub children : AreChildren ss k proof.children m n

-- one of them isn't proved
abbrev pub SomeUnproved : List Standing → ℕ → ℕ → Type 0
SomeUnproved ss m n = (j : ℕ) × (m ≤ j) × (j < m + n) × (IsProvedAt ss j → ⊥)

-- but for the obligation `at`, what has a source and no proof waits for something
pub record IsTreeBut (at : ℕ → Type 0) (t : GoalTree) : Type 0 where
  pub as_many : length t.standings.items ≡ length t.obligations.items
  pub parents : (i p : ℕ) (o : Obligation) → slice_get t.obligations.items i ≡ Some o → o.parent ≡ Some p → IsAskedBy t.standings.items i p
  pub selected : (i m n : ℕ) (src : ProofSource) → HasSource t i src m n → AreAskedBy t.obligations.items i m n
  pub proved : (i k m n : ℕ) → slice_get t.standings.items i ≡ Some (standing.Proved k m n)
      → IsProofAt t.obligations.items t.standings.items t.proofs.items i k m n
  pub owned : (k : ℕ) (x : Proof) → slice_get t.proofs.items k ≡ Some x → (i : ℕ) × (m : ℕ) × (n : ℕ)
      × (slice_get t.standings.items i ≡ Some (standing.Proved k m n))
  pub waits : (i m n : ℕ) (src : ProofSource) → IsSelectedAt t.standings.items i src m n → (at i → ⊥) → SomeUnproved t.standings.items m n

abbrev pub IsTree : GoalTree → Type 0
IsTree = IsTreeBut (λ i. ⊥)

-- ---- what is done to them

abbrev pub registered : Goal → ExprOrPatId → ℕ → Obligation
registered g n d = record { goal = g; node = n; depth = d; parent = None }

abbrev pub asked_by : ExprOrPatId → ℕ → ℕ → Goal → Obligation
asked_by n d p g = record { goal = g; node = n; depth = d; parent = Some p }

-- for each an open one
abbrev pub opens : List Obligation → List Standing
opens = map (λ o. standing.Open)

-- these were asked as well
pub record IsAsked (t u : GoalTree) (os : List Obligation) : Type 0 where
  pub obligations : u.obligations.items ≡ t.obligations.items ++ os
  pub standings : u.standings.items ≡ t.standings.items ++ opens os
  pub proofs : u.proofs.items ≡ t.proofs.items

-- the numbers of their proofs, or one isn't proved
pub record AreProved (ss : List Standing) (m n : ℕ) (ks : List ℕ) : Type 0 where
  pub as_many : length ks ≡ n
  pub each : (j k : ℕ) → slice_get ks j ≡ Some k → (a : ℕ) × (b : ℕ) × (slice_get ss (m + j) ≡ Some (standing.Proved k a b))

abbrev pub AreProvedAs : List Standing → ℕ → ℕ → Option (List ℕ) → Type 0
AreProvedAs ss m n (Some ks) = AreProved ss m n ks
AreProvedAs ss m n None = SomeUnproved ss m n

-- ---- how a tree grows

-- what was there stays: obligations, sources, proofs by their numbers
pub record IsLater (t u : GoalTree) : Type 0 where
  pub obligations : IsFront t.obligations.items u.obligations.items
  pub sources : (i m n : ℕ) (src : ProofSource) → HasSource t i src m n → HasSource u i src m n
  pub proved : (i k m n : ℕ) → slice_get t.standings.items i ≡ Some (standing.Proved k m n)
      → slice_get u.standings.items i ≡ Some (standing.Proved k m n)
  pub proofs : IsFront t.proofs.items u.proofs.items

-- the obligation `at`, whose source asks for `n` from number `m` on, has the next proof
pub record IsProvedNext (t u : GoalTree) (at : ℕ) (x : Proof) (m n : ℕ) : Type 0 where
  pub obligations : u.obligations.items ≡ t.obligations.items
  pub standings : u.standings.items ≡ slice_set t.standings.items at (standing.Proved (length t.proofs.items) m n)
  pub proofs : u.proofs.items ≡ t.proofs.items ++ x ∷ []

-- some of those that have a source may be proved now; all else stays
pub record IsMoreProved (t u : GoalTree) : Type 0 where
  pub obligations : u.obligations.items ≡ t.obligations.items
  pub later : IsLater t u
  pub sources : (i m n : ℕ) (src : ProofSource) → HasSource u i src m n → HasSource t i src m n
  pub still_open : (i : ℕ) → IsOpenAt t.standings.items i → IsOpenAt u.standings.items i

-- and the one that is named may be proved next; where none is, none can be proved
abbrev pub IsProvedUpTo : GoalTree → GoalTree → ℕ → Option ℕ → Type 0
IsProvedUpTo t u at (Some p) = IsMoreProved t u × IsTreeBut (λ i. i ≡ p) u × IsWaitingAt u.standings.items p × (p < at)
IsProvedUpTo t u at None = IsMoreProved t u × IsTree u

-- the obligation `at` was selected by the source, which asks for these goals; what else is open stays so, and nothing else was selected
pub record IsSelectedBy (t u : GoalTree) (at : ℕ) (src : ProofSource) (gs : List Goal) : Type 0 where
  pub later : IsLater t u
  pub source : HasSource u at src (length t.obligations.items) (length gs)
  pub asked : (o : Obligation) → slice_get t.obligations.items at ≡ Some o
      → u.obligations.items ≡ t.obligations.items ++ map (asked_by o.node (o.depth - 1) at) gs
  pub others : (i m n : ℕ) (s : ProofSource) → HasSource u i s m n → (i ≡ at) ⊎ HasSource t i s m n
  pub still_open : (i : ℕ) → (i ≡ at → ⊥) → IsOpenAt t.standings.items i → IsOpenAt u.standings.items i
  pub new_open : (i : ℕ) → length t.obligations.items ≤ i → i < length u.obligations.items → IsOpenAt u.standings.items i

-- the same goals, which came as far, and the same proofs
pub record IsCopied (t u : GoalTree) : Type 0 where
  pub obligations : u.obligations.items ≡ t.obligations.items
  pub standings : u.standings.items ≡ t.standings.items
  pub proofs : u.proofs.items ≡ t.proofs.items

-- ---- what is told of it

-- registered, and without proof
abbrev pub is_pending : Obligation → Standing → Bool
is_pending o (standing.Proved k m n) = false
is_pending o _ = is_none o.parent

-- the goals of nodes that have no proof, with their nodes, in their order
abbrev pub pending_of : List Obligation → List Standing → List (Goal × ExprOrPatId)
pending_of (o ∷ os) (s ∷ ss) = if is_pending o s then (o.goal, o.node) ∷ pending_of os ss else pending_of os ss
pending_of _ _ = []
