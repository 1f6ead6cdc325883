-- What goals read as: it is one goal, read, without holes where the first is, and Yes where the first is.
use Rattle.std.specs.Prelude.{◌≡◌, ℕ, zero, suc, true, List, Option, Some, None, refl}
use Rattle.std.proofs.Common.{sym, ap, ◌∙◌, subst}
use Rattle.infer_needs.specs.Words.{Goal, GenericDefId, TypeAliasId, GenericArg, TraitRef, out-TraitRef, Ty, Term, hole, term, RawFacts, IsLawful, IsRead, ReadsAs, Kind, implements, projects, Asked, System, is_among, YesAt, answers, ReadingIs, known_below, term_of, Sources, asked_of, system, Proof, asked_goal, IsSystemOf, IsProvedIf, IsGoodGoal, IsWritten, HoldsUnknown, GoalReads, IsAboutAlias, stays_at}
use Rattle.hir_types.specs.declared.goal.Goal.TheVariants as goal
use Rattle.infer_needs.proofs.Words.{read_reads, reads_one, answers_sound, answers_read, reads_read, aliases_good, goal_reads}
use Rattle.infer_needs.specs.Words.goal_search.declared.sources.Asked.{Asked as SearchAsked}
use Rattle.infer_needs.specs.Own.{HasProofOf, IsGoalRead}
use Rattle.infer_needs.proofs.ReadsYes.{term_reads_written}

abbrev asks : Kind → Term → Asked
asks c w = record { kind = c; parts = w }

-- ---- at one depth

module _ (f : System) (n : ℕ) (a b : Asked) (reads : GoalReads f n a b) where
  -- no associated type is left in it that could be read
  pub goal_is_read : IsRead b.parts
  goal_is_read = reads_read (answers f n).Alias (answers_read f n) hole a.parts b.parts (λ k o. tt) reads.parts

  -- so it reads as itself
  itself : ReadsAs (answers f n).Alias b.parts b.parts
  itself = read_reads (answers f n).Alias b.parts goal_is_read

  -- whatever the first reads as
  same_parts : (w : Term) → ReadsAs (answers f n).Alias a.parts w → w ≡ b.parts
  same_parts w r = reads_one (answers f n).Alias (answers_sound f n).one hole a.parts w b.parts r reads.parts

  pub reads_same : (c : Asked) → GoalReads f n a c → c ≡ b
  reads_same c r = λ i. record { kind = (r.kind ∙ sym reads.kind) i; parts = same_parts c.parts r.parts i }

-- it is Yes where the first is
pub read_yes : (f : System) (n : ℕ) (a b : Asked) → GoalReads f n a b → (answers f n).Yes a → (answers f n).Yes b
read_yes f zero a b reads y =
    let P : Kind → Term → Type 0 = λ c w. YesAt f (answers f 0).Alias (known_below f 0) c w in
    let kind = sym reads.kind in (
      b.parts,
      itself f 0 a b reads,
      subst (λ c. is_among f.sized c ≡ true) kind y.2,
      subst (P b.kind) (same_parts f 0 a b reads y.0 y.1) (subst (λ c. P c y.0) kind y.3),
    )
read_yes f (suc m) a b reads y =
    let P : Kind → Term → Type 0 = λ c w. YesAt f (answers f (suc m)).Alias (answers f m) c w in
    (b.parts, itself f (suc m) a b reads, subst (P b.kind) (same_parts f (suc m) a b reads y.0 y.1) (subst (λ c. P c y.0) (sym reads.kind) y.2))

-- of what was read, as the sources, the facts and the goal are
pub read_at : (s z : Sources) (raw x : RawFacts) (c : SearchAsked) (a : Asked) (o : Option Term) → z ≡ s → x ≡ raw → asked_of c ≡ a → ReadingIs (answers (system z) x.limits.goal_depth).Alias hole (term_of c.parts) o
    → ReadingIs (answers (system s) raw.limits.goal_depth).Alias hole a.parts o
read_at s z raw x c a o same facts is r =
    subst (λ (t : Term). ReadingIs (answers (system s) raw.limits.goal_depth).Alias hole t o) (ap (λ (b : Asked). b.parts) is)
    (subst (λ (y : Sources). ReadingIs (answers (system y) raw.limits.goal_depth).Alias hole (term_of c.parts) o) same
    (subst (λ (y : RawFacts). ReadingIs (answers (system z) y.limits.goal_depth).Alias hole (term_of c.parts) o) facts r))

pub reads_none : (f : System) (n : ℕ) (a : Asked) → ReadingIs (answers f n).Alias hole a.parts None → IsGoalRead f n a None
reads_none f n a none b r = none b.parts r.parts

-- ---- goals of inference

-- the goal of inference with these parts
goal_with : (c : Kind) (w : Term) → IsGoodGoal c w → (g : Goal) × (asked_goal g ≡ asks c w)
goal_with (implements t) w h = (goal.Trait (record { id = t; args = h.goal.0 }), ap (asks (implements t)) (sym h.goal.1))
goal_with (projects k) w h = (goal.Projection k h.goal.0 h.goal.1, ap (asks (projects k)) (sym h.goal.2))

module _ (raw : RawFacts) (item : GenericDefId) (f : System) (of : IsSystemOf raw item f) (n : ℕ) (g : Goal) (written : IsWritten (asked_goal g).parts) where
  -- what was read is a goal of inference
  pub made_reads : (c : Kind) (w : Term) (made : Goal) → c ≡ (asked_goal g).kind → ReadsAs (answers f n).Alias (asked_goal g).parts w → ((h : Goal) → asked_goal h ≡ asks c w → asked_goal made ≡ asks c w) → GoalReads f n (asked_goal g) (asked_goal made)
  made_reads c w made kind reads is =
      let q = goal_with c w (subst (λ (k : Kind). IsGoodGoal k w) (sym kind) (goal_reads (answers f n).Alias (aliases_good raw item f of n) g written w reads)) in
      let e = is q.0 q.1 in
      record {
        kind = ap (λ (x : Asked). x.kind) e ∙ kind;
        parts = subst (ReadsAs (answers f n).Alias (asked_goal g).parts) (sym (ap (λ (x : Asked). x.parts) e)) reads;
      }

  -- without holes
  pub goal_written : IsLawful raw → (b : Asked) → GoalReads f n (asked_goal g) b → IsWritten b.parts
  goal_written law b reads = term_reads_written raw law item f of n (asked_goal g).parts b.parts reads.parts written

-- ---- goals about associated types

pub trait_not_about : (a : Asked) (r : TraitRef) → a.kind ≡ (asked_goal (goal.Trait r)).kind → IsAboutAlias a → ⊥
trait_not_about a r is h = (let clash : implements (out-TraitRef r).id ≡ projects h.alias = sym is ∙ h.is in cc)

module _ (k : TypeAliasId) (xs : List GenericArg) (t : Ty) where
  pub itself_not_about : term t ≡ stays_at k xs → IsAboutAlias (asked_goal (goal.Projection k xs t)) → ⊥
  itself_not_about same h =
      let is : projects k ≡ projects h.alias = h.is in
      let k_is : k ≡ h.alias = cc in
      h.other (same ∙ ap (λ (j : TypeAliasId). stays_at j xs) k_is)

  pub other_is_about : (term t ≡ stays_at k xs → ⊥) → (HoldsUnknown (asked_goal (goal.Projection k xs t)).parts → ⊥) → IsAboutAlias (asked_goal (goal.Projection k xs t))
  other_is_about other known = record { alias = k; is = refl; known = known; other = other }

  pub about_is_other : IsAboutAlias (asked_goal (goal.Projection k xs t)) → term t ≡ stays_at k xs → ⊥
  about_is_other h same = itself_not_about same h

-- ---- its proof

-- of a goal that is Yes one was found
pub proved_yes : (f : System) (n : ℕ) (ps : List Proof) (g : Goal) (found : Option ℕ) → (answers f n).Yes (asked_goal g) → IsProvedIf f n ps g found → HasProofOf ps (asked_goal g)
proved_yes f n ps g (Some k) y h = (k, h.0, h.1, ap asked_goal h.2)
proved_yes f n ps g None y h = absurd (h y)
