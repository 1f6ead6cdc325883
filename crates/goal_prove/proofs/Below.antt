-- A predicate that is Yes below the depth, as a goal that is read.
use Rattle.std.specs.Prelude.{◌≡◌, ◌⊎◌, ◌≤◌, ℕ, zero, suc, true, List}
use Rattle.std.proofs.Common.{inl, inr, sym, ap, ◌∙◌, subst, arith}
use Rattle.goal_prove.specs.Words.{Goal, Term, apply, RawFacts, Fill, Aliases, Reads, ReadsAs, Kind, implements, projects, Asked, System, asked_at, is_among, YesAt, answers, IsDeep, known_below, IsDone, SystemHasHeads, Proof, asked_goal, IsRead}
use Rattle.hir_types.specs.declared.goal.Goal.TheVariants as goal
use Rattle.goal_prove.proofs.Words.{read_reads, reads_one, reads_within, answers_sound, reading_done, reads_before, within}
use Rattle.goal_prove.specs.Own.{IsGoodGoal, deep_alias, ReadsTo, IsAsked, PredIsAsked, IsProvedAs, IsPredProved}
use Rattle.goal_prove.proofs.Holes.{whole_stays}

-- the goal of inference with these parts
goal_with : (c : Kind) (w : Term) → IsGoodGoal c w → (g : Goal) × (asked_goal g ≡ record { kind = c; parts = w })
goal_with (implements t) w h = (goal.Trait (record { id = t; args = h.goal.0 }), λ i. record { kind = implements t; parts = sym h.goal.1 i })
goal_with (projects k) w h = (goal.Projection k h.goal.0 h.goal.1, λ i. record { kind = projects k; parts = sym h.goal.2 i })

module _ (raw : RawFacts) (f : System) (c : Kind) (w : Term) (good : IsGoodGoal c w) (done : IsDone w) where
  -- of which these are the parts
  pub made_parts : (made : Goal) → ((g : Goal) → asked_goal g ≡ record { kind = c; parts = w } → asked_goal made ≡ record { kind = c; parts = w }) → (asked_goal made).parts ≡ w
  made_parts made is = (let q = goal_with c w good in ap (λ (x : Asked). x.parts) (is q.0 q.1))

  -- such a goal reads as itself
  pub made_reads : (made : Goal) → ((g : Goal) → asked_goal g ≡ record { kind = c; parts = w } → asked_goal made ≡ record { kind = c; parts = w }) → ReadsTo raw f made c w
  made_reads made is =
      let q = goal_with c w good in
      let e = is q.0 q.1 in
      record {
        kind = ap (λ (x : Asked). x.kind) e;
        reads = λ s filling.
            subst (λ (x : Asked). ReadsAs (deep_alias raw f) (apply s x.parts) w) (sym e)
            (subst (λ y. ReadsAs (deep_alias raw f) y w) (sym (whole_stays s w good.whole)) (read_reads (deep_alias raw f) w done.read));
      }

-- what Yes tells at a depth
pub record IsYesAs (f : System) (m : ℕ) (g : Asked) : Type 0 where
  pub target : Term
  pub reads : ReadsAs (answers f m).Alias g.parts target
  pub yes : YesAt f (answers f m).Alias (known_below f m) g.kind target
  pub deep : IsDeep m ⊎ (is_among f.sized g.kind ≡ true)

pub yes_as : (f : System) (m : ℕ) (g : Asked) → (answers f m).Yes g → IsYesAs f m g
yes_as f zero g y = record { target = y.0; reads = y.1; yes = y.3; deep = inr y.2 }
yes_as f (suc m) g y = record { target = y.0; reads = y.1; yes = y.2; deep = inl tt }

module _ (raw : RawFacts) (f : System) (heads : SystemHasHeads f) (n : ℕ) (le : n ≤ raw.limits.goal_depth) (p : Fill) (q : Asked) (asked : PredIsAsked raw f n p q) where
  module _ (m : ℕ) (e : n ≡ suc m) where
    abbrev A : Aliases
    A = (answers f m).Alias

    yes : IsYesAs f m (asked_at p q)
    yes = yes_as f m (asked_at p q) (subst (λ (i : ℕ). (known_below f i).Yes (asked_at p q)) e asked.yes)

    here : Reads A p q.parts yes.target
    here = reads_before A p q.parts yes.target (λ k o. (asked.done.fills k o).read) yes.reads

    -- it reads as something
    pub has_reading : ((u : Term) → Reads A p q.parts u → ⊥) → ⊥
    has_reading none = none yes.target here

    pub below : m ≤ raw.limits.goal_depth
    below = omega (arith, e, le)

    module _ (u : Term) (reads : Reads A p q.parts u) where
      pub is_done : IsDone u
      is_done = reading_done f heads m p q.parts u asked.done.heads asked.done.fills reads

      pub is_good : IsGoodGoal q.kind u
      is_good = asked.good m u e reads

      pub is_asked : IsAsked raw f m q.kind u
      is_asked =
          let same : yes.target ≡ u = reads_one A (answers_sound f m).one p q.parts yes.target u here reads in
          record { done = is_done; good = is_good; yes = subst (YesAt f A (known_below f m) q.kind) same yes.yes; deep = yes.deep }

      -- a proof of a goal that reads so is one of it
      pub is_proved : (g : Goal) → ReadsTo raw f g q.kind u → (asked_goal g).parts ≡ u → (ps zs : List Proof) (k : ℕ) → IsProvedAs raw f ps zs g k → IsPredProved raw f p ps zs q k
      is_proved g to parts ps zs k h = record {
        adds = h.adds;
        roots = h.roots;
        found = record {
          target = u;
          reads = reads_within A (deep_alias raw f) (within f m raw.limits.goal_depth below).alias p q.parts u reads;
          proof = h.found.0;
          at = h.found.1;
          read = subst IsRead (sym (ap (λ (d : Asked). d.parts) h.found.2 ∙ parts)) is_done.read;
          same = record {
            kind = ap (λ (d : Asked). d.kind) h.found.2 ∙ to.kind;
            reads = λ s filling. subst (λ (d : Asked). ReadsAs (deep_alias raw f) (apply s d.parts) u) (sym h.found.2) (to.reads s filling);
          };
        };
      }
