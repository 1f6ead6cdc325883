-- What stands for the holes of a rule, read.
use Rattle.std.proofs.Common.{◌≡◌, ◌⊎◌, inl, inr, ℕ, zero, suc, Bool, true, false, ◌||◌, refl, sym, subst, List, [], ◌∷◌, true≢false}
use Rattle.std.proofs.lemmas.Bool.{or_cases, or_left, or_right}
use Rattle.goal_select.specs.Words.{Hole, TypeAliasId, Term, hole, leaf, pair, apply, occurs, apply_agree, hole_eq_true, hole_eq_same, Fill, plain, alias, role, IsRead, Aliases, ReadsAs, Asked, System, asked_at, IsOne, HasProof, IsHead, HasHeads}
use Rattle.goal_select.specs.Words.goal_answers.Reading.{Role}
use Rattle.goal_select.proofs.Words.{ReadsBy, read_reads, reads_one, AliasIsRead, reads_read}

-- ---- what is read of a hole

pub record IsReadAt (P : Aliases) (at : Fill) (k : Hole) : Type 0 where
  pub term : Term
  pub reads : ReadsAs P (at k) term
  pub read : IsRead term

-- a hole of a term that is read
pub read_of_read : (at : Fill) (t : Term) → IsRead (apply at t) → (k : Hole) → occurs k t ≡ true → IsRead (at k)
read_of_read at (hole j) h k o = subst (λ x. IsRead (at x)) (sym (hole_eq_true k j o)) h
read_of_read at (leaf x) h k o = absurd (true≢false (sym o))
read_of_read at (pair a b) h k o = elim (or_cases (occurs k a) (occurs k b) o) [
  | inl e ↦ read_of_read at a h.0 k e
  | inr e ↦ read_of_read at b h.1 k e
]

-- what stands first in a pair decides alike
head_role : (p q : Fill) (a : Term) → IsHead a → role (apply p a) ≡ role (apply q a)
head_role p q (hole k) h = absurd h
head_role p q (leaf x) h = refl
head_role p q (pair a b) h = refl

module _ (P : Aliases) (one : IsOne P) (reads : AliasIsRead P) (at : Fill) where
  read_term : (t u : Term) → ReadsAs P t u → IsRead u
  read_term t u r = reads_read P reads hole t u (λ k o. tt) r

  -- a hole of a term that reads as something
  pub read_of_reads : (t u : Term) → HasHeads t → ReadsAs P (apply at t) u → (k : Hole) → occurs k t ≡ true → IsReadAt P at k
  read_of_reads (hole j) u h r k o = record { term = u; reads = subst (λ x. ReadsAs P (at x) u) (sym (hole_eq_true k j o)) r; read = read_term (at j) u r }
  read_of_reads (leaf x) u h r k o = absurd (true≢false (sym o))
  read_of_reads (pair a b) u h r k o = by_role (role (apply at a)) refl (λ x. read_of_reads a x h.1) (λ x. read_of_reads b x h.2) r (or_cases (occurs k a) (occurs k b) o)
    where
      no_alias : (x : Term) (m : TypeAliasId) → IsHead x → role (apply at x) ≡ alias m → occurs k x ≡ true → ⊥
      no_alias (hole j) m i e f = i
      no_alias (leaf y) m i e f = true≢false (sym f)
      no_alias (pair y z) m i e f = cc

      Tells : Term → Type 0
      Tells t = (x : Term) → ReadsAs P (apply at t) x → (j : Hole) → occurs j t ≡ true → IsReadAt P at j

      by_role : (x : Role) → role (apply at a) ≡ x → Tells a → Tells b → ReadsBy x P hole (apply at a) (apply at b) u → (occurs k a ≡ true) ⊎ (occurs k b ≡ true) → IsReadAt P at k
      by_role plain e left right r (inl f) = left r.0 r.3 k f
      by_role plain e left right r (inr f) = right r.1 r.4 k f
      by_role (alias m) e left right r (inl f) = absurd (no_alias a m h.0 e f)
      by_role (alias m) e left right r (inr f) = right r.0 r.1 k f

  -- ---- what is read in the place of what is not

  module _ (v : Fill) where
    abbrev pub IsReadBy : Hole → Type 0
    IsReadBy k = ReadsAs P (at k) (v k) × IsRead (v k)

    pub reads_by : (t u : Term) → HasHeads t → ((k : Hole) → occurs k t ≡ true → IsReadBy k) → ReadsAs P (apply at t) u → ReadsAs P (apply v t) u
    reads_by (hole k) u h is r =
        let here = is k (hole_eq_same k) in
        subst (ReadsAs P (v k)) (reads_one P one hole (at k) (v k) u here.0 r) (read_reads P (v k) here.1)
    reads_by (leaf x) u h is r = r
    reads_by (pair a b) u h is r =
        subst (λ x. ReadsBy x P hole (apply v a) (apply v b) u) (head_role at v a h.0)
        (by_role (role (apply at a)) (λ x. reads_by a x h.1 (λ k o. is k (or_left (occurs k a) (occurs k b) o))) (λ x. reads_by b x h.2 (λ k o. is k (or_right (occurs k a) (occurs k b) o))) r)
      where
        Keeps : Term → Type 0
        Keeps t = (x : Term) → ReadsAs P (apply at t) x → ReadsAs P (apply v t) x

        by_role : (x : Role) → Keeps a → Keeps b → ReadsBy x P hole (apply at a) (apply at b) u → ReadsBy x P hole (apply v a) (apply v b) u
        by_role plain left right r = (r.0, r.1, r.2, left r.0 r.3, right r.1 r.4)
        by_role (alias m) left right r = (r.0, right r.0 r.1, r.2)

    -- a proof stays
    pub proof_by : (f : System) (height : ℕ) (q : Asked) → HasHeads q.parts → ((k : Hole) → occurs k q.parts ≡ true → IsReadBy k) → HasProof f P height (asked_at at q) → HasProof f P height (asked_at v q)
    proof_by f zero q h is proof = proof
    proof_by f (suc n) q h is proof = (proof.0, reads_by q.parts proof.0 h is proof.1, proof.2)

    -- a term that is read stays
    pub same_by : (t : Term) → IsRead (apply at t) → ((k : Hole) → occurs k t ≡ true → IsReadBy k) → apply v t ≡ apply at t
    same_by t h is = apply_agree v at t (λ k o. reads_one P one hole (at k) (v k) (at k) (is k o).0 (read_reads P (at k) (read_of_read at t h k o)))

-- ---- holes of some terms

abbrev pub some_has : List Term → Hole → Bool
some_has [] k = false
some_has (t ∷ ts) k = occurs k t || some_has ts k

module _ (P : Aliases) (at : Fill) (ts : List Term) (known : (k : Hole) → some_has ts k ≡ true → IsReadAt P at k) where
  abbrev picked : (k : Hole) (b : Bool) → some_has ts k ≡ b → Term
  picked k true e = (known k e).term
  picked k false e = hole k

  -- what is read of them, and of others nothing
  abbrev pub read_fill : Fill
  read_fill k = picked k (some_has ts k) refl

  picked_read : (k : Hole) (b : Bool) (e : some_has ts k ≡ b) → IsRead (picked k b e)
  picked_read k true e = (known k e).read
  picked_read k false e = tt

  pub fill_read : (k : Hole) → IsRead (read_fill k)
  fill_read k = picked_read k (some_has ts k) refl

  picked_reads : (k : Hole) (b : Bool) (e : some_has ts k ≡ b) → b ≡ true → ReadsAs P (at k) (picked k b e)
  picked_reads k true e is = (known k e).reads
  picked_reads k false e is = absurd (true≢false (sym is))

  pub fill_reads : (k : Hole) → some_has ts k ≡ true → ReadsAs P (at k) (read_fill k)
  fill_reads k is = picked_reads k (some_has ts k) refl is
