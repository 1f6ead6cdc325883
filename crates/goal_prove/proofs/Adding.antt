-- Proofs that are added behind others.
use Rattle.std.specs.Prelude.{ℕ, List, [], ◌∷◌, ◌++◌, length}
use Rattle.std.proofs.Common.{inl, inr, refl, sym, ap, ◌∙◌, subst, append_assoc}
use Rattle.goal_prove.specs.Words.{RawFacts, IsFront, Fill, IsFilling, Aliases, Asked, System, answers, Proof, AreProofsOf, Holds, AreProofs}
use Rattle.goal_prove.proofs.Words.{get_left, get_last, get_more, front_itself}
use Rattle.goal_prove.specs.Own.{AddsProofs, IsProofAt, AreDrawn, IsDrawn}

-- ---- fronts

front_then : {X : Type 0} (xs ys zs : List X) → IsFront xs ys → IsFront ys zs → IsFront xs zs
front_then xs ys zs a b = (a.0 ++ b.0, b.1 ∙ ap (λ l. l ++ b.0) a.1 ∙ append_assoc xs a.0 b.0)

-- ---- what stays right

module _ (raw : RawFacts) (f : System) where
  abbrev P : Aliases
  P = (answers f raw.limits.goal_depth).Alias

  proofs_more : (s : Fill) (ps zs : List Proof) (n : ℕ) (qs : List Asked) (ks : List ℕ) → AreProofsOf P s ps n qs ks → AreProofsOf P s (ps ++ zs) n qs ks
  proofs_more s ps zs n [] [] h = tt
  proofs_more s ps zs n [] (k ∷ ks) h = absurd h
  proofs_more s ps zs n (q ∷ qs) [] h = absurd h
  proofs_more s ps zs n (q ∷ qs) (k ∷ ks) h = (
    record { proof = h.0.proof; before = h.0.before; at = get_left ps zs k h.0.proof h.0.at; same = h.0.same },
    proofs_more s ps zs n qs ks h.1,
  )

  holds_more : (s : Fill) (ps zs : List Proof) (n : ℕ) (x : Proof) → Holds raw f P s ps n x → Holds raw f P s (ps ++ zs) n x
  holds_more s ps zs n x h = record { asks = h.asks; source = h.source; sized = h.sized; children = proofs_more s ps zs n h.asks x.children h.children }

  right_more : (s : Fill) (ps : List Proof) (x : Proof) → Holds raw f P s ps (length ps) x → AreProofs raw f P s ps → AreProofs raw f P s (ps ++ x ∷ [])
  right_more s ps x h are n y at = elim (get_more ps x n y at) [
    | inl e ↦ holds_more s ps (x ∷ []) n y (are n y e)
    | inr e ↦ subst (λ z. Holds raw f P s (ps ++ x ∷ []) n z) e.1 (subst (λ m. Holds raw f P s (ps ++ x ∷ []) m x) (sym e.0) (holds_more s ps (x ∷ []) (length ps) x h))
  ]

  drawn_more : (ps zs : List Proof) (x : Proof) → IsDrawn P ps x → IsDrawn P (ps ++ zs) x
  drawn_more ps zs x h = record {
    target = h.target;
    reads = h.reads;
    takes = h.takes;
    children = λ k named.
        let c = h.children k named in
        record { proof = c.proof; at = get_left ps zs k c.proof c.at; read = c.read };
  }

  drawn_last : (ps : List Proof) (x : Proof) → IsDrawn P ps x → AreDrawn raw f ps → AreDrawn raw f (ps ++ x ∷ [])
  drawn_last ps x h are n y at = elim (get_more ps x n y at) [
    | inl e ↦ drawn_more ps (x ∷ []) y (are n y e)
    | inr e ↦ subst (λ z. IsDrawn P (ps ++ x ∷ []) z) e.1 (drawn_more ps (x ∷ []) x h)
  ]

  pub adds_none : (ps : List Proof) → AddsProofs raw f ps ps
  adds_none ps = record { behind = front_itself ps; right = λ h. h; drawn = λ h. h }

  pub adds_then : (ps qs rs : List Proof) → AddsProofs raw f ps qs → AddsProofs raw f qs rs → AddsProofs raw f ps rs
  adds_then ps qs rs a b = record { behind = front_then ps qs rs a.behind b.behind; right = λ h. b.right (a.right h); drawn = λ h. b.drawn (a.drawn h) }

  pub adds_one : (ps : List Proof) (x : Proof) → ((s : Fill) → IsFilling s → Holds raw f P s ps (length ps) x) → IsDrawn P ps x → AddsProofs raw f ps (ps ++ x ∷ [])
  adds_one ps x h drawn = record { behind = (x ∷ [], refl); right = λ are s filling. right_more s ps x (h s filling) (are s filling); drawn = drawn_last ps x drawn }

  pub found_last : (ps : List Proof) (x : Proof) → IsProofAt (ps ++ x ∷ []) x.goal (length ps)
  found_last ps x = (x, get_last ps x, refl)
