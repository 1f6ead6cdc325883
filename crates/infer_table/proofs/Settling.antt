-- Binding the holes that stood for aliases, one after another.
use Rattle.std.proofs.Common.{◌≡◌, ℕ, zero, suc, ◌+◌, true, List, [], ◌∷◌, ◌++◌, take, Some, None, inl, inr, refl, sym, ap, subst, ◌∙◌, arith}
use Rattle.std.specs.Prelude.{slice_get}
use Rattle.hir_types.specs.declared.head.Hole.TheVariants as hole_of
use Rattle.infer_table.specs.Words.{HoleKind, Term, hole, apply, occurs, term, term_var}
use Rattle.hir_types.specs.declared.ty.Ty.TheVariants as ty
use Rattle.infer_table.specs.Own.{Binding, Origin, Log, log_of, single, resolved, found, Triangular, Unified, Substitution, with_binding, bound_hole, bound_term, found_binding, place, alias, IsSettled, AreSettled, IsNoTypeHole, settled_inside, settled_here, settle_step, settled_append, origins_of, IsOpenHole, IsResolved, IsOneOf, CanBeAnything, BindsSome, solution, solution_solves, solves_after, resolved_apply, resolved_open, sub_same, Settled, SettlesOrigin, IsOriginOf, AreOriginsOf}
use Rattle.infer_table.proofs.BindingLaws.{log_of_last, found_log_none}
use Rattle.infer_table.proofs.UnifyLaws.{unified_bind, unified_if_put_in_left}
use Rattle.infer_table.proofs.Unifying.{resolved_hole}

pub settles_stands : (s : Substitution) (k : ℕ) (t u : Term) → u ≡ resolved (log_of s.log) t → occurs (hole_of.Ty k) u ≡ true → Settled s s k t
settles_stands s k t u e o = record {
  keeps = λ p h. h;
  settles = λ n r. settled_inside (log_of s.log) (n, t) k r (subst (λ (x : Term). occurs (hole_of.Ty k) x ≡ true) e o);
  bound = inl refl;
}

-- an open hole is free
free_where_open : (l : Log) (k : ℕ) → Triangular l → found l (hole_of.Ty k) ≡ None → CanBeAnything l k
free_where_open l k acyclic is_open v =
    let x = hole_of.Ty k in
    let f = single x v in (
      λ h. apply f (solution l h),
      solves_after f (solution l) l (solution_solves l acyclic),
      ap (apply f) (resolved_open l x is_open) ∙ sub_same x v,
    )

-- so is one that comes to it
free_through : (l : Log) (n k : ℕ) → resolved l (hole (hole_of.Ty n)) ≡ hole (hole_of.Ty k) → CanBeAnything l k → CanBeAnything l n
free_through l n k e free v =
    let x = free v in
    (x.0, x.1, sym (resolved_apply x.0 l (hole (hole_of.Ty n)) x.1) ∙ ap (apply x.0) e ∙ x.2)

pub settles_bind : (s z : Substitution) (b : Binding) (k : ℕ) (t u : Term) → place t ≡ alias → u ≡ resolved (log_of s.log) t → bound_hole b ≡ hole_of.Ty k → bound_term b ≡ u → z ≡ with_binding s b → Triangular (log_of s.log) → found_binding s.log (hole_of.Ty k) ≡ None → Settled s z k t
settles_bind s z b k t u is e f g h acyclic is_open =
    let l = log_of s.log in
    let step = settle_step l k t is in
    let v = g ∙ e in
    let grown : log_of z.log ≡ l ++ (hole_of.Ty k, resolved l t) ∷ [] =
    ap (λ (x : Substitution). log_of x.log) h ∙ log_of_last s.log b ∙ (λ i. l ++ (f i, v i) ∷ []) in
    record {
      keeps = λ p q. subst (λ (x : Log). IsSettled x p) (sym grown) (step.keeps p q);
      settles = λ n r. subst (λ (x : Log). IsSettled x (n, t)) (sym grown) (step.settles (n, t) r);
      bound = inr (
        subst (λ (x : Log). Unified l x (hole (hole_of.Ty k)) t) (sym grown) (unified_bind l (hole_of.Ty k) t (resolved l t) refl),
        free_where_open l k acyclic (found_log_none s.log (hole_of.Ty k) is_open),
      );
    }

pub open_hole : (s : Substitution) (u : Term) (k : ℕ) → u ≡ hole (hole_of.Ty k) → IsResolved s u → IsOpenHole s (hole_of.Ty k)
open_hole s u k e h = resolved_hole s (hole_of.Ty k) tt (subst (λ (x : Term). IsResolved s x) e h)

resolves_to : (l : Log) (n : ℕ) (u v : Term) → u ≡ resolved l (term (ty.Var n)) → u ≡ v → resolved l (hole (hole_of.Ty n)) ≡ v
resolves_to l n u v e f = ap (resolved l) (sym (term_var n)) ∙ sym e ∙ f

pub settles_at : (s z : Substitution) (o : Origin) (u : Term) (k : ℕ) → u ≡ resolved (log_of s.log) (term (ty.Var o.hole)) → u ≡ hole (hole_of.Ty k) → Settled s z k (term o.alias) → SettlesOrigin s z o
settles_at s z o u k e f h = record {
  keeps = h.keeps;
  settled = h.settles o.hole (resolves_to (log_of s.log) o.hole u (hole (hole_of.Ty k)) e f);
  bound = elim h.bound [
    | inl q ↦ inl q
    | inr q ↦
        let r = resolves_to (log_of s.log) o.hole u (hole (hole_of.Ty k)) e f in
        inr (
          unified_if_put_in_left true (log_of s.log) (log_of z.log) (hole (hole_of.Ty o.hole)) (hole (hole_of.Ty k)) (term o.alias) (sym r) q.0,
          free_through (log_of s.log) o.hole k r q.1,
        )
  ];
}

pub settles_here : (s : Substitution) (o : Origin) (u : Term) → u ≡ resolved (log_of s.log) (term (ty.Var o.hole)) → IsNoTypeHole u → SettlesOrigin s s o
settles_here s o u e h = record {
  keeps = λ p q. q;
  settled = settled_here (log_of s.log) (o.hole, term o.alias) (subst (λ (x : Term). IsNoTypeHole x) (sym (resolves_to (log_of s.log) o.hole u u e refl)) h);
  bound = inl refl;
}

-- ---- all of them

settled_still : (l m : Log) (ps : List (ℕ × Term)) → ((p : ℕ × Term) → IsSettled l p → IsSettled m p) → AreSettled l ps → AreSettled m ps
settled_still l m [] keeps h = tt
settled_still l m (p ∷ ps) keeps h = (keeps p h.0, settled_still l m ps keeps h.1)

take_last : {X : Type 0} (xs : List X) (i : ℕ) (x : X) → slice_get xs i ≡ Some x → take (suc i) xs ≡ take i xs ++ x ∷ []
take_last [] i x e = cc
take_last (y ∷ xs) zero x e = cc
take_last (y ∷ xs) (suc i) x e = ap (λ (z : List _). y ∷ z) (take_last xs i x e)

origins_last : (os : List Origin) (o : Origin) → origins_of (os ++ o ∷ []) ≡ origins_of os ++ (o.hole, term o.alias) ∷ []
origins_last [] o = refl
origins_last (p ∷ os) o = ap (λ (z : List (ℕ × Term)). (p.hole, term p.alias) ∷ z) (origins_last os o)

pub settled_more : (s z : Substitution) (os : List Origin) (i : ℕ) (o : Origin) → slice_get os i ≡ Some o → AreSettled (log_of s.log) (origins_of (take i os)) → SettlesOrigin s z o → AreSettled (log_of z.log) (origins_of (take (i + 1) os))
settled_more s z os i o at h step =
    let e : take (suc i) os ≡ take i os ++ o ∷ [] = take_last os i o at in
    let r = settled_append (log_of z.log) (origins_of (take i os)) ((o.hole, term o.alias) ∷ []) (settled_still (log_of s.log) (log_of z.log) (origins_of (take i os)) step.keeps h) (step.settled, tt) in
    let w : AreSettled (log_of z.log) (origins_of (take (suc i) os)) = subst (λ (x : List (ℕ × Term)). AreSettled (log_of z.log) x) (sym (ap origins_of e ∙ origins_last (take i os) o)) r in
    let f : i + 1 ≡ suc i = omega arith in
    rw f w

pub origin_at : (kinds : List HoleKind) (os : List Origin) (i : ℕ) (o : Origin) → AreOriginsOf kinds os → slice_get os i ≡ Some o → IsOriginOf kinds o
origin_at kinds [] i o h e = cc
origin_at kinds (p ∷ os) zero o h e = let f : p ≡ o = cc in subst (λ (x : Origin). IsOriginOf kinds x) f h.0
origin_at kinds (p ∷ os) (suc i) o h e = origin_at kinds os i o h.1 e

-- ---- what is bound

pub binds_none : (l : Log) (ps : List (ℕ × Term)) → BindsSome l l ps
binds_none l ps = record { bound = []; among = tt; free = tt; keeps = λ s h. h; stand = λ s h. tt; general = λ s h e. h }

binds_one : (l m n : Log) (p : ℕ × Term) (ps : List (ℕ × Term)) → IsOneOf p ps → BindsSome l m ps → Unified m n (hole (hole_of.Ty p.0)) p.1 → CanBeAnything m p.0 → BindsSome l n ps
binds_one l m n p ps i x u free = record {
  bound = p ∷ x.bound;
  among = (i, x.among);
  free = ((λ v. let f = free v in (f.0, x.keeps f.0 f.1, x.stand f.0 f.1, f.2)), x.free);
  keeps = λ s h. x.keeps s (u.keeps s h);
  stand = λ s h. (u.unifies s h, x.stand s (u.keeps s h));
  general = λ s h e. u.general s (x.general s h e.1) e.0;
}

one_of_origins : (os : List Origin) (i : ℕ) (o : Origin) → slice_get os i ≡ Some o → IsOneOf (o.hole, term o.alias) (origins_of os)
one_of_origins [] i o e = cc
one_of_origins (p ∷ os) zero o e = let f : o ≡ p = cc in inl (λ i. ((f i).hole, term (f i).alias))
one_of_origins (p ∷ os) (suc i) o e = inr (one_of_origins os i o e)

pub binds_more : (l : Log) (s z : Substitution) (os : List Origin) (i : ℕ) (o : Origin) → slice_get os i ≡ Some o → BindsSome l (log_of s.log) (origins_of os) → SettlesOrigin s z o → BindsSome l (log_of z.log) (origins_of os)
binds_more l s z os i o at x step = elim step.bound [
  | inl e ↦ subst (λ (y : Substitution). BindsSome l (log_of y.log) (origins_of os)) (sym e) x
  | inr u ↦ binds_one l (log_of s.log) (log_of z.log) (o.hole, term o.alias) (origins_of os) (one_of_origins os i o at) x u.0 u.1
]
