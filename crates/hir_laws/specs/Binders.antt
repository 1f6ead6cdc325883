-- Which patterns bind each binding of a body.
use Rattle.std.specs.Prelude.{ℕ, Bool, true, false, ◌==◌, ◌<◌, ◌⊎◌, List, length, map, Option, Some, None, option_map}
use Rattle.hir_laws.specs.Words.{BindingId, RawPat, RawBody, Namers, binding_of, AreNamers, BoundByPatterns, BoundBySelf}
use Rattle.hir_laws.specs.Words.hir_ids.declared.namers.Namers.TheVariants.{Nobody, One, Several}

-- the binding of a pattern, by its number
abbrev pub bound_binding : RawPat → Option ℕ
bound_binding p = option_map (λ v. v.0) (binding_of p)

-- which patterns bind each binding
abbrev pub AreBinders : RawBody → List Namers → Type 0
AreBinders b xs = AreNamers (map bound_binding b.pats) (length b.pats) (length b.bindings) xs

-- the binding v is `self`
abbrev pub is_self : Option BindingId → ℕ → Bool
is_self None v = false
is_self (Some w) v = w.0 == v

-- `self` is bound by no pattern, and what is not `self` by some
abbrev pub is_bound : Bool → Namers → Bool
is_bound true Nobody = true
is_bound true (One k) = false
is_bound true Several = false
is_bound false Nobody = false
is_bound false (One k) = true
is_bound false Several = true

-- each binding of the body is bound as the law says
abbrev pub AllBound : RawBody → Type 0
AllBound b = (v : BindingId) → v.0 < length b.bindings → BoundBySelf b v ⊎ BoundByPatterns b v
