-- Each `_` stands in one `let`, and in one part of each type that it stands in.
use Rattle.std.specs.Prelude.{◌≡◌, ◌<◌, ◌≤◌, ◌⊎◌, ◌++◌, ◌+◌, ℕ, zero, suc, List, [], ◌∷◌, map, length, slice_get, Option, Some, None, flat_map, refl}
use Rattle.std.proofs.lemmas.Grind.{flat_map-append}
use Rattle.std.proofs.Common.{arith, ap, ◌∙◌, sym, subst, inl, inr}
use Rattle.hir_facts.specs.Words.{ExprId, LabelId, PatId, TypeRefId, RawType, Mention, Said, RawStmt, RawExpr, RawBody, RawFacts, type_parts, StandsIn, is_itself, in_part, stmt_mentions, expr_mentions, body_mentions, each, said, expr_said, pat_said, body_said, stmts_of, stmt_at}
use Rattle.hir_raw.specs.declared.raw.RawType.TheVariants as type
use Rattle.hir_raw.specs.declared.raw.RawStmt.TheVariants as stmt
use Rattle.hir_raw.specs.declared.raw.RawExpr.TheVariants as expr
use Rattle.hir_facts.specs.Own.{type_uses, mention_uses, body_uses, inner_uses, IsLawful, type_ids, holes_fit, In, in_first, in_last, in_flat, none_stands}

-- ---- what stands once in a list

abbrev Once : {X : Type 0} → List X → X → Type 0
Once xs y = (k m : ℕ) → slice_get xs k ≡ Some y → slice_get xs m ≡ Some y → k ≡ m

-- the place behind the list
abbrev behind : {X : Type 0} → List X → ℕ → ℕ
behind [] k = k
behind (x ∷ xs) k = suc (behind xs k)

get_first : {X : Type 0} (xs ys : List X) (k : ℕ) (y : X) → slice_get xs k ≡ Some y → slice_get (xs ++ ys) k ≡ Some y
get_first [] ys k y h = absurd (cc)
get_first (x ∷ xs) ys zero y h = h
get_first (x ∷ xs) ys (suc k) y h = get_first xs ys k y h

get_last : {X : Type 0} (xs ys : List X) (k : ℕ) (y : X) → slice_get ys k ≡ Some y → slice_get (xs ++ ys) (behind xs k) ≡ Some y
get_last [] ys k y h = h
get_last (x ∷ xs) ys k y h = get_last xs ys k y h

less : (k m : ℕ) → suc k ≡ suc m → k ≡ m
less k m e = omega arith

behind_tells : {X : Type 0} (xs : List X) (k m : ℕ) → behind xs k ≡ behind xs m → k ≡ m
behind_tells [] k m e = e
behind_tells (x ∷ xs) k m e = behind_tells xs k m (less (behind xs k) (behind xs m) e)

not_behind : {X : Type 0} (xs : List X) (k m : ℕ) (y : X) → slice_get xs k ≡ Some y → k ≡ behind xs m → ⊥
not_behind [] k m y h e = absurd (cc)
not_behind (x ∷ xs) zero m y h e = absurd (omega arith)
not_behind (x ∷ xs) (suc k) m y h e = not_behind xs k m y h (less k (behind xs m) e)

once_first : {X : Type 0} (xs ys : List X) (y : X) → Once (xs ++ ys) y → Once xs y
once_first xs ys y h k m a b = h k m (get_first xs ys k y a) (get_first xs ys m y b)

once_last : {X : Type 0} (xs ys : List X) (y : X) → Once (xs ++ ys) y → Once ys y
once_last xs ys y h k m a b = behind_tells xs k m (h (behind xs k) (behind xs m) (get_last xs ys k y a) (get_last xs ys m y b))

once_apart : {X : Type 0} (xs ys : List X) (y : X) → Once (xs ++ ys) y → In xs y → In ys y → ⊥
once_apart xs ys y h a b = not_behind xs a.0 b.0 y a.1 (h a.0 (behind xs b.0) (get_first xs ys a.0 y a.1) (get_last xs ys b.0 y b.1))

-- x is entry i, and y is entry j of what f makes of it
record IsFrom {X Y : Type 0} (f : X → List Y) (xs : List X) (y : Y) (i j : ℕ) : Type 0 where
  of : X
  found : slice_get xs i ≡ Some of
  made : slice_get (f of) j ≡ Some y

from_in : {X Y : Type 0} (f : X → List Y) (xs : List X) (y : Y) (i j : ℕ) → IsFrom f xs y i j → In (flat_map f xs) y
from_in f xs y i j h = in_flat f xs i h.of y h.found (j, h.made)

at_first : {X Y : Type 0} (f : X → List Y) (x : X) (xs : List X) (y : Y) (j : ℕ) → IsFrom f (x ∷ xs) y zero j → slice_get (f x) j ≡ Some y
at_first f x xs y j h = let found : Some x ≡ Some h.of = h.found in let same : x ≡ h.of = cc in subst (λ z. slice_get (f z) j ≡ Some y) (sym same) h.made

at_rest : {X Y : Type 0} (f : X → List Y) (x : X) (xs : List X) (y : Y) (i j : ℕ) → IsFrom f (x ∷ xs) y (suc i) j → IsFrom f xs y i j
at_rest f x xs y i j h = record { of = h.of; found = h.found; made = h.made }

flat_once : {X Y : Type 0} (f : X → List Y) (xs : List X) (y : Y) → Once (flat_map f xs) y → (i j m n : ℕ) → IsFrom f xs y i j → IsFrom f xs y m n → (i ≡ m) × (j ≡ n)
flat_once f [] y once i j m n h k = absurd (let e = h.found in cc)
flat_once f (x ∷ xs) y once zero j zero n h k = (refl, once_first (f x) (flat_map f xs) y once j n (at_first f x xs y j h) (at_first f x xs y n k))
flat_once f (x ∷ xs) y once zero j (suc m) n h k = absurd (once_apart (f x) (flat_map f xs) y once (j, at_first f x xs y j h) (from_in f xs y m n (at_rest f x xs y m n k)))
flat_once f (x ∷ xs) y once (suc i) j zero n h k = absurd (once_apart (f x) (flat_map f xs) y once (n, at_first f x xs y n k) (from_in f xs y i j (at_rest f x xs y i j h)))
flat_once f (x ∷ xs) y once (suc i) j (suc m) n h k =
    let rest : (i ≡ m) × (j ≡ n) = flat_once f xs y (once_last (f x) (flat_map f xs) y once) i j m n (at_rest f x xs y i j h) (at_rest f x xs y m n k) in
    (ap (λ z. suc z) rest.0, rest.1)

-- ---- a type and what stands in it

-- type i is type k, or k stands in it
pub data IsOrHolds (types : List RawType) (k : ℕ) : ℕ → Type 0 where
  at_once : IsOrHolds types k k
  further : (i : ℕ) (x : RawType) (j : ℕ) (t : TypeRefId) → slice_get types i ≡ Some x → slice_get (type_parts x) j ≡ Some t → IsOrHolds types k t.0 → IsOrHolds types k i

part_of : (types : List RawType) (k i : ℕ) → StandsIn types k i → IsOrHolds types k i
part_of types k _ (is_itself found) = at_once
part_of types k _ (in_part i x j t found at below) = further i x j t found at (part_of types k t.0 below)

-- it stands in itself, or is a part of a type
record IsPartOf (types : List RawType) (k : ℕ) : Type 0 where
  whole : ℕ
  at_part : ℕ
  used : IsFrom type_uses types (Some k) whole at_part

type_use : (types : List RawType) (k i : ℕ) (x : RawType) (j : ℕ) (t : TypeRefId) → slice_get types i ≡ Some x → slice_get (type_parts x) j ≡ Some t → t.0 ≡ k → IsFrom type_uses types (Some k) i j
type_use types k i x j t found at same = record { of = x; found = found; made = named (type_parts x) j at }
  where
    named : (ts : List TypeRefId) (j : ℕ) → slice_get ts j ≡ Some t → slice_get (map (λ u. Some u.0) ts) j ≡ Some (Some k)
    named [] j at = absurd (cc)
    named (u ∷ ts) zero at = (let is : u ≡ t = cc in λ p. Some (Some ((ap (λ (v : TypeRefId). v.0) is ∙ same) p)))
    named (u ∷ ts) (suc j) at = named ts j at

same_or_part : (types : List RawType) (k i : ℕ) → IsOrHolds types k i → (k ≡ i) ⊎ IsPartOf types k
same_or_part types k _ at_once = inl refl
same_or_part types k _ (further i x j t found at below) = elim (same_or_part types k t.0 below) as (λ _. (k ≡ i) ⊎ IsPartOf types k) [
  | inl same ↦ inr (record { whole = i; at_part = j; used = type_use types k i x j t found at (sym same) })
  | inr part ↦ inr part
]

-- ---- each `_`

module _ (raw : RawFacts) (law : IsLawful raw) (k : ℕ) where
  abbrev Uses : ℕ → Type 0
  Uses i = Once (inner_uses raw) (Some i)

  holed : (i : ℕ) → StandsIn raw.types k i → (x : RawType) → slice_get raw.types i ≡ Some x → Uses i
  holed i stands x found m n a b = elim (holes_fit raw law i x found) as (λ _. m ≡ n) [
    | inl none ↦ absurd (none_stands raw.types (type_ids raw law) k i stands none)
    | inr once ↦ once.inner.only m a ∙ sym (once.inner.only n b)
  ]

  used_once : (i : ℕ) → StandsIn raw.types k i → Uses i
  used_once _ (is_itself found) = holed k (is_itself found) type.Hole found
  used_once _ (in_part i x j t found at below) = holed i (in_part i x j t found at below) x found

  by_types : (i : ℕ) → StandsIn raw.types k i → Once (flat_map type_uses raw.types) (Some i)
  by_types i stands = once_first (flat_map type_uses raw.types) (flat_map body_uses raw.bodies) (Some i) (used_once i stands)

  one_whole : (i : ℕ) → StandsIn raw.types k i → (a j b m : ℕ) → IsFrom type_uses raw.types (Some i) a j → IsFrom type_uses raw.types (Some i) b m → (a ≡ b) × (j ≡ m)
  one_whole i stands a j b m h g = flat_once type_uses raw.types (Some i) (by_types i stands) a j b m h g

  -- where type i is a part of type a, all that i stands in a is a part of
  above : (i a m : ℕ) → StandsIn raw.types k i → IsFrom type_uses raw.types (Some i) a m → (b : ℕ) → IsOrHolds raw.types i b → (i ≡ b) ⊎ IsOrHolds raw.types a b
  above i a m stands used _ at_once = inl refl
  above i a m stands used _ (further b x j t found at below) = elim (above i a m stands used t.0 below) as (λ _. (i ≡ b) ⊎ IsOrHolds raw.types a b) [
    | inl same ↦ inr (let one : (a ≡ b) × (m ≡ j) = one_whole i stands a m b j used (type_use raw.types i b x j t found at (sym same)) in subst (λ z. IsOrHolds raw.types a z) one.0 at_once)
    | inr part ↦ inr (further b x j t found at part)
  ]

  -- of two types in which it stands, one is a part of the other
  meet : (i j : ℕ) → StandsIn raw.types k i → StandsIn raw.types k j → IsOrHolds raw.types i j ⊎ IsOrHolds raw.types j i
  meet _ j (is_itself found) other = inl (part_of raw.types k j other)
  meet _ j (in_part i x m t found at below) other = elim (meet t.0 j below other) as (λ _. IsOrHolds raw.types i j ⊎ IsOrHolds raw.types j i) [
    | inl part ↦ elim (above t.0 i m below (type_use raw.types t.0 i x m t found at refl) j part) as (λ _. IsOrHolds raw.types i j ⊎ IsOrHolds raw.types j i) [
      | inl same ↦ inr (further i x m t found at (subst (λ z. IsOrHolds raw.types j z) (sym same) at_once))
      | inr whole ↦ inl whole
    ]
    | inr part ↦ inr (further i x m t found at part)
  ]

  same_let : (i j : ℕ) → StandsIn raw.types k i → StandsIn raw.types k j → (m n : ℕ) → slice_get (flat_map body_uses raw.bodies) m ≡ Some (Some i) → slice_get (flat_map body_uses raw.bodies) n ≡ Some (Some j) → IsOrHolds raw.types i j → i ≡ j
  same_let i j a b m n here there part = elim (same_or_part raw.types i j part) as (λ _. i ≡ j) [
    | inl same ↦ same
    | inr whole ↦ absurd (once_apart (flat_map type_uses raw.types) (flat_map body_uses raw.bodies) (Some i) (used_once i a) (from_in type_uses raw.types (Some i) whole.whole whole.at_part whole.used) (m, here))
  ]

  -- of two types that bodies are written with
  pub same_type : (i j : ℕ) → StandsIn raw.types k i → StandsIn raw.types k j → In (flat_map body_uses raw.bodies) (Some i) → In (flat_map body_uses raw.bodies) (Some j) → i ≡ j
  same_type i j a b here there = elim (meet i j a b) as (λ _. i ≡ j) [
    | inl part ↦ same_let i j a b here.0 there.0 here.1 there.1 part
    | inr part ↦ sym (same_let j i b a there.0 here.0 there.1 here.1 part)
  ]

  -- it stands in one part of a type
  pub one_part : (i : ℕ) (x : RawType) (m n : ℕ) (t u : TypeRefId) → slice_get raw.types i ≡ Some x → slice_get (type_parts x) m ≡ Some t → slice_get (type_parts x) n ≡ Some u
      → StandsIn raw.types k t.0 → StandsIn raw.types k u.0 → m ≡ n
  one_part i x m n t u found here there a b = elim (meet t.0 u.0 a b) as (λ _. m ≡ n) [
    | inl part ↦ beside i x m n t u found here there a b part
    | inr part ↦ sym (beside i x n m u t found there here b a part)
  ]
    where
      not_below : (a b : ℕ) → IsOrHolds raw.types a b → a ≤ b
      not_below a _ at_once = omega arith
      not_below a _ (further b x j t found at below) = let lt : t.0 < b = type_ids raw law b x found j t at in let le : a ≤ t.0 = not_below a t.0 below in omega arith

      beside : (i : ℕ) (x : RawType) (m n : ℕ) (t u : TypeRefId) → slice_get raw.types i ≡ Some x → slice_get (type_parts x) m ≡ Some t → slice_get (type_parts x) n ≡ Some u
          → StandsIn raw.types k t.0 → StandsIn raw.types k u.0 → IsOrHolds raw.types t.0 u.0 → m ≡ n
      beside i x m n t u found here there a b part = elim (above t.0 i m a (type_use raw.types t.0 i x m t found here refl) u.0 part) as (λ _. m ≡ n) [
        | inl same ↦ (one_whole t.0 a i m i n (type_use raw.types t.0 i x m t found here refl) (type_use raw.types t.0 i x n u found there (sym same))).1
        | inr whole ↦ absurd (let lt : u.0 < i = type_ids raw law i x found n u there in let le : i ≤ u.0 = not_below i u.0 whole in omega arith)
      ]

-- ---- and in one `let`

once_at : {X Y : Type 0} (f : X → List Y) (xs : List X) (y : Y) (i : ℕ) (x : X) → Once (flat_map f xs) y → slice_get xs i ≡ Some x → Once (f x) y
once_at f xs y i x once found k m a b = (flat_once f xs y once i k i m (record { of = x; found = found; made = a }) (record { of = x; found = found; made = b })).1

-- the types that statements, and expressions, are written with
abbrev stmt_uses : RawStmt → List (Option ℕ)
stmt_uses s = flat_map mention_uses (stmt_mentions s)

abbrev expr_uses : RawExpr → List (Option ℕ)
expr_uses x = flat_map mention_uses (expr_mentions x)

abbrev said_uses : Said → List (Option ℕ)
said_uses s = mention_uses s.mention

uses_of_stmts : (ss : List RawStmt) → flat_map mention_uses (flat_map stmt_mentions ss) ≡ flat_map stmt_uses ss
uses_of_stmts [] = refl
uses_of_stmts (s ∷ ss) = flat_map-append mention_uses (stmt_mentions s) (flat_map stmt_mentions ss) ∙ ap (λ (us : List (Option ℕ)). stmt_uses s ++ us) (uses_of_stmts ss)

uses_of_said : (n : ℕ) (ms : List Mention) → flat_map said_uses (said n ms) ≡ flat_map mention_uses ms
uses_of_said n [] = refl
uses_of_said n (m ∷ ms) = ap (λ (us : List (Option ℕ)). mention_uses m ++ us) (uses_of_said n ms)

uses_of_exprs : (i : ℕ) (xs : List RawExpr) → flat_map said_uses (each expr_said i xs) ≡ flat_map expr_uses xs
uses_of_exprs i [] = refl
uses_of_exprs i (x ∷ xs) =
    flat_map-append said_uses (expr_said i x) (each expr_said (suc i) xs)
    ∙ (ap (λ (us : List (Option ℕ)). us ++ flat_map said_uses (each expr_said (suc i) xs)) (uses_of_said i (expr_mentions x)) ∙ ap (λ (us : List (Option ℕ)). expr_uses x ++ us) (uses_of_exprs (suc i) xs))

-- those of a body are those of itself, of its expressions and of its patterns
uses_of_body : (b : RawBody) → body_uses b ≡ flat_map said_uses (said (length b.exprs + length b.pats) (body_mentions b)) ++ (flat_map expr_uses b.exprs ++ flat_map said_uses (each (pat_said (length b.exprs)) 0 b.pats))
unfolding body_said
uses_of_body b =
    let own : List Said = said (length b.exprs + length b.pats) (body_mentions b) in
    let exprs : List Said = each expr_said 0 b.exprs in
    let pats : List Said = each (pat_said (length b.exprs)) 0 b.pats in
    flat_map-append said_uses own (exprs ++ pats)
    ∙ ap (λ (us : List (Option ℕ)). flat_map said_uses own ++ us) (flat_map-append said_uses exprs pats ∙ ap (λ (us : List (Option ℕ)). us ++ flat_map said_uses pats) (uses_of_exprs 0 b.exprs))

-- the expression, and the statement in it that is written with type j
record IsLetAt (b : RawBody) (e i j : ℕ) : Type 0 where
  expr : RawExpr
  found : slice_get b.exprs e ≡ Some expr
  uses : expr_uses expr ≡ flat_map stmt_uses (stmts_of (Some expr))
  writes : IsFrom stmt_uses (stmts_of (Some expr)) (Some j) i 0

let_in : (b : RawBody) (e i : ℕ) (p : PatId) (t : TypeRefId) (init other : Option ExprId) (o : Option RawExpr) → slice_get b.exprs e ≡ o → slice_get (stmts_of o) i ≡ Some (stmt.Let p (Some t) init other) → IsLetAt b e i t.0
let_in b e i p t init other (Some (expr.Block label ss last)) is at = record {
  expr = expr.Block label ss last;
  found = is;
  uses = by_label label;
  writes = record { of = stmt.Let p (Some t) init other; found = at; made = refl };
}
  where
    by_label : (l : Option LabelId) → expr_uses (expr.Block l ss last) ≡ flat_map stmt_uses ss
    by_label None = uses_of_stmts ss
    by_label (Some l) = uses_of_stmts ss
let_in b e i p t init other _ is at = absurd (cc)

in_expr : (b : RawBody) (e i j : ℕ) (h : IsLetAt b e i j) → In (expr_uses h.expr) (Some j)
in_expr b e i j h = subst (λ us. In us (Some j)) (sym h.uses) (from_in stmt_uses (stmts_of (Some h.expr)) (Some j) i 0 h.writes)

in_body : (b : RawBody) (e i j : ℕ) → IsLetAt b e i j → In (body_uses b) (Some j)
in_body b e i j h =
    let own = flat_map said_uses (said (length b.exprs + length b.pats) (body_mentions b)) in
    let pats = flat_map said_uses (each (pat_said (length b.exprs)) 0 b.pats) in
    subst (λ us. In us (Some j)) (sym (uses_of_body b)) (in_last own (flat_map expr_uses b.exprs ++ pats) (Some j) (in_first (flat_map expr_uses b.exprs) pats (Some j) (in_flat expr_uses b.exprs e h.expr (Some j) h.found (in_expr b e i j h))))

one_place : (b : RawBody) (e i d m j : ℕ) → Once (body_uses b) (Some j) → IsLetAt b e i j → IsLetAt b d m j → (e ≡ d) × (i ≡ m)
one_place b e i d m j all h g =
    let own = flat_map said_uses (said (length b.exprs + length b.pats) (body_mentions b)) in
    let pats = flat_map said_uses (each (pat_said (length b.exprs)) 0 b.pats) in
    let once : Once (flat_map expr_uses b.exprs) (Some j) = once_first (flat_map expr_uses b.exprs) pats (Some j) (once_last own (flat_map expr_uses b.exprs ++ pats) (Some j) (subst (λ us. Once us (Some j)) (uses_of_body b) all)) in
    let here = in_expr b e i j h in
    let there = in_expr b d m j g in
    let same : (e ≡ d) × (here.0 ≡ there.0) = flat_once expr_uses b.exprs (Some j) once e here.0 d there.0 (record { of = h.expr; found = h.found; made = here.1 }) (record { of = g.expr; found = g.found; made = there.1 }) in
    let found : slice_get b.exprs e ≡ Some g.expr = ap (slice_get b.exprs) same.0 ∙ g.found in
    let is : Some h.expr ≡ Some g.expr = sym h.found ∙ found in
    let is2 : g.expr ≡ h.expr = cc in
    let writes : IsFrom stmt_uses (stmts_of (Some h.expr)) (Some j) m 0 = subst (λ x. IsFrom stmt_uses (stmts_of (Some x)) (Some j) m 0) is2 g.writes in
    let inside : Once (flat_map stmt_uses (stmts_of (Some h.expr))) (Some j) = subst (λ us. Once us (Some j)) h.uses (once_at expr_uses b.exprs (Some j) e h.expr once h.found) in
    (same.0, (flat_once stmt_uses (stmts_of (Some h.expr)) (Some j) inside i 0 m 0 h.writes writes).0)

-- two `let`s in whose types the `_` that is type k stands are one
pub one_let : (raw : RawFacts) → IsLawful raw → (n : ℕ) (b : RawBody) → slice_get raw.bodies n ≡ Some b → (k : ℕ)
    → (e d : ExprId) (i m : ℕ) (p q : PatId) (t u : TypeRefId) (init other init2 other2 : Option ExprId)
    → stmt_at b e i ≡ Some (stmt.Let p (Some t) init other) → stmt_at b d m ≡ Some (stmt.Let q (Some u) init2 other2)
    → StandsIn raw.types k t.0 → StandsIn raw.types k u.0 → (e.0 ≡ d.0) × (i ≡ m)
one_let raw law n b found k e d i m p q t u init other init2 other2 here there a c =
    let first : IsLetAt b e.0 i t.0 = let_in b e.0 i p t init other (slice_get b.exprs e.0) refl here in
    let second : IsLetAt b d.0 m u.0 = let_in b d.0 m q u init2 other2 (slice_get b.exprs d.0) refl there in
    let same : t.0 ≡ u.0 = same_type raw law k t.0 u.0 a c (in_flat body_uses raw.bodies n b (Some t.0) found (in_body b e.0 i t.0 first)) (in_flat body_uses raw.bodies n b (Some u.0) found (in_body b d.0 m u.0 second)) in
    let by_bodies : Once (flat_map body_uses raw.bodies) (Some t.0) = once_last (flat_map type_uses raw.types) (flat_map body_uses raw.bodies) (Some t.0) (used_once raw law k t.0 a) in
    one_place b e.0 i d.0 m t.0 (once_at body_uses raw.bodies (Some t.0) n b by_bodies found) first (subst (λ j. IsLetAt b d.0 m j) (sym same) second)
