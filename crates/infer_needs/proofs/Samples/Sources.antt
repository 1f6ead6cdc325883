-- Which goals the impls of `Impls` are sources of, whatever aliases read as and whatever stands for holes.
use Rattle.std.proofs.Common.{ℕ, zero, suc, ◌≡◌, ◌⊎◌, inl, inr, List, [], ◌∷◌, length, map, refl, sym, ap, ap₂, subst, ◌∙◌, true, false, true≢false, Some, slice_get}
use Rattle.infer_needs.specs.Words.{Goal, ImplId, GenericArg, Ty, Term, hole, leaf, pair, type_part, term, term_bool, term_uint, term_adt_types, arg_term_type, RawImpl, type_args, Fill, IsRead, Aliases, Reads, Asked, Rule, System, implements, projects, asked_at, is_among, Each, Shadows, answers, asked_goal, impl_rules, args_fill, IsSame, IsUnshadowed, IsImplAt, MayHaveSource, IsSystemOf, GoalReads}
use Rattle.hir_types.specs.declared.goal.Goal.TheVariants as goal
use Rattle.hir_types.specs.declared.head.Head.TheVariants as head
use Rattle.hir_types.specs.declared.ty.Ty.TheVariants as ty
use Rattle.hir_types.specs.declared.ty.UintTy.TheVariants as uint
use Rattle.infer_needs.specs.Words.goal_answers.Reading.{Role}
use Rattle.infer_needs.proofs.Words.{ReadsBy, role_read, read_reads, u8, adt}
use Rattle.infer_needs.proofs.Samples.Impls.{tr, out, facts, own, u8_term, bool_term, w_term, implemented, found_as, said, no_clauses}

-- ---- terms that read as themselves alone

-- neither a hole nor an alias stands in the term
abbrev pub IsBare : Term → Type 0
IsBare (hole k) = ⊥
IsBare (leaf h) = IsRead (leaf h)
IsBare (pair a b) = IsBare a × IsBare b

pub bare_read : (t : Term) → IsBare t → IsRead t
bare_read (hole k) h = absurd h
bare_read (leaf x) h = h
bare_read (pair a b) h = (bare_read a h.0, bare_read b h.1)

pub reads_bare : (A : Aliases) (p : Fill) (t u : Term) → IsBare t → Reads A p t u → u ≡ t
reads_bare A p (hole k) u h r = absurd h
reads_bare A p (leaf x) u h r = r.1
reads_bare A p (pair a b) u h r =
    let P : Role → Type 0 = λ x. ReadsBy x A p a b u in
    let q = subst P (role_read a (bare_read a h.0)) r in
    q.2 ∙ ap₂ pair (reads_bare A p a q.0 h.0 q.3) (reads_bare A p b q.1 h.1 q.4)

pub same_bare : (A : Aliases) (g h : Asked) → IsBare g.parts → IsBare h.parts → IsSame A g h → g.parts ≡ h.parts
same_bare A g h a b same = sym (reads_bare A hole g.parts same.1 a same.2) ∙ reads_bare A hole h.parts same.1 b same.3

pub bare_same : (A : Aliases) (g : Asked) → IsBare g.parts → IsSame A g g
bare_same A g h = let r = read_reads A g.parts (bare_read g.parts h) in (refl, g.parts, r, r)

-- such a goal reads as itself, and as nothing else
pub goal_reads_bare : (f : System) (n : ℕ) (a b : Asked) → IsBare a.parts → GoalReads f n a b → b ≡ a
goal_reads_bare f n a b bare r = let parts : b.parts ≡ a.parts = reads_bare (answers f n).Alias hole a.parts b.parts bare r.parts in λ i. record { kind = r.kind i; parts = parts i }

pub bare_goal_reads : (f : System) (n : ℕ) (a : Asked) → IsBare a.parts → GoalReads f n a a
bare_goal_reads f n a bare = record { kind = refl; parts = read_reads (answers f n).Alias a.parts (bare_read a.parts bare) }

pub neither : {X Y : Type 0} → (X → ⊥) → (Y → ⊥) → X ⊎ Y → ⊥
neither f g (inl x) = f x
neither f g (inr y) = g y

pub nothing : ⊥ → ⊥
nothing h = h

-- ---- goals

-- that the type implements the trait
abbrev pub asks : Ty → Goal
asks t = goal.Trait (record { id = tr; args = type_args (t ∷ []) })

-- that the associated type of the first is the second
abbrev pub asks_out : Ty → Ty → Goal
asks_out t u = goal.Projection out (type_args (t ∷ [])) u

abbrev pub w_of : Ty → Ty
w_of t = ty.Adt adt (type_args (t ∷ []))

pub asks_is : (t : Ty) (x : Term) → term t ≡ x → asked_goal (asks t) ≡ implemented x
asks_is t x is = λ i. record { kind = implements tr; parts = pair ((arg_term_type t ∙ ap type_part is) i) (leaf head.End) }

pub asks_u8 : asked_goal (asks u8) ≡ implemented u8_term
asks_u8 = asks_is u8 u8_term (term_uint uint.U8)

pub asks_bool : asked_goal (asks ty.Bool) ≡ implemented bool_term
asks_bool = asks_is ty.Bool bool_term term_bool

pub asks_w : asked_goal (asks (w_of u8)) ≡ implemented (w_term u8_term)
asks_w = asks_is (w_of u8) (w_term u8_term) (term_adt_types adt (u8 ∷ []) ∙ ap w_term (term_uint uint.U8))

pub asks_out_is : (t : Ty) (x : Term) → term t ≡ x → asked_goal (asks_out u8 t) ≡ found_as u8_term x
asks_out_is t x is = λ i. record { kind = projects out; parts = pair (pair ((arg_term_type u8 ∙ ap type_part (term_uint uint.U8)) i) (leaf head.End)) (is i) }

-- ---- what an impl that says this is a source of

module _ (n : ImplId) (p : RawImpl) (t u : Term) (preds : List Asked) (listed : slice_get facts.impls n.0 ≡ Some p) (rules : impl_rules facts p ≡ said t u preds) where
  module _ (A : Aliases) (s : Fill) (xs : List GenericArg) where
    abbrev at_args : Asked → Asked
    at_args g = asked_at (args_fill s xs) g

    abbrev Says : Asked → List Asked → Rule → Type 0
    Says g qs r = IsSame A (at_args r.head) g × (qs ≡ map at_args r.preds)

    rule_is : (g : Asked) (qs : List Asked) → IsImplAt facts A s g n xs qs → (k : ℕ) × (r : Rule) × (slice_get (said t u preds) k ≡ Some r) × Says g qs r
    rule_is g qs h =
        let found = h.listed in
        let item : p ≡ h.item = cc in
        let among : slice_get (impl_rules facts p) h.at ≡ Some h.rule = subst (λ (x : RawImpl). slice_get (impl_rules facts x) h.at ≡ Some h.rule) (sym item) h.of in
        (h.at, h.rule, subst (λ rs. slice_get rs h.at ≡ Some h.rule) rules among, (h.same, h.asks))

    of_trait : (g : Asked) (qs : List Asked) → g.kind ≡ implements tr → (k : ℕ) (r : Rule) → slice_get (said t u preds) k ≡ Some r → Says g qs r
        → Says g qs (record { head = implemented t; preds = preds })
    of_trait g qs kind zero r is h = (let one : record { head = implemented t; preds = preds } ≡ r = cc in subst (Says g qs) (sym one) h)
    of_trait g qs kind (suc zero) r is h =
        (let one : record { head = found_as t u; preds = preds } ≡ r = cc in
        let clash : projects out ≡ implements tr = ap (λ (x : Rule). x.head.kind) one ∙ (h.0.0 ∙ kind) in
        absurd (cc))
    of_trait g qs kind (suc (suc k)) r is h = absurd (cc)

    of_alias : (g : Asked) (qs : List Asked) → g.kind ≡ projects out → (k : ℕ) (r : Rule) → slice_get (said t u preds) k ≡ Some r → Says g qs r
        → Says g qs (record { head = found_as t u; preds = preds })
    of_alias g qs kind zero r is h =
        (let one : record { head = implemented t; preds = preds } ≡ r = cc in
        let clash : implements tr ≡ projects out = ap (λ (x : Rule). x.head.kind) one ∙ (h.0.0 ∙ kind) in
        absurd (cc))
    of_alias g qs kind (suc zero) r is h = (let one : record { head = found_as t u; preds = preds } ≡ r = cc in subst (Says g qs) (sym one) h)
    of_alias g qs kind (suc (suc k)) r is h = absurd (cc)

    -- of the trait for what its head is at the arguments, and it asks for its predicates there
    pub trait_source : (g : Asked) (qs : List Asked) → g.kind ≡ implements tr → IsImplAt facts A s g n xs qs → IsSame A (at_args (implemented t)) g × (qs ≡ map at_args preds)
    trait_source g qs kind h = let q = rule_is g qs h in of_trait g qs kind q.0 q.1 q.2 q.3

    -- of an associated type as it says it there
    pub alias_source : (g : Asked) (qs : List Asked) → g.kind ≡ projects out → IsImplAt facts A s g n xs qs → IsSame A (at_args (found_as t u)) g × (qs ≡ map at_args preds)
    alias_source g qs kind h = let q = rule_is g qs h in of_alias g qs kind q.0 q.1 q.2 q.3

    -- and of these it is
    pub is_trait_source : (g : Term) (qs : List Asked) → at_args (implemented t) ≡ implemented g → map at_args preds ≡ qs → length xs ≡ length p.params → IsBare g → IsImplAt facts A s (implemented g) n xs qs
    is_trait_source g qs head asks many bare = record {
      item = p;
      listed = listed;
      as_many = many;
      «at» = 0;
      rule = record { head = implemented t; preds = preds };
      of = subst (λ rs. slice_get rs 0 ≡ Some (record { head = implemented t; preds = preds })) (sym rules) refl;
      same = subst (λ x. IsSame A x (implemented g)) (sym head) (bare_same A (implemented g) ((tt, bare), tt));
      asks = sym asks;
    }

    pub is_alias_source : (g h : Term) (qs : List Asked) → at_args (found_as t u) ≡ found_as g h → map at_args preds ≡ qs → length xs ≡ length p.params → IsBare g → IsBare h → IsImplAt facts A s (found_as g h) n xs qs
    is_alias_source g h qs head asks many bare other = record {
      item = p;
      listed = listed;
      as_many = many;
      «at» = 1;
      rule = record { head = found_as t u; preds = preds };
      of = subst (λ rs. slice_get rs 1 ≡ Some (record { head = found_as t u; preds = preds })) (sym rules) refl;
      same = subst (λ x. IsSame A x (found_as g h)) (sym head) (bare_same A (found_as g h) (((tt, bare), tt), other));
      asks = sym asks;
    }

-- ---- nothing stands in the way

module _ (s : System) (of : IsSystemOf facts own s) (A : Aliases) (g : Asked) where
  pub unshadowed : IsBare g.parts → IsUnshadowed s A g
  unshadowed bare =
      let none : Each (λ r. Shadows A g.kind g.parts r → ⊥) s.clauses = subst (Each (λ r. Shadows A g.kind g.parts r → ⊥)) (sym (no_clauses s of)) tt in
      (g.parts, read_reads A g.parts (bare_read g.parts bare), none)

  pub not_sized : is_among [] g.kind ≡ false → MayHaveSource facts s g
  not_sized none among _ = true≢false (sym (subst (λ ts. is_among ts g.kind ≡ true) of.sized among) ∙ none)
