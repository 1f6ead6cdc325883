-- The rules of patterns hold of a table under an assignment where they hold of the table.
use Rattle.std.proofs.Common.{ℕ, ◌≡◌, inl, inr, refl, sym, ap, subst, ◌∙◌, List, [], ◌∷◌, ◌++◌, length, map, Option, Some, None, slice_get}
use Rattle.std.proofs.lemmas.List.{length-map, map-append}
use Rattle.hir_types.specs.declared.ids.CallableDefId.TheVariants as callable
use Rattle.infer_result.specs.Words.{PatId, VariantId, Ty, Assignment, folded, RawPat, RawVariant, IsLawful, Role, parameter, let_pattern, arm_pattern, subpattern, Node, the_body, inner, taken_types, type_args, ctor_item}
use Rattle.hir_types.specs.declared.ids.ExprOrPatId.TheVariants as node
use Rattle.hir_types.specs.declared.ty.Ty.TheVariants as ty
use Rattle.infer_result.specs.Words.hir_raw.declared.raw.RawPat.TheVariants as pat
use Rattle.infer_result.specs.Words.hir_raw.declared.raw.RawPath.TheVariants as path
use Rattle.infer_result.specs.Own.{InferenceResult, PatTy, PatItem, Given, StandsAt, declared, PatIsAtOrMismatch, IsVariantAt, IsCtorAt, adt_at, fields_at, GivesComponent, AllPatsAt, GivesField, IsItemOf, IsPatOf, PatsAtFields, CtorPatRule, GivesPart, Gives, PatRule, ObeysPattern, table_under, WholeObeys, IsClosedType}
use Rattle.infer_result.proofs.Derived.{one_at, one_item, tuple_parts, adt_no_tuple}
use Rattle.infer_result.proofs.Parts.{PartStands, comes_from}
use Rattle.infer_result.proofs.Unchanged.{instances_under, fields_unchanged}
use Rattle.infer_result.proofs.Under.{At-under, At-before, entry_before, tuple_under, adt_under, item_under, variant_under, ctor_at_under, type_under, pat_type_under, recorded_before, declared_under}
use Rattle.infer_result.proofs.StableExprs.{pat_at_under, ctor_path_under}

module _ (g : Given) (law : IsLawful g.scope.facts) (a : Assignment) (t : InferenceResult) where
  abbrev after : InferenceResult
  after = table_under a t

  -- the fields at types are changed as the types are
  fields_under : (v : VariantId) (x : RawVariant) (ts hs : List Ty) → IsVariantAt g v x ts → map (folded a) (fields_at g x (length ts) (ts ++ hs)) ≡ fields_at g x (length (map (folded a) ts)) (map (folded a) ts ++ map (folded a) hs)
  fields_under v x ts hs h =
      instances_under a (ts ++ hs) (taken_types g.scope.facts.types (length ts) x) (fields_unchanged g.scope.facts law v.0 x h.found (length ts) h.count)
      ∙ (λ j. fields_at g x (sym (length-map ts (folded a)) j) (map-append (folded a) ts hs j))

  -- so is the item that a pattern is of
  item_of_under : (p : PatId) (v : VariantId) (ts hs : List Ty) → IsItemOf t p v ts hs → IsItemOf (table_under a t) p v (map (folded a) ts) (map (folded a) hs)
  item_of_under p v ts [] h = tt
  item_of_under p v ts (x ∷ hs) h =
      subst (λ u. PatItem (table_under a t) p u) (item_under a (callable.VariantId v) (ts ++ x ∷ hs) ∙ ap (ctor_item v) (map-append (folded a) ts (x ∷ hs)))
      (At-under (folded a) t.item_of_pat p.0 (ctor_item v (ts ++ x ∷ hs)) h)

  pat_of_under : (p : PatId) (v : VariantId) (x : RawVariant) (ts hs : List Ty) → IsPatOf g t p v x ts hs → IsPatOf g (table_under a t) p v x (map (folded a) ts) (map (folded a) hs)
  pat_of_under p v x ts hs h = record {
    is_variant = variant_under a g v x ts h.is_variant;
    is_ctor = subst (λ us. IsCtorAt g v x us) (map-append (folded a) ts hs) (ctor_at_under a g v x (ts ++ hs) h.is_ctor);
    has = pat_type_under a t p _ _ h.has (adt_under a x.adt ts);
    item = item_of_under p v ts hs h.item;
  }

  -- ---- each kind of pattern

  all_pats_under : (ps : List PatId) (ss : List Ty) → AllPatsAt g t ps ss → AllPatsAt g (table_under a t) ps (map (folded a) ss)
  all_pats_under [] [] h = tt
  all_pats_under [] (s ∷ ss) h = absurd h
  all_pats_under (p ∷ ps) [] h = absurd h
  all_pats_under (p ∷ ps) (s ∷ ss) h = (pat_at_under g a t p s h.0, all_pats_under ps ss h.1)

  pats_at_under : (ps : List PatId) (ss : List Ty) → PatsAtFields g t ps ss → PatsAtFields g (table_under a t) ps (map (folded a) ss)
  pats_at_under [] ss h = tt
  pats_at_under (p ∷ ps) [] h = tt
  pats_at_under (p ∷ ps) (s ∷ ss) h = (pat_at_under g a t p s h.0, pats_at_under ps ss h.1)

  pub kind_under : (p : PatId) (o : Option RawPat) → PatRule g t p o → PatRule g (table_under a t) p o
  kind_under p None h = h
  kind_under p (Some pat.Wild) (s, h) = (folded a s, pat_type_under a t p s (folded a s) h refl)
  kind_under p (Some (pat.Bind v sub)) (s, h, k, m) = (folded a s, pat_type_under a t p s (folded a s) h refl, At-under (folded a) t.type_of_binding v.0 s k, m)
  kind_under p (Some (pat.Tuple ps)) (ss, h, k) = (map (folded a) ss, pat_type_under a t p _ _ h (tuple_under a ss), all_pats_under ps ss k)
  kind_under p (Some (pat.TupleStruct v ps)) h = record {
    variant = h.variant;
    types = map (folded a) h.types;
    hidden = map (folded a) h.hidden;
    is = pat_of_under p v h.variant h.types h.hidden h.is;
    parts = subst (λ ss. PatsAtFields g (table_under a t) ps ss) (fields_under v h.variant h.types h.hidden h.is.is_variant) (pats_at_under ps (fields_at g h.variant (length h.types) (h.types ++ h.hidden)) h.parts);
    counted = h.counted;
    resolved = h.resolved;
  }
  kind_under p (Some (pat.Path (path.Ctor v))) (s, h, k, r) = (folded a s, pat_type_under a t p s (folded a s) h refl, ctor_path_under a g v s k, r)
  kind_under p (Some (pat.Path (path.Local v))) h = h
  kind_under p (Some (pat.Path (path.Function f))) h = h
  kind_under p (Some (pat.Lit e)) (s, h, k) = (folded a s, pat_type_under a t p s (folded a s) h refl, type_under a t e s (folded a s) k refl)
  kind_under p (Some (pat.Later later)) h = h

  -- ---- what comes into a pattern

  -- the whole gives a part what it gave before, under the assignment, where it obeys its own rule
  module _ (q : PatId) where
    -- its type before and after
    same_after : (s u : Ty) → PatTy t q s → PatTy (table_under a t) q u → folded a s ≡ u
    same_after s u h k = one_at after.type_of_pat q.0 (folded a s) u (At-under (folded a) t.type_of_pat q.0 s h) k

    component_of : (ps : List PatId) → PatRule g t q (Some (pat.Tuple ps)) → (i : ℕ) (s : Ty) → GivesComponent (table_under a t) q i s → (u : Ty) × GivesComponent t q i u × (folded a u ≡ s)
    component_of ps (ss, h, k) i s c =
        let same : map (folded a) ss ≡ c.types = tuple_parts (map (folded a) ss) c.types (sym (tuple_under a ss) ∙ same_after (ty.Tuple ss) (ty.Tuple c.types) h c.has) in
        let x = entry_before (folded a) ss i s (ap (λ us. slice_get us i) same ∙ c.component) in
        (x.0, record { types = ss; has = h; component = x.1 }, x.2)

    no_component : (v : VariantId) (ps : List PatId) → PatRule g t q (Some (pat.TupleStruct v ps)) → (i : ℕ) (s : Ty) → GivesComponent (table_under a t) q i s → ⊥
    no_component v ps h i s c =
        adt_no_tuple h.variant.adt (type_args (map (folded a) h.types)) c.types
        (sym (adt_under a h.variant.adt h.types) ∙ same_after (adt_at h.variant h.types) (ty.Tuple c.types) h.is.has c.has)

    component_before : (i : ℕ) (p : PatId) → PartStands g.body q i p → PatRule g t q (slice_get g.body.pats q.0) → (s : Ty) → GivesComponent (table_under a t) q i s → (u : Ty) × GivesComponent t q i u × (folded a u ≡ s)
    component_before i p stands h s c = elim stands.whole [
      | inl is ↦ component_of stands.parts (subst (λ o. PatRule g t q o) is h) i s c
      | inr is ↦ absurd (no_component is.0 stands.parts (subst (λ o. PatRule g t q o) is.1 h) i s c)
    ]

    field_before : (i : ℕ) → PatRule g t q (slice_get g.body.pats q.0) → (s : Ty) → GivesField g (table_under a t) q i s → (u : Ty) × GivesField g t q i u × (folded a u ≡ s)
    field_before i h s f =
        let r : CtorPatRule g t q f.named f.parts = subst (λ o. PatRule g t q o) f.is_pat h in
        let before : List Ty = fields_at g r.variant (length r.types) (r.types ++ r.hidden) in
        let (one, own, all) = one_item g (table_under a t) q f.named r.variant f.variant (map (folded a) r.types) f.types (map (folded a) r.hidden) f.hidden (pat_of_under q f.named r.variant r.types r.hidden r.is) f.is in
        let fields : map (folded a) before ≡ fields_at g f.variant (length f.types) (f.types ++ f.hidden) =
        fields_under f.named r.variant r.types r.hidden r.is.is_variant ∙ (λ j. fields_at g (one j) (length (own j)) (all j)) in
        let x = entry_before (folded a) before i s (ap (λ us. slice_get us i) fields ∙ f.field) in (
          x.0,
          record {
            named = f.named;
            parts = f.parts;
            is_pat = f.is_pat;
            variant = r.variant;
            types = r.types;
            hidden = r.hidden;
            is = r.is;
            field = x.1;
          },
          x.2,
        )

  -- where the types of parameters have no holes
  module _ (inputs : (i : ℕ) (u : Ty) → slice_get g.inputs i ≡ Some (Some u) → IsClosedType u) (p : PatId) (whole : WholeObeys g t p) where
    abbrev Before : Node → Role → Ty → Type 0
    Before n role s = (u : Ty) × Gives g t n role u × (folded a u ≡ s)

    part_before : (n : Node) (k i : ℕ) → StandsAt g.body (node.PatId p) n k (subpattern i) → (s : Ty) → GivesPart g (table_under a t) n i s → Before n (subpattern i) s
    part_before the_body k i stands s h = absurd h
    part_before (inner (node.ExprId n)) k i stands s h = absurd h
    part_before (inner (node.PatId q)) k i stands s (inl h) =
        let from = comes_from g.body (inner (node.PatId q)) k (record { node = node.PatId p; role = subpattern i }) stands.part in
        let here : q ≡ from.2.0 = (let e = from.2.1 in cc) in
        let x = component_before q i from.0 (subst (λ y. PartStands g.body y i from.0) (sym here) from.2.2) (whole q k (subpattern i) stands) s h in
        (x.0, inl x.1, x.2)
    part_before (inner (node.PatId q)) k i stands s (inr h) = let x = field_before q i (whole q k (subpattern i) stands) s h in (x.0, inr x.1, x.2)

    type_before : (n : Node) (role : Role) → (k : ℕ) → StandsAt g.body (node.PatId p) n k role → (s : Ty) → Gives g (table_under a t) n role s → Before n role s
    type_before n (parameter i) k stands s found = (s, found, inputs i s found a)
    type_before n (let_pattern (Some w) init) k stands s (r, is) =
        let before = recorded_before a t g w r in
        (declared g t w, (before, refl), declared_under a t g w before ∙ sym is)
    type_before n (let_pattern None (Some e)) k stands s h = At-before (folded a) t.type_of_expr e.0 s h
    type_before n (arm_pattern e i) k stands s h = At-before (folded a) t.type_of_expr e.0 s h
    type_before n (subpattern i) k stands s h = part_before n k i stands s h
    type_before n _ k stands s h = absurd h

    pub pattern_under : ObeysPattern g t p → ObeysPattern g (table_under a t) p
    pattern_under h = record {
      incoming = λ s c.
          (let x = type_before c.parent c.role c.at_part c.stands s c.gives in
          subst (λ u. PatIsAtOrMismatch g (table_under a t) p u) x.2
          (pat_at_under g a t p x.0 (h.incoming x.0 (record { parent = c.parent; at_part = c.at_part; role = c.role; stands = c.stands; gives = x.1 }))));
      kind = kind_under p (slice_get g.body.pats p.0) h.kind;
    }
