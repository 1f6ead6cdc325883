-- What a plain body has not: a `_` in the type of a `let`, and a call of what is no function.
use Rattle.std.specs.Prelude.{IsSomeAnd, option_map}
use Rattle.std.specs.Option.{option_and_then}
use Rattle.std.proofs.Common.{◌≡◌, refl, Option, Some, None, subst, ℕ, suc, sym, ap, ◌++◌, ◌∙◌, slice_get, true, List, length, Bool, false, not, ◌||◌, ◌==◌, true≢false, [], ◌∷◌, if◌then◌else◌}
use Rattle.std.proofs.lemmas.Option.{slice_get_within}
use Rattle.infer_end.specs.Words.{FunctionId, VariantId, DefWithBodyId, ExprId, RawBody, RawFacts, body_of, IsLawful, PatId, fn_aliases, variant_aliases, params_of, adt_params, variant_arity, has_associated, has_associated_by, names_alias, is_size_goal, IsPlainBody, IsPlainBodyOf, IsPlainKind, IsPlainType, IsPlainAdt, is_tuple_ctor, is_tuple_variant, is_item, IsPlainExpr, IsPlainStmt, RawType, masked, stmt_aliases, expr_aliases, let_aliases, other_is_itself, StandsIn, is_itself, in_part, type_parts, RawCtor, RawVariant, RawStmt, RawExpr, callee, expr_part, inner, parts_of_expr, stmts_of, fn_signature, taken_types, own_adt, ctor_signature, signature_by, Given, IsPlaceholder, IsPathToItem, TraitId, RawGoal, arg_types, is_sized_lang, is_one_sized_lang, is_sized_trait, only_param, is_below, is_sized_pred, is_in_module}
use Rattle.hir_types.specs.declared.ids.DefWithBodyId.TheVariants as def
use Rattle.hir_types.specs.declared.ids.CallableDefId.TheVariants as callable
use Rattle.hir_types.specs.declared.ids.ExprOrPatId.TheVariants as node
use Rattle.infer_end.proofs.Words.{none_within, no_aliases, kind_direct, type_direct, plain_direct}
use Rattle.infer_end.specs.Words.hir_raw.declared.raw.RawPat.TheVariants as pat
use Rattle.infer_end.proofs.PlainFields.{adt_aliases}
use Rattle.infer_end.specs.Words.hir_facts.Plain.{plain}
use Rattle.infer_end.specs.Words.hir_raw.declared.raw.RawType.TheVariants as type
use Rattle.infer_end.specs.Words.hir_raw.declared.raw.RawCtor.TheVariants as ctor
use Rattle.infer_end.specs.Words.hir_raw.declared.raw.RawStmt.TheVariants as stmt
use Rattle.infer_end.specs.Words.hir_raw.declared.raw.RawPath.TheVariants as path
use Rattle.infer_end.specs.Words.hir_raw.declared.raw.RawExpr.TheVariants as expr
use Rattle.std.specs.Cmp.{first_so, second_so}
use Rattle.std.specs.List.{list_all, list_any, flat_map}
use Rattle.infer_end.specs.Words.hir_raw.declared.raw.RawGoal.TheVariants as goal

pub some_of : {A : Type 0} (P : A → Type 0) (o : Option A) → IsSomeAnd o P → (x : A) × (o ≡ Some x) × P x
some_of P None h = absurd h
some_of P (Some x) h = (x, refl, h)

-- the body of a plain definition is plain
pub plain_body : (raw : RawFacts) (d : DefWithBodyId) (b : RawBody) → IsPlainBodyOf raw d → body_of raw d ≡ Some b → IsPlainBody raw (params_of raw d) b
plain_body raw (def.FunctionId f) b h is = subst (λ o. IsSomeAnd o (λ x. IsPlainBody raw (params_of raw (def.FunctionId f)) x)) is h.body
plain_body raw (def.ConstId c) b h is = absurd h
plain_body raw (def.StaticId s) b h is = absurd h
plain_body raw (def.VariantId v) b h is = absurd h

-- ---- no associated type that stays

size_by : (raw : RawFacts) (t : TraitId) (n : ℕ) (o : Option ℕ) (b : Bool) → is_sized_trait raw t ≡ b → is_below n (if b then o else None) ≡ true → list_any (is_sized_lang t) raw.lang ≡ true
size_by raw t n o true sized h = first_so (list_any (is_sized_lang t) raw.lang) (list_all (is_one_sized_lang t) raw.lang) sized
size_by raw t n o false sized h = absurd (true≢false (sym h))

-- a predicate that says of a parameter that it has a size says that a type has one
says_size : (raw : RawFacts) (n : ℕ) (g : RawGoal) → is_sized_pred raw n g ≡ true → is_size_goal raw g ≡ true
says_size raw n (goal.Trait r) h = size_by raw r.trait_ n (only_param raw (arg_types r.args)) (is_sized_trait raw r.trait_) refl h
says_size raw n (goal.Projection a xs t) h = absurd (true≢false (sym h))

no_more : (raw : RawFacts) (n : ℕ) (gs : List RawGoal) → list_all (is_sized_pred raw n) gs ≡ true → list_any (λ g. not (is_size_goal raw g)) gs ≡ false
no_more raw n [] h = refl
no_more raw n (g ∷ gs) h =
    let all = list_all (is_sized_pred raw n) gs in
    ap (λ b. not b || list_any (λ g. not (is_size_goal raw g)) gs) (says_size raw n g (first_so (is_sized_pred raw n g) all h)) ∙ no_more raw n gs (second_so (is_sized_pred raw n g) all h)

-- nothing in its signature is an associated type, either
names_none : (n : ℕ) → n ≡ 0 → not (n == 0) ≡ false
names_none n is = ap (λ k. not (k == 0)) is

-- may be a type in a plain body
pub none_plain : (raw : RawFacts) → IsLawful raw → (d : DefWithBodyId) → IsPlainBodyOf raw d → has_associated raw d ≡ false
none_plain raw law (def.FunctionId f) h =
    let x = some_of _ (slice_get raw.fns f.0) h.header in
    let preds = list_all (is_sized_pred raw (length x.0.params)) x.0.preds in
    let header = second_so (list_all _ x.0.params) _ (second_so (is_in_module x.0.«at») _ x.2.header) in
    let states = no_more raw (length x.0.params) x.0.preds (first_so preds _ header) in
    let names = names_none (length (fn_aliases raw.types x.0)) (ap (λ ks. length ks) (no_aliases raw law x.0 (plain_direct raw x.0 x.2))) in
    ap (has_associated_by raw) x.1 ∙ ((λ i. states i || names_alias raw x.0) ∙ names)
none_plain raw law (def.ConstId c) h = absurd h
none_plain raw law (def.StaticId s) h = absurd h
none_plain raw law (def.VariantId v) h = absurd h

-- ---- written types

-- no `_` and no associated type stands in a plain type
no_hole : (raw : RawFacts) (P : ℕ → Type 0) (n k t : ℕ) → IsPlainType raw P n t → StandsIn (masked raw.types) k t → ⊥
no_hole raw P n k t (plain _ x found own parts) (is_itself hole) =
    (let here : slice_get (masked raw.types) k ≡ Some x = other_is_itself raw.types k x found (kind_direct raw P n x own) in
    let same : x ≡ type.Hole = (let both : Some x ≡ Some type.Hole = sym here ∙ hole in cc) in
    let h : IsPlainKind raw P n type.Hole = subst (λ (y : RawType). IsPlainKind raw P n y) same own in h)
no_hole raw P n k t (plain _ x found own parts) (in_part _ y j u at part stands) =
    (let here : slice_get (masked raw.types) t ≡ Some x = other_is_itself raw.types t x found (kind_direct raw P n x own) in
    let same : y ≡ x = (let both : Some y ≡ Some x = sym at ∙ here in cc) in
    no_hole raw P n k u.0 (parts j u (ap (λ (z : RawType). slice_get (type_parts z) j) (sym same) ∙ part)) stands)

none_flat : {A : Type 0} (f : A → List ℕ) (xs : List A) → ((k : ℕ) (x : A) → slice_get xs k ≡ Some x → f x ≡ []) → flat_map f xs ≡ []
none_flat f [] none = refl
none_flat f (x ∷ xs) none = ap (λ ks. ks ++ flat_map f xs) (none 0 x refl) ∙ none_flat f xs (λ k y at. none (suc k) y at)

module _ (raw : RawFacts) (n : ℕ) (b : RawBody) (h : IsPlainBody raw n b) where
  plain_stmt : (e : ℕ) (o : Option RawExpr) (i : ℕ) (s : RawStmt) → slice_get b.exprs e ≡ o → slice_get (stmts_of o) i ≡ Some s → IsPlainStmt raw n s
  plain_stmt e (Some (expr.Block label stmts last)) i s is at = (let block : IsPlainExpr raw n (expr.Block label stmts last) = h.exprs e _ is in block.1 i s at)
  plain_stmt e _ i s is at = absurd (cc)

  pub no_placeholder : (g : Given) (k : ℕ) → g.scope.facts ≡ raw → g.body ≡ b → IsPlaceholder g k → ⊥
  no_placeholder g k facts body p =
      let at : slice_get (stmts_of (slice_get b.exprs p.block.0)) p.at_stmt ≡ Some (stmt.Let p.pattern (Some p.written) p.init p.other) = ap (λ (x : RawBody). slice_get (stmts_of (slice_get x.exprs p.block.0)) p.at_stmt) (sym body) ∙ p.is_let in
      let written : IsPlainStmt raw n (stmt.Let p.pattern (Some p.written) p.init p.other) = plain_stmt p.block.0 (slice_get b.exprs p.block.0) p.at_stmt _ refl at in
      no_hole raw (IsPlainAdt raw) n k p.written.0 written.1 (subst (λ (x : RawFacts). StandsIn (masked x.types) k p.written.0) facts p.stands)

  -- none of its `let`s is written with an associated type
  plain_stmt_aliases : IsLawful raw → (s : RawStmt) → IsPlainStmt raw n s → stmt_aliases raw.types s ≡ []
  plain_stmt_aliases law (stmt.Let p None init other) own = refl
  plain_stmt_aliases law (stmt.Let p (Some t) init other) own = none_within raw law (length raw.types) t.0 (type_direct raw (IsPlainAdt raw) n t.0 own.1)
  plain_stmt_aliases law (stmt.Expr e semicolon) own = refl

  pub no_let_aliases : IsLawful raw → let_aliases raw.types b ≡ []
  no_let_aliases law = none_flat (expr_aliases raw.types) b.exprs (λ e x found.
      none_flat (stmt_aliases raw.types) (stmts_of (Some x)) (λ k s at. plain_stmt_aliases law s (plain_stmt e (Some x) k s found at)))

  -- nor does its constructors' patterns have one in a field
  pub no_ctor_aliases : IsLawful raw → (p : ℕ) (v : VariantId) (ps : List PatId) (x : RawVariant) → slice_get b.pats p ≡ Some (pat.TupleStruct v ps) → slice_get raw.variants v.0 ≡ Some x → variant_aliases raw.types x ≡ []
  no_ctor_aliases law p v ps x is at =
      let y = some_of _ (slice_get raw.variants v.0) (h.pats p (pat.TupleStruct v ps) is) in
      let same : y.0 ≡ x = (let both : Some y.0 ≡ Some x = sym y.1 ∙ at in cc) in
      adt_aliases raw law v.0 x at (subst (λ (z : RawVariant). IsPlainAdt raw z.adt.0) same y.2.1)

  -- ---- callees

  tuple_ctor : (c : RawCtor) → is_tuple_ctor c ≡ true → c ≡ ctor.Tuple
  tuple_ctor ctor.Unit k = absurd (cc)
  tuple_ctor ctor.Tuple k = refl
  tuple_ctor ctor.Record k = absurd (cc)

  module _ (g : Given) (facts : g.scope.facts ≡ raw) (body : g.body ≡ b) where
    path_at : (called : ExprId) (q : _) → slice_get b.exprs called.0 ≡ Some (expr.Path q) → slice_get g.body.exprs called.0 ≡ Some (expr.Path q)
    path_at called q is = ap (λ (x : RawBody). slice_get x.exprs called.0) body ∙ is

    function_item : (called : ExprId) (f : FunctionId) → slice_get b.exprs called.0 ≡ Some (expr.Path (path.Function f)) → IsPathToItem g called
    function_item called f is =
        let x = some_of _ (slice_get raw.fns f.0) (h.exprs called.0 (expr.Path (path.Function f)) is) in (
          path.Function f,
          path_at called (path.Function f) is,
          record {
            item = callable.FunctionId f;
            is_item = refl;
            signature = fn_signature g.scope.facts.types x.0;
            is_signature = ap (option_map (fn_signature g.scope.facts.types)) (ap (λ (r : RawFacts). slice_get r.fns f.0) facts ∙ x.1);
          },
        )

    variant_item : (called : ExprId) (v : VariantId) → slice_get b.exprs called.0 ≡ Some (expr.Path (path.Ctor v)) → is_tuple_variant (slice_get raw.variants v.0) ≡ true → IsPathToItem g called
    variant_item called v is tuple =
        let x = some_of _ (slice_get raw.variants v.0) (h.exprs called.0 (expr.Path (path.Ctor v)) is) in
        let is_tuple : x.0.ctor ≡ ctor.Tuple = tuple_ctor x.0.ctor (ap is_tuple_variant (sym x.1) ∙ tuple) in
        let adt = x.2.1.is_plain.each x.0.adt.0 x.2.1.has in
        let count : ℕ = length adt.adt.params in
        let types : List RawType = g.scope.facts.types in
        let params : adt_params g.scope.facts x.0.adt ≡ Some count = ap (λ (r : RawFacts). adt_params r x.0.adt) facts ∙ ap (option_map (λ y. length y.params)) adt.found in (
          path.Ctor v,
          path_at called (path.Ctor v) is,
          record {
            item = callable.VariantId v;
            is_item = refl;
            signature = record { params = variant_arity types x.0 count; inputs = taken_types types count x.0; output = own_adt x.0.adt count };
            is_signature =
                ap (option_and_then (λ (y : RawVariant). option_and_then (λ m. ctor_signature types m y) (adt_params g.scope.facts y.adt))) (ap (λ (r : RawFacts). slice_get r.variants v.0) facts ∙ x.1)
                ∙ (ap (option_and_then (λ m. ctor_signature types m x.0)) params
                ∙ ap (λ k. signature_by k types count x.0) is_tuple);
          },
        )

    item_named : (called : ExprId) (o : Option RawExpr) → slice_get b.exprs called.0 ≡ o → is_item raw o ≡ true → IsPathToItem g called
    item_named called (Some (expr.Path (path.Function f))) is k = function_item called f is
    item_named called (Some (expr.Path (path.Ctor v))) is k = variant_item called v is k
    item_named called _ is k = absurd (cc)

    -- what is called is a path to an item
    pub calls_item : (call called : ExprId) (args : List ExprId) → slice_get g.body.exprs call.0 ≡ Some (expr.Call called args) → IsPathToItem g called
    calls_item call called args is =
        let here : slice_get b.exprs call.0 ≡ Some (expr.Call called args) = ap (λ (x : RawBody). slice_get x.exprs call.0) (sym body) ∙ is in
        let stands = h.callees (inner (node.ExprId call)) 0 (expr_part callee called) (slice_get_within b.exprs call.0 (expr.Call called args) here) (ap (λ o. slice_get (parts_of_expr b o) 0) here) in
        item_named called (slice_get b.exprs called.0) refl stands
