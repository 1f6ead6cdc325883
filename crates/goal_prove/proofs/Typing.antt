-- What the types of a goal without holes read as.
use Rattle.std.specs.Prelude.{◌≡◌, List, [], ◌∷◌, ◌++◌, map, Some, None, refl}
use Rattle.std.specs.List.{flat_map}
use Rattle.std.proofs.Common.{sym, ap, ap₂, ◌∙◌, subst}
use Rattle.goal_prove.specs.Words.{TraitId, Goal, Head, AliasBound, Const, GenericArg, GenericArg-F, map-GenericArg, ind-GenericArg, roll-GenericArg, out-GenericArg, roll-out-GenericArg, TraitRef, out-TraitRef, Ty, Ty-F, map-Ty, ind-Ty, roll-Ty, in_ty, in_arg, no_label, Term, hole, leaf, pair, node, chain, const_term, type_part, const_part, term, arg_term, trait_parts, bound_parts, auto_parts, arg_step, ty_step, terms, term_at, parts_of_types, arg_term_type, arg_term_const, term_bool, term_char, term_int, term_uint, term_float, term_str, term_never, term_tuple, term_array, term_slice, term_ref, term_raw_ptr, term_adt, term_fn_def, term_fn_ptr, term_closure, term_dynamic, trait_parts_is, bound_parts_is, term_param, term_associated_type, term_opaque, term_error, term_hole, arg_term_at, Aliases, plain, role, ReadsAs, projects, asked_goal}
use Rattle.hir_types.specs.declared.goal.Goal.TheVariants as goal
use Rattle.hir_types.specs.declared.head.Head.TheVariants as head
use Rattle.hir_types.specs.declared.ty.Const.TheVariants as const
use Rattle.hir_types.specs.declared.ty.GenericArg.TheVariants as arg
use Rattle.hir_types.specs.declared.ty.Ty.TheVariants as ty
use Rattle.goal_prove.proofs.Words.{ReadsBy}
use Rattle.goal_prove.specs.Own.{IsWhole, IsGood, AreGood, IsGoodGoal, AliasIsGood, IsWritten}
use Rattle.goal_prove.proofs.Holes.{written_whole}
use Rattle.goal_prove.proofs.Shapes.{AreTypes, no_args, one_more, projection_good}

-- ---- `dyn` types have more heads

pub no_bound : (b : AliasBound) (bs : List AliasBound) (ids : List TraitId) → IsWritten (chain (flat_map (λ us. us) (map bound_parts (b ∷ bs)) ++ auto_parts ids)) → ⊥
no_bound b bs ids w =
    let h : IsWritten (chain ((bound_parts b ++ flat_map (λ us. us) (map bound_parts bs)) ++ auto_parts ids)) = w in
    (subst (λ us. IsWritten (chain ((us ++ flat_map (λ us. us) (map bound_parts bs)) ++ auto_parts ids))) (bound_parts_is b) h).0

pub no_principal : (r : TraitRef) (bs : List AliasBound) (ids : List TraitId) → IsWritten (chain (trait_parts r ++ flat_map (λ us. us) (map bound_parts bs) ++ auto_parts ids)) → ⊥
no_principal r bs ids w = (subst (λ us. IsWritten (chain (us ++ flat_map (λ us. us) (map bound_parts bs) ++ auto_parts ids))) (trait_parts_is r) w).0

-- ---- arguments

arg_layer_role : (y : GenericArg-F GenericArg Ty AliasBound TraitRef) → role (arg_step (in_arg terms y)) ≡ plain
arg_layer_role (GenericArg-F.Ty t) = refl
arg_layer_role (GenericArg-F.Const c) = refl

arg_is : (x : GenericArg) → arg_term x ≡ arg_step (in_arg terms (out-GenericArg x))
arg_is x = ap arg_term (sym (roll-out-GenericArg x)) ∙ arg_term_at (out-GenericArg x)

arg_role : (x : GenericArg) → role (arg_term x) ≡ plain
arg_role x = ap role (arg_is x) ∙ arg_layer_role (out-GenericArg x)

module _ (A : Aliases) (alias_good : AliasIsGood A) where
  -- ---- consts

  pub record IsArg (u : Term) : Type 0 where
    pub arg : GenericArg
    pub is : u ≡ arg_term arg
    pub whole : IsWhole u

  end_reads : (h : Head) (u : Term) → role (leaf h) ≡ plain → ReadsAs A (node h []) u → u ≡ node h []
  end_reads h u r reads =
      let q = subst (λ z. ReadsBy z A hole (leaf h) (leaf head.End) u) r reads in
      q.2 ∙ ap₂ pair q.3.1 q.4.1

  const_reads : (c : Const) → IsWritten (const_term c) → (u : Term) → ReadsAs A (const_term c) u → u ≡ const_term c
  const_reads (const.Value n) w u r = end_reads (head.Value n) u refl r
  const_reads (const.Param n) w u r = end_reads (head.ConstParam n) u refl r
  const_reads const.Unknown w u r = end_reads head.UnknownConst u refl r
  const_reads (const.Var n) w u r = absurd w
  const_reads const.Hole w u r = end_reads head.ConstHole u refl r

  const_good : (c : Const) → IsWritten (const_part c) → (u : Term) → ReadsAs A (const_part c) u → IsArg u
  const_good c w u r =
      let own = const_reads c w.1 r.1 r.4 in
      let is : u ≡ const_part c = r.2 ∙ ap₂ pair r.3.1 own in
      subst IsArg (sym is) (record { arg = arg.Const c; is = sym (arg_term_const c); whole = written_whole (const_part c) w })

  -- ---- by layers

  abbrev TyReads : Ty → Type 0
  TyReads t = (u : Term) → IsWritten (term t) → ReadsAs A (term t) u → IsGood u

  abbrev ArgReads : GenericArg → Type 0
  ArgReads x = (u : Term) → IsWritten (arg_term x) → ReadsAs A (arg_term x) u → IsArg u

  abbrev ReadArg : Type 0
  ReadArg = (x : GenericArg) × ArgReads x

  abbrev ReadTy : Type 0
  ReadTy = (t : Ty) × TyReads t

  abbrev AnyBound : Type 0
  AnyBound = AliasBound × Unit {0}

  abbrev AnyTrait : Type 0
  AnyTrait = TraitRef × Unit {0}

  abbrev layer_of : Ty-F ReadArg ReadTy AnyBound AnyTrait → Ty-F GenericArg Ty AliasBound TraitRef
  layer_of = map-Ty ReadArg ReadTy AnyBound AnyTrait GenericArg Ty AliasBound TraitRef (λ e. e.0) (λ e. e.0) (λ e. e.0) (λ e. e.0)

  abbrev arg_layer_of : GenericArg-F ReadArg ReadTy AnyBound AnyTrait → GenericArg-F GenericArg Ty AliasBound TraitRef
  arg_layer_of = map-GenericArg ReadArg ReadTy AnyBound AnyTrait GenericArg Ty AliasBound TraitRef (λ e. e.0) (λ e. e.0) (λ e. e.0) (λ e. e.0)

  -- a type before other parts
  record FirstType (rest y : Term) : Type 0 where
    type : Term
    more : Term
    is : y ≡ pair (type_part type) more
    good : IsGood type
    reads : ReadsAs A rest more

  first_type : (t : ReadTy) (rest y : Term) → IsWritten (term t.0) → ReadsAs A (pair (type_part (term t.0)) rest) y → FirstType rest y
  first_type t rest y w r =
      let part = r.3 in
      record {
        type = part.1;
        more = r.1;
        is = r.2 ∙ ap (λ z. pair z r.1) (part.2 ∙ ap (λ z. pair z part.1) part.3.1);
        good = t.1 part.1 w part.4;
        reads = r.4;
      }

  types_read : (ts : List ReadTy) → IsWritten (chain (map type_part (map term (map (λ e. e.0) ts)))) → (y : Term) → ReadsAs A (chain (map type_part (map term (map (λ e. e.0) ts)))) y → AreTypes y
  types_read [] w y r = no_args y r.1
  types_read (t ∷ ts) w y r =
      let q = first_type t (chain (map type_part (map term (map (λ e. e.0) ts)))) y w.0.1 r in
      one_more y q.type q.more q.is q.good (types_read ts w.1 q.more q.reads)

  args_read : (xs : List ReadArg) → IsWritten (chain (map arg_term (map (λ e. e.0) xs))) → (y : Term) → ReadsAs A (chain (map arg_term (map (λ e. e.0) xs))) y → AreGood y
  args_read [] w y r = subst AreGood (sym r.1) (record { args = ([], refl); whole = tt })
  args_read (x ∷ xs) w y reads =
      let rest = chain (map arg_term (map (λ e. e.0) xs)) in
      let r = subst (λ z. ReadsBy z A hole (arg_term x.0) rest y) (arg_role x.0) reads in
      let a = x.1 r.0 w.0 r.3 in
      let more = args_read xs w.1 r.1 r.4 in
      subst AreGood (sym r.2) (record {
        args = (a.arg ∷ more.args.0, ap₂ pair a.is more.args.1);
        whole = (a.whole, more.whole);
      })

  -- types, and one behind them
  record TypesThen (y : Term) : Type 0 where
    types : List Ty
    last : Ty
    are : y ≡ chain (parts_of_types types ++ type_part (term last) ∷ [])
    whole : IsWhole y

  types_then : (ts : List ReadTy) (t : ReadTy) → IsWritten (chain (map type_part (map term (map (λ e. e.0) ts)) ++ type_part (term t.0) ∷ [])) → (y : Term) → ReadsAs A (chain (map type_part (map term (map (λ e. e.0) ts)) ++ type_part (term t.0) ∷ [])) y → TypesThen y
  types_then [] t w y r =
      let q = first_type t (leaf head.End) y w.0.1 r in
      let is : y ≡ pair (type_part q.type) (leaf head.End) = q.is ∙ ap (pair (type_part q.type)) q.reads.1 in
      subst TypesThen (sym is) (record { types = []; last = q.good.type.0; are = ap (λ z. pair (type_part z) (leaf head.End)) q.good.type.1; whole = ((tt, q.good.whole), tt) })
  types_then (u ∷ ts) t w y r =
      let q = first_type u (chain (map type_part (map term (map (λ e. e.0) ts)) ++ type_part (term t.0) ∷ [])) y w.0.1 r in
      let more = types_then ts t w.1 q.more q.reads in
      subst TypesThen (sym q.is) (record {
        types = q.good.type.0 ∷ more.types;
        last = more.last;
        are = ap₂ pair (ap type_part q.good.type.1) more.are;
        whole = ((tt, q.good.whole), more.whole);
      })

  leaf_good : (h : Head) (T : Ty) → role (leaf h) ≡ plain → node h [] ≡ term T → (u : Term) → ReadsAs A (node h []) u → IsGood u
  leaf_good h T r e u reads = subst IsGood (sym (end_reads h u r reads)) (record { type = (T, e); whole = (tt, tt) })

  -- a head over parts
  over : (h : Head) (c u : Term) → role (leaf h) ≡ plain → ReadsAs A (pair (leaf h) c) u → (y : Term) × (u ≡ pair (leaf h) y) × ReadsAs A c y
  over h c u r reads = let q = subst (λ z. ReadsBy z A hole (leaf h) c u) r reads in (q.1, q.2 ∙ ap (λ z. pair z q.1) q.3.1, q.4)

  made : (h : Head) (y u : Term) (T : Ty) → u ≡ pair (leaf h) y → IsWhole y → pair (leaf h) y ≡ term T → IsGood u
  made h y u T is whole e = subst IsGood (sym is) (record { type = (T, e); whole = (tt, whole) })

  unary : (h : Head) (f : Ty → Ty) → role (leaf h) ≡ plain → ((t : Ty) → term (f t) ≡ node h (type_part (term t) ∷ [])) → (t : ReadTy) (u : Term) → IsWritten (term t.0) → ReadsAs A (node h (type_part (term t.0) ∷ [])) u → IsGood u
  unary h f r by t u w reads =
      let q = over h (chain (type_part (term t.0) ∷ [])) u r reads in
      let p = first_type t (leaf head.End) q.0 w q.2 in
      let is : q.0 ≡ pair (type_part p.type) (leaf head.End) = p.is ∙ ap (pair (type_part p.type)) p.reads.1 in
      made h (pair (type_part p.type) (leaf head.End)) u (f p.good.type.0) (q.1 ∙ ap (pair (leaf h)) is) ((tt, p.good.whole), tt)
      (ap (λ z. pair (leaf h) (pair (type_part z) (leaf head.End))) p.good.type.1 ∙ sym (by p.good.type.0))

  listed : (h : Head) (f : List GenericArg → Ty) → role (leaf h) ≡ plain → ((xs : List GenericArg) → term (f xs) ≡ node h (map arg_term xs)) → (xs : List ReadArg) (u : Term) → IsWritten (chain (map arg_term (map (λ e. e.0) xs)))
      → ReadsAs A (node h (map arg_term (map (λ e. e.0) xs))) u → IsGood u
  listed h f r by xs u w reads =
      let q = over h (chain (map arg_term (map (λ e. e.0) xs))) u r reads in
      let a = args_read xs w q.0 q.2 in
      made h q.0 u (f a.args.0) q.1 a.whole (ap (pair (leaf h)) a.args.1 ∙ sym (by a.args.0))

  layer_good : (y : Ty-F ReadArg ReadTy AnyBound AnyTrait) (u : Term) → IsWritten (ty_step (in_ty terms (layer_of y))) → ReadsAs A (ty_step (in_ty terms (layer_of y))) u → IsGood u
  layer_good Ty-F.Bool u w r = leaf_good head.Bool ty.Bool refl (sym term_bool) u r
  layer_good Ty-F.Char u w r = leaf_good head.Char ty.Char refl (sym term_char) u r
  layer_good (Ty-F.Int i) u w r = leaf_good (head.Int i) (ty.Int i) refl (sym (term_int i)) u r
  layer_good (Ty-F.Uint i) u w r = leaf_good (head.Uint i) (ty.Uint i) refl (sym (term_uint i)) u r
  layer_good (Ty-F.Float i) u w r = leaf_good (head.Float i) (ty.Float i) refl (sym (term_float i)) u r
  layer_good Ty-F.Str u w r = leaf_good head.Str ty.Str refl (sym term_str) u r
  layer_good Ty-F.Never u w r = leaf_good head.Never ty.Never refl (sym term_never) u r
  layer_good (Ty-F.Tuple ts) u w r =
      let q = over head.Tuple (chain (map type_part (map term (map (λ e. e.0) ts)))) u refl r in
      let a = types_read ts w.1 q.0 q.2 in
      made head.Tuple q.0 u (ty.Tuple a.types.0) q.1 a.whole (ap (pair (leaf head.Tuple)) a.types.1 ∙ sym (term_tuple a.types.0))
  layer_good (Ty-F.Array t c) u w r =
      let q = over head.Array (chain (type_part (term t.0) ∷ const_part c ∷ [])) u refl r in
      let p = first_type t (chain (const_part c ∷ [])) q.0 w.1.0.1 q.2 in
      let part = p.reads.3 in
      let own = const_reads c w.1.1.0.1 part.1 part.4 in
      let rest : p.more ≡ pair (const_part c) (leaf head.End) = p.reads.2 ∙ ap₂ pair (part.2 ∙ ap₂ pair part.3.1 own) p.reads.4.1 in
      let is : q.0 ≡ pair (type_part p.type) (pair (const_part c) (leaf head.End)) = p.is ∙ ap (pair (type_part p.type)) rest in
      made head.Array (pair (type_part p.type) (pair (const_part c) (leaf head.End))) u (ty.Array p.good.type.0 c) (q.1 ∙ ap (pair (leaf head.Array)) is) ((tt, p.good.whole), (written_whole (const_part c) w.1.1.0, tt))
      ((λ i. pair (leaf head.Array) (pair (type_part (p.good.type.1 i)) (pair (const_part c) (leaf head.End)))) ∙ sym (term_array p.good.type.0 c))
  layer_good (Ty-F.Slice t) u w r = unary head.Slice ty.Slice refl term_slice t u w.1.0.1 r
  layer_good (Ty-F.Ref m l t) u w r = unary (head.Ref m) (ty.Ref m no_label) refl (term_ref m no_label) t u w.1.0.1 r
  layer_good (Ty-F.RawPtr m t) u w r = unary (head.RawPtr m) (ty.RawPtr m) refl (term_raw_ptr m) t u w.1.0.1 r
  layer_good (Ty-F.Adt i xs) u w r = listed (head.Adt i) (ty.Adt i) refl (term_adt i) xs u w.1 r
  layer_good (Ty-F.FnDef i xs) u w r = listed (head.FnDef i) (ty.FnDef i) refl (term_fn_def i) xs u w.1 r
  layer_good (Ty-F.FnPtr s ts t) u w r =
      let q = over (head.FnPtr s) (chain (map type_part (map term (map (λ e. e.0) ts)) ++ type_part (term t.0) ∷ [])) u refl r in
      let a = types_then ts t w.1 q.0 q.2 in
      made (head.FnPtr s) q.0 u (ty.FnPtr s a.types a.last) q.1 a.whole (ap (pair (leaf (head.FnPtr s))) a.are ∙ sym (term_fn_ptr s a.types a.last))
  layer_good (Ty-F.Closure i ts t) u w r =
      let q = over (head.Closure i) (chain (map type_part (map term (map (λ e. e.0) ts)) ++ type_part (term t.0) ∷ [])) u refl r in
      let a = types_then ts t w.1 q.0 q.2 in
      made (head.Closure i) q.0 u (ty.Closure i a.types a.last) q.1 a.whole (ap (pair (leaf (head.Closure i))) a.are ∙ sym (term_closure i a.types a.last))
  layer_good (Ty-F.Dynamic None [] []) u w r =
      let q = over head.Dynamic (chain (leaf head.NoPrincipal ∷ [])) u refl r in
      let is : q.0 ≡ chain (leaf head.NoPrincipal ∷ []) = q.2.2 ∙ ap₂ pair q.2.3.1 q.2.4.1 in
      made head.Dynamic (chain (leaf head.NoPrincipal ∷ [])) u (ty.Dynamic None [] []) (q.1 ∙ ap (pair (leaf head.Dynamic)) is) (tt, tt) (sym (term_dynamic None [] []))
  layer_good (Ty-F.Dynamic None [] (i ∷ is)) u w r = absurd w.1.1.0
  layer_good (Ty-F.Dynamic None (b ∷ bs) is) u w r = absurd (no_bound b.0 (map (λ e. e.0) bs) is w.1.1)
  layer_good (Ty-F.Dynamic (Some t) bs is) u w r = absurd (no_principal t.0 (map (λ e. e.0) bs) is w.1)
  layer_good (Ty-F.Param n) u w r = leaf_good (head.Param n) (ty.Param n) refl (sym (term_param n)) u r
  layer_good (Ty-F.Projection i xs) u w r = alias_good i r.0 u r.2 (args_read xs w.1 r.0 r.1)
  layer_good (Ty-F.AssociatedType i xs) u w r = listed (head.AssociatedType i) (ty.AssociatedType i) refl (term_associated_type i) xs u w.1 r
  layer_good (Ty-F.Opaque i xs) u w r = listed (head.Opaque i) (ty.Opaque i) refl (term_opaque i) xs u w.1 r
  layer_good Ty-F.Error u w r = leaf_good head.Error ty.Error refl (sym term_error) u r
  layer_good (Ty-F.Var n) u w r = absurd w
  layer_good (Ty-F.IntVar n) u w r = absurd w
  layer_good Ty-F.Hole u w r = leaf_good head.Hole ty.Hole refl (sym term_hole) u r

  arg_layer_good : (y : GenericArg-F ReadArg ReadTy AnyBound AnyTrait) (u : Term) → IsWritten (arg_step (in_arg terms (arg_layer_of y))) → ReadsAs A (arg_step (in_arg terms (arg_layer_of y))) u → IsArg u
  arg_layer_good (GenericArg-F.Ty t) u w r =
      let g = t.1 r.1 w.1 r.4 in
      subst IsArg (sym (r.2 ∙ ap (λ z. pair z r.1) r.3.1)) (record { arg = arg.Ty g.type.0; is = ap type_part g.type.1 ∙ sym (arg_term_type g.type.0); whole = (tt, g.whole) })
  arg_layer_good (GenericArg-F.Const c) u w r = const_good c w u r

  step_good : (x : Ty-F GenericArg Ty AliasBound TraitRef) (y : Ty-F ReadArg ReadTy AnyBound AnyTrait) → layer_of y ≡ x → TyReads (roll-Ty x)
  step_good x y is u w r =
      let at = subst (λ z. (v : Term) → IsWritten (ty_step (in_ty terms z)) → ReadsAs A (ty_step (in_ty terms z)) v → IsGood v) is (layer_good y) in
      at u (subst IsWritten (term_at x) w) (subst (λ t. ReadsAs A t u) (term_at x) r)

  arg_step_good : (x : GenericArg-F GenericArg Ty AliasBound TraitRef) (y : GenericArg-F ReadArg ReadTy AnyBound AnyTrait) → arg_layer_of y ≡ x → ArgReads (roll-GenericArg x)
  arg_step_good x y is u w r =
      let at = subst (λ z. (v : Term) → IsWritten (arg_step (in_arg terms z)) → ReadsAs A (arg_step (in_arg terms z)) v → IsArg v) is (arg_layer_good y) in
      at u (subst IsWritten (arg_term_at x) w) (subst (λ t. ReadsAs A t u) (arg_term_at x) r)

  -- ---- whole

  pub type_reads : (t : Ty) → TyReads t
  type_reads = ind-Ty ArgReads TyReads (λ _. Unit {0}) (λ _. Unit {0}) arg_step_good step_good (λ x y is. tt) (λ x y is. tt)

  arg_reads : (x : GenericArg) → ArgReads x
  arg_reads = ind-GenericArg ArgReads TyReads (λ _. Unit {0}) (λ _. Unit {0}) arg_step_good step_good (λ x y is. tt) (λ x y is. tt)

  abbrev with_reads : List GenericArg → List ReadArg
  with_reads xs = map (λ x. (x, arg_reads x)) xs

  with_is : (xs : List GenericArg) → map (λ e. e.0) (with_reads xs) ≡ xs
  with_is [] = refl
  with_is (x ∷ xs) = ap (λ ys. x ∷ ys) (with_is xs)

  pub list_reads : (xs : List GenericArg) → IsWritten (chain (map arg_term xs)) → (y : Term) → ReadsAs A (chain (map arg_term xs)) y → AreGood y
  list_reads xs w y r =
      let e = with_is xs in
      args_read (with_reads xs) (subst (λ ys. IsWritten (chain (map arg_term ys))) (sym e) w) y (subst (λ ys. ReadsAs A (chain (map arg_term ys)) y) (sym e) r)

  chain_plain : (xs : List GenericArg) → role (chain (map arg_term xs)) ≡ plain
  chain_plain [] = refl
  chain_plain (x ∷ xs) = refl

  -- what a goal reads as is one about types
  pub goal_reads : (g : Goal) → IsWritten (asked_goal g).parts → (w : Term) → ReadsAs A (asked_goal g).parts w → IsGoodGoal (asked_goal g).kind w
  goal_reads (goal.Trait k) h w r = let q = list_reads (out-TraitRef k).args h w r in record { goal = q.args; whole = q.whole }
  goal_reads (goal.Projection k xs t) h w reads =
      let r = subst (λ z. ReadsBy z A hole (chain (map arg_term xs)) (term t) w) (chain_plain xs) reads in
      subst (IsGoodGoal (projects k)) (sym r.2) (projection_good k r.0 r.1 (list_reads xs h.0 r.0 r.3) (type_reads t r.1 h.1 r.4))
