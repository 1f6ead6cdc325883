-- Opening a type part by part: what each part adds to the kinds of the holes and to the origins.
use Rattle.std.specs.Prelude.{◌≡◌, ℕ, ◌+◌, List, [], ◌∷◌, ◌++◌, length, map, Option}
use Rattle.std.specs.Option.{option_map}
use Rattle.std.specs.List.{flat_map}
use Rattle.std.proofs.Common.{refl, sym, ap, ◌∙◌, subst}
use Rattle.std.proofs.lemmas.List.{map_push}
use Rattle.infer_table.specs.Words.{AdtId, CallableDefId, ClosureId, TraitId, TypeAliasId, Head, HoleKind, Const, Safety, Ty, GenericArg, TraitRef, AliasBound, Term, leaf, pair, chain, node, const_term, type_part, const_part, principal_parts, auto_parts, term, arg_term, trait_parts, bound_parts, parts_of_types, term_tuple, term_array, term_adt, term_fn_def, term_associated_type, term_fn_ptr, term_closure, term_dynamic, arg_term_const, bound_parts_is}
use Rattle.hir_types.specs.declared.head.Head.TheVariants as head
use Rattle.hir_types.specs.declared.head.HoleKind.TheVariants as kind
use Rattle.hir_types.specs.declared.ty.Ty.TheVariants as ty
use Rattle.hir_types.specs.declared.ty.GenericArg.TheVariants as arg
use Rattle.infer_table.specs.Opened.{Place, plain, alias, unknown_type, unknown_const, place, opened, origins}
use Rattle.infer_table.specs.OpenedLaws.{opened_at, origins_at}
use Rattle.infer_table.specs.OpenedKinds.{new_kinds}

-- the term was opened as `u`, from some kinds and origins to others
pub record Opens (old new : List HoleKind) (os ps : List (ℕ × Term)) (t u : Term) : Type 0 where
  pub holes : new ≡ old ++ new_kinds t
  pub term : u ≡ (opened (length old) t).0
  pub next : length new ≡ (opened (length old) t).1
  pub aliases : ps ≡ os ++ origins (length old) t

-- whatever follows it, it begins neither an alias nor `{unknown}`
abbrev pub IsPlainPart : Term → Type 0
IsPlainPart t = (c : Term) → place (pair t c) ≡ plain

abbrev OpensEach : List HoleKind → List HoleKind → List (ℕ × Term) → List (ℕ × Term) → List Term → List Term → Type 0
OpensEach old new os ps [] [] = (new ≡ old) × (ps ≡ os)
OpensEach old new os ps (t ∷ ts) (u ∷ us) =
    (mid : List HoleKind) × (ms : List (ℕ × Term)) × IsPlainPart t × Opens old mid os ms t u × OpensEach mid new ms ps ts us
OpensEach old new os ps _ _ = ⊥

-- the parts were opened as `us`, one after the other
pub record OpensParts (old new : List HoleKind) (os ps : List (ℕ × Term)) (ts us : List Term) : Type 0 where
  pub each : OpensEach old new os ps ts us

-- ---- lists

append_assoc : {X : Type 0} (a b c : List X) → (a ++ b) ++ c ≡ a ++ (b ++ c)
append_assoc [] b c = refl
append_assoc {X = X} (x ∷ a) b c = ap (λ (z : List X). x ∷ z) (append_assoc a b c)

append_none : {X : Type 0} (a : List X) → a ≡ a ++ []
append_none [] = refl
append_none {X = X} (x ∷ a) = ap (λ (z : List X). x ∷ z) (append_none a)

-- ---- pairs that stay

kinds_at : Place → Term → Term → List HoleKind
kinds_at p a b = elim p [
  | plain ↦ new_kinds a ++ new_kinds b
  | alias ↦ kind.Ty ∷ []
  | unknown_type ↦ kind.Ty ∷ []
  | unknown_const ↦ kind.Const ∷ []
]

kinds_pair : (a b : Term) → place (pair a b) ≡ plain → new_kinds (pair a b) ≡ new_kinds a ++ new_kinds b
unfolding kinds_at
kinds_pair a b e = let P : Place → Type 0 = λ z. kinds_at z a b ≡ new_kinds a ++ new_kinds b in subst P (sym e) refl

opened_pair : (n : ℕ) (a b : Term) → place (pair a b) ≡ plain → opened n (pair a b) ≡ opened_at plain n a b
opened_pair n a b e = let P : Place → Type 0 = λ z. opened_at z n a b ≡ opened_at plain n a b in subst P (sym e) refl

origins_pair : (n : ℕ) (a b : Term) → place (pair a b) ≡ plain → origins n (pair a b) ≡ origins n a ++ origins (opened n a).1 b
origins_pair n a b e = let P : Place → Type 0 = λ z. origins_at z n a b ≡ origins_at plain n a b in subst P (sym e) refl

pub opens_pair : (old mid new : List HoleKind) (os ms ps : List (ℕ × Term)) (a b u v : Term) → place (pair a b) ≡ plain
    → Opens old mid os ms a u → Opens mid new ms ps b v → Opens old new os ps (pair a b) (pair u v)
opens_pair old mid new os ms ps a b u v e x y = record {
  holes = y.holes ∙ ap (λ (z : List HoleKind). z ++ new_kinds b) x.holes ∙ append_assoc old (new_kinds a) (new_kinds b) ∙ ap
      (λ (z : List HoleKind). old ++ z) (sym (kinds_pair a b e));
  term = (λ i. pair (x.term i) ((y.term ∙ ap (λ (m : ℕ). (opened m b).0) x.next) i)) ∙ ap (λ (z : Term × ℕ). z.0)
      (sym (opened_pair (length old) a b e));
  next = y.next ∙ ap (λ (m : ℕ). (opened m b).1) x.next ∙ ap (λ (z : Term × ℕ). z.1) (sym (opened_pair (length old) a b e));
  aliases = y.aliases ∙ (λ i. x.aliases i ++ origins (x.next i) b) ∙ append_assoc os (origins (length old) a)
      (origins (opened (length old) a).1 b) ∙ ap (λ (z : List (ℕ × Term)). os ++ z) (sym (origins_pair (length old) a b e));
}

-- ---- what stays as it is

pub opens_leaf : (old : List HoleKind) (os : List (ℕ × Term)) (h : Head) → Opens old old os os (leaf h) (leaf h)
opens_leaf old os h = record { holes = append_none old; term = refl; next = refl; aliases = append_none os }

-- ---- parts one after the other

each_chain : (old new : List HoleKind) (os ps : List (ℕ × Term)) (ts us : List Term) → OpensEach old new os ps ts us
    → Opens old new os ps (chain ts) (chain us)
each_chain old new os ps [] [] h =
    record { holes = h.0 ∙ append_none old; term = refl; next = ap length h.0; aliases = h.1 ∙ append_none os }
each_chain old new os ps [] (u ∷ us) h = absurd h
each_chain old new os ps (t ∷ ts) [] h = absurd h
each_chain old new os ps (t ∷ ts) (u ∷ us) h =
    opens_pair old h.0 new os h.1 ps t (chain ts) u (chain us) (h.2 (chain ts)) h.3 (each_chain h.0 new h.1 ps ts us h.4)

each_append : (old mid new : List HoleKind) (os ms ps : List (ℕ × Term)) (ts us vs ws : List Term) → OpensEach old mid os ms ts us
    → OpensEach mid new ms ps vs ws → OpensEach old new os ps (ts ++ vs) (us ++ ws)
each_append old mid new os ms ps [] [] vs ws h g =
    let P : List HoleKind → Type 0 = λ z. OpensEach z new os ps vs ws in
    let Q : List (ℕ × Term) → Type 0 = λ z. OpensEach mid new z ps vs ws in
    subst P h.0 (subst Q h.1 g)
each_append old mid new os ms ps [] (u ∷ us) vs ws h g = absurd h
each_append old mid new os ms ps (t ∷ ts) [] vs ws h g = absurd h
each_append old mid new os ms ps (t ∷ ts) (u ∷ us) vs ws h g = (h.0, h.1, h.2, h.3, each_append h.0 mid new h.1 ms ps ts us vs ws h.4 g)

pub parts_none : (old : List HoleKind) (os : List (ℕ × Term)) → OpensParts old old os os [] []
parts_none old os = record { each = (refl, refl) }

pub parts_one : (old new : List HoleKind) (os ps : List (ℕ × Term)) (t u : Term) → IsPlainPart t → Opens old new os ps t u
    → OpensParts old new os ps (t ∷ []) (u ∷ [])
parts_one old new os ps t u e x = record { each = (new, ps, e, x, (refl, refl)) }

pub parts_append : (old mid new : List HoleKind) (os ms ps : List (ℕ × Term)) (ts us vs ws : List Term) → OpensParts old mid os ms ts us
    → OpensParts mid new ms ps vs ws → OpensParts old new os ps (ts ++ vs) (us ++ ws)
parts_append old mid new os ms ps ts us vs ws x y = record { each = each_append old mid new os ms ps ts us vs ws x.each y.each }

pub opens_node : (old new : List HoleKind) (os ps : List (ℕ × Term)) (h : Head) (ts us : List Term) → IsPlainPart (leaf h)
    → OpensParts old new os ps ts us → Opens old new os ps (node h ts) (node h us)
opens_node old new os ps h ts us e x =
    opens_pair old old new os os ps (leaf h) (chain ts) (leaf h) (chain us) (e (chain ts)) (opens_leaf old os h)
    (each_chain old new os ps ts us x.each)

-- ---- the parts of a type

pub opens_type_part : (old new : List HoleKind) (os ps : List (ℕ × Term)) (t u : Term) → Opens old new os ps t u
    → Opens old new os ps (type_part t) (type_part u)
opens_type_part old new os ps t u x =
    opens_pair old old new os os ps (leaf head.TypePart) t (leaf head.TypePart) u refl (opens_leaf old os head.TypePart) x

pub opens_const_part : (old new : List HoleKind) (os ps : List (ℕ × Term)) (c d : Const)
    → Opens old new os ps (const_term c) (const_term d) → Opens old new os ps (const_part c) (const_part d)
opens_const_part old new os ps c d x =
    opens_pair old old new os os ps (leaf head.ConstPart) (const_term c) (leaf head.ConstPart) (const_term d) refl
    (opens_leaf old os head.ConstPart) x

pub part_type : (old new : List HoleKind) (os ps : List (ℕ × Term)) (t u : Term) → Opens old new os ps t u
    → OpensParts old new os ps (type_part t ∷ []) (type_part u ∷ [])
part_type old new os ps t u x = parts_one old new os ps (type_part t) (type_part u) (λ c. refl) (opens_type_part old new os ps t u x)

pub part_const : (old new : List HoleKind) (os ps : List (ℕ × Term)) (c d : Const) → Opens old new os ps (const_term c) (const_term d)
    → OpensParts old new os ps (const_part c ∷ []) (const_part d ∷ [])
part_const old new os ps c d x = parts_one old new os ps (const_part c) (const_part d) (λ z. refl) (opens_const_part old new os ps c d x)

pub part_mark : (old : List HoleKind) (os : List (ℕ × Term)) (h : Head) → IsPlainPart (leaf h)
    → OpensParts old old os os (leaf h ∷ []) (leaf h ∷ [])
part_mark old os h e = parts_one old old os os (leaf h) (leaf h) e (opens_leaf old os h)

-- by equal terms
opens_by : {old new : List HoleKind} {os ps : List (ℕ × Term)} {t u v w : Term} → t ≡ v → u ≡ w → Opens old new os ps v w
    → Opens old new os ps t u
opens_by {old = old} {new = new} {os = os} {ps = ps} {t = t} {w = w} e f x =
    let P : Term → Type 0 = λ z. Opens old new os ps z w in
    let Q : Term → Type 0 = λ z. Opens old new os ps t z in
    subst Q (sym f) (subst P (sym e) x)

parts_by : {old new : List HoleKind} {os ps : List (ℕ × Term)} {t u v w : List Term} → t ≡ v → u ≡ w → OpensParts old new os ps v w
    → OpensParts old new os ps t u
parts_by {old = old} {new = new} {os = os} {ps = ps} {t = t} {w = w} e f x =
    let P : List Term → Type 0 = λ z. OpensParts old new os ps z w in
    let Q : List Term → Type 0 = λ z. OpensParts old new os ps t z in
    subst Q (sym f) (subst P (sym e) x)

-- ---- types over parts

pub opens_tuple : {old new : List HoleKind} {os ps : List (ℕ × Term)} (ts us : List Ty)
    → OpensParts old new os ps (parts_of_types ts) (parts_of_types us) → Opens old new os ps (term (ty.Tuple ts)) (term (ty.Tuple us))
opens_tuple {old = old} {new = new} {os = os} {ps = ps} ts us x =
    opens_by (term_tuple ts) (term_tuple us) (opens_node old new os ps head.Tuple (parts_of_types ts) (parts_of_types us) (λ c. refl) x)

pub opens_array : {old mid new : List HoleKind} {os ms ps : List (ℕ × Term)} (t u : Ty) (c d : Const)
    → Opens old mid os ms (term t) (term u) → Opens mid new ms ps (const_term c) (const_term d)
    → Opens old new os ps (term (ty.Array t c)) (term (ty.Array u d))
opens_array {old = old} {mid = mid} {new = new} {os = os} {ms = ms} {ps = ps} t u c d x y = opens_by (term_array t c) (term_array u d)
    (opens_node old new os ps head.Array (type_part (term t) ∷ const_part c ∷ []) (type_part (term u) ∷ const_part d ∷ []) (λ z. refl)
    (parts_append old mid new os ms ps (type_part (term t) ∷ []) (type_part (term u) ∷ []) (const_part c ∷ []) (const_part d ∷ [])
    (part_type old mid os ms (term t) (term u) x) (part_const mid new ms ps c d y)))

pub opens_adt : {old new : List HoleKind} {os ps : List (ℕ × Term)} (id : AdtId) (xs ys : List GenericArg)
    → OpensParts old new os ps (map arg_term xs) (map arg_term ys) → Opens old new os ps (term (ty.Adt id xs)) (term (ty.Adt id ys))
opens_adt {old = old} {new = new} {os = os} {ps = ps} id xs ys x =
    opens_by (term_adt id xs) (term_adt id ys) (opens_node old new os ps (head.Adt id) (map arg_term xs) (map arg_term ys) (λ c. refl) x)

pub opens_fn_def : {old new : List HoleKind} {os ps : List (ℕ × Term)} (id : CallableDefId) (xs ys : List GenericArg)
    → OpensParts old new os ps (map arg_term xs) (map arg_term ys) → Opens old new os ps (term (ty.FnDef id xs)) (term (ty.FnDef id ys))
opens_fn_def {old = old} {new = new} {os = os} {ps = ps} id xs ys x =
    opens_by (term_fn_def id xs) (term_fn_def id ys)
    (opens_node old new os ps (head.FnDef id) (map arg_term xs) (map arg_term ys) (λ c. refl) x)

pub opens_associated_type : {old new : List HoleKind} {os ps : List (ℕ × Term)} (id : TypeAliasId) (xs ys : List GenericArg)
    → OpensParts old new os ps (map arg_term xs) (map arg_term ys)
    → Opens old new os ps (term (ty.AssociatedType id xs)) (term (ty.AssociatedType id ys))
opens_associated_type {old = old} {new = new} {os = os} {ps = ps} id xs ys x =
    opens_by (term_associated_type id xs) (term_associated_type id ys)
    (opens_node old new os ps (head.AssociatedType id) (map arg_term xs) (map arg_term ys) (λ c. refl) x)

signature : {old mid new : List HoleKind} {os ms ps : List (ℕ × Term)} (ts us : List Ty) (t u : Ty)
    → OpensParts old mid os ms (parts_of_types ts) (parts_of_types us) → Opens mid new ms ps (term t) (term u)
    → OpensParts old new os ps (parts_of_types ts ++ type_part (term t) ∷ []) (parts_of_types us ++ type_part (term u) ∷ [])
signature {old = old} {mid = mid} {new = new} {os = os} {ms = ms} {ps = ps} ts us t u x y =
    parts_append old mid new os ms ps (parts_of_types ts) (parts_of_types us) (type_part (term t) ∷ []) (type_part (term u) ∷ []) x
    (part_type mid new ms ps (term t) (term u) y)

pub opens_fn_ptr : {old mid new : List HoleKind} {os ms ps : List (ℕ × Term)} (s : Safety) (ts us : List Ty) (t u : Ty)
    → OpensParts old mid os ms (parts_of_types ts) (parts_of_types us) → Opens mid new ms ps (term t) (term u)
    → Opens old new os ps (term (ty.FnPtr s ts t)) (term (ty.FnPtr s us u))
opens_fn_ptr {old = old} {new = new} {os = os} {ps = ps} s ts us t u x y = opens_by (term_fn_ptr s ts t) (term_fn_ptr s us u)
    (opens_node old new os ps (head.FnPtr s) (parts_of_types ts ++ type_part (term t) ∷ []) (parts_of_types us ++ type_part (term u) ∷ [])
    (λ c. refl) (signature ts us t u x y))

pub opens_closure : {old mid new : List HoleKind} {os ms ps : List (ℕ × Term)} (id : ClosureId) (ts us : List Ty) (t u : Ty)
    → OpensParts old mid os ms (parts_of_types ts) (parts_of_types us) → Opens mid new ms ps (term t) (term u)
    → Opens old new os ps (term (ty.Closure id ts t)) (term (ty.Closure id us u))
opens_closure {old = old} {new = new} {os = os} {ps = ps} id ts us t u x y = opens_by (term_closure id ts t) (term_closure id us u)
    (opens_node old new os ps (head.Closure id) (parts_of_types ts ++ type_part (term t) ∷ [])
    (parts_of_types us ++ type_part (term u) ∷ []) (λ c. refl) (signature ts us t u x y))

parts_autos : (old : List HoleKind) (os : List (ℕ × Term)) (ids : List TraitId) → OpensParts old old os os (auto_parts ids) (auto_parts ids)
parts_autos old os [] = parts_none old os
parts_autos old os (id ∷ ids) =
    parts_append old old old os os os (leaf (head.AutoTrait id) ∷ []) (leaf (head.AutoTrait id) ∷ []) (auto_parts ids) (auto_parts ids)
    (part_mark old os (head.AutoTrait id) (λ c. refl)) (parts_autos old os ids)

abbrev pub principal_terms : Option TraitRef → List Term
principal_terms p = principal_parts (option_map trait_parts p)

abbrev pub bounds_terms : List AliasBound → List Term
bounds_terms = flat_map bound_parts

pub opens_dynamic : {old mid new : List HoleKind} {os ms ps : List (ℕ × Term)} (p q : Option TraitRef) (bs cs : List AliasBound)
    (ids : List TraitId) → OpensParts old mid os ms (principal_terms p) (principal_terms q)
    → OpensParts mid new ms ps (bounds_terms bs) (bounds_terms cs)
    → Opens old new os ps (term (ty.Dynamic p bs ids)) (term (ty.Dynamic q cs ids))
opens_dynamic {old = old} {mid = mid} {new = new} {os = os} {ms = ms} {ps = ps} p q bs cs ids x y =
    opens_by (term_dynamic p bs ids) (term_dynamic q cs ids)
    (opens_node old new os ps head.Dynamic (principal_terms p ++ bounds_terms bs ++ auto_parts ids)
    (principal_terms q ++ bounds_terms cs ++ auto_parts ids) (λ c. refl)
    (parts_append old new new os ps ps (principal_terms p ++ bounds_terms bs) (principal_terms q ++ bounds_terms cs) (auto_parts ids)
    (auto_parts ids)
    (parts_append old mid new os ms ps (principal_terms p) (principal_terms q) (bounds_terms bs) (bounds_terms cs) x y)
    (parts_autos new ps ids)))

-- ---- the parts themselves

pub opens_arg_const : {old new : List HoleKind} {os ps : List (ℕ × Term)} (c d : Const) → Opens old new os ps (const_term c) (const_term d)
    → OpensParts old new os ps (arg_term (arg.Const c) ∷ []) (arg_term (arg.Const d) ∷ [])
opens_arg_const {old = old} {new = new} {os = os} {ps = ps} c d x =
    parts_by (ap (λ (z : Term). z ∷ []) (arg_term_const c)) (ap (λ (z : Term). z ∷ []) (arg_term_const d)) (part_const old new os ps c d x)

opens_bound : {old new : List HoleKind} {os ps : List (ℕ × Term)} (b c : AliasBound) → c.alias ≡ b.alias
    → Opens old new os ps (term b.ty) (term c.ty) → OpensParts old new os ps (bound_parts b) (bound_parts c)
opens_bound {old = old} {new = new} {os = os} {ps = ps} b c e x =
    parts_by (bound_parts_is b) (bound_parts_is c ∙ ap (λ (z : TypeAliasId). leaf (head.Bound z) ∷ type_part (term c.ty) ∷ []) e)
    (parts_append old old new os os ps (leaf (head.Bound b.alias) ∷ []) (leaf (head.Bound b.alias) ∷ []) (type_part (term b.ty) ∷ [])
    (type_part (term c.ty) ∷ [])
    (part_mark old os (head.Bound b.alias) (λ z. refl)) (part_type old new os ps (term b.ty) (term c.ty) x))

-- ---- one part more

pub types_push : {old mid new : List HoleKind} {os ms ps : List (ℕ × Term)} (ts us : List Ty) (t u : Ty)
    → OpensParts old mid os ms (parts_of_types ts) (parts_of_types us) → Opens mid new ms ps (term t) (term u)
    → OpensParts old new os ps (parts_of_types (ts ++ t ∷ [])) (parts_of_types (us ++ u ∷ []))
types_push ts us t u x y = parts_by (map_push (λ (z : Ty). type_part (term z)) ts t) (map_push (λ (z : Ty). type_part (term z)) us u)
    (signature ts us t u x y)

pub args_push : {old mid new : List HoleKind} {os ms ps : List (ℕ × Term)} (xs ys : List GenericArg) (x y : GenericArg)
    → OpensParts old mid os ms (map arg_term xs) (map arg_term ys) → OpensParts mid new ms ps (arg_term x ∷ []) (arg_term y ∷ [])
    → OpensParts old new os ps (map arg_term (xs ++ x ∷ [])) (map arg_term (ys ++ y ∷ []))
args_push {old = old} {mid = mid} {new = new} {os = os} {ms = ms} {ps = ps} xs ys x y h g =
    parts_by (map_push arg_term xs x) (map_push arg_term ys y)
    (parts_append old mid new os ms ps (map arg_term xs) (map arg_term ys) (arg_term x ∷ []) (arg_term y ∷ []) h g)

bounds_push_is : (bs : List AliasBound) (b : AliasBound) → bounds_terms (bs ++ b ∷ []) ≡ bounds_terms bs ++ bound_parts b
bounds_push_is [] b = sym (append_none (bound_parts b))
bounds_push_is (c ∷ bs) b = ap (λ (z : List Term). bound_parts c ++ z) (bounds_push_is bs b) ∙ sym
    (append_assoc (bound_parts c) (bounds_terms bs) (bound_parts b))

pub bounds_push : {old mid new : List HoleKind} {os ms ps : List (ℕ × Term)} (bs cs : List AliasBound) (b c : AliasBound)
    → OpensParts old mid os ms (bounds_terms bs) (bounds_terms cs) → c.alias ≡ b.alias → Opens mid new ms ps (term b.ty) (term c.ty)
    → OpensParts old new os ps (bounds_terms (bs ++ b ∷ [])) (bounds_terms (cs ++ c ∷ []))
bounds_push {old = old} {mid = mid} {new = new} {os = os} {ms = ms} {ps = ps} bs cs b c x e y =
    parts_by (bounds_push_is bs b) (bounds_push_is cs c)
    (parts_append old mid new os ms ps (bounds_terms bs) (bounds_terms cs) (bound_parts b) (bound_parts c) x (opens_bound b c e y))
