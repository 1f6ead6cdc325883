-- Lists of proofs over `Impls`: what is refused beside what is taken. A proof names the impl that is for its type, at the arguments at
-- which it is, and rests on proofs of what this asks for.
use Rattle.std.proofs.Common.{ℕ, zero, suc, ◌<◌, ◌≤◌, ◌≡◌, List, [], ◌∷◌, length, refl, sym, ap, subst, ◌∙◌, arith, Some, slice_get}
use Rattle.hir_types.specs.declared.head.Hole.TheVariants as hole_of
use Rattle.infer_needs.specs.Words.{ImplId, Ty, Term, apply, term, term_bool, term_uint, RawImpl, type_args, Fill, Aliases, System, asked_at, only, Proof, asked_goal, filled_goal, args_fill, IsSame, IsSource, AreProofsOf, Holds, AreProofs, IsSystemOf}
use Rattle.hir_types.specs.declared.ty.Ty.TheVariants as ty
use Rattle.hir_types.specs.declared.ty.UintTy.TheVariants as uint
use Rattle.infer_needs.specs.Words.goal_facts.declared.proof.ProofSource.TheVariants as source
use Rattle.infer_needs.proofs.Words.{u8}
use Rattle.infer_needs.proofs.Samples.Impls.{facts, own, u8_term, bool_term, w_term, param, implemented, for_u8, for_w, u8_rules, w_rules}
use Rattle.infer_needs.proofs.Samples.Sources.{same_bare, bare_same, asks, w_of, asks_u8, asks_bool, asks_w, trait_source, is_trait_source, unshadowed, not_sized}

abbrev pub i : ℕ → ImplId
i n = record { 0 = n }

-- that the type implements the trait, by this impl at these arguments, where what it asks for has the proofs of these numbers
abbrev pub by_impl : Ty → ℕ → List Ty → List ℕ → Proof
by_impl t n ts children = record { goal = asks t; source = source.Impl (i n) (type_args ts); children = children }

-- what stands for the one parameter
argument : (s : Fill) (t : Ty) (x : Term) → term t ≡ x → apply s x ≡ x → args_fill s (type_args (t ∷ [])) (hole_of.Ty 0) ≡ x
argument s t x is stays = ap (apply s) is ∙ stays

types_differ : only bool_term ≡ only u8_term → ⊥
types_differ h = cc

same_entry : (ps : List Proof) (k : ℕ) (x y : Proof) → slice_get ps k ≡ Some x → slice_get ps k ≡ Some y → x ≡ y
same_entry ps k x y h g = cc

same_item : (x y : RawImpl) → Some x ≡ Some y → x ≡ y
same_item x y h = cc

arguments_differ : only (w_term bool_term) ≡ only (w_term u8_term) → ⊥
arguments_differ h = cc

-- ---- refused, whatever goals are answered by, aliases read as, and stands for holes

module _ (s : System) (A : Aliases) (p : Fill) (ps : List Proof) (n : ℕ) where
  -- by the impl for another type
  pub other_type : (xs : List Ty) (children : List ℕ) → slice_get ps n ≡ Some (by_impl ty.Bool 0 xs children) → AreProofs facts s A p ps → ⊥
  other_type xs children is h =
      (let x = by_impl ty.Bool 0 xs children in
      let holds = h n x is in
      let goal : filled_goal p x.goal ≡ implemented bool_term = ap (asked_at p) asks_bool in
      let of = trait_source (i 0) for_u8 u8_term bool_term [] refl u8_rules A p (type_args xs) (filled_goal p x.goal) holds.asks refl holds.source.1 in
      let same : IsSame A (implemented u8_term) (implemented bool_term) = subst (IsSame A (implemented u8_term)) goal of.0 in
      let clash : only u8_term ≡ only bool_term = same_bare A (implemented u8_term) (implemented bool_term) ((tt, (tt, tt)), tt) ((tt, (tt, tt)), tt) same in
      cc)

  -- by the impl for its type, which has no parameter, at an argument
  pub one_argument : (t : Ty) (children : List ℕ) → slice_get ps n ≡ Some (by_impl u8 0 (t ∷ []) children) → AreProofs facts s A p ps → ⊥
  one_argument t children is h =
      (let impl = (h n (by_impl u8 0 (t ∷ []) children) is).source.1 in
      let item : for_u8 ≡ impl.item = same_item for_u8 impl.item impl.listed in
      let clash : 1 ≡ 0 = impl.as_many ∙ ap (λ (x : RawImpl). length x.params) (sym item) in
      cc)

  module _ (xs : List Ty) (children : List ℕ) (is : slice_get ps n ≡ Some (by_impl (w_of u8) 2 xs children)) (h : AreProofs facts s A p ps) where
    abbrev x : Proof
    x = by_impl (w_of u8) 2 xs children

    goal_is : filled_goal p x.goal ≡ implemented (w_term u8_term)
    goal_is = ap (asked_at p) asks_w

    asked : IsSame A (implemented (w_term (args_fill p (type_args xs) (hole_of.Ty 0)))) (filled_goal p x.goal) × ((h n x is).asks ≡ implemented (args_fill p (type_args xs) (hole_of.Ty 0)) ∷ [])
    asked = trait_source (i 2) for_w (w_term param) bool_term (implemented param ∷ []) refl w_rules A p (type_args xs) (filled_goal p x.goal) (h n x is).asks refl (h n x is).source.1

    -- its children are one, of what the impl asks for
    children_are : AreProofsOf A p ps n (implemented (args_fill p (type_args xs) (hole_of.Ty 0)) ∷ []) children
    children_are = subst (λ qs. AreProofsOf A p ps n qs children) asked.1 (h n x is).children

    -- one that needs a child, without one
    pub no_child : children ≡ [] → ⊥
    no_child none =
        (let q = implemented (args_fill p (type_args xs) (hole_of.Ty 0)) in
        let clash : AreProofsOf A p ps n (q ∷ []) [] = subst (λ js. AreProofsOf A p ps n (q ∷ []) js) none children_are in
        clash)

    -- with two
    pub two_children : (j k : ℕ) (js : List ℕ) → children ≡ j ∷ k ∷ js → ⊥
    two_children j k js two =
        (let q = implemented (args_fill p (type_args xs) (hole_of.Ty 0)) in
        let clash : AreProofsOf A p ps n (q ∷ []) (j ∷ k ∷ js) = subst (λ is. AreProofsOf A p ps n (q ∷ []) is) two children_are in
        clash.1)

    -- with itself, or one after it
    pub later_child : (k : ℕ) → children ≡ k ∷ [] → n ≤ k → ⊥
    later_child k one later =
        (let q = implemented (args_fill p (type_args xs) (hole_of.Ty 0)) in
        let child : AreProofsOf A p ps n (q ∷ []) (k ∷ []) = subst (λ js. AreProofsOf A p ps n (q ∷ []) js) one children_are in
        let before : k < n = child.0.before in
        omega (arith, before, later))

    -- with a proof of another goal
    pub other_child : (k : ℕ) (y : Proof) → xs ≡ u8 ∷ [] → children ≡ k ∷ [] → slice_get ps k ≡ Some y → asked_goal y.goal ≡ implemented bool_term → ⊥
    other_child k y at_u8 one found goal =
        (let q = implemented (args_fill p (type_args xs) (hole_of.Ty 0)) in
        let child : AreProofsOf A p ps n (q ∷ []) (k ∷ []) = subst (λ js. AreProofsOf A p ps n (q ∷ []) js) one children_are in
        let fill : args_fill p (type_args xs) (hole_of.Ty 0) ≡ u8_term = ap (λ ts. args_fill p (type_args ts) (hole_of.Ty 0)) at_u8 ∙ argument p u8 u8_term (term_uint uint.U8) refl in
        let mine : filled_goal p child.0.proof.goal ≡ implemented bool_term = ap (λ (z : Proof). filled_goal p z.goal) (same_entry ps k child.0.proof y child.0.at found) ∙ ap (asked_at p) goal in
        let same : IsSame A (implemented bool_term) (implemented u8_term) = subst (λ g. IsSame A g (implemented u8_term)) mine (subst (λ z. IsSame A (filled_goal p child.0.proof.goal) (implemented z)) fill child.0.same) in
        types_differ (same_bare A (implemented bool_term) (implemented u8_term) ((tt, (tt, tt)), tt) ((tt, (tt, tt)), tt) same))

    -- at another argument
    pub other_argument : xs ≡ ty.Bool ∷ [] → ⊥
    other_argument other =
        (let fill : args_fill p (type_args xs) (hole_of.Ty 0) ≡ bool_term = ap (λ ts. args_fill p (type_args ts) (hole_of.Ty 0)) other ∙ argument p ty.Bool bool_term term_bool refl in
        let mine = implemented (w_term bool_term) in
        let theirs = implemented (w_term u8_term) in
        let same : IsSame A mine theirs = subst (IsSame A mine) goal_is (subst (λ z. IsSame A (implemented (w_term z)) (filled_goal p x.goal)) fill asked.0) in
        arguments_differ (same_bare A mine theirs ((tt, (tt, ((tt, (tt, tt)), tt))), tt) ((tt, (tt, ((tt, (tt, tt)), tt))), tt) same))

-- ---- taken, in what goals of the item are answered by

module _ (s : System) (of : IsSystemOf facts own s) (A : Aliases) (p : Fill) (ps : List Proof) where
  -- by the impl for its type
  pub u8_holds : (n : ℕ) → Holds facts s A p ps n (by_impl u8 0 [] [])
  u8_holds n =
      let g = implemented u8_term in
      let is : g ≡ filled_goal p (asks u8) = sym (ap (asked_at p) asks_u8) in
      let impl = is_trait_source (i 0) for_u8 u8_term bool_term [] refl u8_rules A p [] u8_term [] refl refl refl (tt, tt) in
      record {
        asks = [];
        source = subst (λ a. IsSource facts s A p a (source.Impl (i 0) []) []) is (unshadowed s of A g ((tt, (tt, tt)), tt), impl);
        sized = not_sized s of A (filled_goal p (asks u8)) refl;
        children = tt;
      }

  -- at its argument, with the child that it needs
  pub w_holds : (n k : ℕ) → k < n → slice_get ps k ≡ Some (by_impl u8 0 [] []) → Holds facts s A p ps n (by_impl (w_of u8) 2 (u8 ∷ []) (k ∷ []))
  w_holds n k before at_k =
      let g = implemented (w_term u8_term) in
      let is : g ≡ filled_goal p (asks (w_of u8)) = sym (ap (asked_at p) asks_w) in
      let fill : args_fill p (type_args (u8 ∷ [])) (hole_of.Ty 0) ≡ u8_term = argument p u8 u8_term (term_uint uint.U8) refl in
      let impl = is_trait_source (i 2) for_w (w_term param) bool_term (implemented param ∷ []) refl w_rules A p (type_args (u8 ∷ [])) (w_term u8_term) (implemented u8_term ∷ [])
      (ap (λ z. implemented (w_term z)) fill) (ap (λ z. implemented z ∷ []) fill) refl (tt, ((tt, (tt, tt)), tt)) in
      let child : IsSame A (filled_goal p (asks u8)) (implemented u8_term) =
      subst (λ a. IsSame A a (implemented u8_term)) (sym (ap (asked_at p) asks_u8)) (bare_same A (implemented u8_term) ((tt, (tt, tt)), tt)) in
      record {
        asks = implemented u8_term ∷ [];
        source = subst (λ a. IsSource facts s A p a (source.Impl (i 2) (type_args (u8 ∷ []))) (implemented u8_term ∷ [])) is (unshadowed s of A g ((tt, (tt, ((tt, (tt, tt)), tt))), tt), impl);
        sized = not_sized s of A (filled_goal p (asks (w_of u8))) refl;
        children = (record { proof = by_impl u8 0 [] []; before = before; «at» = at_k; same = child }, tt);
      }

module _ (s : System) (of : IsSystemOf facts own s) (A : Aliases) (p : Fill) where
  abbrev both : List Proof
  both = by_impl u8 0 [] [] ∷ by_impl (w_of u8) 2 (u8 ∷ []) (0 ∷ []) ∷ []

  pub both_proved : AreProofs facts s A p both
  both_proved zero x is = (let one : by_impl u8 0 [] [] ≡ x = cc in subst (Holds facts s A p both 0) one (u8_holds s of A p both 0))
  both_proved (suc zero) x is =
      (let one : by_impl (w_of u8) 2 (u8 ∷ []) (0 ∷ []) ≡ x = cc in subst (Holds facts s A p both 1) one (w_holds s of A p both 1 0 (omega arith) refl))
  both_proved (suc (suc n)) x is = absurd (cc)
