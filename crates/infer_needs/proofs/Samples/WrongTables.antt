-- Tables over the facts of `Impls` in which goals don't hold: complaints, proofs and entries that are wrong. What nodes of `need(1u8)` need holds.
use Rattle.std.proofs.Common.{ℕ, suc, ◌≡◌, inl, inr, Bool, true, false, List, [], ◌∷◌, ◌++◌, map, refl, sym, ap, subst, ◌∙◌, true≢false, Some, slice_get}
use Rattle.std.specs.Prelude.{flat_map}
use Rattle.infer_needs.specs.Words.{Goal, ExprOrPatId, TypeAliasId, GenericArg, Ty, Ty-F, out-Ty, out-roll-Ty, hole, term_char, term_uint, term_var, RawLiteral, type_args, Aliases, Rule, System, implements, only, is_among, OneIf, Each, SomeOf, Verdicts, Proves, ShadowsNot, HasSource, alias_next, answers, Proof, asked_goal, impl_rules, fact, IsSystemOf, Gap, InferenceResult, HasGap, HoldsNoHole, IsProved, GoalsHold, NeedsHold}
use Rattle.hir_types.specs.declared.goal.Goal.TheVariants as goal
use Rattle.hir_types.specs.declared.ids.ExprOrPatId.TheVariants as node
use Rattle.hir_types.specs.declared.ty.Ty.TheVariants as ty
use Rattle.hir_types.specs.declared.ty.UintTy.TheVariants as uint
use Rattle.infer_needs.proofs.Words.{read_reads, hole_filling, e, u8, one_u8}
use Rattle.infer_result.specs.declared.gaps.Gap.TheVariants as gap
use Rattle.infer_needs.proofs.Samples.Impls.{tr, out, facts, own, own_body, for_bool, for_w, u8_term, char_term, implemented, found_as, u8_rules, no_clauses}
use Rattle.infer_needs.proofs.Samples.Sources.{asks_out_is, w_of}
use Rattle.infer_needs.proofs.Samples.ImplProofs.{by_impl, other_type, one_argument, no_child}
use Rattle.infer_needs.proofs.Samples.AliasProofs.{not_char}
use Rattle.infer_needs.proofs.Samples.Needed.{given, table_of, no_needs, needed}

-- ---- that `u8` implements the trait is answered Yes

not_among : (X Y : Type 0) (b : Bool) → b ≡ false → Y → OneIf b X Y
not_among X Y true is y = absurd (true≢false is)
not_among X Y false is y = y

module _ (s : System) (of : IsSystemOf facts own s) (n : ℕ) where
  abbrev v : Verdicts
  v = answers s n

  abbrev A : Aliases
  A = alias_next s v

  abbrev rule : Rule
  rule = record { head = implemented u8_term; preds = [] }

  proves : Proves A v.Yes (implements tr) (only u8_term) rule
  proves = record {
    kind = refl;
    told = record { head = λ k o. absurd (true≢false (sym o)); preds = tt };
    «at» = hole;
    head = read_reads A (only u8_term) ((tt, (tt, tt)), tt);
    preds = tt;
  }

  some_rule : SomeOf (Proves A v.Yes (implements tr) (only u8_term)) s.rules
  some_rule =
      let P : List Rule → Type 0 = SomeOf (Proves A v.Yes (implements tr) (only u8_term)) in
      let more = flat_map (impl_rules facts) (for_bool ∷ for_w ∷ []) in
      subst P (sym of.rules.are) (subst (λ rs. P ((rs ++ more) ++ map fact of.rules.listed)) (sym u8_rules) (inl proves))

  pub u8_yes : (answers s (suc n)).Yes (implemented u8_term)
  u8_yes =
      let none : Each (ShadowsNot A v (implements tr) (only u8_term)) s.clauses = subst (Each (ShadowsNot A v (implements tr) (only u8_term))) (sym (no_clauses s of)) tt in
      let unsized : is_among s.sized (implements tr) ≡ false = ap (λ ts. is_among ts (implements tr)) of.sized in
      let source : HasSource s A v (implements tr) (only u8_term) = inr (none, inl some_rule) in
      (only u8_term, read_reads A (only u8_term) ((tt, (tt, tt)), tt), (tt, inr (not_among _ _ (is_among s.sized (implements tr)) unsized source)))

-- so what nodes of `need(1u8)` need holds, whatever is listed
pub needs_hold : (ps : List Proof) (js : List (Ty × Ty)) (gs : List (List Gap)) → NeedsHold own_body (given one_u8) (table_of u8 ps js gs)
needs_hold ps js gs s of n a h = subst (answers s 8).Yes (sym (needed one_u8 u8 u8_term (term_uint uint.U8) ps js gs n a h).1) (u8_yes s of 7)

-- ---- refused

-- a complaint that `u8` doesn't implement the trait, at whatever node
pub invented : (l : RawLiteral) (r : InferenceResult) (n m : ExprOrPatId) (q : Goal) → asked_goal q ≡ implemented u8_term → HasGap r n (gap.Unproved m q) → GoalsHold own_body (given l) r → ⊥
invented l r n m q is has h = (h.gaps n (gap.Unproved m q) has).1.fails (subst (answers h.system 8).Yes (sym is) (u8_yes h.system h.of_item 7))

-- a complaint at the argument, at the call or at the block, which need nothing, of whatever goal
pub nothing_needed : (ps : List Proof) (js : List (Ty × Ty)) (gs : List (List Gap)) (k : ℕ) (m : ExprOrPatId) (q : Goal)
    → HasGap (table_of u8 ps js gs) (node.ExprId (e (suc k))) (gap.Unproved m q) → GoalsHold own_body (given one_u8) (table_of u8 ps js gs) → ⊥
nothing_needed ps js gs k m q has h =
    let needed = (h.gaps (node.ExprId (e (suc k))) (gap.Unproved m q) has).1.needed in
    no_needs one_u8 u8 u8_term (term_uint uint.U8) ps js gs k needed.at (asked_goal q) needed.among

top_alias : (k : TypeAliasId) (xs : List GenericArg) → out-Ty (ty.Projection k xs) ≡ Ty-F.Projection k xs
top_alias k xs = ap out-Ty (sym (ty.rolls-Projection k xs)) ∙ out-roll-Ty (Ty-F.Projection k xs)

pub same_alias : (k m : TypeAliasId) (xs ys : List GenericArg) → ty.Projection k xs ≡ ty.Projection m ys → (k ≡ m) × (xs ≡ ys)
same_alias k m xs ys is = (let same : Ty-F.Projection k xs ≡ Ty-F.Projection m ys = sym (top_alias k xs) ∙ (ap out-Ty is ∙ top_alias m ys) in (cc, cc))

-- `<u8 as Tr>::Out` is not `char`: no table has a proof of it
char_unproved : (l : RawLiteral) (r : InferenceResult) (h : GoalsHold own_body (given l) r) (k : TypeAliasId) (xs : List GenericArg) → ty.Projection out (type_args (u8 ∷ [])) ≡ ty.Projection k xs → IsProved r (asked_goal (goal.Projection k xs ty.Char)) → ⊥
char_unproved l r h k xs is proved =
    let (alias, args) = same_alias out k (type_args (u8 ∷ [])) xs is in
    let asked : asked_goal proved.proof.goal ≡ found_as u8_term char_term = proved.goal ∙ ((λ j. asked_goal (goal.Projection (sym alias j) (sym args j) ty.Char)) ∙ asks_out_is ty.Char char_term term_char) in
    not_char h.system h.of_item (answers h.system 8).Alias hole r.proofs proved.number proved.proof proved.listed asked (h.proofs hole hole_filling)

-- an entry that it is, whatever else is in the table
pub wrong_entry : (l : RawLiteral) (r : InferenceResult) (n : ℕ) → slice_get r.projections n ≡ Some (ty.Projection out (type_args (u8 ∷ [])), ty.Char) → GoalsHold own_body (given l) r → ⊥
wrong_entry l r n is h = let x = h.found.each n (ty.Projection out (type_args (u8 ∷ [])), ty.Char) is in char_unproved l r h x.alias x.args x.is x.proved

-- a complaint that it is this as well
pub wrong_clash : (l : RawLiteral) (r : InferenceResult) (n m : ExprOrPatId) (t : Ty) → HasGap r n (gap.Clash m (ty.Projection out (type_args (u8 ∷ []))) t ty.Char) → GoalsHold own_body (given l) r → ⊥
wrong_clash l r n m t has h = let x = (h.gaps n (gap.Clash m (ty.Projection out (type_args (u8 ∷ []))) t ty.Char) has).1 in char_unproved l r h x.alias x.args x.is x.proved

-- a complaint that an associated type is two types, which are one
pub no_clash : (l : RawLiteral) (r : InferenceResult) (n m : ExprOrPatId) (a t : Ty) → HasGap r n (gap.Clash m a t t) → GoalsHold own_body (given l) r → ⊥
no_clash l r n m a t has h = (h.gaps n (gap.Clash m a t t) has).1.differ refl

-- an entry in whose type a hole stands, and a complaint of one
pub open_entry : (l : RawLiteral) (r : InferenceResult) (n m : ℕ) (a : Ty) → slice_get r.projections n ≡ Some (a, ty.Var m) → GoalsHold own_body (given l) r → ⊥
open_entry l r n m a is h = subst HoldsNoHole (term_var m) (h.found.each n (a, ty.Var m) is).whole.1

pub open_clash : (l : RawLiteral) (r : InferenceResult) (n k : ExprOrPatId) (m : ℕ) (a t : Ty) → HasGap r n (gap.Clash k a t (ty.Var m)) → GoalsHold own_body (given l) r → ⊥
open_clash l r n k m a t has h = subst HoldsNoHole (term_var m) (h.gaps n (gap.Clash k a t (ty.Var m)) has).1.whole.1

-- a proof of `bool: Tr` by the impl for `u8`, one of `u8: Tr` by it at an argument, and one of `W<u8>: Tr` without its child
pub wrong_proof : (l : RawLiteral) (r : InferenceResult) (n : ℕ) (xs : List Ty) (children : List ℕ) → slice_get r.proofs n ≡ Some (by_impl ty.Bool 0 xs children) → GoalsHold own_body (given l) r → ⊥
wrong_proof l r n xs children is h = other_type h.system (answers h.system 8).Alias hole r.proofs n xs children is (h.proofs hole hole_filling)

pub one_more_proof : (l : RawLiteral) (r : InferenceResult) (n : ℕ) (t : Ty) (children : List ℕ) → slice_get r.proofs n ≡ Some (by_impl u8 0 (t ∷ []) children) → GoalsHold own_body (given l) r → ⊥
one_more_proof l r n t children is h = one_argument h.system (answers h.system 8).Alias hole r.proofs n t children is (h.proofs hole hole_filling)

pub childless_proof : (l : RawLiteral) (r : InferenceResult) (n : ℕ) (xs : List Ty) → slice_get r.proofs n ≡ Some (by_impl (w_of u8) 2 xs []) → GoalsHold own_body (given l) r → ⊥
childless_proof l r n xs is h = no_child h.system (answers h.system 8).Alias hole r.proofs n xs [] is (h.proofs hole hole_filling) refl
