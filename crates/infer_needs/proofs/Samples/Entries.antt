-- Entries over the facts of `Impls`: `<<u8 as Tr>::Out as Tr>::Out` is `char`, which is said of `<bool as Tr>::Out`, as its argument reads. An associated
-- type that is left to be read is refused in an entry, and so is a `_`.
use Rattle.std.proofs.Common.{ℕ, ◌≡◌, List, [], ◌∷◌, map, refl, sym, ap, subst, ◌∙◌, Some, slice_get}
use Rattle.hir_types.specs.declared.goal.Goal.TheVariants as goal
use Rattle.hir_types.specs.declared.head.Head.TheVariants as head
use Rattle.infer_needs.specs.Words.{DefWithBodyId, ExprOrPatId, GenericArg, Ty, Term, leaf, pair, chain, node, type_part, term, arg_term, term_bool, term_char, term_hole, arg_term_type, type_args, Asked, projects, only, IsRead, alias_at, staying, asked_goal, InferenceResult, HasGap, HoldsUnknown, HoldsNoHole, IsProved, GoalsHold, Given, IsFound}
use Rattle.hir_types.specs.declared.ty.Ty.TheVariants as ty
use Rattle.infer_result.specs.declared.gaps.Gap.TheVariants as gap
use Rattle.infer_needs.proofs.Samples.Impls.{out, u8_term, bool_term, char_term, found_as}
use Rattle.infer_needs.proofs.Samples.Sources.{IsBare, bare_read, neither, nothing, asks}
use Rattle.infer_needs.proofs.Samples.Left.{alias, alias_term}
use Rattle.infer_needs.proofs.Samples.WrongTables.{same_alias}

pub args_are : (t : Ty) (x : Term) → term t ≡ x → chain (map arg_term (type_args (t ∷ []))) ≡ only x
args_are t x is = λ i. pair ((arg_term_type t ∙ ap type_part is) i) (leaf head.End)

abbrev pub out_of : Ty → Ty
out_of t = ty.Projection out (type_args (t ∷ []))

module _ (d : DefWithBodyId) (g : Given) (r : InferenceResult) (h : GoalsHold d g r) where
  -- what holds of the arguments of an entry holds of those that it is written with
  at_args : (P : Term → Type 0) (n : ℕ) (s t : Ty) (x : Term) → term s ≡ x → slice_get r.projections n ≡ Some (out_of s, t)
      → ((k : IsFound r (out_of s, t)) → P (chain (map arg_term k.args))) → P (only x)
  at_args P n s t x x_is is holds =
      let k = h.found.each n (out_of s, t) is in
      let (same, args) = same_alias out k.alias (type_args (s ∷ [])) k.args k.is in
      subst P (args_are s x x_is) (subst (λ (xs : List GenericArg). P (chain (map arg_term xs))) (sym args) (holds k))

  -- ---- left to be read

  -- in an argument, whatever it is said to be
  pub unread_argument : (n : ℕ) (t : Ty) → slice_get r.projections n ≡ Some (out_of alias, t) → ⊥
  unread_argument n t is = (at_args IsRead n alias t (alias_at out (only u8_term)) alias_term is (λ k. k.read.0)).0.1.0

  -- in what it is said to be
  pub unread_type : (n : ℕ) (a : Ty) → slice_get r.projections n ≡ Some (a, alias) → ⊥
  unread_type n a is = (subst IsRead alias_term (h.found.each n (a, alias) is).read.1).0

  -- ---- a `_`

  pub placeholder_argument : (n : ℕ) (t : Ty) → slice_get r.projections n ≡ Some (out_of ty.Hole, t) → ⊥
  placeholder_argument n t is = (at_args HoldsNoHole n ty.Hole t (node head.Hole []) term_hole is (λ k. k.whole.0)).0.1.0

  pub placeholder_type : (n : ℕ) (a : Ty) → slice_get r.projections n ≡ Some (a, ty.Hole) → ⊥
  placeholder_type n a is = (subst HoldsNoHole term_hole (h.found.each n (a, ty.Hole) is).whole.1).0

  -- and in complaints
  pub placeholder_clash : (n m : ExprOrPatId) (a t : Ty) → HasGap r n (gap.Clash m a t ty.Hole) → ⊥
  placeholder_clash n m a t has = (subst HoldsNoHole term_hole (h.gaps n (gap.Clash m a t ty.Hole) has).1.whole.1).0

  pub placeholder_unproved : (n m : ExprOrPatId) → HasGap r n (gap.Unproved m (asks ty.Hole)) → ⊥
  placeholder_unproved n m has = (subst HoldsNoHole (args_are ty.Hole (node head.Hole []) term_hole) (h.gaps n (gap.Unproved m (asks ty.Hole)) has).1.whole).0.1.0

-- ---- taken: the entry at the argument as it reads, where it has a proof

pub asked_out : (s t : Ty) (y x : Term) → term s ≡ y → term t ≡ x → asked_goal (goal.Projection out (type_args (s ∷ [])) t) ≡ found_as y x
asked_out s t y x s_is t_is = λ i. record { kind = projects out; parts = pair (args_are s y s_is i) (t_is i) }

-- of `bool`, whatever the type
module _ (t : Ty) (x : Term) (t_is : term t ≡ x) (bare : IsBare x) (known : HoldsUnknown x → ⊥) (whole : HoldsNoHole x) (other : (y : Term) → x ≡ staying out y → ⊥) where
  pub is_found : (r : InferenceResult) → IsProved r (found_as bool_term x) → IsFound r (out_of ty.Bool, t)
  is_found r proved =
      let asked = asked_out ty.Bool t bool_term x term_bool t_is in
      let args : HoldsUnknown (only bool_term) → ⊥ = neither (neither nothing (neither nothing nothing)) nothing in
      record {
        alias = out;
        args = type_args (ty.Bool ∷ []);
        is = refl;
        proved = subst (IsProved r) (sym asked) proved;
        read = subst (λ (a : Asked). IsRead a.parts) (sym asked) (((tt, (tt, tt)), tt), bare_read x bare);
        known = λ h. neither args known (subst (λ (a : Asked). HoldsUnknown a.parts) asked h);
        other = λ h. other (chain (map arg_term (type_args (ty.Bool ∷ [])))) (sym t_is ∙ h);
        whole = subst (λ (a : Asked). HoldsNoHole a.parts) (sym asked) (((tt, (tt, tt)), tt), whole);
      }

no_char : (y : Term) → char_term ≡ staying out y → ⊥
no_char y h = cc

pub read_argument : (r : InferenceResult) → IsProved r (found_as bool_term char_term) → IsFound r (out_of ty.Bool, ty.Char)
read_argument = is_found ty.Char char_term term_char (tt, tt) (neither nothing nothing) (tt, tt) no_char
