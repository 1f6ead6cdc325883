-- Proofs of what an associated type is, over `Impls`: one by the impl that says so is taken, and `<u8 as Tr>::Out` has none to be `char`,
-- though `<bool as Tr>::Out` is that, or `{unknown}`.
use Rattle.std.proofs.Common.{ℕ, zero, suc, ◌≡◌, inl, inr, List, [], ◌∷◌, refl, sym, ap, subst, ◌∙◌, true≢false, Some, slice_get}
use Rattle.hir_types.specs.declared.head.Hole.TheVariants as hole_of
use Rattle.infer_needs.specs.Words.{ImplId, GenericArg, hole, pair, term_bool, Fill, Aliases, Reads, staying, Asked, System, asked_at, only, Proof, ProofSource, IsListed, asked_goal, filled_goal, args_fill, IsSame, IsImplAt, SaysItself, IsBuiltIn, IsSource, Holds, AreProofs, IsSystemOf, Term, node, apply}
use Rattle.hir_types.specs.declared.ty.Ty.TheVariants as ty
use Rattle.infer_needs.specs.Words.goal_facts.declared.proof.ProofSource.TheVariants as source
use Rattle.infer_needs.proofs.Words.{u8}
use Rattle.infer_needs.proofs.Samples.Impls.{out, facts, own, u8_term, bool_term, char_term, w_term, param, implemented, found_as, for_u8, for_bool, for_w, u8_rules, bool_rules, w_rules, nothing_follows, nothing_listed, no_clauses}
use Rattle.infer_needs.proofs.Samples.Sources.{reads_bare, same_bare, asks_out, asks_out_is, alias_source, is_alias_source, unshadowed, not_sized, IsBare}
use Rattle.infer_needs.proofs.Samples.ImplProofs.{i}
use Rattle.hir_types.specs.declared.head.Head.TheVariants as head

abbrev pub unknown : Term
unknown = node head.Error []

-- ---- taken

-- that it is `bool`, by the impl for `u8`
abbrev pub out_is_bool : Proof
out_is_bool = record { goal = asks_out u8 ty.Bool; source = source.Impl (i 0) []; children = [] }

pub out_asks : asked_goal (asks_out u8 ty.Bool) ≡ found_as u8_term bool_term
out_asks = asks_out_is ty.Bool bool_term term_bool

module _ (s : System) (of : IsSystemOf facts own s) (A : Aliases) (p : Fill) where
  pub out_holds : (ps : List Proof) (n : ℕ) → Holds facts s A p ps n out_is_bool
  out_holds ps n =
      let g = found_as u8_term bool_term in
      let is : g ≡ filled_goal p (asks_out u8 ty.Bool) = sym (ap (asked_at p) out_asks) in
      let impl = is_alias_source (i 0) for_u8 u8_term bool_term [] refl u8_rules A p [] u8_term bool_term [] refl refl refl (tt, tt) (tt, tt) in
      record {
        asks = [];
        source = subst (λ a. IsSource facts s A p a (source.Impl (i 0) []) []) is (unshadowed s of A g (((tt, (tt, tt)), tt), (tt, tt)), impl);
        sized = not_sized s of A (filled_goal p (asks_out u8 ty.Bool)) refl;
        children = tt;
      }

-- ---- refused, whatever aliases read as and stands for holes

-- that it is another type, and not the associated type itself
module _ (t : Term) (bare : IsBare t) (other : bool_term ≡ t → ⊥) (apart : (y : Term) → t ≡ staying out y → ⊥) (still : (q : Fill) → apply q t ≡ t) (s : System) (of : IsSystemOf facts own s) (A : Aliases) (p : Fill) where
  abbrev wrong : Asked
  wrong = found_as u8_term t

  abbrev whole : IsBare (pair (only u8_term) t)
  whole = (((tt, (tt, tt)), tt), bare)

  second : (a b x y : Term) → pair a x ≡ pair b y → x ≡ y
  second a b x y h = cc

  -- not by the impl for `u8`, which says another type
  not_u8 : (xs : List GenericArg) (qs : List Asked) (id : ImplId) → id.0 ≡ 0 → IsImplAt facts A p wrong id xs qs → ⊥
  not_u8 xs qs id is h =
      let of = alias_source id for_u8 u8_term bool_term [] (ap (slice_get facts.impls) is) u8_rules A p xs wrong qs refl h in
      let clash : pair (only u8_term) bool_term ≡ pair (only u8_term) t = same_bare A (found_as u8_term bool_term) wrong (((tt, (tt, tt)), tt), (tt, tt)) whole of.0 in
      other (second (only u8_term) (only u8_term) bool_term t clash)

  -- not by the impl for `bool`, which says it of another type
  not_bool : (xs : List GenericArg) (qs : List Asked) (id : ImplId) → id.0 ≡ 1 → IsImplAt facts A p wrong id xs qs → ⊥
  not_bool xs qs id is h =
      (let of = alias_source id for_bool bool_term char_term [] (ap (slice_get facts.impls) is) bool_rules A p xs wrong qs refl h in
      let clash : pair (only bool_term) char_term ≡ pair (only u8_term) t = same_bare A (found_as bool_term char_term) wrong (((tt, (tt, tt)), tt), (tt, tt)) whole of.0 in
      cc)

  -- not by the impl for `W<T>`, which says another type
  not_w : (xs : List GenericArg) (qs : List Asked) (id : ImplId) → id.0 ≡ 2 → IsImplAt facts A p wrong id xs qs → ⊥
  not_w xs qs id is h =
      let of = alias_source id for_w (w_term param) bool_term (implemented param ∷ []) (ap (slice_get facts.impls) is) w_rules A p xs wrong qs refl h in
      let same : IsSame A (found_as (w_term (args_fill p xs (hole_of.Ty 0))) bool_term) wrong = of.0 in
      let theirs : same.1 ≡ pair (only u8_term) t = reads_bare A hole (pair (only u8_term) t) same.1 whole same.3 in
      let read : Reads A hole (pair (only (w_term (args_fill p xs (hole_of.Ty 0)))) bool_term) same.1 = same.2 in
      let last : read.1 ≡ bool_term = reads_bare A hole bool_term read.1 (tt, tt) read.4 in
      let both : pair read.0 read.1 ≡ pair (only u8_term) t = sym read.2 ∙ theirs in
      other (sym last ∙ second read.0 (only u8_term) read.1 t both)

  by_id : (xs : List GenericArg) (qs : List Asked) (id : ImplId) (k : ℕ) → id.0 ≡ k → IsImplAt facts A p wrong id xs qs → ⊥
  by_id xs qs id zero is h = not_u8 xs qs id is h
  by_id xs qs id (suc zero) is h = not_bool xs qs id is h
  by_id xs qs id (suc (suc zero)) is h = not_w xs qs id is h
  by_id xs qs id (suc (suc (suc k))) is h = (let none = ap (slice_get facts.impls) (sym is) ∙ h.listed in cc)

  not_itself : SaysItself A wrong → ⊥
  not_itself (w, r, (x, is)) =
      let read : w ≡ pair (only u8_term) t = reads_bare A hole (pair (only u8_term) t) w whole r in
      let clash : pair (only u8_term) t ≡ pair x (staying out x) = sym read ∙ is in
      apart x (second (only u8_term) x t (staying out x) clash)

  not_built_in : (qs : List Asked) → IsBuiltIn facts s A wrong qs → ⊥
  not_built_in qs (inl (none, among, _)) = true≢false (sym among)
  not_built_in qs (inr (inl (none, bound))) = nothing_follows (IsListed facts) nothing_listed 8 bound.0 bound.2
  not_built_in qs (inr (inr (w, ts, r, copies, is))) = true≢false (sym copies.among)

  no_source : (y : ProofSource) (qs : List Asked) → IsSource facts s A p wrong y qs → ⊥
  no_source (source.Clause c) qs h = (let listed : slice_get [] h.at ≡ Some h.clause = subst (λ rs. slice_get rs h.at ≡ Some h.clause) (no_clauses s of) h.listed in cc)
  no_source (source.Impl id xs) qs h = by_id xs qs id id.0 refl h.1
  no_source source.BuiltIn qs (inl h) = not_itself h.1
  no_source source.BuiltIn qs (inr h) = not_built_in qs h.1

  -- no hole is in it
  unmoved : asked_at p wrong ≡ wrong
  unmoved = ap (found_as u8_term) (still p)

  pub not_other : (ps : List Proof) (n : ℕ) (x : Proof) → slice_get ps n ≡ Some x → asked_goal x.goal ≡ wrong → AreProofs facts s A p ps → ⊥
  not_other ps n x is goal h = let holds = h n x is in no_source x.source holds.asks (subst (λ a. IsSource facts s A p a x.source holds.asks) (ap (asked_at p) goal ∙ unmoved) holds.source)

module _ (s : System) (of : IsSystemOf facts own s) (A : Aliases) (p : Fill) where
  -- that it is `char`
  pub not_char : (ps : List Proof) (n : ℕ) (x : Proof) → slice_get ps n ≡ Some x → asked_goal x.goal ≡ found_as u8_term char_term → AreProofs facts s A p ps → ⊥
  not_char = not_other char_term (tt, tt) (λ h. cc) (λ y h. cc) (λ q. refl) s of A p

  -- that it is `{unknown}`
  pub not_unknown : (ps : List Proof) (n : ℕ) (x : Proof) → slice_get ps n ≡ Some x → asked_goal x.goal ≡ found_as u8_term unknown → AreProofs facts s A p ps → ⊥
  not_unknown = not_other unknown (tt, tt) (λ h. cc) (λ y h. cc) (λ q. refl) s of A p
