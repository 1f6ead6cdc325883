-- The parts of a type that is copied where they are, of a goal that is read.
use Rattle.std.specs.Prelude.{◌≡◌, ◌⊎◌, ℕ, true, List, [], ◌∷◌, map, Option, Some, None, refl}
use Rattle.std.proofs.Common.{inl, inr, sym, ap, ◌∙◌, subst}
use Rattle.std.proofs.lemmas.Option.{same_Some}
use Rattle.goal_prove.specs.Words.{Head, AliasBound, Const, GenericArg, TraitRef, Ty, Ty-F, out-Ty, in_ty, Term, hole, leaf, pair, const_term, type_part, term, arg_term, ty_step, terms, arg_term_type, arg_term_const, pair_left, pair_right, RawFacts, IsRead, Kind, implements, projects, Asked, System, self_type, only, is_among, Each, SomeOf, Proves, answers, with_part, types_of, EachType, Copied, with_parts, by_impls, unclear, copied_head, copied, CopyYes, CopiesParts, known_below, HasHeads, IsDone}
use Rattle.hir_types.specs.declared.head.Head.TheVariants as head
use Rattle.hir_types.specs.declared.ty.Mutability.TheVariants as mutability
use Rattle.hir_types.specs.declared.ty.Const.TheVariants as const
use Rattle.hir_types.specs.declared.ty.GenericArg.TheVariants as arg
use Rattle.goal_prove.proofs.Words.{some_each, apply_hole, CopyYesBy, reads_itself, parts_proved, type_is}
use Rattle.goal_prove.specs.Own.{IsWhole, IsOfType, AreOfArgs, IsGood, AreGood, IsGoodGoal, IsAsked, FitsNot, PredIsAsked, IsSourced, CopiesAre}
use Rattle.goal_prove.proofs.TypeTerms.{AreArgs, tuple_args}
use Rattle.goal_prove.proofs.Sources.{split_args}

array_step : (x : Ty-F GenericArg Ty AliasBound TraitRef) (c : Term) → ty_step (in_ty terms x) ≡ pair (leaf head.Array) c → AreArgs c
array_step (Ty-F.Array t k) c e = (arg.Ty t ∷ arg.Const k ∷ [], sym (pair_right e) ∙ (λ i. pair (sym (arg_term_type t) i) (pair (sym (arg_term_const k) i) (leaf head.End))))
array_step _ c e = cc

array_args : (u : Ty) (c : Term) → pair (leaf head.Array) c ≡ term u → AreArgs c
array_args u c e = array_step (out-Ty u) c (sym (type_is u) ∙ sym e)

-- ---- the types among arguments

rest_args : (a b : Term) → AreOfArgs (pair a b) → AreOfArgs b
rest_args a b ([], e) = cc
rest_args a b (x ∷ xs, e) = (xs, pair_right e)

part_good : (a b : Term) (o : Option (List Term)) → AreOfArgs (pair a b) → IsWhole (pair a b) → (AreOfArgs b → (us : List Term) → o ≡ Some us → Each IsGood us) → (ts : List Term) → with_part a o ≡ Some ts → Each IsGood ts
part_good (pair (leaf head.TypePart) t) b (Some us) args whole h ts e =
    let s = split_args t b args in
    subst (Each IsGood) (same_Some (t ∷ us) ts e) (record { type = s.0; whole = whole.0.1 }, h s.1 us refl)
part_good (pair (leaf head.ConstPart) t) b (Some us) args whole h ts e = subst (Each IsGood) (same_Some us ts e) (h (rest_args (pair (leaf head.ConstPart) t) b args) us refl)
part_good _ b o args whole h ts e = cc

types_good : (parts : Term) → AreOfArgs parts → IsWhole parts → (ts : List Term) → types_of parts ≡ Some ts → Each IsGood ts
types_good (hole k) args whole ts e = cc
types_good (leaf h) args whole ts e = subst (Each IsGood) (same_Some [] ts e) tt
types_good (pair a b) args whole ts e = part_good a b (types_of b) args whole (λ more us same. types_good b more whole.1 us same) ts e

-- ---- the parts of a type

end_good : (parts : Term) → leaf head.End ≡ parts → AreGood parts
end_good parts e = subst AreGood e (record { args = ([], refl); whole = tt })

head_good : (h : Head) (ps parts : Term) → IsOfType (pair (leaf h) ps) → IsWhole (pair (leaf h) ps) → copied_head h ps ≡ with_parts parts → AreGood parts
head_good head.Never ps parts t v e = end_good parts (let same : leaf head.End ≡ parts = cc in same)
head_good (head.FnDef id) ps parts t v e = end_good parts (let same : leaf head.End ≡ parts = cc in same)
head_good (head.FnPtr s) ps parts t v e = end_good parts (let same : leaf head.End ≡ parts = cc in same)
head_good (head.RawPtr m) ps parts t v e = end_good parts (let same : leaf head.End ≡ parts = cc in same)
head_good (head.Ref mutability.Not) ps parts t v e = end_good parts (let same : leaf head.End ≡ parts = cc in same)
head_good head.Tuple ps parts t v e = let same : ps ≡ parts = cc in subst AreGood same (record { args = tuple_args t.0 ps t.1; whole = v.1 })
head_good head.Array ps parts t v e = let same : ps ≡ parts = cc in subst AreGood same (record { args = array_args t.0 ps t.1; whole = v.1 })
head_good _ ps parts t v e = cc

copied_good : (u parts : Term) → IsOfType u → IsWhole u → copied u ≡ with_parts parts → AreGood parts
copied_good (pair (leaf h) ps) parts t v e = head_good h ps parts t v e
copied_good (pair (hole k) ps) parts t v e = cc
copied_good (pair (pair a b) ps) parts t v e = cc
copied_good (leaf h) parts t v e = cc
copied_good (hole k) parts t v e = cc

-- ---- the self type

const_not : (c : Const) (h : Head) (ps : Term) → pair (leaf h) ps ≡ const_term c → (parts : Term) → copied_head h ps ≡ with_parts parts → ⊥
const_not (const.Value n) h ps e parts k = let same : h ≡ head.Value n = cc in let kk : copied_head (head.Value n) ps ≡ with_parts parts = subst (λ x. copied_head x ps ≡ with_parts parts) same k in cc
const_not (const.Param n) h ps e parts k = let same : h ≡ head.ConstParam n = cc in let kk : copied_head (head.ConstParam n) ps ≡ with_parts parts = subst (λ x. copied_head x ps ≡ with_parts parts) same k in cc
const_not const.Unknown h ps e parts k = let same : h ≡ head.UnknownConst = cc in let kk : copied_head head.UnknownConst ps ≡ with_parts parts = subst (λ x. copied_head x ps ≡ with_parts parts) same k in cc
const_not (const.Var n) h ps e parts k = cc
const_not const.Hole h ps e parts k = let same : h ≡ head.ConstHole = cc in let kk : copied_head head.ConstHole ps ≡ with_parts parts = subst (λ x. copied_head x ps ≡ with_parts parts) same k in cc

no_const : (c : Const) (u parts : Term) → u ≡ const_term c → copied u ≡ with_parts parts → ⊥
no_const c (pair (leaf h) ps) parts e k = const_not c h ps e parts k
no_const c (pair (hole j) ps) parts e k = cc
no_const c (pair (pair a b) ps) parts e k = cc
no_const c (leaf h) parts e k = cc
no_const c (hole j) parts e k = cc

arg_is : (m u : Term) (x : GenericArg) (parts : Term) → pair m u ≡ arg_term x → copied u ≡ with_parts parts → IsOfType u
arg_is m u (arg.Ty t) parts e k = (t, pair_right (e ∙ arg_term_type t))
arg_is m u (arg.Const c) parts e k = absurd (no_const c u parts (pair_right (e ∙ arg_term_const c)) k)

pub self_good : (w parts : Term) → AreGood w → copied (self_type w) ≡ with_parts parts → AreGood parts
self_good (pair (pair m u) b) parts g k = by_args g.args
  where
    by_args : AreOfArgs (pair (pair m u) b) → AreGood parts
    by_args ([], e) = cc
    by_args (x ∷ xs, e) = copied_good u parts (arg_is m u x parts (pair_left e) k) g.whole.0.1 k
self_good (pair (leaf h) b) parts g k = cc
self_good (pair (hole j) b) parts g k = cc
self_good (leaf h) parts g k = cc
self_good (hole j) parts g k = cc

-- ---- what is read of them

with_heads : (a : Term) (o : Option (List Term)) → HasHeads a → IsRead a → ((us : List Term) → o ≡ Some us → Each IsDone us) → (ts : List Term) → with_part a o ≡ Some ts → Each IsDone ts
with_heads (pair (leaf head.TypePart) t) (Some us) h d more ts e = subst (Each IsDone) (same_Some (t ∷ us) ts e) (record { read = d.1; heads = h.2 }, more us refl)
with_heads (pair (leaf head.ConstPart) t) (Some us) h d more ts e = subst (Each IsDone) (same_Some us ts e) (more us refl)
with_heads _ o h d more ts e = cc

types_done : (parts : Term) → IsDone parts → (ts : List Term) → types_of parts ≡ Some ts → Each IsDone ts
types_done (hole k) d ts e = cc
types_done (leaf h) d ts e = subst (Each IsDone) (same_Some [] ts e) tt
types_done (pair a b) d ts e = with_heads a (types_of b) d.heads.1 d.read.0 (λ us same. types_done b (record { read = d.read.1; heads = d.heads.2 }) us same) ts e

end_done : (parts : Term) → leaf head.End ≡ parts → IsDone parts
end_done parts e = subst IsDone e (record { read = tt; heads = tt })

head_done : (h : Head) (ps parts : Term) → IsDone ps → copied_head h ps ≡ with_parts parts → IsDone parts
head_done head.Never ps parts d e = end_done parts (let same : leaf head.End ≡ parts = cc in same)
head_done (head.FnDef id) ps parts d e = end_done parts (let same : leaf head.End ≡ parts = cc in same)
head_done (head.FnPtr s) ps parts d e = end_done parts (let same : leaf head.End ≡ parts = cc in same)
head_done (head.RawPtr m) ps parts d e = end_done parts (let same : leaf head.End ≡ parts = cc in same)
head_done (head.Ref mutability.Not) ps parts d e = end_done parts (let same : leaf head.End ≡ parts = cc in same)
head_done head.Tuple ps parts d e = let same : ps ≡ parts = cc in subst IsDone same d
head_done head.Array ps parts d e = let same : ps ≡ parts = cc in subst IsDone same d
head_done _ ps parts d e = cc

copied_done : (u parts : Term) → IsDone u → copied u ≡ with_parts parts → IsDone parts
copied_done (pair (leaf h) ps) parts d e = head_done h ps parts (record { read = d.read.1; heads = d.heads.2 }) e
copied_done (pair (hole k) ps) parts d e = cc
copied_done (pair (pair a b) ps) parts d e = cc
copied_done (leaf h) parts d e = cc
copied_done (hole k) parts d e = cc

self_done : (w : Term) → IsDone w → IsDone (self_type w)
self_done (pair (pair m u) b) d = record { read = d.read.0.1; heads = d.heads.1.2 }
self_done (pair (leaf h) b) d = record { read = tt; heads = tt }
self_done (pair (hole j) b) d = record { read = tt; heads = tt }
self_done (leaf h) d = record { read = tt; heads = tt }
self_done (hole j) d = record { read = tt; heads = tt }

-- ---- the goals of the parts

some_types : (P : Term → Type 0) (o : Option (List Term)) → EachType P o → (ts : List Term) × (o ≡ Some ts)
some_types P None h = absurd h
some_types P (Some ts) h = (ts, refl)

pub copy_parts : (f : System) (Y : Asked → Type 0) (c : Kind) (w : Term) → CopyYes f Y c w → (ts : List Term) × CopiesParts f c w ts
copy_parts f Y c w y = by_copied (copied (self_type w)) refl y.1
  where
    by_copied : (x : Copied) → copied (self_type w) ≡ x → CopyYesBy Y c x → (ts : List Term) × CopiesParts f c w ts
    by_copied (with_parts ps) e h = let q = some_types (λ t. Y (record { kind = c; parts = only t })) (types_of ps) h in (q.0, record { among = y.0; parts = ps; copied = e; types = q.1 })
    by_copied by_impls e h = absurd h
    by_copied unclear e h = absurd h

only_good : (f : System) (c : Kind) (t : Term) → is_among f.copied c ≡ true → IsGood t → IsGoodGoal c (only t)
only_good f (implements id) t e g = record { goal = (arg.Ty g.type.0 ∷ [], λ i. pair ((ap type_part g.type.1 ∙ sym (arg_term_type g.type.0)) i) (leaf head.End)); whole = ((tt, g.whole), tt) }
only_good f (projects k) t e g = cc

trait_good : (f : System) (c : Kind) (w : Term) → is_among f.copied c ≡ true → IsGoodGoal c w → AreGood w
trait_good f (implements id) w e g = record { args = g.goal; whole = g.whole }
trait_good f (projects k) w e g = cc

module _ (raw : RawFacts) (f : System) (n : ℕ) (c : Kind) (w : Term) (asked : IsAsked raw f n c w) (sourced : IsSourced raw f n c w) (unfit : Each (FitsNot (answers f n).Alias (known_below f n) c w) f.rules) where
  by_no_rule : SomeOf (Proves (answers f n).Alias (known_below f n).Yes c w) f.rules → ⊥
  by_no_rule h = some_each (λ r p x. x p.kind p.at (record { told = p.told; part = p.head; preds = p.preds })) f.rules h unfit

  copy_yes : SomeOf (Proves (answers f n).Alias (known_below f n).Yes c w) f.rules ⊎ CopyYes f (known_below f n).Yes c w → CopyYes f (known_below f n).Yes c w
  copy_yes (inl h) = absurd (by_no_rule h)
  copy_yes (inr h) = h

  -- the parts are known
  pub has_parts : CopiesAre f c w None → ⊥
  has_parts none = let q = copy_parts f (known_below f n).Yes c w (copy_yes sourced.source) in none q.0 q.1

  module _ (among : is_among f.copied c ≡ true) where
    goals_asked : (ts : List Term) → Each IsDone ts → Each IsGood ts → Each (λ t. (known_below f n).Yes (record { kind = c; parts = only t })) ts → Each (PredIsAsked raw f n hole) (map (λ t. record { kind = c; parts = only t }) ts)
    goals_asked [] d g y = tt
    goals_asked (t ∷ ts) d g y = (
      record {
        done = record { heads = (refl, (tt, tt, d.0.heads), tt); fills = λ k o. record { read = tt; heads = tt } };
        yes = subst (known_below f n).Yes (sym (λ i. record { kind = c; parts = apply_hole (only t) i })) y.0;
        good = λ m u e r. subst (IsGoodGoal c) (sym (reads_itself (answers f m).Alias (only t) u ((tt, d.0.read), tt) r)) (only_good f c t among g.0);
      },
      goals_asked ts d.1 g.1 y.1,
    )

  pub parts_asked : (gs : List Asked) → CopiesAre f c w (Some gs) → Each (PredIsAsked raw f n hole) gs
  parts_asked gs (ts, copies, are) =
      let good = self_good w copies.parts (trait_good f c w copies.among asked.good) copies.copied in
      let done = copied_done (self_type w) copies.parts (self_done w asked.done) copies.copied in
      subst (Each (PredIsAsked raw f n hole)) (sym are)
      (goals_asked copies.among ts (types_done copies.parts done ts copies.types) (types_good copies.parts good.args good.whole ts copies.types)
      (parts_proved f (known_below f n).Yes c w ts copies (copy_yes sourced.source)))
