-- How the parts of a term are read, and that a type's term is of this type.
use Rattle.std.specs.Prelude.{◌≡◌, ℕ, zero, suc, List, [], ◌∷◌, ◌++◌, Option, Some, map}
use Rattle.std.specs.Option.{option_to_list}
use Rattle.std.proofs.Common.{refl, sym, ap, ◌∙◌, subst, drop, append_assoc}
use Rattle.goal_terms.specs.Words.{Const, Ty, GenericArg, GenericArg-F, roll-GenericArg, out-GenericArg, roll-out-GenericArg, AliasBound, TraitRef, Term, pair, chain, term, arg_term, type_part, const_part, arg_term_type, arg_term_const, ReadPart, mark, read, type_of_term, leading_args, all_but_last, bounds_of, term_read, term_erased, const_read}
use Rattle.hir_types.specs.declared.ty.GenericArg.TheVariants as arg
use Rattle.hir_types.specs.declared.head.Head.TheVariants as head
use Rattle.hir_types.specs.Faithful.{type_of, last}
use Rattle.goal_terms.specs.Own.{TermPart, parts_read, bounds_with}

-- ---- lists among the parts

bounds_more : (p : ReadPart) (ps : List ReadPart) → bounds_of (p ∷ ps) ≡ bounds_with (p ∷ ps) ++ bounds_of ps
bounds_more (mark (head.Bound a)) (type_of t ∷ ps) = refl
bounds_more _ _ = refl

-- the bound at one place, before those behind it
pub bounds_at : (i : ℕ) (ps : List TermPart) → bounds_of (parts_read (drop i ps)) ≡ bounds_with (parts_read (drop i ps)) ++ bounds_of (parts_read (drop (suc i) ps))
bounds_at zero [] = refl
bounds_at zero (p ∷ ps) = bounds_more _ (parts_read ps)
bounds_at (suc i) [] = refl
bounds_at (suc i) (p ∷ ps) = bounds_at i ps

-- as the code takes it
pub bounds_next : (i n : ℕ) (ps qs : List TermPart) (before after : List AliasBound) → n ≡ suc i → qs ≡ drop i ps → after ≡ before ++ bounds_with (parts_read qs) → before ++ bounds_of (parts_read (drop i ps)) ≡ bounds_of (parts_read ps) → after ++ bounds_of (parts_read (drop n ps)) ≡ bounds_of (parts_read ps)
bounds_next i n ps qs before after e f g h =
    let rest : List TermPart → List AliasBound = λ xs. bounds_of (parts_read xs) in
    ap (λ (xs : List AliasBound). xs ++ rest (drop n ps)) (g ∙ ap (λ xs. before ++ bounds_with (parts_read xs)) f)
    ∙ append_assoc before (bounds_with (parts_read (drop i ps))) (rest (drop n ps))
    ∙ ap (λ (m : ℕ). before ++ (bounds_with (parts_read (drop i ps)) ++ rest (drop m ps))) e
    ∙ ap (λ (xs : List AliasBound). before ++ xs) (sym (bounds_at i ps))
    ∙ h

all_but_last_is : (ts : List Ty) (t : Ty) → all_but_last (ts ++ t ∷ []) ≡ ts
all_but_last_is [] t = refl
all_but_last_is (u ∷ []) t = refl
all_but_last_is (u ∷ v ∷ vs) t = ap (◌∷◌ u) (all_but_last_is (v ∷ vs) t)

last_is : (ts : List Ty) (t : Ty) → last (ts ++ t ∷ []) ≡ t
last_is [] t = refl
last_is (u ∷ []) t = refl
last_is (u ∷ v ∷ vs) t = last_is (v ∷ vs) t

module _ (xs ys : List Ty) (o : Option Ty) (t : Ty) (are : xs ≡ ys ++ option_to_list o) (is : o ≡ Some t) where
  whole : xs ≡ ys ++ t ∷ []
  whole = are ∙ ap (λ (z : Option Ty). ys ++ option_to_list z) is

  pub taken_rest : ys ≡ all_but_last xs
  taken_rest = sym (all_but_last_is ys t) ∙ ap all_but_last (sym whole)

  pub taken_last : t ≡ last xs
  taken_last = sym (last_is ys t) ∙ ap last (sym whole)

-- ---- back

pub type_back : (m : Ty) (u : Term) (t : Ty) → m ≡ type_of_term u → term t ≡ u → term m ≡ u
type_back m u t e f = ap term (e ∙ ap type_of_term (sym f) ∙ term_read t) ∙ term_erased t ∙ f

abbrev args_read : Term → List GenericArg
args_read u = leading_args (read u).parts

-- one argument more
abbrev IsBack : GenericArg → Type 0
IsBack x = (ps : List ReadPart) → chain (map arg_term (leading_args ((read (arg_term x)).part ∷ ps))) ≡ pair (arg_term x) (chain (map arg_term (leading_args ps)))

back_at : (x y : GenericArg) (u : Term) → arg_term x ≡ u → ((ps : List ReadPart) → leading_args ((read u).part ∷ ps) ≡ y ∷ leading_args ps) → arg_term y ≡ u → IsBack x
back_at x y u e f g ps =
    ap (λ v. chain (map arg_term (leading_args ((read v).part ∷ ps)))) e
    ∙ ap (λ ys. chain (map arg_term ys)) (f ps)
    ∙ ap (λ v. pair v (chain (map arg_term (leading_args ps)))) (g ∙ sym e)

type_is_back : (t : Ty) → IsBack (arg.Ty t)
type_is_back t = back_at (arg.Ty t) (arg.Ty (type_of_term (term t))) (type_part (term t)) (arg_term_type t) (λ ps. refl)
    (arg_term_type (type_of_term (term t)) ∙ ap type_part (ap term (term_read t) ∙ term_erased t))

const_is_back : (c : Const) → IsBack (arg.Const c)
const_is_back c = back_at (arg.Const c) (arg.Const c) (const_part c) (arg_term_const c) (λ ps. ap (λ d. arg.Const d ∷ leading_args ps) (const_read c)) (arg_term_const c)

is_back_at : (x : GenericArg) (y : GenericArg-F GenericArg Ty AliasBound TraitRef) → roll-GenericArg y ≡ x → IsBack x
is_back_at x (GenericArg-F.Ty t) e = subst IsBack (sym (arg.rolls-Ty t) ∙ e) (type_is_back t)
is_back_at x (GenericArg-F.Const c) e = subst IsBack (sym (arg.rolls-Const c) ∙ e) (const_is_back c)

are_back : (xs : List GenericArg) → chain (map arg_term (args_read (chain (map arg_term xs)))) ≡ chain (map arg_term xs)
are_back [] = refl
are_back (x ∷ xs) = is_back_at x (out-GenericArg x) (roll-out-GenericArg x) (read (chain (map arg_term xs))).parts ∙ ap (pair (arg_term x)) (are_back xs)

pub args_back : (ms : List GenericArg) (u : Term) (xs : List GenericArg) → ms ≡ leading_args (read u).parts → chain (map arg_term xs) ≡ u → chain (map arg_term ms) ≡ u
args_back ms u xs e f = ap (λ ys. chain (map arg_term ys)) (e ∙ ap args_read (sym f)) ∙ are_back xs ∙ f
