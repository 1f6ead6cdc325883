-- Each step of opening a type.
use Rattle.std.specs.Prelude.{◌≡◌, ℕ, ◌+◌, ◌<◌, List, [], ◌∷◌, ◌++◌, length, map, Option}
use Rattle.std.proofs.Common.{sym, ap, ◌∙◌, subst, get_or, take}
use Rattle.std.proofs.lemmas.List.{take_more}
use Rattle.infer_table.specs.Words.{HoleKind, TraitId, Ty, GenericArg, TraitRef, AliasBound, Term, term, arg_term, parts_of_types}
use Rattle.hir_types.specs.declared.ty.Ty.TheVariants as ty
use Rattle.infer_table.specs.Own.{Opens, OpensParts, principal_terms, bounds_terms, types_push, args_push, bounds_push, opens_dynamic}

-- ---- one more of a list

taken : {X : Type 0} (xs items : List X) (i : ℕ) (x : X) → items ≡ xs → i < length items → x ≡ get_or items i x → take (i + 1) xs ≡ take i xs ++ x ∷ []
taken {X = X} xs items i x s h e =
    let P : List X → Type 0 = λ z. take (i + 1) z ≡ take i z ++ x ∷ [] in
    subst P s (take_more items i x h ∙ ap (λ (z : X). take i items ++ z ∷ []) (sym e))

parts_same : {old new : List HoleKind} {os ps : List (ℕ × Term)} {X : Type 0} (f : List X → List Term) {ts us vs ws : List X} → vs ≡ ts → ws ≡ us → OpensParts old new os ps (f ts) (f us) → OpensParts old new os ps (f vs) (f ws)
parts_same {old = old} {new = new} {os = os} {ps = ps} {X = X} f {us = us} {vs = vs} e g x =
    let P : List X → Type 0 = λ z. OpensParts old new os ps (f z) (f us) in
    let Q : List X → Type 0 = λ z. OpensParts old new os ps (f vs) (f z) in
    subst Q (sym g) (subst P (sym e) x)

pub types_step : {old mid new : List HoleKind} {os ms ps : List (ℕ × Term)} (ts items us us2 : List Ty) (i : ℕ) (t u : Ty) → items ≡ ts → i < length items → t ≡ get_or items i t → us2 ≡ us ++ u ∷ [] → OpensParts old mid os ms (parts_of_types (take i ts)) (parts_of_types us) → Opens mid new ms ps (term t) (term u) → OpensParts old new os ps (parts_of_types (take (i + 1) ts)) (parts_of_types us2)
types_step ts items us us2 i t u s h e g x y = parts_same parts_of_types (taken ts items i t s h e) g (types_push (take i ts) us t u x y)

pub args_step : {old mid new : List HoleKind} {os ms ps : List (ℕ × Term)} (xs items ys ys2 : List GenericArg) (i : ℕ) (t u : GenericArg) → items ≡ xs → i < length items → t ≡ get_or items i t → ys2 ≡ ys ++ u ∷ [] → OpensParts old mid os ms (map arg_term (take i xs)) (map arg_term ys) → OpensParts mid new ms ps (arg_term t ∷ []) (arg_term u ∷ []) → OpensParts old new os ps (map arg_term (take (i + 1) xs)) (map arg_term ys2)
args_step xs items ys ys2 i t u s h e g x y = parts_same (map arg_term) (taken xs items i t s h e) g (args_push (take i xs) ys t u x y)

pub bounds_step : {old mid new : List HoleKind} {os ms ps : List (ℕ × Term)} (xs items ys ys2 : List AliasBound) (i : ℕ) (b c : AliasBound) → items ≡ xs → i < length items → b ≡ get_or items i b → ys2 ≡ ys ++ c ∷ [] → OpensParts old mid os ms (bounds_terms (take i xs)) (bounds_terms ys) → c.alias ≡ b.alias → Opens mid new ms ps (term b.ty) (term c.ty) → OpensParts old new os ps (bounds_terms (take (i + 1) xs)) (bounds_terms ys2)
bounds_step xs items ys ys2 i b c s h e g x f y = parts_same bounds_terms (taken xs items i b s h e) g (bounds_push (take i xs) ys b c x f y)

-- ---- a type that is known to be of a variant

pub opens_same : {old new : List HoleKind} {os ps : List (ℕ × Term)} {u : Term} (t v : Ty) → t ≡ v → Opens old new os ps (term v) u → Opens old new os ps (term t) u
opens_same {old = old} {new = new} {os = os} {ps = ps} {u = u} t v e x = let P : Ty → Type 0 = λ z. Opens old new os ps (term z) u in subst P (sym e) x

pub arg_same : {old new : List HoleKind} {os ps : List (ℕ × Term)} {us : List Term} (t v : GenericArg) → t ≡ v → OpensParts old new os ps (arg_term v ∷ []) us → OpensParts old new os ps (arg_term t ∷ []) us
arg_same {old = old} {new = new} {os = os} {ps = ps} {us = us} t v e x = let P : GenericArg → Type 0 = λ z. OpensParts old new os ps (arg_term z ∷ []) us in subst P (sym e) x

pub dynamic_copied : {old mid new : List HoleKind} {os ms ps : List (ℕ × Term)} (p q : Option TraitRef) (bs cs : List AliasBound) (ids copies : List TraitId) → copies ≡ ids → OpensParts old mid os ms (principal_terms p) (principal_terms q) → OpensParts mid new ms ps (bounds_terms bs) (bounds_terms cs) → Opens old new os ps (term (ty.Dynamic p bs ids)) (term (ty.Dynamic q cs copies))
dynamic_copied {old = old} {new = new} {os = os} {ps = ps} p q bs cs ids copies e x y =
    let P : List TraitId → Type 0 = λ z. Opens old new os ps (term (ty.Dynamic p bs ids)) (term (ty.Dynamic q cs z)) in
    subst P (sym e) (opens_dynamic p q bs cs ids x y)
