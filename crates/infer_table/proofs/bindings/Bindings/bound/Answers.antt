use Rattle.std.proofs.Common.{◌≡◌, ◌∙◌, ◌<◌, ◌≤◌, ℕ, List, Option, Some, None, length, get_or, refl, sym, ap, MatchOption, IfSome, Bor}
use Rattle.std.specs.Option.{option_copied}
use Rattle.std.specs.List.{slice_get}
use Rattle.std.proofs.lemmas.Bool.{iff_false}
use Rattle.std.proofs.lemmas.Option.{slice_get_past, slice_get_read}
use Rattle.infer_table.specs.Words.{hole_number}
use Rattle.infer_table.specs.Own.{Variable, hole_kind, Substitution, found_binding}
use Rattle.infer_table.proofs.Kept.{found_missing, found_other, found_open, found_placed}
use Rattle.infer_table.proofs.bindings.Bindings.bound.Goals as goal

-- what `get` answers
copied_get : {X : Type 0} (r : Option (Bor X)) (xs ys : List X) (i : ℕ) (Q : Bor X → Type 0) → xs ≡ ys → IfSome r (λ x. x.now ≡ get_or xs i x.now) → MatchOption r (length xs ≤ i) (λ x. (i < length xs) × Q x) → option_copied r ≡ slice_get ys i
copied_get None xs ys i Q e a b = sym (slice_get_past xs i b) ∙ ap (λ l. slice_get l i) e
copied_get (Some x) xs ys i Q e a b = sym (slice_get_read xs (length xs) i x.now refl b.0 a) ∙ ap (λ l. slice_get l i) e

-- the hole's variable
variable_here : (xs vs : List Variable) (n m : ℕ) (v : Variable) → xs ≡ vs → n ≡ m → n < length xs → v ≡ get_or xs n v → slice_get vs m ≡ Some v
variable_here xs vs n m v e f h g = ap (slice_get vs) (sym f) ∙ ap (λ l. slice_get l n) (sym e) ∙ slice_get_read xs (length xs) n v refl h g

pub returns-in_err-variable : goal.returns-in_err-variable
returns-in_err-variable c =
    let vs = c.self.inside.variables.items in
    let e : slice_get vs (hole_number c.args.hole) ≡ None =
    ap (slice_get vs) (sym c.number_of.ensures) ∙ ap (λ (l : List Variable). slice_get l c.number_of.result) (sym c.deref.ensures.value) ∙ slice_get_past c.deref.result.now c.number_of.result c.in_err-variable.ensures.lookup.3 in
    ap option_copied c.from_residual.ensures ∙ sym (found_missing vs c.self.inside.log.items c.args.hole c.self.invariant e) ∙ ap (λ (s : Substitution). found_binding s.log c.args.hole) c.self.view_is

pub returns-then-not-same_kind : goal.returns-then-not-same_kind
returns-then-not-same_kind c =
    let vs = c.self.inside.variables.items in
    let v = c.in_ok-variable.variable.now in
    let e = variable_here c.deref.result.now vs c.number_of.result (hole_number c.args.hole) v c.deref.ensures.value c.number_of.ensures c.in_ok-variable.ensures.lookup.3.0 c.in_ok-variable.ensures.lookup.1 in
    sym (found_other vs c.self.inside.log.items c.args.hole v c.self.invariant e (λ q. iff_false c.same_kind.ensures c.if-not-same_kind.true (q ∙ sym c.kind_of.ensures))) ∙ ap (λ (s : Substitution). found_binding s.log c.args.hole) c.self.view_is

pub returns-in_err-variable-2 : goal.returns-in_err-variable-2
returns-in_err-variable-2 c =
    let vs = c.self.inside.variables.items in
    let v = c.in_ok-variable.variable.now in
    let e = variable_here c.deref.result.now vs c.number_of.result (hole_number c.args.hole) v c.deref.ensures.value c.number_of.ensures c.in_ok-variable.ensures.lookup.3.0 c.in_ok-variable.ensures.lookup.1 in
    ap option_copied c.from_residual-in_err-variable-2.ensures ∙ sym (found_open vs c.self.inside.log.items c.args.hole v c.self.invariant e c.in_err-variable-2.was) ∙ ap (λ (s : Substitution). found_binding s.log c.args.hole) c.self.view_is

pub returns : goal.returns
returns c =
    let vs = c.self.inside.variables.items in
    let log = c.self.inside.log.items in
    let v = c.in_ok-variable.variable.now in
    let i = c.in_ok-variable-2.field-0 in
    let e = variable_here c.deref.result.now vs c.number_of.result (hole_number c.args.hole) v c.deref.ensures.value c.number_of.ensures c.in_ok-variable.ensures.lookup.3.0 c.in_ok-variable.ensures.lookup.1 in
    let k : v.kind ≡ hole_kind c.args.hole = c.same_kind.ensures.0 c.if-not-same_kind.false ∙ c.kind_of.ensures in
    copied_get c.get-2.result c.deref-2.result.now log i _ c.deref-2.ensures.value c.get-2.ensures.lookup.1 c.get-2.ensures.lookup.3
    ∙ found_placed vs log c.args.hole v i c.self.invariant e k c.in_ok-variable-2.was
    ∙ ap (λ (s : Substitution). found_binding s.log c.args.hole) c.self.view_is
