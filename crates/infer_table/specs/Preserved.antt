-- Which heads stand in types and in what holes are bound to, over how many parts each, and that unification brings in no
-- others.
use Rattle.std.proofs.Common.{◌≡◌, ℕ, suc, Bool, true, false, cond, if◌then◌else◌, List, [], ◌∷◌, IsTrue, refl, sym, ap, ap₂, subst, ◌∙◌}
use Rattle.std.proofs.lemmas.Bool.{both_ways}
use Rattle.std.proofs.lemmas.List.{map-append}
use Rattle.infer_table.specs.Words.{Head, Hole, OpaqueId, TypeAliasId, Ty, Term, hole, leaf, pair, apply, hole_eq, term}
use Rattle.hir_types.specs.declared.head.Head.TheVariants as head
use Rattle.infer_table.specs.declared.binding.Binding.{Binding}
use Rattle.infer_table.specs.Solutions.{Log, single, sub, resolved, Solves, Respects, log_of}
use Rattle.infer_table.specs.LogLemmas.{solves_left, resolved_apply}
use Rattle.infer_table.specs.Opened.{plain, place, IsPlain, IsReadAs}
use Rattle.infer_table.specs.OpenedLaws.{opened_plain, reads_apply}
use Rattle.infer_table.specs.Resolution.{resolution_term}
use Rattle.infer_table.specs.Table.{State, bindings, resolved_term, Meets, CanBeEqual, AreUnified, IsMostGeneral}

-- what a term stands for in that of a type: a type, one of its parts, or its parts from one on
pub data TermRole : Type 0 where
  whole : TermRole
  part : TermRole
  rest : TermRole

-- which heads may stand over how many parts
abbrev pub Shape : Type 0
Shape = Head → ℕ → Bool

-- how many parts these are
abbrev pub width : Term → ℕ
width (hole k) = 0
width (leaf h) = 0
width (pair a b) = suc (width b)

abbrev pub IsHead : Shape → Term → ℕ → Type 0
IsHead ok (leaf h) n = IsTrue (ok h n)
IsHead ok (hole k) n = ⊥
IsHead ok (pair a b) n = ⊥

abbrev pub IsTypeMark : Term → Type 0
IsTypeMark (leaf head.TypePart) = Unit {0}
IsTypeMark _ = ⊥

abbrev pub IsEnd : Head → Type 0
IsEnd head.End = Unit {0}
IsEnd _ = ⊥

-- a hole, or one of these heads over as many parts as it may have, each a type of which the same holds
abbrev pub IsMadeOf : Shape → TermRole → Term → Type 0
IsMadeOf ok whole (hole k) = Unit {0}
IsMadeOf ok whole (leaf h) = ⊥
IsMadeOf ok whole (pair a b) = IsHead ok a (width b) × IsMadeOf ok rest b
IsMadeOf ok part (hole k) = ⊥
IsMadeOf ok part (leaf h) = ⊥
IsMadeOf ok part (pair a b) = IsTypeMark a × IsMadeOf ok whole b
IsMadeOf ok rest (hole k) = ⊥
IsMadeOf ok rest (leaf h) = IsEnd h
IsMadeOf ok rest (pair a b) = IsMadeOf ok part a × IsMadeOf ok rest b

-- so is each type that a hole is bound to
abbrev pub BindsOnly : Shape → Log → Type 0
BindsOnly ok [] = Unit {0}
BindsOnly ok (p ∷ l) = IsMadeOf ok whole p.1 × BindsOnly ok l

-- a mark of a part is no head of a type
abbrev pub NoMark : Shape → Type 0
NoMark ok = (n : ℕ) → ok head.TypePart n ≡ false

-- ---- what is put in for holes

-- what stands for each hole is a type of these heads
abbrev pub AreMadeOf : Shape → (Hole → Term) → Type 0
AreMadeOf ok s = (k : Hole) → IsMadeOf ok whole (s k)

-- so many parts stay so many
pub width_apply : (ok : Shape) (s : Hole → Term) (t : Term) → IsMadeOf ok rest t → width (apply s t) ≡ width t
width_apply ok s (hole k) h = absurd h
width_apply ok s (leaf g) h = refl
width_apply ok s (pair a b) h = ap suc (width_apply ok s b h.1)

head_apply : (ok : Shape) (s : Hole → Term) (t : Term) (m n : ℕ) → m ≡ n → IsHead ok t n → IsHead ok (apply s t) m
head_apply ok s (hole k) m n e h = absurd h
head_apply ok s (leaf g) m n e h = ap (ok g) e ∙ h
head_apply ok s (pair a b) m n e h = absurd h

mark_apply : (s : Hole → Term) (t : Term) → IsTypeMark t → IsTypeMark (apply s t)
mark_apply s (hole k) h = absurd h
mark_apply s (leaf head.TypePart) h = tt
mark_apply s (leaf _) h = absurd h
mark_apply s (pair a b) h = absurd h

pub made_of_apply : (ok : Shape) (s : Hole → Term) (r : TermRole) (t : Term) → AreMadeOf ok s → IsMadeOf ok r t → IsMadeOf ok r (apply s t)
made_of_apply ok s whole (hole k) f h = f k
made_of_apply ok s whole (leaf g) f h = absurd h
made_of_apply ok s whole (pair a b) f h =
    (head_apply ok s a (width (apply s b)) (width b) (width_apply ok s b h.1) h.0, made_of_apply ok s rest b f h.1)
made_of_apply ok s part (hole k) f h = absurd h
made_of_apply ok s part (leaf g) f h = absurd h
made_of_apply ok s part (pair a b) f h = (mark_apply s a h.0, made_of_apply ok s whole b f h.1)
made_of_apply ok s rest (hole k) f h = absurd h
made_of_apply ok s rest (leaf g) f h = h
made_of_apply ok s rest (pair a b) f h = (made_of_apply ok s part a f h.0, made_of_apply ok s rest b f h.1)

-- ---- what was there before holes were replaced

head_is_none : (ok : Shape) (t : Term) (n : ℕ) → IsMadeOf ok whole t → IsHead ok t n → ⊥
head_is_none ok (hole k) n h g = g
head_is_none ok (leaf x) n h g = h
head_is_none ok (pair a b) n h g = g

mark_is_none : (ok : Shape) (t : Term) → IsMadeOf ok whole t → IsTypeMark t → ⊥
mark_is_none ok (hole k) h g = g
mark_is_none ok (leaf x) h g = h
mark_is_none ok (pair a b) h g = g

mark_is_no_head : (ok : Shape) (t : Term) (n : ℕ) → NoMark ok → IsHead ok t n → IsTypeMark t → ⊥
mark_is_no_head ok (hole k) n m h g = h
mark_is_no_head ok (leaf head.TypePart) n m h g = both_ways (ok head.TypePart n) (m n) h
mark_is_no_head ok (leaf _) n m h g = g
mark_is_no_head ok (pair a b) n m h g = h

part_is_none : (ok : Shape) (t : Term) → NoMark ok → IsMadeOf ok whole t → IsMadeOf ok part t → ⊥
part_is_none ok (hole k) m h g = g
part_is_none ok (leaf x) m h g = h
part_is_none ok (pair a b) m h g = mark_is_no_head ok a (width b) m h.0 g.0

head_is_no_part : (ok : Shape) (t : Term) (n : ℕ) → IsHead ok t n → IsMadeOf ok part t → ⊥
head_is_no_part ok (hole k) n h g = h
head_is_no_part ok (leaf x) n h g = g
head_is_no_part ok (pair a b) n h g = h

rest_is_none : (ok : Shape) (t : Term) → IsMadeOf ok whole t → IsMadeOf ok rest t → ⊥
rest_is_none ok (hole k) h g = g
rest_is_none ok (leaf x) h g = h
rest_is_none ok (pair a b) h g = head_is_no_part ok a (width b) h.0 g.0

head_within : (ok : Shape) (s : Hole → Term) (t : Term) (m n : ℕ) → m ≡ n → AreMadeOf ok s → IsHead ok (apply s t) m → IsHead ok t n
head_within ok s (hole k) m n e f h = absurd (head_is_none ok (s k) m (f k) h)
head_within ok s (leaf g) m n e f h = ap (ok g) (sym e) ∙ h
head_within ok s (pair a b) m n e f h = absurd h

mark_within : (ok : Shape) (s : Hole → Term) (t : Term) → AreMadeOf ok s → IsTypeMark (apply s t) → IsTypeMark t
mark_within ok s (hole k) f h = absurd (mark_is_none ok (s k) (f k) h)
mark_within ok s (leaf g) f h = h
mark_within ok s (pair a b) f h = absurd h

pub made_of_within : (ok : Shape) (s : Hole → Term) (r : TermRole) (t : Term) → NoMark ok → AreMadeOf ok s → IsMadeOf ok r (apply s t)
    → IsMadeOf ok r t
made_of_within ok s whole (hole k) m f h = tt
made_of_within ok s whole (leaf g) m f h = absurd h
made_of_within ok s whole (pair a b) m f h =
    let parts = made_of_within ok s rest b m f h.1 in
    (head_within ok s a (width (apply s b)) (width b) (width_apply ok s b parts) f h.0, parts)
made_of_within ok s part (hole k) m f h = absurd (part_is_none ok (s k) m (f k) h)
made_of_within ok s part (leaf g) m f h = absurd h
made_of_within ok s part (pair a b) m f h = (mark_within ok s a f h.0, made_of_within ok s whole b m f h.1)
made_of_within ok s rest (hole k) m f h = absurd (rest_is_none ok (s k) (f k) h)
made_of_within ok s rest (leaf g) m f h = h
made_of_within ok s rest (pair a b) m f h = (made_of_within ok s part a m f h.0, made_of_within ok s rest b m f h.1)

made_of_single : (ok : Shape) (k : Hole) (u : Term) (b : Bool) → IsMadeOf ok whole u → IsMadeOf ok whole (cond b u (hole k))
made_of_single ok k u true h = h
made_of_single ok k u false h = tt

pub made_of_sub : (ok : Shape) (x : Hole) (u t : Term) → IsMadeOf ok whole u → IsMadeOf ok whole t → IsMadeOf ok whole (sub x u t)
made_of_sub ok x u t h g = made_of_apply ok (single x u) whole t (λ k. made_of_single ok k u (hole_eq x k) h) g

pub made_of_resolved : (ok : Shape) (l : Log) (t : Term) → BindsOnly ok l → IsMadeOf ok whole t → IsMadeOf ok whole (resolved l t)
made_of_resolved ok [] t h g = g
made_of_resolved ok (p ∷ l) t h g = made_of_resolved ok l (sub p.0 p.1 t) h.1 (made_of_sub ok p.0 p.1 t h.0 g)

-- ---- without aliases and unknowns

-- none of these heads is that of an alias or of `{unknown}`, and none is a mark
pub record NoAlias (ok : Shape) : Type 0 where
  pub projection : (id : TypeAliasId) (n : ℕ) → ok (head.Projection id) n ≡ false
  pub opaque : (id : OpaqueId) (n : ℕ) → ok (head.Opaque id) n ≡ false
  pub error : (n : ℕ) → ok head.Error n ≡ false
  pub unknown_const : (n : ℕ) → ok head.UnknownConst n ≡ false
  pub no_mark : NoMark ok

plain_head : (ok : Shape) → NoAlias ok → (h : Head) (n : ℕ) (b : Term) → IsTrue (ok h n) → place (pair (leaf h) b) ≡ plain
plain_head ok a (head.Projection id) n b e = absurd (both_ways (ok (head.Projection id) n) (a.projection id n) e)
plain_head ok a (head.Opaque id) n b e = absurd (both_ways (ok (head.Opaque id) n) (a.opaque id n) e)
plain_head ok a head.Error n b e = absurd (both_ways (ok head.Error n) (a.error n) e)
plain_head ok a head.UnknownConst n b e = absurd (both_ways (ok head.UnknownConst n) (a.unknown_const n) e)
plain_head ok a _ n b e = refl

plain_first : (ok : Shape) → NoAlias ok → (a b : Term) (n : ℕ) → IsHead ok a n → place (pair a b) ≡ plain
plain_first ok n (hole k) b m h = absurd h
plain_first ok n (leaf g) b m h = plain_head ok n g m b h
plain_first ok n (pair a c) b m h = absurd h

plain_mark : (a b : Term) → IsTypeMark a → place (pair a b) ≡ plain
plain_mark (hole k) b h = absurd h
plain_mark (leaf head.TypePart) b h = refl
plain_mark (leaf _) b h = absurd h
plain_mark (pair a c) b h = absurd h

mark_is_plain : (a : Term) → IsTypeMark a → IsPlain a
mark_is_plain (hole k) h = absurd h
mark_is_plain (leaf g) h = tt
mark_is_plain (pair a c) h = absurd h

head_is_plain : (ok : Shape) (a : Term) (n : ℕ) → IsHead ok a n → IsPlain a
head_is_plain ok (hole k) n h = absurd h
head_is_plain ok (leaf g) n h = tt
head_is_plain ok (pair a c) n h = absurd h

plain_part : (ok : Shape) (a b : Term) → IsMadeOf ok part a → place (pair a b) ≡ plain
plain_part ok (hole k) b h = absurd h
plain_part ok (leaf g) b h = absurd h
plain_part ok (pair a c) b h = refl

plain_as : (ok : Shape) → NoAlias ok → (r : TermRole) (t : Term) → IsMadeOf ok r t → IsPlain t
plain_as ok n whole (hole k) h = tt
plain_as ok n whole (leaf g) h = absurd h
plain_as ok n whole (pair a b) h = (plain_first ok n a b (width b) h.0, head_is_plain ok a (width b) h.0, plain_as ok n rest b h.1)
plain_as ok n part (hole k) h = absurd h
plain_as ok n part (leaf g) h = absurd h
plain_as ok n part (pair a b) h = (plain_mark a b h.0, mark_is_plain a h.0, plain_as ok n whole b h.1)
plain_as ok n rest (hole k) h = absurd h
plain_as ok n rest (leaf g) h = tt
plain_as ok n rest (pair a b) h = (plain_part ok a b h.0, plain_as ok n part a h.0, plain_as ok n rest b h.1)

pub plain_of : (ok : Shape) → NoAlias ok → (t : Term) → IsMadeOf ok whole t → IsPlain t
plain_of ok n t h = plain_as ok n whole t h

-- a plain term is read as itself
pub reads_plain : (s : Hole → Term) (t : Term) → IsPlain t → IsReadAs s t (apply s t)
reads_plain s t h = reads_apply s 0 t (apply s t) (ap (λ (x : Term × ℕ). apply s x.0) (opened_plain 0 t h))

-- ---- terms with one type without parts in the place of each that is not of these heads

abbrev pub bare : Head → Term
bare h = pair (leaf h) (leaf head.End)

abbrev pub only_over : Shape → Head → Term → Term → Term → Term
only_over ok h (leaf g) b kept = if ok g (width b) then pair (leaf g) kept else bare h
only_over ok h (hole k) b kept = bare h
only_over ok h (pair a c) b kept = bare h

abbrev pub only : Shape → Head → TermRole → Term → Term
only ok h whole (hole k) = hole k
only ok h whole (leaf g) = bare h
only ok h whole (pair a b) = only_over ok h a b (only ok h rest b)
only ok h part (hole k) = pair (leaf head.TypePart) (bare h)
only ok h part (leaf g) = pair (leaf head.TypePart) (bare h)
only ok h part (pair a b) = pair (leaf head.TypePart) (only ok h whole b)
only ok h rest (hole k) = leaf head.End
only ok h rest (leaf g) = leaf head.End
only ok h rest (pair a b) = pair (only ok h part a) (only ok h rest b)

width_only : (ok : Shape) (h : Head) (t : Term) → width (only ok h rest t) ≡ width t
width_only ok h (hole k) = refl
width_only ok h (leaf g) = refl
width_only ok h (pair a b) = ap suc (width_only ok h b)

over_made : (ok : Shape) (h g : Head) (b kept : Term) (v : Bool) → ok g (width b) ≡ v → IsTrue (ok h 0) → width kept ≡ width b
    → IsMadeOf ok rest kept → IsMadeOf ok whole (cond v (pair (leaf g) kept) (bare h))
over_made ok h g b kept true e i w k = (ap (ok g) w ∙ e, k)
over_made ok h g b kept false e i w k = (i, tt)

over_is_made : (ok : Shape) (h : Head) (a b kept : Term) → IsTrue (ok h 0) → width kept ≡ width b → IsMadeOf ok rest kept
    → IsMadeOf ok whole (only_over ok h a b kept)
over_is_made ok h (hole k) b kept i w m = (i, tt)
over_is_made ok h (leaf g) b kept i w m = over_made ok h g b kept (ok g (width b)) refl i w m
over_is_made ok h (pair a c) b kept i w m = (i, tt)

only_is_made : (ok : Shape) (h : Head) (r : TermRole) (t : Term) → IsTrue (ok h 0) → IsMadeOf ok r (only ok h r t)
only_is_made ok h whole (hole k) i = tt
only_is_made ok h whole (leaf g) i = (i, tt)
only_is_made ok h whole (pair a b) i = over_is_made ok h a b (only ok h rest b) i (width_only ok h b) (only_is_made ok h rest b i)
only_is_made ok h part (hole k) i = (tt, (i, tt))
only_is_made ok h part (leaf g) i = (tt, (i, tt))
only_is_made ok h part (pair a b) i = (tt, only_is_made ok h whole b i)
only_is_made ok h rest (hole k) i = tt
only_is_made ok h rest (leaf g) i = tt
only_is_made ok h rest (pair a b) i = (only_is_made ok h part a i, only_is_made ok h rest b i)

-- a term of these heads keeps them under an assignment

end_is : (g : Head) → IsEnd g → leaf head.End ≡ leaf g
end_is head.End h = refl
end_is _ h = absurd h

over_apply : (ok : Shape) (h : Head) (s : Hole → Term) (a b c kept : Term) (n : ℕ) → width b ≡ n → IsHead ok a n
    → only_over ok h (apply s a) b kept ≡ pair (apply s a) kept
over_apply ok h s (hole k) b c kept n w i = absurd i
over_apply ok h s (leaf g) b c kept n w i = ap (λ (v : Bool). cond v (pair (leaf g) kept) (bare h)) (ap (ok g) w ∙ i)
over_apply ok h s (pair a d) b c kept n w i = absurd i

head_apply_same : (ok : Shape) (s z : Hole → Term) (a : Term) (n : ℕ) → IsHead ok a n → apply s a ≡ apply z a
head_apply_same ok s z (hole k) n i = absurd i
head_apply_same ok s z (leaf g) n i = refl
head_apply_same ok s z (pair a b) n i = absurd i

mark_apply_same : (z : Hole → Term) (a : Term) → IsTypeMark a → leaf head.TypePart ≡ apply z a
mark_apply_same z (hole k) i = absurd i
mark_apply_same z (leaf head.TypePart) i = refl
mark_apply_same z (leaf _) i = absurd i
mark_apply_same z (pair a b) i = absurd i

only_apply : (ok : Shape) (h : Head) (s : Hole → Term) (r : TermRole) (t : Term) → IsMadeOf ok r t
    → only ok h r (apply s t) ≡ apply (λ k. only ok h whole (s k)) t
only_apply ok h s whole (hole k) i = refl
only_apply ok h s whole (leaf g) i = absurd i
only_apply ok h s whole (pair a b) i =
    let z : Hole → Term = λ k. only ok h whole (s k) in
    over_apply ok h s a (apply s b) b (only ok h rest (apply s b)) (width b) (width_apply ok s b i.1) i.0
    ∙ ap₂ pair (head_apply_same ok s z a (width b) i.0) (only_apply ok h s rest b i.1)
only_apply ok h s part (hole k) i = absurd i
only_apply ok h s part (leaf g) i = absurd i
only_apply ok h s part (pair a b) i =
    let z : Hole → Term = λ k. only ok h whole (s k) in
    ap₂ pair (mark_apply_same z a i.0) (only_apply ok h s whole b i.1)
only_apply ok h s rest (hole k) i = absurd i
only_apply ok h s rest (leaf g) i = end_is g i
only_apply ok h s rest (pair a b) i = ap₂ pair (only_apply ok h s part a i.0) (only_apply ok h s rest b i.1)

only_solves : (ok : Shape) (h : Head) (s : Hole → Term) (l : Log) → BindsOnly ok l → Solves s l → Solves (λ k. only ok h whole (s k)) l
only_solves ok h s [] i g = tt
only_solves ok h s (p ∷ l) i g = (ap (only ok h whole) g.0 ∙ only_apply ok h s whole p.1 i.0, only_solves ok h s l i.1 g.1)

-- what an assignment of these heads solves has no others
solved_only : (ok : Shape) (s : Hole → Term) (l : Log) → NoMark ok → AreMadeOf ok s → Solves s l → BindsOnly ok l
solved_only ok s [] m f g = tt
solved_only ok s (p ∷ l) m f g =
    let P : Term → Type 0 = IsMadeOf ok whole in
    (made_of_within ok s whole p.1 m f (subst P g.0 (f p.0)), solved_only ok s l m f g.1)

-- ---- unification of types of these heads

pub made_of_resolved_term : (ok : Shape) (state : State) (t : Ty) → BindsOnly ok (log_of (bindings state)) → IsMadeOf ok whole (term t)
    → IsMadeOf ok whole (resolved_term state t)
made_of_resolved_term ok state t h g =
    let P : Term → Type 0 = IsMadeOf ok whole in
    subst P (sym (resolution_term (bindings state) t)) (made_of_resolved ok (log_of (bindings state)) (term t) h g)

-- an assignment that meets the state does not tell a type from what it resolves to
pub apply_resolved_term : (s : Hole → Term) (state : State) (t : Ty) → Meets s state → apply s (resolved_term state t) ≡ apply s (term t)
apply_resolved_term s state t m = ap (apply s) (resolution_term (bindings state) t) ∙ resolved_apply s (log_of (bindings state)) (term t) m

pub meets_before : (before after : State) (a b : Ty) → AreUnified before after a b → (s : Hole → Term) → Meets s after → Meets s before
meets_before before after a b u s m =
    let P : List Binding → Type 0 = λ bs. Solves s (log_of bs) in
    let Q : Log → Type 0 = Solves s in
    let more = u.grown.log.0 in
    solves_left s (log_of (bindings before)) (log_of more) (subst Q (map-append _ (bindings before) more) (subst P u.grown.log.1 m))

most_general_of : (ok : Shape) → NoAlias ok → (before after : State) (a b : Ty) → AreUnified before after a b
    → BindsOnly ok (log_of (bindings before)) → IsMadeOf ok whole (term a) → IsMadeOf ok whole (term b) → IsMostGeneral before after a b
most_general_of ok n before after a b u h i j = u.most_general
    (plain_of ok n (resolved_term before a) (made_of_resolved_term ok before a h i))
    (plain_of ok n (resolved_term before b) (made_of_resolved_term ok before b h j))

-- each assignment that meets the state after makes the two equal
pub unified_makes_same : (ok : Shape) (before after : State) (a b : Ty) → NoAlias ok → BindsOnly ok (log_of (bindings before))
    → IsMadeOf ok whole (term a) → IsMadeOf ok whole (term b) → AreUnified before after a b → (s : Hole → Term) → Meets s after
    → apply s (term a) ≡ apply s (term b)
unified_makes_same ok before after a b n h i j u s m = (most_general_of ok n before after a b u h i j).unifies s m

-- holes are bound to heads of the two types and of earlier bindings alone
pub binds_only_unified : (ok : Shape) → NoAlias ok → (h : Head) → IsTrue (ok h 0) → (before after : State) (a b : Ty)
    → AreUnified before after a b → (s : Hole → Term) → Meets s after → BindsOnly ok (log_of (bindings before))
    → IsMadeOf ok whole (term a) → IsMadeOf ok whole (term b) → BindsOnly ok (log_of (bindings after))
binds_only_unified ok n h e before after a b u s m i j k =
    let most = most_general_of ok n before after a b u i j k in
    let z : Hole → Term = λ x. only ok h whole (s x) in
    let same = sym (only_apply ok h s whole (term a) j) ∙ ap (only ok h whole) (most.unifies s m) ∙ only_apply ok h s whole (term b) k in
    let solved = most.general z (only_solves ok h s (log_of (bindings before)) i (meets_before before after a b u s m)) same in
    solved_only ok z (log_of (bindings after)) n.no_mark (λ x. only_is_made ok h whole (s x) e) solved

-- no assignment that meets the state makes two types equal that were refused
pub refused_apart : (ok : Shape) (before : State) (a b : Ty) → NoAlias ok → BindsOnly ok (log_of (bindings before))
    → IsMadeOf ok whole (term a) → IsMadeOf ok whole (term b) → (CanBeEqual before a b → ⊥) → (s : Hole → Term) → Respects s
    → Meets s before → apply s (term a) ≡ apply s (term b) → ⊥
refused_apart ok before a b n h i j apart s r m e =
    let p = plain_of ok n (resolved_term before a) (made_of_resolved_term ok before a h i) in
    let q = plain_of ok n (resolved_term before b) (made_of_resolved_term ok before b h j) in
    let P : Term → Type 0 = IsReadAs s (resolved_term before b) in
    let same = apply_resolved_term s before b m ∙ sym e ∙ sym (apply_resolved_term s before a m) in
    apart (
      s,
      apply s (resolved_term before a),
      r,
      m,
      reads_plain s (resolved_term before a) p,
      subst P same
          (reads_plain s (resolved_term before b) q),
    )
