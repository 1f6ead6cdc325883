-- What written types stand for, part by part.
use Rattle.std.proofs.Common.{◌≡◌, ◌<◌, ◌≤◌, ℕ, List, length, get_or, slice_get, map, take, Some, option_map, refl, sym, ◌∙◌, ap}
use Rattle.std.proofs.lemmas.List.{take_all}
use Rattle.std.proofs.lemmas.Option.{slice_get_read, slice_get-get_or}
use Rattle.hir_facts.specs.Words.{TypeRefId, RawType, Ty, GenericArg, type_parts, lowered, lowered_by, opened_type, opened, opened_at}
use Rattle.hir_raw.specs.declared.raw.RawType.TheVariants as type
use Rattle.hir_types.specs.declared.ty.Ty.TheVariants as ty
use Rattle.hir_types.specs.declared.ty.GenericArg.TheVariants as arg
use Rattle.hir_facts.specs.Own.{AllHold, ChildrenBefore, lowered_parts, opened_before}

pub part_below : (types : List RawType) (t : ℕ) (x y : RawType) (items : List TypeRefId) (i : ℕ) (d : TypeRefId) → AllHold ChildrenBefore types → t < length types → x ≡ get_or types t x → x ≡ y → items ≡ type_parts y → i < length items → (get_or items i d).0 < t
part_below types t x y items i d all lt read is same below =
    let before : ChildrenBefore t x = all t x (slice_get_read types (length types) t x refl lt read) in
    let before2 : ChildrenBefore t y = rw is at before in
    before2 i (get_or items i d) (rw (← same) (slice_get-get_or items i d below))

module _ (n : ℕ) (ks : List ℕ) (types : List RawType) (t : ℕ) where
  abbrev open_types : List RawType
  open_types = opened n ks types

  -- by what is written there, and how that is read
  pub lowered_here : (x y z : RawType) → AllHold ChildrenBefore types → t < length types → x ≡ get_or types t x → x ≡ y → opened_type n ks t y ≡ z → lowered_by (lowered open_types) (Some z) ≡ lowered open_types t
  lowered_here x y z all lt read is reads =
      let at : slice_get types t ≡ Some y = slice_get_read types (length types) t x refl lt read ∙ ap Some is in
      let at2 : slice_get open_types t ≡ Some z = opened_at n ks types t ∙ (ap (option_map (opened_type n ks t)) at ∙ ap Some reads) in
      sym (lowered_parts open_types (opened_before n ks types all) t z at2)

  pub tuple_here : (x : RawType) (parts items : List TypeRefId) (tys : List Ty) (i : ℕ) → AllHold ChildrenBefore types → t < length types → x ≡ get_or types t x → x ≡ type.Tuple parts → items ≡ parts
      → tys ≡ map (λ (p : TypeRefId). lowered open_types p.0) (take i items) → length items ≤ i → ty.Tuple tys ≡ lowered open_types t
  tuple_here x parts items tys i all lt read is same made le =
      let whole : take i items ≡ parts = take_all i items le ∙ same in
      let made2 : tys ≡ map (λ (p : TypeRefId). lowered open_types p.0) parts = made ∙ ap (map (λ (p : TypeRefId). lowered open_types p.0)) whole in
      ap ty.Tuple made2 ∙ lowered_here x (type.Tuple parts) (type.Tuple parts) all lt read is refl

  -- one at arguments
  pub args_here : (x y : RawType) (make : List GenericArg → Ty) (parts items : List TypeRefId) (tys : List GenericArg) (i : ℕ) → AllHold ChildrenBefore types → t < length types → x ≡ get_or types t x → x ≡ y → opened_type n ks t y ≡ y
      → lowered_by (lowered open_types) (Some y) ≡ make (map (λ (p : TypeRefId). arg.Ty (lowered open_types p.0)) parts) → items ≡ parts
      → tys ≡ map (λ (p : TypeRefId). arg.Ty (lowered open_types p.0)) (take i items) → length items ≤ i → make tys ≡ lowered open_types t
  args_here x y make parts items tys i all lt read is stays makes same made le =
      let whole : take i items ≡ parts = take_all i items le ∙ same in
      let made2 : tys ≡ map (λ (p : TypeRefId). arg.Ty (lowered open_types p.0)) parts = made ∙ ap (map (λ (p : TypeRefId). arg.Ty (lowered open_types p.0))) whole in
      ap make made2 ∙ (sym makes ∙ lowered_here x y y all lt read is stays)
