-- Patterns of constructors, under each assignment.
use Rattle.std.proofs.Common.{◌≡◌, Some, ◌<◌, ◌⊎◌, inl, inr, List, length, refl, sym, ap, subst, ◌∙◌, arith, Option, slice_get, ℕ, suc, None, ◌+◌, ◌≤◌, get_or, map, take, drop, [], ◌∷◌, ◌++◌}
use Rattle.std.proofs.Math.ListN.{drop_of_length-le}
use Rattle.std.proofs.lemmas.List.{length-append, length-map, length-take-le, map-append, take-append-drop, take-map}
use Rattle.std.proofs.lemmas.Option.{slice_get_read, slice_get_within, slice_get-map}
use Rattle.infer_pat.specs.Words.{PatId, VariantId, Ty, RawVariant, Schedule, IsCarriedType, IsItemOfPat, PatItem, Given, PatIsAtOrMismatch, IsCtorAt, adt_at, fields_at, IsCtorPath, PatsAtFields, IsItemOf, IsPatOf, IsVariant, Assignment, folded, GenericArg, map_twice, RawField, RawType, variant_aliases, ctor_item, taken_types, variant_types, type_args, at_args, written_type, RawPath, Grew, IsOfBody, SaysItsType, InferenceContext, IsSound, found_under, Closes, expected_under, Found, with_pat_item, ArePartTypes, Follows, IsFree, field_at, IsFine, IsFineExpectation, AllFine, ReadsPat, types_scope, variant_arity}
use Rattle.infer_pat.proofs.Words.{pat_at_kept, pat_of_kept, lt_or_ge, slice_get-append_left, pat_named, ctor_pattern, grew_itself, grew_twice, told_same, told_beside, told_entered, follows_itself, follows_twice, closes_before, of_body_pat_diagnostic, of_body_pat_item, pat_item_under, sound_pat_diagnostic, sound_pat_item, same_found, closes_earlier, every_at, every_from, fine_grown, fine_instances, instances_under, fine_closed, adt_closed, fn_def_closed, get_from_take}
use Rattle.infer_pat.specs.Own.{ComesToPat, IsCtorPatOf, PartsAreCounted, IsPatPlaced, IsPathPatOf, PartsCounted, PatDemanded, CtorDemanded, ItemRead, BeforePat, PatIsDemanded, PatDone, AreFreshArgs, NamesTyped, PathDone, IsPathType}
use Rattle.infer_pat.proofs.PatDemands.{entered_opening, Demands, pat_demanded}
use Rattle.infer_pat.proofs.PatSteps.{enters_more, enters_done, before_pat_under}
use Rattle.infer_pat.proofs.Pats.{pat_rule_of}
use Rattle.infer_pat.proofs.PathWalk.{adt_fine, ctor_item_fine, ctor_under, variant_under}
use Rattle.infer_pat.proofs.CtorPats.{Counted, parts_counted, path_pat_done, parts_at}
use Rattle.infer_pat.proofs.PatItems.{counted_items, demanded_items, item_demands, item_has}
use Rattle.infer_pat.proofs.PatParts.{AtPat, begins_pats, comes_to_pat, past_pat, pats_past}
use Rattle.hir_types.specs.declared.ids.CallableDefId.TheVariants as callable
use Rattle.hir_types.specs.declared.ids.ExprOrPatId.TheVariants as node
use Rattle.hir_types.specs.declared.ty.GenericArg.TheVariants as arg
use Rattle.infer_pat.specs.Words.hir_raw.declared.raw.RawCtor.TheVariants as ctor
use Rattle.infer_pat.specs.Words.hir_raw.declared.raw.RawPat.TheVariants as pat
use Rattle.infer_pat.specs.Words.hir_raw.declared.raw.RawPath.TheVariants as path
use Rattle.infer_pat.specs.Words.infer_result.declared.diagnostics.InferenceDiagnostic.TheVariants as diagnostic
use Rattle.hir_types.specs.declared.ty.Ty.TheVariants as ty
use Rattle.infer_pat.specs.Words.infer_ctx.Context as context
use Rattle.infer_pat.specs.Words.infer_ctx.Found as found
use Rattle.infer_pat.specs.Words.infer_result.Columns as column

-- ---- the number of parts

-- what is said of it leaves all else
pub counted_follows : (g : Given) (p : PatId) (n m : ℕ) (old new : InferenceContext) → IsOfBody g.body old.result → IsSound g.scope old → PartsCounted p n m old new → Follows g old new
counted_follows g p n m old new h s (inl k) = subst (λ c. Follows g old c) (sym k.1) (follows_itself g old h s)
counted_follows g p n m old new h s (inr k) =
    let d = diagnostic.MismatchedTupleStructPatArgCount (node.PatId p) n m in
    subst (λ c. Follows g old c) (sym k.1) (record {
      clock = omega arith;
      grew = grew_itself old.goals.table;
      sources = refl;
      of_body = of_body_pat_diagnostic g.body old h p d;
      sound = sound_pat_diagnostic old s p d;
      told = told_beside g old (context.with_pat_diagnostic old p d) refl refl refl;
    })

counted_clock : (p : PatId) (n m : ℕ) (old new : InferenceContext) → PartsCounted p n m old new → new.clock ≡ old.clock
counted_clock p n m old new (inl k) = ap (λ c. c.clock) k.1
counted_clock p n m old new (inr k) = ap (λ c. c.clock) k.1

counted_under : (a : Assignment) (p : PatId) (n m : ℕ) (old new : InferenceContext) → PartsCounted p n m old new → PartsAreCounted p n m (found_under a old) (found_under a new)
counted_under a p n m old new (inl k) = inl (k.0, ap (λ c. found_under a c) k.1)
counted_under a p n m old new (inr k) = inr (k.0, ap (λ c. found_under a c) k.1)

-- ---- what comes in

-- a constructor with associated types in its fields has fields
with_aliases : (g : Given) (v : VariantId) (item : IsVariant g.scope.facts v) → (variant_aliases g.scope.facts.types item.variant ≡ [] → ⊥) → item.variant.ctor ≡ ctor.Tuple
with_aliases g v item some = elim item.unnamed [ inl u ↦ absurd (some (item.unit u)) | inr t ↦ t ]

-- the variant is the one that the facts give, and the parameters of its constructor are new holes
module _ (g : Given) (v : VariantId) (item : IsVariant g.scope.facts v) (y : RawVariant) (same : y ≡ item.variant) (xs : List GenericArg) (old holed : InferenceContext)
    (fresh : AreFreshArgs g.scope (variant_arity g.scope.facts.types item.variant item.params) xs old holed) where
  abbrev raw_types : List RawType
  raw_types = g.scope.facts.types

  abbrev open_types : List RawType
  open_types = variant_types raw_types item.params item.variant

  -- the first holes are the adt's, the others those of associated types in the fields
  abbrev own_types : List Ty
  own_types = take item.params fresh.types

  abbrev hidden_types : List Ty
  hidden_types = drop item.params fresh.types

  both : own_types ++ hidden_types ≡ fresh.types
  both = take-append-drop item.params fresh.types

  own_count : length own_types ≡ item.params
  own_count = length-take-le item.params fresh.types (omega (arith, fresh.made.count_is))

  module _ (zs : List GenericArg) (first : zs ≡ take item.params xs) where
    own_adt_is : ty.Adt item.variant.adt (type_args own_types) ≡ ty.Adt y.adt zs
    own_adt_is =
        ap (λ (z : RawVariant). ty.Adt z.adt (type_args own_types)) (sym same)
        ∙ ap (ty.Adt y.adt) (sym (take-map arg.Ty item.params fresh.types) ∙ (ap (take item.params) (sym fresh.are) ∙ sym first))

    -- the type of the adt is fine
    pub own_adt_fine : IsFine g.scope holed.goals.table (ty.Adt y.adt zs)
    own_adt_fine =
        let fine : AllFine g.scope holed.goals.table own_types = every_from (IsFine g.scope holed.goals.table) own_types (λ i t at. fresh.made.fine i t (get_from_take fresh.types item.params i t at).1) in
        subst (λ t. IsFine g.scope holed.goals.table t) own_adt_is (adt_fine g v item own_types own_count holed.goals.table fine)

    fields_of : (ss : List Ty) → ((z : RawVariant) → slice_get g.scope.facts.variants v.0 ≡ Some z → ss ≡ map (field_at (variant_types raw_types item.params z) xs) z.fields) → ss ≡ map (at_args (own_types ++ hidden_types)) (taken_types raw_types item.params item.variant)
    fields_of ss h =
        h item.variant item.found
        ∙ (ap (λ us. map (field_at open_types us) item.variant.fields) (fresh.are ∙ ap type_args (sym both))
        ∙ sym (map_twice (at_args (own_types ++ hidden_types)) (λ (f : RawField). written_type open_types f.type_) item.variant.fields))

    pub ctor_demanded : (p : PatId) (parts : ℕ) (ss : List Ty) (x : Option Ty) (told typed new : InferenceContext) → ((z : RawVariant) → slice_get g.scope.facts.variants v.0 ≡ Some z → ss ≡ map (field_at (variant_types raw_types item.params z) xs) z.fields)
        → PartsCounted p (length y.fields) parts holed told → PatDemanded g p (ty.Adt y.adt zs) x told typed → ItemRead g p v own_types hidden_types typed new → CtorDemanded g p v parts ss x old new
    ctor_demanded p parts ss x told typed new h counted demanded read = record {
      item = item;
      types = own_types;
      hidden = hidden_types;
      own = own_count;
      fields = fields_of ss h;
      holed = holed;
      holes = subst (λ ts. ArePartTypes g.scope (variant_arity raw_types item.variant item.params) ts old holed) (sym both) fresh.made;
      told = told;
      counted = subst (λ (z : RawVariant). PartsCounted p (length z.fields) parts holed told) same counted;
      typed = typed;
      demanded = subst (λ t. PatDemanded g p t x told typed) (sym own_adt_is) demanded;
      read = read;
    }

  -- ---- the item

  has_hidden : item.params < variant_arity raw_types item.variant item.params → hidden_types ≡ [] → ⊥
  has_hidden more none =
      let count : length own_types + length hidden_types ≡ length fresh.types = sym (length-append own_types hidden_types) ∙ ap length both in
      let zero : length hidden_types ≡ 0 = ap length none in
      absurd (omega (arith, count, zero, own_count, fresh.made.count_is, more))

  read_by : (p : PatId) (hs : List Ty) (typed new : InferenceContext) → (hs ≡ [] → ⊥) → ReadsPat g p.0 (context.with_pat_item typed p (ctor_item v (own_types ++ hs))) new → ItemRead g p v own_types hs typed new
  read_by p [] typed new some reads = absurd (some refl)
  read_by p (h ∷ hs) typed new some reads = reads

  -- where there are more holes than the adt's it is recorded and read
  pub item_read : (p : PatId) (typed new : InferenceContext) → item.params < variant_arity raw_types item.variant item.params → ReadsPat g p.0 (context.with_pat_item typed p (ty.FnDef (callable.VariantId v) xs)) new → ItemRead g p v own_types hidden_types typed new
  item_read p typed new more reads =
      read_by p hidden_types typed new (has_hidden more)
      (subst (λ us. ReadsPat g p.0 (context.with_pat_item typed p (ty.FnDef (callable.VariantId v) us)) new) (fresh.are ∙ ap type_args (sym both)) reads)

  -- else there is none
  pub no_item_read : (p : PatId) (typed : InferenceContext) → variant_arity raw_types item.variant item.params ≤ item.params → ItemRead g p v own_types hidden_types typed typed
  no_item_read p typed no_more = subst (λ hs. ItemRead g p v own_types hs typed typed) (sym (drop_of_length-le fresh.types (omega (arith, fresh.made.count_is, no_more)))) refl

  -- it is fine
  pub item_is_fine : item.params < variant_arity raw_types item.variant item.params → IsFine g.scope holed.goals.table (ty.FnDef (callable.VariantId v) xs)
  item_is_fine more =
      let takes_fields : item.variant.ctor ≡ ctor.Tuple = with_aliases g v item (λ none. absurd (let zero : length (variant_aliases raw_types item.variant) ≡ 0 = ap length none in omega (arith, zero, more))) in
      subst (λ us. IsFine g.scope holed.goals.table (ty.FnDef (callable.VariantId v) us)) (sym fresh.are) (ctor_item_fine g v item fresh.types old holed fresh.made takes_fields)

-- ---- the pattern, before its parts

-- the adt of the variant v is asked of what comes into the pattern p, and ss are the types of its fields
pub record CtorPatBegun (g : Given) (s : Schedule) (p : PatId) (v : VariantId) (ps : List PatId) (ss : List Ty) (x : Option Ty) (old mid : InferenceContext) : Type 0 where
  pub before : BeforePat g s p x old
  pub is : IsCtorPatOf g.body p v ps
  pub asked : CtorDemanded g p v (length ps) ss x (context.entered old) mid

pub ctor_pat_begun : (g : Given) (s : Schedule) (p : PatId) (v : VariantId) (ps : List PatId) (ss made : List Ty) (x : Option Ty) (old first mid : InferenceContext) → BeforePat g s p x old → IsCtorPatOf g.body p v ps → first ≡ context.entered old → ss ≡ made → CtorDemanded g p v (length ps) made x first mid → CtorPatBegun g s p v ps ss x old mid
ctor_pat_begun g s p v ps ss made x old first mid h is at same d = record {
  before = h;
  is = is;
  asked = subst (λ c. CtorDemanded g p v (length ps) ss x c mid) at (subst (λ us. CtorDemanded g p v (length ps) us x first mid) (sym same) d);
}

module _ (g : Given) (s : Schedule) (p : PatId) (v : VariantId) (ps : List PatId) (ss : List Ty) (x : Option Ty) (old mid : InferenceContext) (b : CtorPatBegun g s p v ps ss x old mid) where
  abbrev asked : CtorDemanded g p v (length ps) ss x (context.entered old) mid
  asked = b.asked

  abbrev variant : RawVariant
  variant = asked.item.variant

  abbrev arity : ℕ
  arity = variant_arity g.scope.facts.types variant asked.item.params

  -- the types that stand for the parameters of the adt, and for the associated types in the fields, under an assignment
  abbrev types_at : Assignment → List Ty
  types_at a = map (folded a) asked.types

  abbrev hidden_at : Assignment → List Ty
  hidden_at a = map (folded a) asked.hidden

  holed_follows : Follows g asked.holed asked.told
  holed_follows =
      counted_follows g p (length variant.fields) (length ps) asked.holed asked.told
      (subst (λ r. IsOfBody g.body r) (sym asked.holes.result) b.before.state.of_body) asked.holes.sound asked.counted

  typed_follows : Follows g asked.holed asked.typed
  typed_follows = follows_twice g asked.holed asked.told asked.typed holed_follows asked.demanded.follows

  -- ---- the item

  -- where there is one, the constructor has fields
  item_tuple : (h : Ty) (hs : List Ty) → asked.hidden ≡ h ∷ hs → variant_aliases g.scope.facts.types variant ≡ [] → ⊥
  item_tuple h hs is none =
      let count : length asked.types + length asked.hidden ≡ arity = sym (length-append asked.types asked.hidden) ∙ asked.holes.count_is in
      let one : length asked.hidden ≡ suc (length hs) = ap length is in
      let zero : length (variant_aliases g.scope.facts.types variant) ≡ 0 = ap length none in
      absurd (omega (arith, count, one, zero, asked.own))

  abbrev item : Ty
  item = ctor_item v (asked.types ++ asked.hidden)

  item_fine : (h : Ty) (hs : List Ty) → asked.hidden ≡ h ∷ hs → IsFine g.scope asked.typed.goals.table item
  item_fine h hs is =
      fine_grown g.scope asked.holed.goals.table asked.typed.goals.table item typed_follows.grew
      (ctor_item_fine g v asked.item (asked.types ++ asked.hidden) (context.entered old) asked.holed asked.holes (with_aliases g v asked.item (item_tuple h hs is)))

  -- with the item recorded
  abbrev noted : InferenceContext
  noted = context.with_pat_item asked.typed p item

  noted_follows : IsFine g.scope asked.typed.goals.table item → Follows g asked.typed noted
  noted_follows fine = record {
    clock = omega arith;
    grew = grew_itself asked.typed.goals.table;
    sources = refl;
    of_body = of_body_pat_item g.body asked.typed asked.demanded.follows.of_body p item;
    sound = sound_pat_item asked.typed asked.demanded.follows.sound p item fine;
    told = told_beside g asked.typed noted refl refl refl;
  }

  -- it is, and what the associated types are is read, where there are any
  abbrev ItemCases : Type 0
  ItemCases = ((asked.hidden ≡ []) × (mid ≡ asked.typed)) ⊎ ((h : Ty) × (hs : List Ty) × (asked.hidden ≡ h ∷ hs) × ReadsPat g p.0 noted mid)

  item_cases : ItemCases
  item_cases = by_hidden asked.hidden refl asked.read
    where
      by_hidden : (hs : List Ty) → asked.hidden ≡ hs → ItemRead g p v asked.types hs asked.typed mid → ItemCases
      by_hidden [] is read = inl (is, read)
      by_hidden (h ∷ hs) is read = inr (h, hs, is, subst (λ us. ReadsPat g p.0 (context.with_pat_item asked.typed p (ctor_item v (asked.types ++ us))) mid) (sym is) read)

  item_follows : Follows g asked.typed mid
  item_follows = elim item_cases [
    | inl q ↦ subst (λ c. Follows g asked.typed c) (sym q.1) (follows_itself g asked.typed asked.demanded.follows.of_body asked.demanded.follows.sound)
    | inr q ↦ follows_twice g asked.typed noted mid (noted_follows (item_fine q.0 q.1 q.2)) q.3.reads.binds.follows
  ]

  item_clock : mid.clock ≡ asked.typed.clock
  item_clock = elim item_cases [ inl q ↦ ap (λ c. c.clock) q.1 | inr q ↦ q.3.reads.binds.clock ]

  after_holes : Follows g asked.holed mid
  after_holes = follows_twice g asked.holed asked.typed mid typed_follows item_follows

  pub begun_clock : mid.clock ≡ old.clock + 1
  begun_clock = item_clock ∙ (asked.demanded.clock ∙ (counted_clock p (length variant.fields) (length ps) asked.holed asked.told asked.counted ∙ asked.holes.clock))

  pub ctor_pat_follows : Follows g old mid
  ctor_pat_follows = record {
    clock = omega (arith, begun_clock);
    grew = grew_twice old.goals.table asked.holed.goals.table mid.goals.table asked.holes.grew after_holes.grew;
    sources = after_holes.sources ∙ asked.holes.stays.sources;
    of_body = item_follows.of_body;
    sound = item_follows.sound;
    told = λ told. after_holes.told (told_same g (context.entered old) asked.holed asked.holes.result asked.holes.stays asked.holes.grew (told_entered g old told));
  }

  fields_fine : AllFine g.scope asked.holed.goals.table ss
  fields_fine =
      subst (λ us. AllFine g.scope asked.holed.goals.table us) (sym asked.fields)
      (fine_instances g.scope asked.holed.goals.table arity (asked.types ++ asked.hidden) asked.holes.count_is (every_from (IsFine g.scope asked.holed.goals.table) (asked.types ++ asked.hidden) asked.holes.fine) (taken_types g.scope.facts.types asked.item.params variant) asked.item.fields)

  field_fine : (i : ℕ) (t : Ty) → slice_get ss i ≡ Some t → IsFine g.scope asked.holed.goals.table t
  field_fine i t is = every_at (IsFine g.scope asked.holed.goals.table) ss i t fields_fine is

  module _ (a : Assignment) (k : Closes a mid) where
    at_typed : Closes a asked.typed
    at_typed = closes_before g a asked.typed mid item_follows k

    at_old : Closes a old
    at_old = closes_before g a old mid ctor_pat_follows k

    begun_before : ComesToPat g s p (expected_under a x) (found_under a old)
    begun_before = before_pat_under g s a old at_old p x b.before

    begun_fields : map (folded a) ss ≡ fields_at g variant (length (types_at a)) (types_at a ++ hidden_at a)
    begun_fields =
        let us : List Ty = taken_types g.scope.facts.types asked.item.params variant in
        let own : asked.item.params ≡ length (types_at a) = sym asked.own ∙ sym (length-map asked.types (folded a)) in
        ap (map (folded a)) asked.fields
        ∙ (instances_under a (types_scope g.scope.facts arity) (asked.types ++ asked.hidden) us asked.item.fields
        ∙ (ap (λ ts. map (at_args ts) us) (map-append (folded a) asked.types asked.hidden)
        ∙ ap (λ n. fields_at g variant n (types_at a ++ hidden_at a)) own))

    begun_counted : Counted g s p v ps variant (expected_under a x) (found_under a old) begun_before b.is asked.item.found (found_under a asked.told)
    begun_counted =
        let e : found_under a asked.holed ≡ found.entered (found_under a old) = same_found a (context.entered old) asked.holed asked.holes.result asked.holes.asked asked.holes.clock in
        parts_counted g s p v ps variant (expected_under a x) (found_under a old) begun_before b.is asked.item.found (found_under a asked.told)
        (subst (λ f. PartsAreCounted p (length variant.fields) (length ps) f (found_under a asked.told)) e
        (counted_under a p (length variant.fields) (length ps) asked.holed asked.told asked.counted))

    -- the adt, asked of what comes in
    abbrev AdtDemanded : Found → Type 0
    AdtDemanded c = Demands g s p (adt_at variant (types_at a)) (expected_under a x) (found_under a old) (found_under a asked.told) c

    own_demanded : PatIsDemanded p (adt_at variant (types_at a)) (expected_under a x) (found_under a asked.told) (found_under a asked.typed)
    own_demanded = subst (λ t. PatIsDemanded p t (expected_under a x) (found_under a asked.told) (found_under a asked.typed)) (adt_closed a variant.adt asked.types) (asked.demanded.each a at_typed)

    typed_demands : AdtDemanded (found_under a asked.typed)
    typed_demands =
        let own : Ty = ty.Adt variant.adt (type_args asked.types) in
        let fine : AllFine g.scope asked.holed.goals.table asked.types = every_from (IsFine g.scope asked.holed.goals.table) asked.types (λ i t at. asked.holes.fine i t (slice_get-append_left asked.types asked.hidden i t at)) in
        let carried : IsCarriedType (folded a own) = fine_closed g.scope a own k.closing (adt_fine g v asked.item asked.types asked.own asked.holed.goals.table fine).heads in
        pat_demanded g s p (adt_at variant (types_at a)) (expected_under a x) (found_under a old) (found_under a asked.told) begun_before begun_counted.opening
        (subst (λ o. SaysItsType o) (sym b.is) tt) (subst (λ t. IsCarriedType t) (adt_closed a variant.adt asked.types) carried) (found_under a asked.typed) own_demanded

    -- ---- the item under the assignment

    -- it is not there before
    item_free : IsFree (found_under a asked.typed).result.item_of_pat p.0
    item_free =
        let started : found_under a asked.holed ≡ found.entered (found_under a old) = same_found a (context.entered old) asked.holed asked.holes.result asked.holes.asked asked.holes.clock in
        let same : (found_under a asked.typed).result.item_of_pat ≡ (found_under a old).result.item_of_pat =
        demanded_items p (adt_at variant (types_at a)) (expected_under a x) (found_under a asked.told) (found_under a asked.typed) own_demanded
        ∙ (counted_items p (length variant.fields) (length ps) (found_under a asked.holed) (found_under a asked.told) (counted_under a p (length variant.fields) (length ps) asked.holed asked.told asked.counted)
        ∙ ap (λ (c : Found). c.result.item_of_pat) started) in
        ap (λ (l : List (Option Ty)). slice_get l p.0) same ∙ begun_before.state.free_items p b.before.within (omega (arith, begun_before.here))

    module _ (h : Ty) (hs : List Ty) (is : asked.hidden ≡ h ∷ hs) (reads : ReadsPat g p.0 noted mid) where
      item_at : folded a item ≡ ctor_item v (types_at a ++ hidden_at a)
      item_at = fn_def_closed a (callable.VariantId v) (asked.types ++ asked.hidden) ∙ ap (ctor_item v) (map-append (folded a) asked.types asked.hidden)

      item_of : IsItemOfPat g.scope.facts g.body p (folded a item)
      item_of = record {
        named = v;
        parts = ps;
        is_pat = b.is;
        variant = variant;
        found = asked.item.found;
        has_aliases = item_tuple h hs is;
        types = types_at a ++ hidden_at a;
        is = item_at;
      }

      noted_at : found_under a mid ≡ with_pat_item (found_under a asked.typed) p (folded a item)
      noted_at = same_found a noted mid reads.reads.binds.result reads.reads.binds.asked reads.reads.binds.clock ∙ pat_item_under a asked.typed p item

      item_carried : IsCarriedType (folded a item)
      item_carried = fine_closed g.scope a item k.closing (item_fine h hs is).heads

      noted_demands : AdtDemanded (found_under a mid)
      noted_demands =
          subst AdtDemanded (sym noted_at)
          (item_demands g s p (adt_at variant (types_at a)) (folded a item) (expected_under a x) (found_under a old) (found_under a asked.told) (found_under a asked.typed) typed_demands b.before.within begun_before.here item_free item_carried item_of)

      noted_item : PatItem (found_under a mid).result p (ctor_item v (types_at a ++ hidden_at a))
      noted_item =
          subst (λ t. PatItem (found_under a mid).result p t) item_at
          (subst (λ (c : Found). PatItem c.result p (folded a item)) (sym noted_at)
          (item_has g s p (adt_at variant (types_at a)) (folded a item) (expected_under a x) (found_under a old) (found_under a asked.told) (found_under a asked.typed) typed_demands b.before.within begun_before.here item_free item_carried item_of))

    begun_demands : AdtDemanded (found_under a mid)
    begun_demands = elim item_cases [
      | inl q ↦ subst AdtDemanded (sym (ap (found_under a) q.1)) typed_demands
      | inr q ↦ noted_demands q.0 q.1 q.2 q.3
    ]

    begun_item : IsItemOf (found_under a mid).result p v (types_at a) (hidden_at a)
    begun_item = elim item_cases [
      | inl q ↦ subst (λ us. IsItemOf (found_under a mid).result p v (types_at a) (map (folded a) us)) (sym q.0) tt
      | inr q ↦ item_by (hidden_at a) (noted_item q.0 q.1 q.2 q.3)
    ]
      where
        item_by : (us : List Ty) → PatItem (found_under a mid).result p (ctor_item v (types_at a ++ us)) → IsItemOf (found_under a mid).result p v (types_at a) us
        item_by [] has = tt
        item_by (u ∷ us) has = has

    -- what the pattern is of
    begun_of : IsPatOf g (found_under a mid).result p v variant (types_at a) (hidden_at a)
    begun_of = record {
      is_variant = variant_under g v asked.item asked.types asked.own a;
      is_ctor = subst (λ ts. IsCtorAt g v variant ts) (map-append (folded a) asked.types asked.hidden) (ctor_under g v asked.item (asked.types ++ asked.hidden) (context.entered old) asked.holed asked.holes a);
      has = begun_demands.type_is;
      item = begun_item;
    }

-- ---- the parts

-- the first i parts of the pattern p are behind, each at its field where there is one
pub record CtorParts (g : Given) (s : Schedule) (p : PatId) (ps : List PatId) (ss : List Ty) (i : ℕ) (mid c : InferenceContext) : Type 0 where
  pub walk : AtPat g s p ps i mid c
  pub made : (a : Assignment) → Closes a c → (k : ℕ) (q : PatId) (t : Ty) → k < i → slice_get ps k ≡ Some q → slice_get (map (folded a) ss) k ≡ Some t → PatIsAtOrMismatch g (found_under a c).result q t

-- what is fine wherever it is there
fine_if : (g : Given) (c : InferenceContext) (o : Option Ty) → ((t : Ty) → o ≡ Some t → IsFine g.scope c.goals.table t) → IsFineExpectation g.scope c.goals.table o
fine_if g c None h = tt
fine_if g c (Some t) h = h t refl

only_some : {A : Type 0} {y z : A} → Some y ≡ Some z → y ≡ z
only_some q = cc

module _ (g : Given) (s : Schedule) (p : PatId) (v : VariantId) (ps : List PatId) (ss : List Ty) (x : Option Ty) (old mid : InferenceContext) (b : CtorPatBegun g s p v ps ss x old mid) where
  pub begins_ctor_pat : CtorParts g s p ps ss 0 mid mid
  begins_ctor_pat = record {
    walk =
        begins_pats g s p (pat.TupleStruct v ps) mid b.before.ready b.before.within b.is (begun_clock g s p v ps ss x old mid b ∙ ap (λ k. k + 1) (sym b.before.here))
        (ctor_pat_follows g s p v ps ss x old mid b).of_body (ctor_pat_follows g s p v ps ss x old mid b).sound (λ a k. (begun_demands g s p v ps ss x old mid b a k).state);
    made = λ a k j q t lo. absurd (omega (arith, lo));
  }

  module _ (i : ℕ) (c : InferenceContext) (h : CtorParts g s p ps ss i mid c) where
    at_mid : (a : Assignment) → Closes a c → Closes a mid
    at_mid a l = closes_before g a mid c h.walk.follows l

    -- the pattern is of the same constructor still
    is_of : (a : Assignment) → Closes a c → IsPatOf g (found_under a c).result p v b.asked.item.variant (map (folded a) b.asked.types) (map (folded a) b.asked.hidden)
    is_of a l =
        pat_of_kept g (found_under a mid).result (found_under a c).result (h.walk.each a l).walks.extends p v b.asked.item.variant (map (folded a) b.asked.types) (map (folded a) b.asked.hidden)
        (begun_of g s p v ps ss x old mid b a (at_mid a l))

    module _ (q : PatId) (is : q ≡ get_or ps i q) (k : i < length ps) where
      field_under : (a : Assignment) → slice_get (map (folded a) ss) i ≡ expected_under a (slice_get ss i)
      field_under a = slice_get-map (folded a) ss i

      pub comes_to_ctor_part : (y : Option Ty) → y ≡ slice_get ss i → BeforePat g s q y c
      comes_to_ctor_part y e =
          let grew : Grew b.asked.holed.goals.table c.goals.table = grew_twice b.asked.holed.goals.table mid.goals.table c.goals.table (after_holes g s p v ps ss x old mid b).grew h.walk.follows.grew in
          subst (λ o. BeforePat g s q o c) (sym e) (
          comes_to_pat g s p ps i mid c h.walk q is k (slice_get ss i) b.before.ready ((ctor_pat_follows g s p v ps ss x old mid b).told b.before.state.told)
          (fine_if g c (slice_get ss i) (λ t j. fine_grown g.scope b.asked.holed.goals.table c.goals.table t grew (field_fine g s p v ps ss x old mid b i t j)))
          (λ a l t j. inr (record {
            named = v;
            parts = ps;
            is_pat = b.is;
            variant = b.asked.item.variant;
            types = map (folded a) b.asked.types;
            hidden = map (folded a) b.asked.hidden;
            is = is_of a l;
            field = subst (λ us. slice_get us i ≡ Some t) (begun_fields g s p v ps ss x old mid b a (at_mid a l)) (field_under a ∙ j);
          }))
          )

      pub goes_past_ctor_part : (y : Option Ty) → y ≡ slice_get ss i → (next : InferenceContext) → PatDone g s q y c next → CtorParts g s p ps ss (i + 1) mid next
      goes_past_ctor_part y e next d = record {
        walk = past_pat g s p ps i mid c h.walk q is k y next d;
        made = λ a l j n t lo at field.
            let r = (found_under a next).result in
            elim (lt_or_ge j i) [
              | inl before ↦ pat_at_kept g (found_under a c).result r (d.each a l).walks.extends n t (h.made a (closes_before g a c next d.follows l) j n t before at field)
              | inr m ↦
                  (let last : j ≡ i = omega (arith, lo, m) in
                  let own : n ≡ q = only_some (sym at ∙ (ap (λ z. slice_get ps z) last ∙ slice_get_read ps _ i q refl k is)) in
                  let its : expected_under a y ≡ Some t = ap (expected_under a) e ∙ (sym (field_under a) ∙ (ap (λ z. slice_get (map (folded a) ss) z) (sym last) ∙ field)) in
                  subst (λ z. PatIsAtOrMismatch g r z t) (sym own) (subst (λ o. IsPatPlaced g r q o) its (d.each a l).placed))
            ];
      }

    placed : (a : Assignment) (l : Closes a c) (y : Option Ty) → IsPatPlaced g (found_under a mid).result p y → IsPatPlaced g (found_under a c).result p y
    placed a l None d = tt
    placed a l (Some u) d = pat_at_kept g (found_under a mid).result (found_under a c).result (h.walk.each a l).walks.extends p u d

    pub ends_ctor_pat : length ps ≤ i → PatDone g s p x old c
    ends_ctor_pat over = record {
      follows = follows_twice g old mid c (ctor_pat_follows g s p v ps ss x old mid b) h.walk.follows;
      each = λ a l.
          let m : Closes a mid = at_mid a l in
          let r = (found_under a c).result in
          let d = begun_demands g s p v ps ss x old mid b a m in
          let all = (h.walk.each a l).walks in
          let made : PatsAtFields g r ps (map (folded a) ss)
          = parts_at g r ps (map (folded a) ss) (λ k q t there field. (let n : k < length ps = slice_get_within ps k q there in h.made a l k q t (omega (arith, n, over)) there field)) in
          record {
            walks =
                enters_done g s p (found_under a old) (found_under a c) (enters_more g s p (found_under a old) (found_under a mid) d.enters (found_under a c) all) all.state (
                pat_rule_of g r p (pat.TupleStruct v ps) b.is (record {
                  variant = b.asked.item.variant;
                  types = map (folded a) b.asked.types;
                  hidden = map (folded a) b.asked.hidden;
                  is = is_of a l;
                  parts = subst (λ us. PatsAtFields g r ps us) (begun_fields g s p v ps ss x old mid b a m) made;
                  counted = elim (begun_counted g s p v ps ss x old mid b a m).said [
                    | inl same ↦ inl same
                    | inr said ↦ inr (all.extends.columns column.pat_diagnostics p.0 _ (d.extends.columns column.pat_diagnostics p.0 _ said))
                  ];
                  resolved = pat_named g.body r all.state.variants p v (inr (ps, b.is));
                })
                );
            clock = pats_past g s p ps i mid c h.walk over a l;
            placed = placed a l (expected_under a x) d.placed;
          };
    }

-- ---- paths

-- the path names a constructor, which exists
pub path_pat_named : (g : Given) (s : Schedule) (p : PatId) (q : RawPath) (x : Option Ty) (old c : InferenceContext) → BeforePat g s p x old → IsPathPatOf g.body p q → NamesTyped g c.result q
path_pat_named g s p q x old c h is =
    let w = ctor_pattern g.body h.ready.law.carried p.0 q is in
    let named : IsPathPatOf g.body p (path.Ctor w.0) = subst (λ r. IsPathPatOf g.body p r) w.1 is in
    subst (λ r. NamesTyped g c.result r) (sym w.1) (h.ready.written.patterns p w.0 (inl named))

pub path_pat_walked : (g : Given) (s : Schedule) (p : PatId) (q : RawPath) (t : Ty) (x : Option Ty) (old mid new : InferenceContext) → BeforePat g s p x old → IsPathPatOf g.body p q → PathDone g q t (context.entered old) mid → PatDemanded g p t x mid new → PatDone g s p x old new
path_pat_walked g s p q t x old mid new h is typed d = record {
  follows = record {
    clock = omega (arith, d.clock, typed.clock);
    grew = grew_twice old.goals.table mid.goals.table new.goals.table typed.grew d.follows.grew;
    sources = d.follows.sources ∙ typed.stays.sources;
    of_body = d.follows.of_body;
    sound = d.follows.sound;
    told = λ told. d.follows.told (told_same g (context.entered old) mid typed.result typed.stays typed.grew (told_entered g old told));
  };
  each = λ a k.
      let m : Closes a mid = closes_before g a mid new d.follows k in
      let o : Closes a old = closes_earlier a old mid typed.grew m in
      let before : ComesToPat g s p (expected_under a x) (found_under a old) = before_pat_under g s a old o p x h in
      let e : found_under a mid ≡ found.entered (found_under a old) = same_found a (context.entered old) mid typed.result typed.asked typed.clock in
      let demands : Demands g s p (folded a t) (expected_under a x) (found_under a old) (found.entered (found_under a old)) (found_under a new)
      = pat_demanded g s p (folded a t) (expected_under a x) (found_under a old) (found.entered (found_under a old)) before
      (entered_opening g s p (expected_under a x) (found_under a old) before) (subst (λ y. SaysItsType y) (sym is) tt)
      (fine_closed g.scope a t k.closing typed.fine.heads) (found_under a new)
      (subst (λ f. PatIsDemanded p (folded a t) (expected_under a x) f (found_under a new)) e (d.each a k)) in
      let w = ctor_pattern g.body h.ready.law.carried p.0 q is in
      let path_type : IsCtorPath g w.0 (folded a t) = subst (λ r. IsPathType g (found_under a (context.entered old)).result r (folded a t)) w.1 (typed.each a m) in
      path_pat_done g s p w.0 (folded a t) (expected_under a x) (found_under a old) (found_under a new) before
      (subst (λ r. IsPathPatOf g.body p r) w.1 is) path_type demands;
}
