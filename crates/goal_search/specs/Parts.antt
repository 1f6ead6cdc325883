-- What the parts of terms are found to be.
use Rattle.std.specs.Prelude.{◌≡◌, ◌++◌, ℕ, Bool, true, false, List, ◌∷◌, Option, Some, None, map}
use Rattle.hir_types.specs.declared.head.Head.TheVariants as head
use Rattle.goal_search.specs.Words.{Term, leaf, apply, Fill, Kind as AskedKind, Asked as AskedGoal, System, self_type, only, is_among, Copied as CopiedRow, with_parts, by_impls, unclear, copied as copied_row, with_part, types_of, Tail as TailRow, has_size, has_none, field, last, asked, unclear_tail, IsLastPart, IsLast, IsNth, AreArgs, term_of}
use Rattle.goal_search.specs.Sources.{asked_list}
use Rattle.goal_search.specs.declared.answer.Answer.TheVariants as answer
use Rattle.goal_search.specs.declared.rows.Copied.{Copied}
use Rattle.goal_search.specs.declared.rows.Copied.TheVariants as copied
use Rattle.goal_search.specs.declared.rows.Tail.{Tail}
use Rattle.goal_search.specs.declared.rows.Tail.TheVariants as tail
use Rattle.goal_search.specs.declared.rows.Copies.{Copies}
use Rattle.goal_search.specs.declared.rows.Copies.TheVariants as copies
use Rattle.goal_search.specs.declared.rows.Part.{Part}
use Rattle.goal_search.specs.declared.rows.Part.TheVariants as part

abbrev pub copied_of : Copied → CopiedRow
copied_of copied.Whole = with_parts (leaf head.End)
copied_of (copied.WithParts ts) = with_parts (term_of ts.now)
copied_of copied.ByImpls = by_impls
copied_of copied.Unclear = unclear

abbrev pub tail_as : Tail → TailRow
tail_as tail.HasSize = has_size
tail_as tail.HasNone = has_none
tail_as (tail.Field t args) = field (term_of t.now) (term_of args.now)
tail_as (tail.Last ts) = last (term_of ts.now)
tail_as tail.Asked = asked
tail_as tail.Unclear = unclear_tail

-- the last type, or that there is none
abbrev pub IsLastIf : Term → Option Term → Type 0
IsLastIf ts (Some u) = IsLast ts u
IsLastIf ts None = (u : Term) → IsLast ts u → ⊥

abbrev pub IsLastPartIf : Term → Option Term → Type 0
IsLastPartIf a (Some u) = IsLastPart a u
IsLastPartIf a None = (u : Term) → IsLastPart a u → ⊥

-- the argument at a place, or that there is none
abbrev pub IsNthIf : ℕ → Term → Option Term → Type 0
IsNthIf n args (Some u) = IsNth n args u
IsNthIf n args None = (u : Term) → IsNth n args u → ⊥

-- the term at arguments for its holes, or that some has none
abbrev pub IsFieldAt : Term → Term → Option Term → Type 0
IsFieldAt args t (Some u) = (p : Fill) × AreArgs args p t × (u ≡ apply p t)
IsFieldAt args t None = (p : Fill) → AreArgs args p t → ⊥

-- ---- what is copied

abbrev pub copied_asked : AskedKind → Term → AskedGoal
copied_asked c t = record { kind = c; parts = only t }

-- of parts
abbrev pub PartsAre : AskedKind → Option (List Term) → Copies → Type 0
PartsAre c types (copies.Of goals) = (ts : List Term) × (types ≡ Some ts) × (asked_list goals.items ≡ map (copied_asked c) ts)
PartsAre c types (copies.Known a) = (types ≡ None) × (a ≡ answer.Undecided)

-- by what stands outermost
abbrev pub CopiedAre : AskedKind → CopiedRow → Copies → Type 0
CopiedAre c (with_parts ts) x = PartsAre c (types_of ts) x
CopiedAre c by_impls x = x ≡ copies.Known answer.No
CopiedAre c unclear x = x ≡ copies.Known answer.Undecided

-- what is known of whether a goal holds because its self type is copied
abbrev pub CopiesIf : Bool → AskedKind → Term → Copies → Type 0
CopiesIf true c w x = CopiedAre c (copied_row (self_type w)) x
CopiesIf false c w x = x ≡ copies.Known answer.No

abbrev pub CopiesAre : System → AskedKind → Term → Copies → Type 0
CopiesAre f c w x = CopiesIf (is_among f.copied c) c w x

-- ---- goals of parts

abbrev pub with_kind : Part → Option (List Term) → Option (List Term)
with_kind (part.Type t) (Some ts) = Some (term_of t.now ∷ ts)
with_kind part.Const (Some ts) = Some ts
with_kind _ _ = None

abbrev pub IsPartKind : Term → Part → Type 0
IsPartKind a x = (types : Option (List Term)) → with_part a types ≡ with_kind x types

-- the goals of these types were added, or they are no parts
abbrev pub PushesGoals : AskedKind → Bool → List AskedGoal → List AskedGoal → Option (List Term) → Type 0
PushesGoals c true before after types = (ts : List Term) × (types ≡ Some ts) × (after ≡ before ++ map (copied_asked c) ts)
PushesGoals c false before after types = types ≡ None
