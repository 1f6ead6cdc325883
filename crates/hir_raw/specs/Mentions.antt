-- What each node of a body names beside its parts, kind by kind. What the laws say of nodes is said of their parts and of this.
use Rattle.std.specs.Prelude.{ℕ, suc, ◌+◌, ◌≡◌, List, [], ◌∷◌, ◌++◌, length, map, flat_map, slice_get, Option, Some, None}
use Rattle.hir_raw.specs.Words.{LabelId, BindingId, TypeRefId}
use Rattle.hir_types.specs.declared.ids.ExprOrPatId.TheVariants as node
use Rattle.hir_raw.specs.declared.mention.LabelRole.TheVariants as labelled
use Rattle.hir_raw.specs.declared.mention.Mention.{Mention}
use Rattle.hir_raw.specs.declared.mention.Mention.TheVariants as it
use Rattle.hir_raw.specs.declared.mention.Said.{Said}
use Rattle.hir_raw.specs.declared.raw.RawPath.{RawPath}
use Rattle.hir_raw.specs.declared.raw.RawPath.TheVariants as path
use Rattle.hir_raw.specs.declared.raw.RawStmt.{RawStmt}
use Rattle.hir_raw.specs.declared.raw.RawStmt.TheVariants as stmt
use Rattle.hir_raw.specs.declared.raw.RawExpr.{RawExpr}
use Rattle.hir_raw.specs.declared.raw.RawExpr.TheVariants as expr
use Rattle.hir_raw.specs.declared.raw.RawPat.{RawPat}
use Rattle.hir_raw.specs.declared.raw.RawPat.TheVariants as pat
use Rattle.hir_raw.specs.declared.later.RawArg.{RawArg}
use Rattle.hir_raw.specs.declared.later.RawArg.TheVariants as arg
use Rattle.hir_raw.specs.declared.later.LaterPath.{LaterPath}
use Rattle.hir_raw.specs.declared.later.LaterPath.TheVariants as later_path
use Rattle.hir_raw.specs.declared.later.RawVariantPath.{RawVariantPath}
use Rattle.hir_raw.specs.declared.later.RawVariantPath.TheVariants as variant_path
use Rattle.hir_raw.specs.declared.later.RawClosureParam.{RawClosureParam}
use Rattle.hir_raw.specs.declared.later.LaterExpr.{LaterExpr}
use Rattle.hir_raw.specs.declared.later.LaterExpr.TheVariants as later_expr
use Rattle.hir_raw.specs.declared.later.LaterPat.{LaterPat}
use Rattle.hir_raw.specs.declared.later.LaterPat.TheVariants as later_pat
use Rattle.hir_raw.specs.declared.raw.RawBody.{RawBody}
use Rattle.hir_raw.specs.Order.{Node, the_body, inner}

-- ---- words

-- of something that may be absent
abbrev pub maybe : {A : Type 0} → (A → Mention) → Option A → List Mention
maybe f None = []
maybe f (Some x) = f x ∷ []

-- a list of entries that are said of elsewhere: its length
abbrev pub of_list : {A : Type 0} → List A → List Mention
of_list xs = it.List (length xs) ∷ []

-- the label of a loop or block
abbrev pub label_here : Option LabelId → List Mention
label_here l = maybe (it.Label labelled.Here) l

abbrev pub type_here : Option TypeRefId → List Mention
type_here t = maybe it.Type t

-- the binding that is bound here
abbrev pub bound_here : Option BindingId → List Mention
bound_here v = maybe it.Binds v

-- ---- written lists of arguments

abbrev pub arg_mentions : RawArg → List Mention
arg_mentions (arg.Type t) = it.Type t ∷ []
arg_mentions (arg.Const c) = it.Const c ∷ []

abbrev pub written_args : List RawArg → List Mention
written_args as_ = of_list as_ ++ flat_map arg_mentions as_

abbrev pub maybe_args : Option (List RawArg) → List Mention
maybe_args None = []
maybe_args (Some as_) = written_args as_

-- ---- kinds

abbrev pub path_mentions : RawPath → List Mention
path_mentions (path.Local v) = it.Local v ∷ []
path_mentions (path.Function f) = it.Function f ∷ []
path_mentions (path.Ctor v) = it.Variant v ∷ []

abbrev pub later_path_mentions : LaterPath → List Mention
later_path_mentions (later_path.Local v as_) = it.Local v ∷ written_args as_
later_path_mentions (later_path.Function f as_) = it.Function f ∷ written_args as_
later_path_mentions (later_path.Ctor v as_) = it.Variant v ∷ written_args as_
later_path_mentions (later_path.Const c as_) = it.ConstItem c ∷ maybe_args as_
later_path_mentions (later_path.Static s as_) = it.Static s ∷ maybe_args as_
later_path_mentions (later_path.Typed t name as_) = it.Type t ∷ maybe_args as_
later_path_mentions (later_path.Trait t as_ name bs) = it.Trait t ∷ (maybe_args as_ ++ maybe_args bs)
later_path_mentions (later_path.SelfCtor i as_) = it.SelfOf i ∷ maybe_args as_
later_path_mentions (later_path.ConstParam n as_) = it.ConstParam n ∷ maybe_args as_
later_path_mentions (later_path.Unresolved ident) = []

abbrev pub variant_path_mentions : RawVariantPath → List Mention
variant_path_mentions (variant_path.Variant v as_) = it.Variant v ∷ maybe_args as_
variant_path_mentions (variant_path.Type t) = it.Type t ∷ []
variant_path_mentions (variant_path.Typed t name) = it.Type t ∷ []
variant_path_mentions variant_path.Unresolved = []

abbrev pub stmt_mentions : RawStmt → List Mention
stmt_mentions (stmt.Let p written init other) = maybe it.Type written
stmt_mentions (stmt.Expr e semicolon) = []

-- a parameter of a closure
abbrev pub param_mentions : RawClosureParam → List Mention
param_mentions x = maybe it.Type x.type_ref

abbrev pub later_mentions : LaterExpr → List Mention
later_mentions later_expr.Missing = []
later_mentions later_expr.Underscore = []
later_mentions later_expr.Offset = []
later_mentions (later_expr.Lit l) = []
later_mentions (later_expr.Path q) = later_path_mentions q
later_mentions (later_expr.Unsafe stmts last) = of_list stmts ++ flat_map stmt_mentions stmts
later_mentions (later_expr.Const e) = []
later_mentions (later_expr.Let p e) = []
later_mentions (later_expr.Loop label e) = label_here label
later_mentions (later_expr.MethodCall e name as_ args) = maybe_args as_ ++ of_list args
later_mentions (later_expr.Field e name) = []
later_mentions (later_expr.Break label e) = maybe (it.Label labelled.Left) label
later_mentions (later_expr.Continue label) = maybe (it.Label labelled.Left) label
later_mentions (later_expr.Return e) = []
later_mentions (later_expr.Become e) = []
later_mentions (later_expr.RecordLit v fields spread) = variant_path_mentions v ++ of_list fields
later_mentions (later_expr.Cast e t) = it.Type t ∷ []
later_mentions (later_expr.Ref raw m e) = []
later_mentions (later_expr.Box e) = []
later_mentions (later_expr.UnaryOp o e) = []
later_mentions (later_expr.BinaryOp o l r) = []
later_mentions (later_expr.Assignment p e) = []
later_mentions (later_expr.Range inclusive l r) = []
later_mentions (later_expr.Index base index) = []
later_mentions (later_expr.Array es) = of_list es
later_mentions (later_expr.Repeat e n c) = it.Const c ∷ []
later_mentions (later_expr.Closure params out e) = of_list params ++ (flat_map param_mentions params ++ maybe it.Type out)

abbrev pub later_pat_mentions : LaterPat → List Mention
later_pat_mentions later_pat.Missing = []
later_pat_mentions (later_pat.TupleDots ps dots) = of_list ps
later_pat_mentions (later_pat.TupleStruct v ps dots) = variant_path_mentions v ++ of_list ps
later_pat_mentions (later_pat.Record v fields) = variant_path_mentions v ++ of_list fields
later_pat_mentions (later_pat.Path q) = later_path_mentions q
later_pat_mentions (later_pat.Range l r) = []
later_pat_mentions (later_pat.Slice ps rest qs) = of_list ps ++ of_list qs
later_pat_mentions (later_pat.Ref m p) = []
later_pat_mentions (later_pat.Or ps) = of_list ps
later_pat_mentions (later_pat.Box p) = []
later_pat_mentions (later_pat.ConstBlock e) = []
later_pat_mentions (later_pat.Expr e) = []

abbrev pub expr_mentions : RawExpr → List Mention
expr_mentions (expr.Lit l) = []
expr_mentions (expr.Path q) = path_mentions q
expr_mentions (expr.Block label stmts last) = label_here label ++ (of_list stmts ++ flat_map stmt_mentions stmts)
expr_mentions (expr.Tuple es) = of_list es
expr_mentions (expr.If c first other) = []
expr_mentions (expr.Match e arms) = of_list arms
expr_mentions (expr.Call f args) = of_list args
expr_mentions (expr.Later x) = later_mentions x

abbrev pub pat_mentions : RawPat → List Mention
pat_mentions pat.Wild = []
pat_mentions (pat.Bind v sub) = it.Binds v ∷ []
pat_mentions (pat.Tuple ps) = of_list ps
pat_mentions (pat.TupleStruct v ps) = it.Variant v ∷ of_list ps
pat_mentions (pat.Path q) = path_mentions q
pat_mentions (pat.Lit e) = []
pat_mentions (pat.Later x) = later_pat_mentions x

-- the body binds `self`
abbrev pub body_mentions : RawBody → List Mention
body_mentions b = maybe it.Binds b.self_ ++ of_list b.params

-- ---- by nodes

abbrev pub mentions_of_expr : Option RawExpr → List Mention
mentions_of_expr None = []
mentions_of_expr (Some x) = expr_mentions x

abbrev pub mentions_of_pat : Option RawPat → List Mention
mentions_of_pat None = []
mentions_of_pat (Some x) = pat_mentions x

abbrev pub mentions : RawBody → Node → List Mention
mentions b the_body = body_mentions b
mentions b (inner (node.ExprId e)) = mentions_of_expr (slice_get b.exprs e.0)
mentions b (inner (node.PatId p)) = mentions_of_pat (slice_get b.pats p.0)

-- the node n mentions this
abbrev pub Mentions : RawBody → Node → Mention → Type 0
Mentions b n m = (k : ℕ) × (slice_get (mentions b n) k ≡ Some m)

-- this holds of each node and what it mentions
abbrev pub AllMentioned : (Node → Mention → Type 0) → RawBody → Type 0
AllMentioned P b = (n : Node) (m : Mention) → Mentions b n m → P n m

-- ---- one after another: what the body mentions, then what its expressions and its patterns do

-- each of these by the node at this position
abbrev pub said : ℕ → List Mention → List Said
said n ms = map (λ m. record { node = n; mention = m }) ms

-- of each entry, of which the first has position i
abbrev pub each : {A B : Type 0} → (ℕ → A → List B) → ℕ → List A → List B
each f i [] = []
each f i (x ∷ xs) = f i x ++ each f (suc i) xs

abbrev pub expr_said : ℕ → RawExpr → List Said
expr_said e x = said e (expr_mentions x)

-- where so many expressions come before
abbrev pub pat_said : ℕ → ℕ → RawPat → List Said
pat_said first p x = said (first + p) (pat_mentions x)

unfoldable pub body_said : RawBody → List Said
body_said b =
    said (length b.exprs + length b.pats) (body_mentions b)
    ++ (each expr_said 0 b.exprs ++ each (pat_said (length b.exprs)) 0 b.pats)
