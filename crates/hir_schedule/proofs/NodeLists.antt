-- The nodes that something is made of, list by list.
use Rattle.std.proofs.Common.{◌≡◌, ◌+◌, ◌<◌, ℕ, suc, Bool, true, false, List, [], ◌∷◌, ◌++◌, length, map, get_or, take, Option, Some, None, refl, sym, ap, ◌∙◌}
use Rattle.std.proofs.lemmas.List.{append_assoc, map-append, take_more}
use Rattle.hir_schedule.specs.Words.{ExprId, PatId, ExprOrPatId, LabelId, RawBody, RawArm, RawPat, LaterExpr, LaterPat, RawExpr, RawStmt, is_closure, is_wanted, only_if, arguments_from, arguments, later_parts, later_nodes, later_pat_nodes, Role, Part, maybe_part, expr_parts, pat_parts, tail, element, argument, guard, arm, stmt_parts, stmts_parts, exprs_from, arm_patterns, arm_parts, arms_parts, subpatterns, param_parts, body_parts, expr_part, root, nodes}
use Rattle.hir_types.specs.declared.ids.ExprOrPatId.TheVariants as node
use Rattle.hir_raw.specs.declared.raw.RawPat.TheVariants as pat
use Rattle.hir_raw.specs.declared.raw.RawExpr.TheVariants as expr

pub nodes-append : (ps qs : List Part) → nodes (ps ++ qs) ≡ nodes ps ++ nodes qs
nodes-append ps qs = map-append (λ (p : Part). p.node) ps qs

stmts_parts-append : (xs ys : List RawStmt) → stmts_parts (xs ++ ys) ≡ stmts_parts xs ++ stmts_parts ys
stmts_parts-append [] ys = refl
stmts_parts-append (x ∷ xs) ys = ap (λ (ps : List Part). stmt_parts x ++ ps) (stmts_parts-append xs ys) ∙ sym (append_assoc (stmt_parts x) (stmts_parts xs) (stmts_parts ys))

nil_right : {X : Type 0} (xs : List X) → xs ++ [] ≡ xs
nil_right [] = refl
nil_right (x ∷ xs) = ap (λ (ys : List _). x ∷ ys) (nil_right xs)

-- one more statement
pub nodes_stmts_more : (xs : List RawStmt) (i : ℕ) (d : RawStmt) → i < length xs
    → nodes (stmts_parts (take (i + 1) xs)) ≡ nodes (stmts_parts (take i xs)) ++ nodes (stmt_parts (get_or xs i d))
nodes_stmts_more xs i d lt =
    let x : RawStmt = get_or xs i d in
    ap (λ (ys : List RawStmt). nodes (stmts_parts ys)) (take_more xs i d lt)
    ∙ (ap nodes (stmts_parts-append (take i xs) (x ∷ [])) ∙ (nodes-append (stmts_parts (take i xs)) (stmts_parts (x ∷ [])) ∙ ap (λ (ps : List Part). nodes (stmts_parts (take i xs)) ++ nodes ps) (nil_right (stmt_parts x))))

-- expressions, whatever their roles and wherever they are counted from
pub nodes-exprs : (role : ℕ → Role) (i : ℕ) (es : List ExprId) → nodes (exprs_from role i es) ≡ map (λ e. node.ExprId e) es
nodes-exprs role i [] = refl
nodes-exprs role i (e ∷ es) = ap (λ (ns : List ExprOrPatId). node.ExprId e ∷ ns) (nodes-exprs role (suc i) es)

pub nodes-subpatterns : (i : ℕ) (ps : List PatId) → nodes (subpatterns i ps) ≡ map (λ p. node.PatId p) ps
nodes-subpatterns i [] = refl
nodes-subpatterns i (p ∷ ps) = ap (λ (ns : List ExprOrPatId). node.PatId p ∷ ns) (nodes-subpatterns (suc i) ps)

nodes-arm_patterns : (e : ExprId) (i : ℕ) (arms : List RawArm) → nodes (arm_patterns e i arms) ≡ map (λ a. node.PatId a.pat) arms
nodes-arm_patterns e i [] = refl
nodes-arm_patterns e i (a ∷ arms) = ap (λ (ns : List ExprOrPatId). node.PatId a.pat ∷ ns) (nodes-arm_patterns e (suc i) arms)

arm_same : (i j : ℕ) (o : Option ExprId) (e : ExprId) → nodes (maybe_part (guard i) o ++ expr_part (arm i) e ∷ []) ≡ nodes (maybe_part (guard j) o ++ expr_part (arm j) e ∷ [])
arm_same i j None e = refl
arm_same i j (Some g) e = refl

-- one more arm, wherever they are counted from
arms_more : (i j : ℕ) (xs : List RawArm) (a : RawArm) → nodes (arms_parts i (xs ++ a ∷ [])) ≡ nodes (arms_parts i xs) ++ nodes (arm_parts j a)
arms_more i j [] a = ap nodes (nil_right (arm_parts i a)) ∙ arm_same i j a.guard a.expr
arms_more i j (x ∷ xs) a =
    nodes-append (arm_parts i x) (arms_parts (suc i) (xs ++ a ∷ [])) ∙ (ap (λ (ns : List ExprOrPatId). nodes (arm_parts i x) ++ ns) (arms_more (suc i) j xs a)
    ∙ (sym (append_assoc (nodes (arm_parts i x)) (nodes (arms_parts (suc i) xs)) (nodes (arm_parts j a)))
    ∙ ap (λ (ns : List ExprOrPatId). ns ++ nodes (arm_parts j a)) (sym (nodes-append (arm_parts i x) (arms_parts (suc i) xs)))))

-- the patterns of parameters, wherever they are counted from
pub nodes-parameters : (i : ℕ) (ps : List PatId) → nodes (param_parts i ps) ≡ map (λ p. node.PatId p) ps
nodes-parameters i [] = refl
nodes-parameters i (p ∷ ps) = ap (λ (ns : List ExprOrPatId). node.PatId p ∷ ns) (nodes-parameters (suc i) ps)

-- ---- what the functions push

pub stmts_pushed : (old now new : List ExprOrPatId) (xs : List RawStmt) (i : ℕ) (d : RawStmt) → i < length xs → now ≡ old ++ nodes (stmts_parts (take i xs))
    → new ≡ now ++ nodes (stmt_parts (get_or xs i d)) → new ≡ old ++ nodes (stmts_parts (take (i + 1) xs))
stmts_pushed old now new xs i d lt before pushed =
    let more = nodes_stmts_more xs i d lt in
    pushed ∙ (ap (λ (ns : List ExprOrPatId). ns ++ nodes (stmt_parts (get_or xs i d))) before
    ∙ (append_assoc old (nodes (stmts_parts (take i xs))) (nodes (stmt_parts (get_or xs i d))) ∙ ap (λ (ns : List ExprOrPatId). old ++ ns) (sym more)))

pub arms_pushed : (old now new : List ExprOrPatId) (xs : List RawArm) (i : ℕ) (d : RawArm) → i < length xs → now ≡ old ++ nodes (arms_parts 0 (take i xs))
    → new ≡ now ++ nodes (arm_parts 0 (get_or xs i d)) → new ≡ old ++ nodes (arms_parts 0 (take (i + 1) xs))
arms_pushed old now new xs i d lt before pushed =
    let a : RawArm = get_or xs i d in
    let more : nodes (arms_parts 0 (take (i + 1) xs)) ≡ nodes (arms_parts 0 (take i xs)) ++ nodes (arm_parts 0 a) =
    ap (λ (ys : List RawArm). nodes (arms_parts 0 ys)) (take_more xs i d lt) ∙ arms_more 0 0 (take i xs) a in
    pushed ∙ (ap (λ (ns : List ExprOrPatId). ns ++ nodes (arm_parts 0 a)) before
    ∙ (append_assoc old (nodes (arms_parts 0 (take i xs))) (nodes (arm_parts 0 a)) ∙ ap (λ (ns : List ExprOrPatId). old ++ ns) (sym more)))

pub match_pushed : (b : RawBody) (e : ExprId) (arms : List RawArm) (old first pats new : List ExprOrPatId) → first ≡ old ++ node.ExprId e ∷ [] → pats ≡ first ++ map (λ a. node.PatId a.pat) arms
    → new ≡ pats ++ nodes (arms_parts 0 arms) → new ≡ old ++ nodes (expr_parts b (expr.Match e arms))
match_pushed b e arms old first pats new one two three =
    let ps : List ExprOrPatId = nodes (arm_patterns e 0 arms) in
    let qs : List ExprOrPatId = nodes (arms_parts 0 arms) in
    let before : pats ≡ (old ++ node.ExprId e ∷ []) ++ ps =
    two ∙ (ap (λ (ns : List ExprOrPatId). ns ++ map (λ a. node.PatId a.pat) arms) one ∙ ap (λ (ns : List ExprOrPatId). (old ++ node.ExprId e ∷ []) ++ ns) (sym (nodes-arm_patterns e 0 arms))) in
    three ∙ (ap (λ (ns : List ExprOrPatId). ns ++ qs) before
    ∙ (append_assoc (old ++ node.ExprId e ∷ []) ps qs ∙ (append_assoc old (node.ExprId e ∷ []) (ps ++ qs)
    ∙ ap (λ (ns : List ExprOrPatId). old ++ node.ExprId e ∷ ns) (sym (nodes-append (arm_patterns e 0 arms) (arms_parts 0 arms))))))

pub call_pushed : (b : RawBody) (f : ExprId) (args : List ExprId) (old first new : List ExprOrPatId) → first ≡ old ++ node.ExprId f ∷ [] → new ≡ first ++ nodes (arguments b args)
    → new ≡ old ++ nodes (expr_parts b (expr.Call f args))
call_pushed b f args old first new one two =
    two ∙ (ap (λ (ns : List ExprOrPatId). ns ++ nodes (arguments b args)) one ∙ append_assoc old (node.ExprId f ∷ []) (nodes (arguments b args)))

-- the parts of a kind that is not carried yet
pub nodes-later : (i : ℕ) (xs : List ExprOrPatId) → nodes (later_parts i xs) ≡ xs
nodes-later i [] = refl
nodes-later i (x ∷ xs) = ap (λ (ns : List ExprOrPatId). x ∷ ns) (nodes-later (suc i) xs)

arguments_from-append : (b : RawBody) (c : Bool) (i j : ℕ) (es : List ExprId) (e : ExprId)
    → nodes (arguments_from b c i (es ++ e ∷ [])) ≡ nodes (arguments_from b c i es) ++ nodes (only_if (is_wanted c (is_closure b e)) (expr_part (argument j) e))
arguments_from-append b c i j [] e = ap nodes (nil_right (only_if (is_wanted c (is_closure b e)) (expr_part (argument i) e))) ∙ one_same (is_wanted c (is_closure b e))
  where
    one_same : (b : Bool) → nodes (only_if b (expr_part (argument i) e)) ≡ nodes (only_if b (expr_part (argument j) e))
    one_same true = refl
    one_same false = refl
arguments_from-append b c i j (x ∷ es) e =
    let own : List Part = only_if (is_wanted c (is_closure b x)) (expr_part (argument i) x) in
    nodes-append own (arguments_from b c (suc i) (es ++ e ∷ []))
    ∙ (ap (λ (ns : List ExprOrPatId). nodes own ++ ns) (arguments_from-append b c (suc i) j es e)
    ∙ (sym (append_assoc (nodes own) (nodes (arguments_from b c (suc i) es)) (nodes (only_if (is_wanted c (is_closure b e)) (expr_part (argument j) e))))
    ∙ ap (λ (ns : List ExprOrPatId). ns ++ nodes (only_if (is_wanted c (is_closure b e)) (expr_part (argument j) e))) (sym (nodes-append own (arguments_from b c (suc i) es)))))

-- one more argument
pub arguments_pushed : (b : RawBody) (c : Bool) (old now new : List ExprOrPatId) (xs : List ExprId) (i : ℕ) (d : ExprId) → i < length xs
    → now ≡ old ++ nodes (arguments_from b c 0 (take i xs)) → new ≡ now ++ nodes (only_if (is_wanted c (is_closure b (get_or xs i d))) (expr_part (argument 0) (get_or xs i d)))
    → new ≡ old ++ nodes (arguments_from b c 0 (take (i + 1) xs))
arguments_pushed b c old now new xs i d lt before pushed =
    let e : ExprId = get_or xs i d in
    let own : List ExprOrPatId = nodes (only_if (is_wanted c (is_closure b e)) (expr_part (argument 0) e)) in
    let more : nodes (arguments_from b c 0 (take (i + 1) xs)) ≡ nodes (arguments_from b c 0 (take i xs)) ++ own =
    ap (λ (ys : List ExprId). nodes (arguments_from b c 0 ys)) (take_more xs i d lt) ∙ arguments_from-append b c 0 0 (take i xs) e in
    pushed ∙ (ap (λ (ns : List ExprOrPatId). ns ++ own) before ∙ (append_assoc old (nodes (arguments_from b c 0 (take i xs))) own ∙ ap (λ (ns : List ExprOrPatId). old ++ ns) (sym more)))

pub kind_pushed : (b : RawBody) (x y : RawExpr) (new all : List ExprOrPatId) → x ≡ y → new ≡ [] → all ≡ new ++ nodes (expr_parts b y) → all ≡ nodes (expr_parts b x)
kind_pushed b x y new all is none pushed = pushed ∙ (ap (λ (ns : List ExprOrPatId). ns ++ nodes (expr_parts b y)) none ∙ ap (λ (z : RawExpr). nodes (expr_parts b z)) (sym is))

pub later_pushed : (b : RawBody) (x : RawExpr) (y : LaterExpr) (new all : List ExprOrPatId) → x ≡ expr.Later y → new ≡ [] → all ≡ new ++ later_nodes b y → all ≡ nodes (expr_parts b x)
later_pushed b x y new all is none pushed =
    pushed ∙ (ap (λ (ns : List ExprOrPatId). ns ++ later_nodes b y) none ∙ (sym (nodes-later 0 (later_nodes b y)) ∙ ap (λ (z : RawExpr). nodes (expr_parts b z)) (sym is)))

pub later_pat_pushed : (x : RawPat) (y : LaterPat) (new all : List ExprOrPatId) → x ≡ pat.Later y → new ≡ [] → all ≡ new ++ later_pat_nodes y → all ≡ nodes (pat_parts x)
later_pat_pushed x y new all is none pushed =
    pushed ∙ (ap (λ (ns : List ExprOrPatId). ns ++ later_pat_nodes y) none ∙ (sym (nodes-later 0 (later_pat_nodes y)) ∙ ap (λ (z : RawPat). nodes (pat_parts z)) (sym is)))

-- a pattern whose parts are these patterns
pub pats_pushed : (x y : RawPat) (ps : List PatId) (new all : List ExprOrPatId) (ds : List PatId) → x ≡ y → pat_parts y ≡ subpatterns 0 ps → new ≡ [] → ds ≡ ps → all ≡ new ++ map (λ p. node.PatId p) ds → all ≡ nodes (pat_parts x)
pats_pushed x y ps new all ds is parts none same pushed =
    let start : all ≡ map (λ p. node.PatId p) ps =
    pushed ∙ (ap (λ (ns : List ExprOrPatId). ns ++ map (λ p. node.PatId p) ds) none ∙ ap (λ (rs : List PatId). map (λ p. node.PatId p) rs) same) in
    start ∙ (sym (nodes-subpatterns 0 ps) ∙ (ap nodes (sym parts) ∙ ap (λ (z : RawPat). nodes (pat_parts z)) (sym is)))

pub body_pushed : (b : RawBody) (new pats all : List ExprOrPatId) (ps : List PatId) → new ≡ [] → ps ≡ b.params → pats ≡ new ++ map (λ p. node.PatId p) ps
    → all ≡ pats ++ node.ExprId b.root ∷ [] → all ≡ nodes (body_parts b)
body_pushed b new pats all ps none same pushed last =
    let start : pats ≡ map (λ p. node.PatId p) b.params = pushed ∙ (ap (λ (ns : List ExprOrPatId). ns ++ map (λ p. node.PatId p) ps) none ∙ ap (λ (qs : List PatId). map (λ p. node.PatId p) qs) same) in
    last ∙ (ap (λ (ns : List ExprOrPatId). ns ++ node.ExprId b.root ∷ []) (start ∙ sym (nodes-parameters 0 b.params))
    ∙ sym (nodes-append (param_parts 0 b.params) (expr_part root b.root ∷ [])))

pub block_pushed : (b : RawBody) (x : RawExpr) (label : Option LabelId) (stmts : List RawStmt) (last : Option ExprId) (new front all : List ExprOrPatId) (ss : List RawStmt)
    → x ≡ expr.Block label stmts last → new ≡ [] → ss ≡ stmts → front ≡ new ++ nodes (stmts_parts ss) → all ≡ front ++ nodes (maybe_part tail last) → all ≡ nodes (expr_parts b x)
block_pushed b x label stmts last new front all ss is none same pushed ended =
    let start : front ≡ nodes (stmts_parts stmts) =
    pushed ∙ (ap (λ (ns : List ExprOrPatId). ns ++ nodes (stmts_parts ss)) none ∙ ap (λ (rs : List RawStmt). nodes (stmts_parts rs)) same) in
    ended ∙ (ap (λ (ns : List ExprOrPatId). ns ++ nodes (maybe_part tail last)) start
    ∙ (sym (nodes-append (stmts_parts stmts) (maybe_part tail last)) ∙ ap (λ (y : RawExpr). nodes (expr_parts b y)) (sym is)))

pub tuple_pushed : (b : RawBody) (x : RawExpr) (es : List ExprId) (new all : List ExprOrPatId) (ds : List ExprId)
    → x ≡ expr.Tuple es → new ≡ [] → ds ≡ es → all ≡ new ++ map (λ e. node.ExprId e) ds → all ≡ nodes (expr_parts b x)
tuple_pushed b x es new all ds is none same pushed =
    let start : all ≡ map (λ e. node.ExprId e) es =
    pushed ∙ (ap (λ (ns : List ExprOrPatId). ns ++ map (λ e. node.ExprId e) ds) none ∙ ap (λ (rs : List ExprId). map (λ e. node.ExprId e) rs) same) in
    start ∙ (sym (nodes-exprs element 0 es) ∙ ap (λ (y : RawExpr). nodes (expr_parts b y)) (sym is))
