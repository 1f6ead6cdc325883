-- What is read has no alias left, and heads.
use Rattle.std.proofs.Common.{◌≡◌, inl, inr, ℕ, zero, suc, true, true≢false, refl, sym, ap, ap₂, ◌∙◌, subst, List, [], ◌∷◌}
use Rattle.std.proofs.lemmas.Bool.{or_cases, or_left, or_right}
use Rattle.goal_search.specs.Words.{TypeAliasId, Hole, Term, hole, leaf, pair, apply, occurs, hole_eq_true, hole_eq_same, Fill, plain, alias, role, staying, IsRead, stands, Aliases, Reads, ReadsAs, MayRead, Kind, implements, projects, Rule, System, args_of, type_of, key, Each, SomeOf, OneOf, Verdicts, Gives, GivesNone, alias_next, answers, IsHead, HasHeads}
use Rattle.goal_search.specs.Words.goal_answers.Reading.{Role}
use Rattle.goal_search.proofs.Words.{one_some, role_read, ReadsBy, MayReadBy, stands_by, reads_may, read_reads, occurs_type, AliasIsRead, FillsAreRead, reads_read, may_read, answers_read}
use Rattle.goal_search.specs.Own.{Sources, system, IsDone, FillsAreDone, RuleHasHeads, SystemHasHeads}

-- ---- parts with heads

pub args_heads : (t : Term) → HasHeads t → HasHeads (args_of t)
args_heads (hole k) h = tt
args_heads (leaf x) h = tt
args_heads (pair a b) h = h.1

pub type_heads : (t : Term) → HasHeads t → HasHeads (type_of t)
type_heads (hole k) h = tt
type_heads (leaf x) h = tt
type_heads (pair a b) h = h.2

pub key_heads : (c : Kind) (t : Term) → HasHeads t → HasHeads (key c t)
key_heads (implements n) t h = h
key_heads (projects k) t h = args_heads t h

pub args_read : (t : Term) → IsRead t → IsRead (args_of t)
args_read (hole k) h = tt
args_read (leaf x) h = tt
args_read (pair a b) h = h.0

pub key_done : (c : Kind) (t : Term) → IsDone t → IsDone (key c t)
key_done (implements n) t h = h
key_done (projects k) t h = record { read = args_read t h.read; heads = args_heads t h.heads }

pub staying_done : (k : TypeAliasId) (w : Term) → IsDone w → IsDone (staying k w)
staying_done k w h = record { read = (tt, h.read); heads = (tt, tt, h.heads) }

-- ---- readings

fills_read : (p : Fill) (t : Term) → FillsAreDone p t → FillsAreRead p t
fills_read p t h k o = (h k o).read

fills_left : (p : Fill) (a b : Term) → FillsAreDone p (pair a b) → FillsAreDone p a
fills_left p a b h k o = h k (or_left (occurs k a) (occurs k b) o)

fills_right : (p : Fill) (a b : Term) → FillsAreDone p (pair a b) → FillsAreDone p b
fills_right p a b h k o = h k (or_right (occurs k a) (occurs k b) o)

abbrev pub AliasHasHeads : Aliases → Type 0
AliasHasHeads A = (k : TypeAliasId) (w u : Term) → IsDone w → A k w u → HasHeads u

head_reads : (A : Aliases) → AliasIsRead A → (p : Fill) (a x : Term) → IsHead a → FillsAreDone p a → Reads A p a x → IsHead x
head_reads A reads p (hole k) x h d r = absurd h
head_reads A reads p (leaf y) x h d r = subst IsHead (sym r.1) tt
head_reads A reads p (pair c b) x h d r =
    let P : Role → Type 0 = λ z. ReadsBy z A p c b x in
    let s = subst P h r in
    subst IsHead (sym s.2) (role_read s.0 (reads_read A reads p c s.0 (fills_read p c (fills_left p c b d)) s.3))

pub reads_heads : (A : Aliases) → AliasIsRead A → AliasHasHeads A → (p : Fill) (t u : Term) → HasHeads t → FillsAreDone p t → Reads A p t u → HasHeads u
reads_heads A reads heads p (hole k) u h d r = subst HasHeads (sym r) ((d k (hole_eq_same k)).heads)
reads_heads A reads heads p (leaf x) u h d r = subst HasHeads (sym r.1) tt
reads_heads A reads heads p (pair a b) u h d r =
    by_role (role a) (λ v. head_reads A reads p a v h.0 (fills_left p a b d)) (λ v. reads_heads A reads heads p a v h.1 (fills_left p a b d)) (λ v. reads_heads A reads heads p b v h.2 (fills_right p a b d))
    (λ v. reads_read A reads p b v (fills_read p b (fills_right p a b d))) r
  where
    by_role : (x : Role) → ((v : Term) → Reads A p a v → IsHead v) → ((v : Term) → Reads A p a v → HasHeads v) → ((v : Term) → Reads A p b v → HasHeads v) → ((v : Term) → Reads A p b v → IsRead v) → ReadsBy x A p a b u → HasHeads u
    by_role plain head left right read r = subst HasHeads (sym r.2) (head r.0 r.3, left r.0 r.3, right r.1 r.4)
    by_role (alias k) head left right read r = heads k r.0 u (record { read = read r.0 r.1; heads = right r.0 r.1 }) r.2

pub may_heads : (p : Fill) (t w : Term) → MayRead p t w → HasHeads w → (k : Hole) → stands k t ≡ true → HasHeads (p k)
may_heads p (hole j) w r h k s = subst HasHeads (r ∙ ap p (sym (hole_eq_true k j s))) h
may_heads p (leaf x) w r h k s = absurd (true≢false (sym s))
may_heads p (pair a b) w r h k s = by_role (role a) (λ v x y. may_heads p a v x y k) (λ v x y. may_heads p b v x y k) r s
  where
    Told : Term → Type 0
    Told t = (v : Term) → MayRead p t v → HasHeads v → stands k t ≡ true → HasHeads (p k)

    by_role : (x : Role) → Told a → Told b → MayReadBy x p a b w → stands_by x k a b ≡ true → HasHeads (p k)
    by_role plain left right r s =
        let both = subst HasHeads r.2 h in
        elim (or_cases (stands k a) (stands k b) s) [
          | inl e ↦ left r.0 r.3 both.1 e
          | inr e ↦ right r.1 r.4 both.2 e
        ]
    by_role (alias m) left right r s = absurd (true≢false (sym s))

pub may_done : (p : Fill) (t w : Term) → MayRead p t w → IsDone w → (k : Hole) → stands k t ≡ true → IsDone (p k)
may_done p t w r h k s = record { read = may_read p t w r h.read k s; heads = may_heads p t w r h.heads k s }

-- ---- at each depth

some_with : {X : Type 0} {P T : X → Type 0} {Z : Type 0} → ((x : X) → P x → T x → Z) → (xs : List X) → SomeOf P xs → Each T xs → Z
some_with f [] h t = absurd h
some_with f (x ∷ xs) (inl h) t = f x h t.0
some_with f (x ∷ xs) (inr h) t = some_with f xs h t.1

gives_heads : (v : Verdicts) → AliasIsRead v.Alias → AliasHasHeads v.Alias → (k : TypeAliasId) (w u : Term) → IsDone w → (r : Rule) → Gives v k w u r → RuleHasHeads r → HasHeads u
gives_heads v reads heads k w u d r g h =
    reads_heads v.Alias reads heads g.at (type_of r.head.parts) u (type_heads r.head.parts h.head)
    (λ j o. may_done g.at (args_of r.head.parts) w (reads_may v.Alias g.at (args_of r.head.parts) w g.args) d j
    (subst (λ (c : Kind). stands j (key c r.head.parts) ≡ true) g.kind (g.told.head j (occurs_type j r.head.parts o)))) g.type

one_heads : (v : Verdicts) → AliasIsRead v.Alias → AliasHasHeads v.Alias → (rs : List Rule) → Each RuleHasHeads rs → (k : TypeAliasId) (w u : Term) → IsDone w → OneOf (Gives v k w u) (GivesNone v k w) rs → HasHeads u
one_heads v reads heads rs h k w u d a = some_with (gives_heads v reads heads k w u d) rs (one_some (Gives v k w u) (GivesNone v k w) (Gives v k w u) (λ r g. g) rs a) h

next_heads : (f : System) → SystemHasHeads f → (v : Verdicts) → AliasIsRead v.Alias → AliasHasHeads v.Alias → AliasHasHeads (alias_next f v)
next_heads f h v reads heads k w u d (known, inl a) = one_heads v reads heads f.clauses h.clauses k w u d a
next_heads f h v reads heads k w u d (known, inr (none, inl a)) = one_heads v reads heads f.rules h.rules k w u d a
next_heads f h v reads heads k w u d (known, inr (none, inr a)) = subst HasHeads (sym a.1) (staying_done k w d).heads

pub answers_heads : (f : System) → SystemHasHeads f → (n : ℕ) → AliasHasHeads (answers f n).Alias
answers_heads f h zero k w u d a = subst HasHeads (sym a.3) (staying_done k w d).heads
answers_heads f h (suc n) k w u d a = next_heads f h (answers f n) (answers_read f n) (answers_heads f h n) k w u d a

pub reading_done : (f : System) → SystemHasHeads f → (n : ℕ) (p : Fill) (t u : Term) → HasHeads t → FillsAreDone p t → Reads (answers f n).Alias p t u → IsDone u
reading_done f h n p t u heads d r = record {
  read = reads_read (answers f n).Alias (answers_read f n) p t u (fills_read p t d) r;
  heads = reads_heads (answers f n).Alias (answers_read f n) (answers_heads f h n) p t u heads d r;
}

-- of the same sources
pub heads_in : {s t : Sources} → s ≡ t → SystemHasHeads (system s) → SystemHasHeads (system t)
heads_in e h = subst (λ (x : Sources). SystemHasHeads (system x)) e h

-- ---- a goal with what stands for its holes

-- what the goal reads as is what it does once its holes are filled
pub reads_at : (A : Aliases) (p : Fill) (t u : Term) → FillsAreRead p t → Reads A p t u → ReadsAs A (apply p t) u
reads_at A p (hole k) u h r = subst (ReadsAs A (p k)) (sym r) (read_reads A (p k) (h k (hole_eq_same k)))
reads_at A p (leaf x) u h r = r
reads_at A p (pair a b) u h r =
    let P : Role → Type 0 = λ x. ReadsBy x A hole (apply p a) (apply p b) u in
    subst P (sym (role_at p a (left a b h))) (by_role (role a) (λ v. reads_at A p a v (left a b h)) (λ v. reads_at A p b v (right a b h)) r)
  where
    left : (a b : Term) → FillsAreRead p (pair a b) → FillsAreRead p a
    left a b h k o = h k (or_left (occurs k a) (occurs k b) o)

    right : (a b : Term) → FillsAreRead p (pair a b) → FillsAreRead p b
    right a b h k o = h k (or_right (occurs k a) (occurs k b) o)

    role_at : (p : Fill) (a : Term) → FillsAreRead p a → role (apply p a) ≡ role a
    role_at p (hole k) h = role_read (p k) (h k (hole_eq_same k))
    role_at p (leaf x) h = refl
    role_at p (pair c d) h = refl

    Keeps : Term → Type 0
    Keeps t = (v : Term) → Reads A p t v → ReadsAs A (apply p t) v

    by_role : (x : Role) → Keeps a → Keeps b → ReadsBy x A p a b u → ReadsBy x A hole (apply p a) (apply p b) u
    by_role plain l m r = (r.0, r.1, r.2, l r.0 r.3, m r.1 r.4)
    by_role (alias k) l m r = (r.0, m r.0 r.1, r.2)

-- what is read reads only as itself
pub reads_itself : (A : Aliases) (t u : Term) → IsRead t → ReadsAs A t u → u ≡ t
reads_itself A (hole k) u h r = r
reads_itself A (leaf x) u h r = r.1
reads_itself A (pair a b) u h r =
    let P : Role → Type 0 = λ x. ReadsBy x A hole a b u in
    let s = subst P (role_read a h.0) r in
    s.2 ∙ ap₂ pair (reads_itself A a s.0 h.0 s.3) (reads_itself A b s.1 h.1 s.4)

-- and what a goal's filled parts read as, its parts do
pub reads_before : (A : Aliases) (p : Fill) (t u : Term) → FillsAreRead p t → ReadsAs A (apply p t) u → Reads A p t u
reads_before A p (hole k) u h r = reads_itself A (p k) u (h k (hole_eq_same k)) r
reads_before A p (leaf x) u h r = r
reads_before A p (pair a b) u h r =
    let P : Role → Type 0 = λ x. ReadsBy x A hole (apply p a) (apply p b) u in
    by_role (role a) (λ v. reads_before A p a v (left a b h)) (λ v. reads_before A p b v (right a b h)) (subst P (role_at p a (left a b h)) r)
  where
    left : (a b : Term) → FillsAreRead p (pair a b) → FillsAreRead p a
    left a b h k o = h k (or_left (occurs k a) (occurs k b) o)

    right : (a b : Term) → FillsAreRead p (pair a b) → FillsAreRead p b
    right a b h k o = h k (or_right (occurs k a) (occurs k b) o)

    role_at : (p : Fill) (a : Term) → FillsAreRead p a → role (apply p a) ≡ role a
    role_at p (hole k) h = role_read (p k) (h k (hole_eq_same k))
    role_at p (leaf x) h = refl
    role_at p (pair c d) h = refl

    Keeps : Term → Type 0
    Keeps t = (v : Term) → ReadsAs A (apply p t) v → Reads A p t v

    by_role : (x : Role) → Keeps a → Keeps b → ReadsBy x A hole (apply p a) (apply p b) u → ReadsBy x A p a b u
    by_role plain l m r = (r.0, r.1, r.2, l r.0 r.3, m r.1 r.4)
    by_role (alias k) l m r = (r.0, m r.0 r.1, r.2)
