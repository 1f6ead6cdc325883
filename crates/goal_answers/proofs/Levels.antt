-- What holds of readings and verdicts at each depth.
use Rattle.std.proofs.Common.{◌≡◌, inl, inr, ℕ, zero, suc, true, true≢false, sym, ap, ◌∙◌, subst, List, [], ◌∷◌}
use Rattle.std.proofs.lemmas.Bool.{or_cases, or_left, or_right}
use Rattle.goal_answers.specs.Words.{TypeAliasId, Hole, Term, hole, leaf, pair, occurs, hole_eq_true, hole_eq_same}
use Rattle.goal_answers.specs.Own.{Fill, Role, plain, alias, role, staying, IsRead, stands, Aliases, Reads, MayRead, Kind, Rule, System, args_of, type_of, key, SomeOf, OneOf, Verdicts, Gives, GivesNone, alias_next, answers, IsOne, known_below}
use Rattle.goal_answers.proofs.Lists.{one_some}
use Rattle.goal_answers.proofs.Readings.{ReadsBy, MayReadBy, stands_by, reads_may}
use Rattle.goal_answers.proofs.Filled.{answers_stay}
use Rattle.goal_answers.proofs.One.{Never, AlwaysStays, AliasAlwaysStays, args_tell, occurs_type, answers_sound}
use Rattle.goal_answers.proofs.Proved.{first_always}

-- ---- what is read has no alias that is still to be read

abbrev pub AliasIsRead : Aliases → Type 0
AliasIsRead A = (k : TypeAliasId) (w u : Term) → IsRead w → A k w u → IsRead u

abbrev pub FillsAreRead : Fill → Term → Type 0
FillsAreRead p t = (k : Hole) → occurs k t ≡ true → IsRead (p k)

pub reads_read : (A : Aliases) → AliasIsRead A → (p : Fill) (t u : Term) → FillsAreRead p t → Reads A p t u → IsRead u
reads_read A reads p (hole k) u h r = subst IsRead (sym r) (h k (hole_eq_same k))
reads_read A reads p (leaf x) u h r = subst IsRead (sym r.1) r.0
reads_read A reads p (pair a b) u h r =
    by_role (role a) (λ v. reads_read A reads p a v (λ k o. h k (or_left (occurs k a) (occurs k b) o))) (λ v. reads_read A reads p b v (λ k o. h k (or_right (occurs k a) (occurs k b) o))) r
  where
    Keeps : Term → Type 0
    Keeps t = (v : Term) → Reads A p t v → IsRead v

    by_role : (x : Role) → Keeps a → Keeps b → ReadsBy x A p a b u → IsRead u
    by_role plain left right r = subst IsRead (sym r.2) (left r.0 r.3, right r.1 r.4)
    by_role (alias k) left right r = reads k r.0 u (right r.0 r.1) r.2

-- what a told hole stands for is a part of what the term reads as
pub may_read : (p : Fill) (t w : Term) → MayRead p t w → IsRead w → (k : Hole) → stands k t ≡ true → IsRead (p k)
may_read p (hole j) w r h k s = subst IsRead (r ∙ ap p (sym (hole_eq_true k j s))) h
may_read p (leaf x) w r h k s = absurd (true≢false (sym s))
may_read p (pair a b) w r h k s = by_role (role a) (λ v x y. may_read p a v x y k) (λ v x y. may_read p b v x y k) r s
  where
    Told : Term → Type 0
    Told t = (v : Term) → MayRead p t v → IsRead v → stands k t ≡ true → IsRead (p k)

    by_role : (x : Role) → Told a → Told b → MayReadBy x p a b w → stands_by x k a b ≡ true → IsRead (p k)
    by_role plain left right r s =
        let both = subst IsRead r.2 h in
        elim (or_cases (stands k a) (stands k b) s) [
          | inl e ↦ left r.0 r.3 both.0 e
          | inr e ↦ right r.1 r.4 both.1 e
        ]
    by_role (alias m) left right r s = absurd (true≢false (sym s))

-- ---- a level: how aliases are read, and what is known below

pub record IsLevel (A : Aliases) (v : Verdicts) : Type 0 where
  pub one : IsOne A
  pub reads : AliasIsRead A
  pub alias_stays : AliasAlwaysStays A
  pub never : Never v.Yes v
  pub stays : AlwaysStays v

staying_read : (k : TypeAliasId) (w u : Term) → IsRead w → u ≡ staying k w → IsRead u
staying_read k w u h e = subst IsRead (sym e) (tt, h)

gives_read : (v : Verdicts) → AliasIsRead v.Alias → (k : TypeAliasId) (w u : Term) (r : Rule) → IsRead w → Gives v k w u r → IsRead u
gives_read v reads k w u r h g =
    let tells = args_tell k r g.kind g.told in
    reads_read v.Alias reads g.at (type_of r.head.parts) u
    (λ j o. may_read g.at (args_of r.head.parts) w (reads_may v.Alias g.at (args_of r.head.parts) w g.args) h j
    (subst (λ (d : Kind). stands j (key d r.head.parts) ≡ true) g.kind (g.told.head j (occurs_type j r.head.parts o)))) g.type

some_gives : {X : Type 0} {P : X → Type 0} {Z : Type 0} → ((x : X) → P x → Z) → (xs : List X) → SomeOf P xs → Z
some_gives f [] h = absurd h
some_gives f (x ∷ xs) (inl h) = f x h
some_gives f (x ∷ xs) (inr h) = some_gives f xs h

one_read : (v : Verdicts) → AliasIsRead v.Alias → (rs : List Rule) (k : TypeAliasId) (w u : Term) → IsRead w → OneOf (Gives v k w u) (GivesNone v k w) rs → IsRead u
one_read v reads rs k w u h a = some_gives (λ r g. gives_read v reads k w u r h g) rs (one_some (Gives v k w u) (GivesNone v k w) (Gives v k w u) (λ r g. g) rs a)

next_read : (f : System) (v : Verdicts) → AliasIsRead v.Alias → AliasIsRead (alias_next f v)
next_read f v reads k w u h (known, inl a) = one_read v reads f.clauses k w u h a
next_read f v reads k w u h (known, inr (none, inl a)) = one_read v reads f.rules k w u h a
next_read f v reads k w u h (known, inr (none, inr a)) = staying_read k w u h a.1

pub answers_read : (f : System) (n : ℕ) → AliasIsRead (answers f n).Alias
answers_read f zero k w u h a = staying_read k w u h a.3
answers_read f (suc n) k w u h a = next_read f (answers f n) (answers_read f n) k w u h a

below_never : (f : System) (m : ℕ) → Never (known_below f m).Yes (known_below f m)
below_never f zero g y n = y
below_never f (suc m) g y n = (answers_sound f m).never g y n

below_stays : (f : System) (m : ℕ) → AlwaysStays (known_below f m)
below_stays f zero s h = first_always f s h
below_stays f (suc m) s h = answers_stay f m s h

pub level : (f : System) (n : ℕ) (m : ℕ) → IsLevel (answers f n).Alias (known_below f m)
level f n m = record {
  one = (answers_sound f n).one;
  reads = answers_read f n;
  alias_stays = λ s h. (answers_stay f n s h).alias;
  never = below_never f m;
  stays = below_stays f m;
}
