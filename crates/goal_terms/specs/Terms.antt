-- Owned terms as terms.
use Rattle.std.specs.Prelude.{◌≡◌}
use Rattle.std.proofs.Common.{sym, ap, ◌∙◌}
use Rattle.goal_terms.specs.Words.{Head, Hole, Term, hole, leaf, pair, plain, alias, role}
use Rattle.goal_terms.specs.declared.term.Term.{Term as Owned, Term-F, fold-Term, fold-roll-Term}
use Rattle.goal_terms.specs.declared.term.Term.TheVariants as owned
use Rattle.goal_terms.specs.declared.term.Role.{Role as OwnedRole}
use Rattle.goal_terms.specs.declared.term.Role.TheVariants as owned_role
use Rattle.goal_answers.specs.Reading.{Role}

abbrev pub term_step : Term-F Term → Term
term_step (Term-F.Hole k) = hole k
term_step (Term-F.Leaf h) = leaf h
term_step (Term-F.Pair a b) = pair a b

abbrev pub term_of : Owned → Term
term_of = fold-Term Term term_step

pub term_of_hole : (k : Hole) → term_of (owned.Hole k) ≡ hole k
term_of_hole k = ap term_of (sym (owned.rolls-Hole k)) ∙ fold-roll-Term Term term_step (Term-F.Hole k)

pub term_of_leaf : (h : Head) → term_of (owned.Leaf h) ≡ leaf h
term_of_leaf h = ap term_of (sym (owned.rolls-Leaf h)) ∙ fold-roll-Term Term term_step (Term-F.Leaf h)

pub term_of_pair : (a b : Owned) → term_of (owned.Pair a b) ≡ pair (term_of a) (term_of b)
term_of_pair a b = ap term_of (sym (owned.rolls-Pair a b)) ∙ fold-roll-Term Term term_step (Term-F.Pair a b)

pub ruleset term_is = (term_of_hole, term_of_leaf, term_of_pair)

abbrev pub role_of : OwnedRole → Role
role_of owned_role.Plain = plain
role_of (owned_role.Alias k) = alias k

-- ---- terms as types make them

-- what may stand first in a pair: neither a hole nor an alias
abbrev pub IsHead : Term → Type 0
IsHead (hole k) = ⊥
IsHead (leaf h) = Unit {0}
IsHead (pair a b) = role a ≡ plain

-- what stands first in each pair is known, as it is in types and their arguments. So whether a term is an integer type is known too
abbrev pub HasHeads : Term → Type 0
HasHeads (hole k) = Unit {0}
HasHeads (leaf h) = Unit {0}
HasHeads (pair a b) = IsHead a × HasHeads a × HasHeads b
