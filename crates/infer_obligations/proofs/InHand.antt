-- Types that can be written, or are associated types that stay, are fine.
use Rattle.std.specs.Prelude.{Bool, true, false, IsTrue}
use Rattle.std.proofs.Common.{ℕ, true≢false, sym}
use Rattle.infer_obligations.specs.Words.{Ty, Head, Term, hole, leaf, pair, term, Scope, Shape, TermRole, whole, part, rest, width, IsMadeOf, State, is_fine_head, IsFine, is_read_head, IsInHand}
use Rattle.hir_types.specs.declared.head.Head.TheVariants as head
use Rattle.infer_obligations.specs.Words.infer_table.Preserved.{IsHead}

read_head_fine : (sc : Scope) (h : Head) (n : ℕ) → IsTrue (is_read_head sc h n) → IsTrue (is_fine_head sc h n)
read_head_fine sc head.Bool n e = e
read_head_fine sc head.Char n e = e
read_head_fine sc (head.Int i) n e = e
read_head_fine sc (head.Uint i) n e = e
read_head_fine sc head.Tuple n e = e
read_head_fine sc (head.Adt i) n e = e
read_head_fine sc (head.Param i) n e = e
read_head_fine sc (head.AssociatedType k) n e = e
read_head_fine sc _ n e = absurd (true≢false (sym e))

module _ (P Q : Shape) (wider : (h : Head) (n : ℕ) → IsTrue (P h n) → IsTrue (Q h n)) where
  wider_head : (t : Term) (n : ℕ) → IsHead P t n → IsHead Q t n
  wider_head (leaf h) n e = wider h n e
  wider_head (hole k) n e = e
  wider_head (pair a b) n e = e

  made_wider : (r : TermRole) (t : Term) → IsMadeOf P r t → IsMadeOf Q r t
  made_wider whole (hole k) h = h
  made_wider whole (leaf x) h = h
  made_wider whole (pair a b) h = (wider_head a (width b) h.0, made_wider rest b h.1)
  made_wider part (hole k) h = h
  made_wider part (leaf x) h = h
  made_wider part (pair a b) h = (h.0, made_wider whole b h.1)
  made_wider rest (hole k) h = h
  made_wider rest (leaf x) h = h
  made_wider rest (pair a b) h = (made_wider part a h.0, made_wider rest b h.1)

pub in_hand_fine : (sc : Scope) (state : State) (t : Ty) → IsInHand sc state t → IsFine sc state t
in_hand_fine sc state t h = record { holes = h.holes; heads = made_wider (is_read_head sc) (is_fine_head sc) (read_head_fine sc) whole (term t) h.heads }
