-- Obligations that are asked one after another, and what a tree keeps of them.
use Rattle.std.proofs.Common.{◌++◌, ◌∷◌, [], List, refl, sym, ap, ◌∙◌, append_assoc, append-nil}
use Rattle.std.proofs.lemmas.List.{map-append}
use Rattle.goal_tree.specs.Own.{Obligation, GoalTree, opens, IsAsked}

pub asked_none : (t : GoalTree) → IsAsked t t []
asked_none t = record { obligations = sym (append-nil t.obligations.items); standings = sym (append-nil t.standings.items); proofs = refl }

pub asked_more : (t u v : GoalTree) (os : List Obligation) (o : Obligation) → IsAsked t u os → IsAsked u v (o ∷ []) → IsAsked t v (os ++ o ∷ [])
asked_more t u v os o a b = record {
  obligations = b.obligations ∙ ap (λ xs. xs ++ o ∷ []) a.obligations ∙ append_assoc t.obligations.items os (o ∷ []);
  standings = b.standings ∙ ap (λ xs. xs ++ opens (o ∷ [])) a.standings ∙ append_assoc t.standings.items (opens os) (opens (o ∷ [])) ∙ ap (λ xs. t.standings.items ++ xs) (sym (map-append _ os (o ∷ [])));
  proofs = b.proofs ∙ a.proofs;
}
