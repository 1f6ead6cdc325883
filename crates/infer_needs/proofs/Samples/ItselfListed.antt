-- An associated type that stays is of course itself. No table lists this, or says it of one that was found to be another type, and none has to:
-- here of `<u8 as Tr>::Out`.
use Rattle.std.proofs.Common.{ℕ, zero, suc, ◌≡◌, inl, inr, List, [], ◌∷◌, refl, sym, ap, subst, ◌∙◌, Some, slice_get}
use Rattle.infer_needs.specs.Words.{DefWithBodyId, ExprOrPatId, TypeAliasId, GenericArg, Ty, Term, term, term_associated_type, type_args, Fill, Aliases, staying, Asked, implements, projects, asked_at, only, answers, Proof, asked_goal, filled_goal, IsSource, Holds, AreProofs, Gap, InferenceResult, Given, GoalReads, IsAboutAlias, stays_at, HasGap, IsProved, GoalsHold}
use Rattle.hir_types.specs.declared.ids.ExprOrPatId.TheVariants as node
use Rattle.hir_types.specs.declared.ty.Ty.TheVariants as ty
use Rattle.infer_needs.proofs.Words.{read_reads, u8}
use Rattle.infer_needs.specs.Words.goal_facts.declared.proof.ProofSource.TheVariants as source
use Rattle.infer_result.specs.declared.gaps.Gap.TheVariants as gap
use Rattle.infer_needs.proofs.Samples.Impls.{out, tr, facts, own_body, u8_term, found_as}
use Rattle.infer_needs.proofs.Samples.Sources.{goal_reads_bare, asks_out, asks_out_is, asks_u8, not_sized}
use Rattle.infer_needs.proofs.Samples.ImplProofs.{by_impl, u8_holds}
use Rattle.infer_needs.proofs.Samples.Needed.{sources, are_sources}
use Rattle.infer_needs.proofs.Samples.Left.{u8_args, alias, stays}
use Rattle.infer_needs.proofs.Samples.Taking.{given, table_of, IsOneOf, yes, needed}
use Rattle.infer_needs.proofs.Samples.WrongTables.{same_alias}

-- ---- refused

itself : (k : TypeAliasId) (xs : List GenericArg) → alias ≡ ty.Projection k xs → term stays ≡ stays_at k xs
itself k xs is =
    let (same, args) = same_alias out k (type_args (u8 ∷ [])) xs is in
    term_associated_type out (type_args (u8 ∷ [])) ∙ (λ i. stays_at (same i) (args i))

-- an entry that it is itself, whatever else is in the table
pub itself_listed : (d : DefWithBodyId) (g : Given) (r : InferenceResult) (n : ℕ) → slice_get r.projections n ≡ Some (alias, stays) → GoalsHold d g r → ⊥
itself_listed d g r n is h = let x = h.found.each n (alias, stays) is in x.other (itself x.alias x.args x.is)

-- a complaint that it is itself as well
pub itself_said : (d : DefWithBodyId) (g : Given) (r : InferenceResult) (n m : ExprOrPatId) (t : Ty) → HasGap r n (gap.Clash m alias t stays) → GoalsHold d g r → ⊥
itself_said d g r n m t has h = let x = (h.gaps n (gap.Clash m alias t stays) has).1 in x.other (itself x.alias x.args x.is)

-- ---- taken: a proof that it is itself, where a path needs this, without an entry

abbrev stays_term : Term
stays_term = staying out (only u8_term)

stays_is : term stays ≡ stays_term
stays_is = term_associated_type out (type_args (u8 ∷ [])) ∙ ap (staying out) u8_args

abbrev out_is_itself : Proof
out_is_itself = record { goal = asks_out u8 stays; source = source.BuiltIn; children = [] }

itself_asks : asked_goal (asks_out u8 stays) ≡ found_as u8_term stays_term
itself_asks = asks_out_is stays stays_term stays_is

abbrev proofs : List Proof
proofs = by_impl u8 0 [] [] ∷ out_is_itself ∷ []

itself_holds : (A : Aliases) (s : Fill) → Holds facts sources A s proofs 1 out_is_itself
itself_holds A s =
    let g = found_as u8_term stays_term in
    let is : g ≡ filled_goal s (asks_out u8 stays) = sym (ap (asked_at s) itself_asks) in
    record {
      asks = [];
      source = subst (λ a. IsSource facts sources A s a source.BuiltIn []) is (inl (refl, (g.parts, read_reads A g.parts (((tt, (tt, tt)), tt), (tt, ((tt, (tt, tt)), tt))), (only u8_term, refl))));
      sized = not_sized sources are_sources A (filled_goal s (asks_out u8 stays)) refl;
      children = tt;
    }

are_proofs : (A : Aliases) (s : Fill) → AreProofs facts sources A s proofs
are_proofs A s zero x is = (let one : by_impl u8 0 [] [] ≡ x = cc in subst (Holds facts sources A s proofs 0) one (u8_holds sources are_sources A s proofs 0))
are_proofs A s (suc zero) x is = (let one : out_is_itself ≡ x = cc in subst (Holds facts sources A s proofs 1) one (itself_holds A s))
are_proofs A s (suc (suc n)) x is = absurd (cc)

abbrev right : InferenceResult
right = table_of stays proofs [] []

no_gap : (n : ExprOrPatId) (x : Gap) → HasGap right n x → ⊥
no_gap (node.ExprId k) x h = (let none : slice_get [] k.0 ≡ Some h.gaps = h.at in cc)
no_gap (node.PatId k) x h = (let none : slice_get [] k.0 ≡ Some h.gaps = h.at in cc)

is_proved : (a : Asked) → IsOneOf stays_term a → IsProved right a
is_proved a (inl is) = record { number = 0; proof = by_impl u8 0 [] []; listed = refl; goal = asks_u8 ∙ sym is }
is_proved a (inr is) = record { number = 1; proof = out_is_itself; listed = refl; goal = itself_asks ∙ sym is }

not_other : IsAboutAlias (found_as u8_term stays_term) → ⊥
not_other about = (let same : out ≡ about.alias = (let kinds : projects out ≡ projects about.alias = about.is in cc) in about.other (ap (λ k. staying k (only u8_term)) same))

none_asked : (a b : Asked) → GoalReads sources 8 a b → IsAboutAlias b → IsOneOf stays_term a → ⊥
none_asked a b reads about (inl is) = (let clash : implements tr ≡ projects about.alias = sym (ap (λ (y : Asked). y.kind) is) ∙ (sym reads.kind ∙ about.is) in cc)
none_asked a b reads about (inr is) =
    let itself : b ≡ found_as u8_term stays_term = goal_reads_bare sources 8 (found_as u8_term stays_term) b (((tt, (tt, tt)), tt), (tt, ((tt, (tt, tt)), tt))) (subst (λ x. GoalReads sources 8 x b) is reads) in
    not_other (subst IsAboutAlias itself about)

pub itself_left : GoalsHold own_body (given yes) right
itself_left = record {
  system = sources;
  of_item = are_sources;
  proofs = λ s filling. are_proofs (answers sources 8).Alias s;
  needs = λ n a h. inl (is_proved a (needed yes stays stays_term stays_is proofs [] [] n a h).1);
  gaps = λ n x h. absurd (no_gap n x h);
  once = λ n x y h k same. absurd (no_gap n x h);
  found = record { each = λ n x is. absurd (cc); once = λ j k x y is other same. absurd (cc) };
  entries = λ n a b h known reads about. absurd (none_asked a b reads about (needed yes stays stays_term stays_is proofs [] [] n a h).1);
}
