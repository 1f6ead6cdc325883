-- The bodies of `GeneralInteger` and `GeneralShared` are plain.
use Rattle.std.proofs.Common.{ℕ, ◌≡◌, [], ◌∷◌, refl, arith, Some, None, slice_get}
use Rattle.std.specs.Prelude.{IsTrue}
use Rattle.infer_result.specs.Words.{TypeRefId, RawBody, RawFacts, Part, Node, IsNode, parts, part_at, IsPlainOver, IsPlainFn, stands_right, IsPlainStmt, IsPlainExpr, IsPlainPat, IsPlainBodyOf}
use Rattle.infer_result.specs.Words.hir_raw.declared.raw.RawStmt.TheVariants as stmt
use Rattle.infer_result.specs.Words.hir_raw.declared.raw.RawType.TheVariants as type
use Rattle.infer_result.specs.Words.hir_facts.Plain.{plain}
use Rattle.infer_result.proofs.Samples.Small.{w, p, e, AllNodes, each_node}
use Rattle.infer_result.proofs.Samples.Calling.{function}
use Rattle.infer_result.proofs.Samples.Holes.{AllIn, each_in}
use Rattle.infer_result.proofs.Samples.GeneralInteger as integer
use Rattle.infer_result.proofs.Samples.GeneralShared as shared

-- each part of each node stands where it may
abbrev AllStandRight : RawFacts → RawBody → Type 0
AllStandRight raw b = AllNodes b (λ m. AllIn (λ q. IsTrue (stands_right raw b q)) (parts b m))

each_stands : (raw : RawFacts) (b : RawBody) → AllStandRight raw b → (m : Node) (k : ℕ) (q : Part) → IsNode b m → part_at b m k ≡ Some q → IsTrue (stands_right raw b q)
each_stands raw b h m k q is found = each_in (λ r. IsTrue (stands_right raw b r)) (parts b m) (each_node b (λ n. AllIn (λ r. IsTrue (stands_right raw b r)) (parts b n)) h m is) k q found

-- a written type without parts
no_parts : (P : TypeRefId → Type 0) (k : ℕ) (u : TypeRefId) → slice_get [] k ≡ Some u → P u
no_parts P k u found = absurd (cc)

-- ---- `id(1)`

id_is_plain : IsPlainFn integer.facts function
id_is_plain =
    let own : IsPlainOver integer.facts 1 (w 0) = plain 0 (type.Param 0) refl (omega arith) (no_parts _) in
    record { header = refl; inputs = each_in (IsPlainOver integer.facts 1) (w 0 ∷ []) (own, tt); output = own }

pub integer_body_is_plain : IsPlainBodyOf integer.facts integer.f
integer_body_is_plain = record {
  header = record { header = refl; inputs = no_parts _; output = plain 1 (type.Tuple []) refl tt (no_parts _) };
  sized = λ i below. absurd (omega arith);
  body = record {
    exprs = each_in (IsPlainExpr integer.facts 0) integer.body.exprs (id_is_plain, (tt, (tt, ((refl, each_in (IsPlainStmt integer.facts 0) (stmt.Let (p 0) None (Some (e 2)) None ∷ []) ((refl, tt), tt)), tt))));
    pats = each_in (IsPlainPat integer.facts integer.body) integer.body.pats (refl, tt);
    callees = each_stands integer.facts integer.body ((refl, tt), ((((tt, tt), tt), (refl, (refl, tt))), (refl, (refl, tt))), (tt, tt));
  };
}

-- ---- `if c { mk() } else { mk() }`

mk_is_plain : IsPlainFn shared.facts function
mk_is_plain = record { header = refl; inputs = no_parts _; output = plain 0 (type.Param 0) refl (omega arith) (no_parts _) }

pub shared_body_is_plain : IsPlainBodyOf shared.facts shared.f
shared_body_is_plain = record {
  header = record {
    header = refl;
    inputs = each_in (IsPlainOver shared.facts 0) (w 1 ∷ []) (plain 1 type.Bool refl tt (no_parts _), tt);
    output = plain 2 (type.Tuple []) refl tt (no_parts _);
  };
  sized = λ i below. absurd (omega arith);
  body = record {
    exprs = each_in (IsPlainExpr shared.facts 0) shared.body.exprs
        (tt, (mk_is_plain, (tt, ((refl, each_in (IsPlainStmt shared.facts 0) [] tt), (mk_is_plain, (tt, ((refl, each_in (IsPlainStmt shared.facts 0) [] tt), (tt, ((refl, each_in (IsPlainStmt shared.facts 0) (stmt.Let (p 1) None (Some (e 7)) None ∷ []) ((refl, tt), tt)), tt)))))))));
    pats = each_in (IsPlainPat shared.facts shared.body) shared.body.pats (refl, (refl, tt));
    callees = each_stands shared.facts shared.body (
      (refl, (refl, tt)),
      (((((((((tt, tt), tt), (refl, tt)), (refl, tt)), tt), (refl, tt)), (refl, tt)), (refl, (refl, (refl, tt)))), (refl, (refl, tt))),
      ((tt, tt), tt),
    );
  };
}
