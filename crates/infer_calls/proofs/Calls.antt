-- What a call shows: the item that it calls, and its arguments one after another.
use Rattle.std.proofs.Common.{List, None, ◌≡◌, ◌∷◌, sym, subst, Some, inl, inr, ℕ, suc, ◌+◌, [], ap, ◌∙◌, arith, slice_get, length, ◌<◌, ◌⊎◌, refl, IsTrue}
use Rattle.std.proofs.lemmas.List.{length-map}
use Rattle.infer_calls.specs.Words.{ExprId, CallableDefId, Ty, fn_def_tells, ExprOrPatId, folded, Schedule, type_args, Signature, signature_of, at_args, is_carried_body, inner, argument, arguments, expr_part, parts_of_expr, part_at, IsCarriedType, Given, Demand, IsCallee, ArgsRule, InferenceResult, InferenceDiagnostic, at_or_mismatch, HasTy, HasDiagnostic, WasSeen, At, IsTrueDiagnostic, Seen, IsTrueSeen, has_unknown, Found, with_diagnostic, Nothing, PaidBy, Extends, Walks, IsWalked, IsSeenAs, KindWalked, IsOfBody}
use Rattle.hir_types.specs.declared.ty.Ty.TheVariants as ty
use Rattle.hir_types.specs.declared.ids.ExprOrPatId.TheVariants as node
use Rattle.infer_calls.specs.Words.hir_raw.declared.raw.RawExpr.TheVariants as expr
use Rattle.infer_calls.specs.Words.infer_result.Unknown.{IsKnown}
use Rattle.infer_calls.specs.Words.infer_result.declared.diagnostics.InferenceDiagnostic.TheVariants as diagnostic
use Rattle.infer_calls.specs.Words.infer_result.Columns.{Column, Entry, col, IsIn, AllInDiagnostic}
use Rattle.infer_calls.specs.Words.infer_result.Columns as column
use Rattle.infer_calls.specs.Words.infer_ctx.Found.{with_seen}
use Rattle.infer_calls.specs.Words.infer_ctx.Said.{said_of}
use Rattle.infer_calls.specs.Words.infer_ctx.Walks.{IsCarriedTable, StaysIn}
use Rattle.infer_calls.proofs.Words.{columns_written, long_beside, long_with, types_beside, types_with, arguments_in_order, walks_paid, walks_trans, expr_at, expr_id, noted-keeps, noted-cases, noted-some, length-noted, same_or_not, slice_get-append_left, slice_get-push, args_kept, callee_kept, diagnostic_kept, seen_as_kept, true_seen_kept, rule_of, push_cases, length-said_of, said_of-cases, said_of-keeps, said_of-own}
use Rattle.infer_calls.specs.Own.{ComesToArgs, ComesToUncallable, IsCalling, inputs_at, ArgsWalked, ComesToLoose, LooseWalked}

-- ---- what the call asks of its arguments
module _ (g : Given) (n called : ExprId) (args : List ExprId) (id : CallableDefId) (σ : Signature) (ts : List Ty) (c : Found) (h : IsCalling g n called args id σ ts c) where
  abbrev taken : List Ty
  taken = inputs_at σ ts

  input_count : length taken ≡ length σ.inputs
  input_count = length-map σ.inputs (at_args ts)

  calls : (r : InferenceResult) → Extends c.result r → IsCallee g r called σ ts
  calls r k = record { item = id; has = k.columns column.type_of_expr called.0 _ h.has; signature = h.found }

  pub input_demand : IsTrue (is_carried_body g.body) → (i : ℕ) (e : ExprId) (u : Ty) (r : InferenceResult) → Extends c.result r → slice_get args i ≡ Some e → slice_get taken i ≡ Some u → Demand g r e u
  input_demand carried i e u r k found input =
      let z : 0 + i ≡ i = omega arith in
      let here : slice_get (arguments g.body args) i ≡ Some (expr_part (argument i) e)
      = ap (λ ps. slice_get ps i) (arguments_in_order g.body carried args) ∙ (expr_at argument 0 args i e found ∙ ap (λ j. Some (expr_part (argument j) e)) z) in
      let p : part_at g.body (inner (node.ExprId n)) (suc i) ≡ Some (expr_part (argument i) e) = ap (λ y. slice_get (parts_of_expr g.body y) (suc i)) h.is_call ∙ here in
      inl (record {
        parent = inner (node.ExprId n);
        at_part = suc i;
        role = argument i;
        stands = record { node_is = h.within; part = p };
        asks = record {
          called = called;
          args = args;
          is_call = h.is_call;
          signature = σ;
          types = ts;
          is_callee = calls r k;
          input = input;
        };
      })

module _ (g : Given) (s : Schedule) (n called : ExprId) (args : List ExprId) (id : CallableDefId) (σ : Signature) (ts : List Ty) (mid : Found) (b : ComesToArgs g s n called args id σ ts mid) where
  abbrev ins : List Ty
  ins = inputs_at σ ts

  -- ---- another number of arguments

  abbrev complaint : InferenceDiagnostic
  complaint = diagnostic.MismatchedArgCount n (length ins) (length args)

  pub complained_extends : Extends mid.result (with_diagnostic mid n complaint).result
  complained_extends = record {
    columns = columns_written mid.result column.expr_diagnostics _ (λ m d h. tt);
    diagnostics = λ e d h. inl (noted-keeps mid.result.expr_diagnostics n.0 e.0 complaint d h);
    seen = λ e h. record { position = h.position; entry = h.entry; found = h.found; is_node = h.is_node };
  }

  -- it is true
  true_complaint : (length args ≡ length ins → ⊥) → (r : InferenceResult) → Extends mid.result r → IsTrueDiagnostic g r n complaint
  true_complaint differ r k = (
    refl,
    record {
      called = called;
      args = args;
      is_call = b.calling.is_call;
      signature = σ;
      types = ts;
      is_callee = calls g n called args id σ ts mid b.calling r k;
      is_expected = input_count g n called args id σ ts mid b.calling;
      is_found = refl;
      differ = λ e. differ (sym e);
    },
  )

  -- and any other that is true says the same, or that what is called was seen to be no function
  same_complaint : (d : InferenceDiagnostic) → IsTrueDiagnostic g mid.result n d → (d ≡ complaint) ⊎ WasSeen mid.result n
  same_complaint (diagnostic.MismatchedTupleStructPatArgCount m expected found) h = absurd h
  same_complaint (diagnostic.ExpectedFunction m t) h = inr h.1.seen
  same_complaint (diagnostic.MismatchedArgCount m expected found) (is, w) =
      let one_call : expr.Call w.called w.args ≡ expr.Call called args = (let q : Some (expr.Call w.called w.args) ≡ Some (expr.Call called args) = sym w.is_call ∙ b.calling.is_call in cc) in
      let same_called : w.called ≡ called = cc in
      let same_args : w.args ≡ args = cc in
      let typed : HasTy mid.result called (ty.FnDef w.is_callee.item (type_args w.types)) = subst (λ e. HasTy mid.result e (ty.FnDef w.is_callee.item (type_args w.types))) same_called w.is_callee.has in
      let one_type : ty.FnDef w.is_callee.item (type_args w.types) ≡ ty.FnDef id (type_args ts) = only_entry (sym typed ∙ b.calling.has) in
      let same = fn_def_tells w.is_callee.item id (type_args w.types) (type_args ts) one_type in
      let signatures : Some w.signature ≡ Some σ = sym w.is_callee.signature ∙ (ap (signature_of g.scope.facts) same.0 ∙ b.calling.found) in
      let same_signature : w.signature ≡ σ = only_some signatures in
      let counts : expected ≡ length ins = w.is_expected ∙ (ap (λ (σ : Signature). length σ.inputs) same_signature ∙ sym (input_count g n called args id σ ts mid b.calling)) in
      let founds : found ≡ length args = w.is_found ∙ ap (λ l. length l) same_args in
      inl (λ i. diagnostic.MismatchedArgCount (is i) (counts i) (founds i))
    where
      only_entry : {A : Type 0} {y z : A} → Some (Some y) ≡ Some (Some z) → y ≡ z
      only_entry q = cc

      only_some : {A : Type 0} {y z : A} → Some y ≡ Some z → y ≡ z
      only_some q = cc

  module _ (differ : length args ≡ length ins → ⊥) where
    abbrev told : Found
    told = with_diagnostic mid n complaint

    told_walked : IsWalked g s told
    told_walked = record {
      of_body = long_with g.body mid.result column.expr_diagnostics _ (length-noted mid.result.expr_diagnostics n.0 complaint ∙ b.state.of_body.long column.expr_diagnostics) b.state.of_body;
      carried = types_with IsCarriedType mid.result column.expr_diagnostics _ (λ m d i. elim (noted-cases mid.result.expr_diagnostics n.0 m complaint d i) [
        | inl q ↦ b.state.carried.each column.expr_diagnostics m d q
        | inr q ↦ subst (AllInDiagnostic IsCarriedType) q.1 tt
      ]) b.state.carried;
      modes = b.state.modes;
      pat_diagnostics = b.state.pat_diagnostics;
      variants = record { exprs = b.state.variants.exprs; pats = b.state.variants.pats };
      placeholders = b.state.placeholders;
      items = b.state.items;
      free_items = b.state.free_items;
      seen = λ i y there. seen_as_kept g mid told complained_extends (λ e d k. noted-keeps mid.result.expr_diagnostics n.0 e.0 complaint d k) refl y (b.state.seen i y there);
      free_exprs = b.state.free_exprs;
      free_pats = b.state.free_pats;
      free_modes = b.state.free_modes;
      free_bindings = b.state.free_bindings;
      bound = b.state.bound;
      diagnostics = λ e d i.
          elim (noted-cases mid.result.expr_diagnostics n.0 e.0 complaint d i) [
            | inl q ↦ diagnostic_kept g mid.result told.result complained_extends e d (b.state.diagnostics e d q)
            | inr q ↦
                (let at : n ≡ e = ap (λ j. record { 0 = j }) (sym q.0) in
                subst (λ z. IsTrueDiagnostic g told.result z d) at (subst (λ z. IsTrueDiagnostic g told.result n z) q.1 (true_complaint differ told.result complained_extends)))
          ];
    }

    told_walks : Walks g s Nothing mid told
    told_walks = record {
      clock = omega arith;
      extends = complained_extends;
      kept = λ e i k. refl;
      kept_pats = λ p i k. refl;
      state = told_walked;
      made = λ e i lo hi. absurd (omega arith);
      pats_made = λ p i lo hi. absurd (omega arith);
      truths = λ e m h. inl h;
      pat_truths = λ p m h. inl h;
    }

    -- it stands there, or what is called was seen to be no function
    told_has : HasDiagnostic told.result n complaint ⊎ WasSeen told.result n
    told_has =
        let within : n.0 < length mid.result.expr_diagnostics = rw (b.state.of_body.long column.expr_diagnostics) b.calling.within in
        let y = noted-some mid.result.expr_diagnostics n.0 complaint within in
        elim (noted-cases mid.result.expr_diagnostics n.0 n.0 complaint y.0 y.1) [
          | inl q ↦ elim (same_complaint y.0 (b.state.diagnostics n y.0 q)) [
            | inl same ↦ inl (subst (λ z. HasDiagnostic told.result n z) same y.1)
            | inr seen ↦ inr (record { position = seen.position; entry = seen.entry; found = seen.found; is_node = seen.is_node })
          ]
          | inr q ↦ inl (subst (λ z. HasDiagnostic told.result n z) (sym q.1) y.1)
        ]

    pub told_loose : ComesToLoose g s n called args told
    told_loose = record { ready = b.ready; state = told_walked; is_call = b.calling.is_call; within = b.calling.within; ahead = b.ahead; ends = b.ends }

    pub others_done : (new : Found) → LooseWalked g s n told new → ArgsWalked g s n args ins mid new
    others_done new d = record {
      walks = walks_trans g s Nothing mid told new told_walks d.walks;
      clock = d.clock;
      made = elim told_has [
        | inl says ↦ elim (d.walks.extends.diagnostics n complaint says) [ inl k ↦ inl (inr k) | inr k ↦ inr k ]
        | inr seen ↦ inr (d.walks.extends.seen n seen)
      ];
    }

  -- ---- the call

  pub call_done : (new : Found) → ArgsWalked g s n args ins mid new → IsCarriedType (at_args ts σ.output) → KindWalked g s n None (at_args ts σ.output) mid new
  call_done new d carried = record {
    walks = walks_paid g s Nothing (PaidBy g n None (at_args ts σ.output)) mid new (λ e m o. absurd o) d.walks;
    clock = d.clock;
    carried = carried;
    rule = λ r k has. rule_of g r n (expr.Call called args) b.calling.is_call (elim (placed r k) [
      | inl q ↦
          inl (record {
            signature = σ;
            types = ts;
            is_callee = callee_kept g new.result r k called σ ts (calls g n called args id σ ts mid b.calling new.result d.walks.extends);
            arguments = q;
            has = has;
          })
      | inr q ↦ inr (q, (at_args ts σ.output, has))
    ]);
  }
    where
      placed : (r : InferenceResult) → Extends new.result r → ArgsRule (at_or_mismatch g r) n args ins ⊎ WasSeen r n
      placed r k = elim d.made [ inl q ↦ args_kept g new.result r k n args ins q | inr q ↦ inr (k.seen n q) ]

-- ---- what is called is no function
module _ (g : Given) (s : Schedule) (n called : ExprId) (args : List ExprId) (t : Ty) (mid : Found) (b : ComesToUncallable g s n called args t mid) (y : Seen) (is_node : y.node ≡ node.ExprId n) (is_type : folded mid.holes y.ty ≡ t) (carried : IsCarriedType t) (so : (r : InferenceResult) → Extends mid.result r → IsTrueSeen g r y) where
  abbrev saw : Found
  saw = with_seen mid y

  -- what was there stays, but another complaint at the call
  saw_extends : Extends mid.result saw.result
  saw_extends = record {
    columns = columns_kept;
    diagnostics = λ e d h. elim (said_of-keeps mid.holes mid.result.expr_diagnostics y e.0 d h) [ inl k ↦ inl k | inr k ↦ inr (own_seen e k) ];
    seen = λ e h. record { position = h.position; entry = h.entry; found = slice_get-append_left mid.result.seen (y ∷ []) h.position h.entry h.found; is_node = h.is_node };
  }
    where
      columns_kept : (c : Column) (m : ℕ) (x : Entry c) → IsIn mid.result c m x → StaysIn c (col saw.result c) m x
      columns_kept column.expr_diagnostics m x h = tt
      columns_kept c m x h = h

      own_seen : (e : ExprId) → y.node ≡ node.ExprId (record { 0 = e.0 }) → WasSeen saw.result e
      own_seen e is = record { position = length mid.result.seen; entry = y; found = slice_get-push mid.result.seen y; is_node = is }

  saw_it : WasSeen saw.result n
  saw_it = record { position = length mid.result.seen; entry = y; found = slice_get-push mid.result.seen y; is_node = is_node }

  same_call : (e : ExprId) → y.node ≡ node.ExprId e → e ≡ n
  same_call e is = (let q : node.ExprId e ≡ node.ExprId n = sym is ∙ is_node in cc)

  -- what is said now is true
  saw_truths : (e : ExprId) (d : InferenceDiagnostic) → At saw.result.expr_diagnostics e.0 d → IsTrueDiagnostic g saw.result e d
  saw_truths e d h = elim (said_of-cases mid.holes mid.result.expr_diagnostics y e.0 d h) [
    | inl k ↦ diagnostic_kept g mid.result saw.result saw_extends e d (b.loose.state.diagnostics e d k)
    | inr k ↦
        (let own : k.call ≡ n = same_call k.call k.is_node in
        let here : e ≡ n = expr_id e k.call k.is_here ∙ own in
        subst (λ z. IsTrueDiagnostic g saw.result e z) (sym k.is) (
        subst (λ z. IsTrueDiagnostic g saw.result z (diagnostic.ExpectedFunction k.call (folded mid.holes y.ty))) (sym here) (
          own,
          record { called = called; args = args; is_call = b.loose.is_call; has = subst (λ u. HasTy saw.result called u) (sym is_type) b.has; seen = saw_it; known = k.known },
        )))
  ]

  one_callee : (c : ExprId) (xs : List ExprId) → slice_get g.body.exprs n.0 ≡ Some (expr.Call c xs) → c ≡ called
  one_callee c xs h = (let q : Some (expr.Call c xs) ≡ Some (expr.Call called args) = sym h ∙ b.loose.is_call in cc)

  recorded_here : (z : Seen) → folded mid.holes z.ty ≡ t → z.node ≡ node.ExprId n → (call c : ExprId) (xs : List ExprId) → z.node ≡ node.ExprId call → slice_get g.body.exprs call.0 ≡ Some (expr.Call c xs) → HasTy saw.result c (folded mid.holes z.ty)
  recorded_here z typed at_n call c xs here there =
      let own : call ≡ n = (let q : node.ExprId call ≡ node.ExprId n = sym here ∙ at_n in cc) in
      let same : c ≡ called = one_callee c xs (subst (λ (e : ExprId). slice_get g.body.exprs e.0 ≡ Some (expr.Call c xs)) own there) in
      subst (λ e. HasTy saw.result e (folded mid.holes z.ty)) (sym same) (subst (λ u. HasTy saw.result called u) (sym typed) b.has)

  -- the look-up of the call itself is said
  said_here : (call c : ExprId) (xs : List ExprId) (u : Ty) → call ≡ n → slice_get g.body.exprs call.0 ≡ Some (expr.Call c xs) → HasTy saw.result c u → IsKnown u → HasDiagnostic saw.result call (diagnostic.ExpectedFunction call u)
  said_here call c xs u own there has known =
      let same : c ≡ called = one_callee c xs (subst (λ (e : ExprId). slice_get g.body.exprs e.0 ≡ Some (expr.Call c xs)) own there) in
      let typed : Some (Some u) ≡ Some (Some t) = sym (subst (λ e. HasTy saw.result e u) same has) ∙ b.has in
      let one : u ≡ t = cc in
      let is_u : folded mid.holes y.ty ≡ u = is_type ∙ sym one in
      let within : n.0 < length mid.result.expr_diagnostics = rw (b.loose.state.of_body.long column.expr_diagnostics) b.loose.within in
      let stands : At saw.result.expr_diagnostics n.0 (diagnostic.ExpectedFunction n (folded mid.holes y.ty)) = said_of-own mid.holes mid.result.expr_diagnostics y n is_node (ap has_unknown is_u ∙ known) within in
      subst (λ e. HasDiagnostic saw.result e (diagnostic.ExpectedFunction e u)) (sym own) (subst (λ w. HasDiagnostic saw.result n (diagnostic.ExpectedFunction n w)) is_u stands)

  call_or_other : (x : ExprOrPatId) → (x ≡ node.ExprId n) ⊎ (x ≡ node.ExprId n → ⊥)
  call_or_other (node.PatId p) = inr (λ h. absurd (cc))
  call_or_other (node.ExprId e) = elim (same_or_not e.0 n.0) [ inl k ↦ inl (ap (λ z. node.ExprId z) (expr_id e n k)) | inr k ↦ inr (λ h. (let q : e ≡ n = cc in k (ap (λ (z : ExprId). z.0) q))) ]

  -- and so is each that was there
  seen_before : (z : Seen) → IsSeenAs g mid z → IsSeenAs g saw z
  seen_before z h = record {
    is_true = true_seen_kept g mid.result saw.result saw_extends z h.is_true;
    is_said = λ call c xs u here there has known. elim (call_or_other (node.ExprId call)) [
      | inl own ↦ said_here call c xs u (let q : node.ExprId call ≡ node.ExprId n = own in cc) there has known
      | inr other ↦
          elim (said_of-keeps mid.holes mid.result.expr_diagnostics y call.0 (diagnostic.ExpectedFunction call u) (h.is_said call c xs u here there has known)) [
            | inl k ↦ k
            | inr k ↦ absurd (other (let q : node.ExprId (record { 0 = call.0 }) ≡ node.ExprId n = sym k ∙ is_node in q))
          ]
    ];
    recorded = h.recorded;
  }

  seen_now : IsSeenAs g saw y
  seen_now = record {
    is_true = so saw.result saw_extends;
    is_said = λ call c xs u here there has known. said_here call c xs u (same_call call here) there has known;
    recorded = recorded_here y is_type is_node;
  }

  -- the columns of what was seen, and of what is said of it
  abbrev said_columns : InferenceResult
  said_columns = record mid.result { expr_diagnostics = said_of mid.holes mid.result.expr_diagnostics y }

  said_long : IsOfBody g.body said_columns
  said_long = long_with g.body mid.result column.expr_diagnostics _ (length-said_of mid.holes mid.result.expr_diagnostics y ∙ b.loose.state.of_body.long column.expr_diagnostics) b.loose.state.of_body

  said_carried : IsCarriedTable said_columns
  said_carried = types_with IsCarriedType mid.result column.expr_diagnostics _ (λ m d i. elim (said_of-cases mid.holes mid.result.expr_diagnostics y m d i) [
    | inl q ↦ b.loose.state.carried.each column.expr_diagnostics m d q
    | inr q ↦ subst (AllInDiagnostic IsCarriedType) (sym q.is) (subst (λ w. IsCarriedType w) (sym is_type) carried)
  ]) b.loose.state.carried

  saw_walked : IsWalked g s saw
  saw_walked = record {
    of_body = long_beside g.body said_columns saw.result said_long;
    carried = types_beside IsCarriedType said_columns saw.result said_carried;
    modes = b.loose.state.modes;
    pat_diagnostics = b.loose.state.pat_diagnostics;
    variants = record { exprs = b.loose.state.variants.exprs; pats = b.loose.state.variants.pats };
    placeholders = b.loose.state.placeholders;
    items = b.loose.state.items;
    free_items = b.loose.state.free_items;
    free_exprs = b.loose.state.free_exprs;
    free_pats = b.loose.state.free_pats;
    free_modes = b.loose.state.free_modes;
    free_bindings = b.loose.state.free_bindings;
    bound = b.loose.state.bound;
    diagnostics = saw_truths;
    seen = λ i z there. elim (push_cases mid.result.seen y i z there) [ inl q ↦ seen_before z (b.loose.state.seen i z q) | inr q ↦ subst (λ w. IsSeenAs g saw w) q seen_now ];
  }

  saw_walks : Walks g s Nothing mid saw
  saw_walks = record {
    clock = omega arith;
    extends = saw_extends;
    kept = λ e i k. refl;
    kept_pats = λ p i k. refl;
    state = saw_walked;
    made = λ e i lo hi. absurd (omega arith);
    pats_made = λ p i lo hi. absurd (omega arith);
    truths = λ e m h. inl h;
    pat_truths = λ p m h. inl h;
  }

  pub saw_loose : ComesToLoose g s n called args saw
  saw_loose = record { ready = b.loose.ready; state = saw_walked; is_call = b.loose.is_call; within = b.loose.within; ahead = b.loose.ahead; ends = b.loose.ends }

  -- the call has any type
  pub uncallable_done : (u : Ty) (new : Found) → LooseWalked g s n saw new → IsCarriedType u → KindWalked g s n None u mid new
  uncallable_done u new d known = record {
    walks = walks_trans g s (PaidBy g n None u) mid saw new
        (walks_paid g s Nothing (PaidBy g n None u) mid saw (λ e m o. absurd o) saw_walks)
        (walks_paid g s Nothing (PaidBy g n None u) saw new (λ e m o. absurd o) d.walks);
    clock = d.clock;
    carried = known;
    rule = λ r k has. rule_of g r n (expr.Call called args) b.loose.is_call (inr (k.seen n (d.walks.extends.seen n saw_it), (u, has)));
  }
