use Rattle.std.proofs.Common.{ap, sym, refl}
use Rattle.hir_schedule.specs.Words.{RawPat, pat_parts, nodes}
use Rattle.hir_schedule.proofs.NodeLists.{pats_pushed, later_pat_pushed}
use Rattle.hir_schedule.proofs.parts.nodes_of_pat.Goals as goal
use Rattle.hir_schedule.proofs.parts.nodes_of_pat.Goals.{in-Wild, in-Bind+in_ok-push_bound-in-Bind, in-Tuple+in_ok-push_pats-in-Tuple, in-TupleStruct+in_ok-push_pats-in-TupleStruct, in-Path, in-Lit+in_ok-push-in-Lit, in-Later+in_ok-push_later_pat-in-Later}

pub returns : goal.returns
returns c =
    elim c.match-pat.branch [
      | in-Wild w ↦ (let e = ap (λ (x : RawPat). nodes (pat_parts x)) w.in-Wild.is in let o = w.out-is in let n = c.new-out.ensures.items in cc)
      | in-Bind+in_ok-push_bound-in-Bind w ↦ (let e = ap (λ (x : RawPat). nodes (pat_parts x)) w.in-Bind.is in let p = w.in_ok-push_bound-in-Bind.ensures in let o = w.out-is in let n = c.new-out.ensures.items in cc)
      | in-Tuple+in_ok-push_pats-in-Tuple w ↦
          (let pushed = pats_pushed c.args.pat.now _ w.in-Tuple.pats c.new-out.result.items w.push_pats.new.out.items
          w.as_slice.result.now w.in-Tuple.is refl c.new-out.ensures.items w.as_slice.ensures w.in_ok-push_pats-in-Tuple.ensures in
          let o = w.out-is in cc)
      | in-TupleStruct+in_ok-push_pats-in-TupleStruct w ↦
          (let pushed = pats_pushed c.args.pat.now _ w.in-TupleStruct.args c.new-out.result.items w.push_pats-in-TupleStruct.new.out.items
          w.as_slice-in-TupleStruct.result.now w.in-TupleStruct.is refl c.new-out.ensures.items w.as_slice-in-TupleStruct.ensures w.in_ok-push_pats-in-TupleStruct.ensures in
          let o = w.out-is in cc)
      | in-Path w ↦ (let e = ap (λ (x : RawPat). nodes (pat_parts x)) w.in-Path.is in let o = w.out-is in let n = c.new-out.ensures.items in cc)
      | in-Lit+in_ok-push-in-Lit w ↦
          (let e = ap (λ (x : RawPat). nodes (pat_parts x)) w.in-Lit.is in let o = w.out-is in let n = c.new-out.ensures.items in let p = w.in_ok-push-in-Lit.ensures.items in
          rw (o, p, n) (sym e))
      | in-Later+in_ok-push_later_pat-in-Later w ↦
          (let pushed = later_pat_pushed c.args.pat.now w.in-Later.pat c.new-out.result.items w.push_later_pat.new.out.items w.in-Later.is c.new-out.ensures.items w.in_ok-push_later_pat-in-Later.ensures in
          let o = w.out-is in cc)
    ]
