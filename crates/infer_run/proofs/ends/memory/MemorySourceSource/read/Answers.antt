use Rattle.std.proofs.Common.{◌≡◌, min, length, ◌-◌, arith, ◌∙◌}
use Rattle.infer_run.proofs.Pieces.{moved}
use Rattle.infer_run.proofs.ends.memory.MemorySourceSource.read.Goals as goal

pub returns-clause-bytes : goal.returns-clause-bytes
returns-clause-bytes c =
    let s = c.args.self.now in
    let len : c.len.result ≡ length s.bytes.items = c.len.ensures ∙ s.bytes.ok.0 in
    let count : c.min-count.result ≡ min (min (length c.args.buf.now) s.most) (length s.bytes.items - s.at) = rw (← len, ← c.min.ensures) c.min-count.ensures in
    let moves = s.moves in
    moved s.bytes.items c.args.buf.now c.copy_from_slice.new.self c.deref-2.result.now s.at c.min-count.result s.within (omega arith) (λ none some. omega arith) c.deref-2.ensures.value c.copy_from_slice.ensures.after
